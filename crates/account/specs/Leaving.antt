-- What becomes of the books when a Restart or a switch ends a month early: some are wiped, the others are kept, that is
-- set aside.
use Rattle.std.specs.Prelude.{ℕ, Bool, cond, Some, None, Ok, Err, Option, Result}
use Rattle.quantities.specs.Units.{of}
use Rattle.quantities.specs.declared.unit.UnitKind.{UnitKind}
use Rattle.quantities.specs.declared.unit.UnitKind.TheVariants.{Minutes, Megabytes, Messages}
use Rattle.quantities.specs.declared.unit.PerUnit.{PerUnit}
use Rattle.tariff.specs.Terms.{Entry, restart_wipes_unit}
use Rattle.book.specs.declared.fault.BookFault.{BookFault}
use Rattle.book.specs.Allowance.{Allowance, aside_answer}
use Rattle.rules.specs.declared.call.Status.TheVariants.{Blocked as blocked, Active as active}
use Rattle.rules.specs.State.{State}
use Rattle.rules.specs.Calls.{switch_wipes_unit}
use Rattle.rules.specs.Checks.{Concern, first_concern}

-- the answer of each unit
abbrev pub by_unit : {A : Type 0} → (UnitKind → A) → PerUnit A
by_unit f = record { minutes = f Minutes; megabytes = f Megabytes; messages = f Messages }

-- why a book refuses, if it does
abbrev pub fault_in : Result Unit BookFault → Option BookFault
fault_in r = elim r [ Ok x ↦ None | Err f ↦ Some f ]

-- why a book with room for C lots refuses to be set aside with end e and cap c, unless it is wiped
abbrev pub keep_refusal : ℕ → ℕ → ℕ → Bool → Allowance → Option BookFault
keep_refusal C e c wiped b = cond wiped None (fault_in (aside_answer C e c b))

-- the first of three books that refuses so
abbrev pub keep_concern : ℕ → ℕ → ℕ → PerUnit Bool → PerUnit Allowance → Option Concern
keep_concern C e c wiped bs = first_concern (λ k. keep_refusal C e c (of k wiped) (of k bs))

-- the same of an account that a Restart ends on its due day e
abbrev pub restart_concern : ℕ → ℕ → ℕ → State → Option Concern
restart_concern C e c s = keep_concern C e c (by_unit (λ k. restart_wipes_unit k s.terms)) s.books

-- the same of an account whose plan is left by an entry: a blocked one keeps no books
abbrev pub leave_concern : ℕ → ℕ → Entry → State → Option Concern
leave_concern C c e s =
    elim s.status [
      | blocked ↦ None
      | active d ↦ keep_concern C d.0 c (by_unit (switch_wipes_unit e s.terms)) s.books
    ]
