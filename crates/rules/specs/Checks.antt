-- When a call is refused, and with which number.
use Rattle.std.specs.Prelude.{ℕ, ◌+◌, ◌/◌, Bool, false, cond, not, ◌&&◌, List, [], ◌∷◌, is_some, Some, None, Ok, Err, Option, ◌==◌, nat_le, nat_lt}
use Rattle.quantities.specs.Limits.{most_top_up, most_use, most_balance, last_moment}
use Rattle.quantities.specs.Units.{of}
use Rattle.quantities.specs.declared.unit.UnitKind.{UnitKind}
use Rattle.quantities.specs.declared.unit.UnitKind.TheVariants.{Minutes, Megabytes, Messages}
use Rattle.quantities.specs.declared.time.Day.{Day}
use Rattle.tariff.specs.Terms.{Terms, Entry, offers, restart_wipes_unit}
use Rattle.book.specs.declared.fault.BookFault.{BookFault}
use Rattle.book.specs.Allowance.{left, aside_answer}
use Rattle.rules.specs.declared.call.Status.TheVariants.{Blocked as blocked, Active as active}
use Rattle.rules.specs.declared.call.Service.{Service}
use Rattle.rules.specs.declared.call.Service.TheVariants.{Counted as counted, International as international}
use Rattle.rules.specs.declared.call.Call.{Call}
use Rattle.rules.specs.declared.call.Call.TheVariants.{TopUp as top_up, Use as use_of, Restart as restart, Switch as switch, MegabyteOption as option, DayMark as day_mark}
use Rattle.rules.specs.declared.call.Event.{Event}
use Rattle.rules.specs.State.{World, State, Account, Out, awaited_fee}
use Rattle.rules.specs.DueDays.{bring_up}
use Rattle.rules.specs.Calls.{is_blocked, charge, new_due, switch_wipes_unit}

-- a book's refusal, with the unit that the book holds
pub record Concern : Type 0 where
  pub unit : UnitKind
  pub fault : BookFault

-- A refusal: its number, and the book's refusal where a book refuses.
pub record Refusal : Type 0 where
  pub number : ℕ
  pub concern : Option Concern

-- A check, and how it is told where it fails.
pub record Check : Type 0 where
  pub fails : Bool
  pub told : Refusal

abbrev pub check : ℕ → Bool → Check
check n b = record { fails = b; told = record { number = n; concern = None } }

abbrev pub check_books : Option Concern → Check
check_books c = record { fails = is_some c; told = record { number = 12; concern = c } }

-- the first check that fails is told
abbrev pub first_refusal : List Check → Option Refusal
first_refusal [] = None
first_refusal (c ∷ cs) = cond c.fails (Some c.told) (first_refusal cs)

-- ## What the checks ask

abbrev pub outside : ℕ → ℕ → ℕ → Bool
outside a b n = not (nat_le a n && nat_le n b)

abbrev pub has_service : Option Service → State → Bool
has_service None s = false
has_service (Some (counted k)) s = offers k s.terms
has_service (Some international) s = s.terms.abroad

-- megabytes past the allowance while the option is off
abbrev pub runs_past : Option Service → ℕ → State → Bool
runs_past None n s = false
runs_past (Some (counted Minutes)) n s = false
runs_past (Some (counted Megabytes)) n s = not s.option && nat_lt (left s.books.megabytes) n
runs_past (Some (counted Messages)) n s = false
runs_past (Some international) n s = false

abbrev pub is_on : Option Day → ℕ → Bool
is_on None D = false
is_on (Some d) D = d.0 == D

-- what a switch takes: the entry price and the new plan's fee
abbrev pub switch_takes : Option Terms → Option Entry → ℕ
switch_takes None e = 0
switch_takes (Some t) None = 0
switch_takes (Some t) (Some e) = e.price + t.fee

-- why a book of a unit that isn't wiped refuses to be set aside, if it does
abbrev pub aside_refusal : World → (UnitKind → Bool) → ℕ → ℕ → State → UnitKind → Option BookFault
aside_refusal w wipes d D s k =
    cond (wipes k) None (elim (aside_answer w.capacity d (new_due w.calendar D) (of k s.books)) [ Ok x ↦ None | Err f ↦ Some f ])

-- the first unit's, in the order minutes, megabytes, messages
abbrev pub concern_of : UnitKind → Option BookFault → Option Concern → Option Concern
concern_of k None rest = rest
concern_of k (Some f) rest = Some (record { unit = k; fault = f })

abbrev pub first_concern : (UnitKind → Option BookFault) → Option Concern
first_concern f = concern_of Minutes (f Minutes) (concern_of Megabytes (f Megabytes) (concern_of Messages (f Messages) None))

abbrev pub refusing : World → (UnitKind → Bool) → ℕ → State → Option Concern
refusing w wipes D s =
    elim s.status [ blocked ↦ None | active d ↦ first_concern (aside_refusal w wipes d.0 D s) ]

abbrev pub entry_refusing : World → Option Entry → ℕ → State → Option Concern
entry_refusing w None D s = None
entry_refusing w (Some e) D s = refusing w (switch_wipes_unit e s.terms) D s

-- ## The checks of each call, in the order in which they are told

-- against the account as brought up to day D
abbrev pub checks : World → ℕ → Call → State → List Check
checks w D (top_up n) s =
    check 3 (outside 1 most_top_up n.0)
    ∷ check 11 (nat_lt most_balance (s.balance + n.0))
    ∷ []
checks w D (use_of v n) s =
    check 3 (outside 1 most_use n)
    ∷ check 6 (is_blocked s)
    ∷ check 7 (not (has_service v s))
    ∷ check 9 (runs_past v n s)
    ∷ check 10 (nat_lt s.balance (charge v n s))
    ∷ []
checks w D restart s =
    check 6 (is_blocked s)
    ∷ check 8 (is_on s.last_fee D)
    ∷ check 10 (nat_lt s.balance (awaited_fee s))
    ∷ check_books (refusing w (λ k. restart_wipes_unit k s.terms) D s)
    ∷ []
checks w D (switch c) s =
    check 4 (not (is_some (w.terms c.0)))
    ∷ check 5 (not (is_some (w.entry s.plan c.0)))
    ∷ check 10 (nat_lt s.balance (switch_takes (w.terms c.0) (w.entry s.plan c.0)))
    ∷ check_books (entry_refusing w (w.entry s.plan c.0) D s)
    ∷ []
checks w D option s = check 6 (is_blocked s) ∷ []
checks w D day_mark s = []

-- the day of a moment
abbrev pub day_of : ℕ → ℕ
day_of m = m / 1440

-- the account brought up to the day of a moment
abbrev pub brought : World → ℕ → Account → Out
brought w m a = bring_up w.calendar (day_of m) a.state

-- A moment past the last one, or before the latest, is told first, of the account as found.
abbrev pub all_checks : World → Account → Event → List Check
all_checks w a e =
    check 1 (nat_lt last_moment e.moment.0)
    ∷ check 2 (nat_lt e.moment.0 a.latest)
    ∷ checks w (day_of e.moment.0) e.call (brought w e.moment.0 a).state

abbrev pub refusal : World → Account → Event → Option Refusal
refusal w a e = first_refusal (all_checks w a e)
