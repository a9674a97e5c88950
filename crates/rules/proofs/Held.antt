-- What is left in a book stays within its limits, whatever is done to it.
use Rattle.std.proofs.Common.{◌≡◌, ℕ, ◌≤◌, Bool, true, false, cond, Some, None, Ok, Err, Option, arith}
use Rattle.std.proofs.lemmas.Bool.Decides.{nat_tests}
use Rattle.quantities.specs.Limits.{most_grant, most_old_units}
use Rattle.book.specs.declared.fault.BookFault.{BookFault}
use Rattle.book.specs.Allowance.{Allowance, units, empty, lapsed, drawn, aside, aside_answer}
use Rattle.rules.specs.DueDays.{refilled, closed}
use Rattle.book.proofs.Lots.{units-parts, units_lot, units-undrawn}

-- the fresh amount and the old units within their limits
pub record Held (b : Allowance) : Type 0 where
  pub fresh : b.fresh ≤ most_grant
  pub old : units b.lots ≤ most_old_units

pub held-empty : Held empty
held-empty = omega arith

pub held_fill : (n : ℕ) (b : Allowance) → Held b → Held (refilled n b)
held_fill n b h = record { fresh = grind (arith, nat_tests); old = grind (arith, nat_tests) }

pub held_lapse : (D : ℕ) (b : Allowance) → Held b → Held (lapsed D b)
held_lapse D b h = record { fresh = h.fresh; old = omega (arith, units-parts D b.lots) }

pub held_close : (c : Bool) (e : ℕ) (b : Allowance) → Held b → Held (closed c e b)
held_close true e b h = record { fresh = omega arith; old = omega (arith, units_lot b.fresh e) }
held_close false e b h = held-empty

pub held_draw : (n : ℕ) (b : Allowance) → Held b → Held (drawn n b)
held_draw n b h = record { fresh = omega arith; old = omega (arith, units-undrawn n b.lots) }

-- a book that is set aside, and doesn't refuse it
pub held-aside : (C : ℕ) (x : Bool) (e c : ℕ) (b : Allowance) → cond {A = Option BookFault} x None (elim (aside_answer C e c b) [ Ok u ↦ None | Err f ↦ Some f ]) ≡ None →
    Held (cond x empty (aside e c b))
held-aside C true e c b h = held-empty
held-aside C false e c b h = record {
  fresh = omega arith;
  old = grind (arith, nat_tests);
}
