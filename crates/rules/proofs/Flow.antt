-- What was left in a book and what was granted is what is left now and what went out: for each thing done to a book.
use Rattle.std.proofs.Common.{◌≡◌, ℕ, ◌+◌, Bool, true, false, cond, refl, arith}
use Rattle.std.proofs.lemmas.Bool.Decides.{nat_tests}
use Rattle.quantities.specs.Units.{of, each, every, only, at}
use Rattle.quantities.specs.declared.unit.PerUnit.{PerUnit}
use Rattle.quantities.specs.declared.unit.UnitKind.{UnitKind}
use Rattle.quantities.specs.declared.unit.UnitKind.TheVariants.{Minutes, Megabytes, Messages}
use Rattle.book.specs.Allowance.{Allowance, units, left, empty, ended, lapsed, drawn, draw_answer, aside}
use Rattle.rules.specs.Receipt.{Tally, ◌⊞◌, none, granting, used, ending, wiping_by_restart, wiping_by_switch}
use Rattle.rules.specs.State.{units_gone}
use Rattle.rules.specs.DueDays.{refilled, granted, closed, closing}
use Rattle.book.proofs.Lots.{units-parts, units_lot}
use Rattle.book.proofs.Laws.{draw_sum, aside-sum}

-- ## One book

-- what was left and what was granted is what is left now and what went out
abbrev pub Flow : Allowance → Allowance → Tally → Type 0
Flow b c t = left b + t.granted ≡ left c + units_gone t

flow_then : (b c d : Allowance) (t u : Tally) → Flow b c t → Flow c d u → Flow b d (t ⊞ u)
flow_then b c d t u p q = omega arith

flow_none : (b : Allowance) → Flow b b none
flow_none b = omega arith

pub flow_fill : (n : ℕ) (b : Allowance) → Flow b (refilled n b) (granting (granted n b))
flow_fill n b = grind (arith, nat_tests)

pub flow_lapse : (D : ℕ) (b : Allowance) → Flow b (lapsed D b) (ending (units (ended D b.lots)) 0)
flow_lapse D b = omega (arith, units-parts D b.lots)

pub flow_close : (c : Bool) (e : ℕ) (b : Allowance) → Flow b (closed c e b) (closing c b)
flow_close true e b = omega (arith, units_lot b.fresh e)
flow_close false e b = omega arith

pub flow_block : (b : Allowance) → Flow b empty (ending (units b.lots) b.fresh)
flow_block b = omega arith

pub flow_draw : (n m : ℕ) (b : Allowance) → Flow b (drawn n b) (used (draw_answer n b) m)
flow_draw n m b = omega (arith, draw_sum n b)

-- a tally that tells what was wiped
abbrev pub Wiping : (ℕ → Tally) → Type 0
Wiping wiped = (n : ℕ) → ((wiped n).granted ≡ 0) × (units_gone (wiped n) ≡ n)

pub by_restart : Wiping wiping_by_restart
by_restart n = (refl, omega arith)

pub by_switch : Wiping wiping_by_switch
by_switch n = (refl, omega arith)

pub flow_wipe_or_keep : (wiped : ℕ → Tally) → Wiping wiped → (x : Bool) (e c : ℕ) (b : Allowance) → Flow b (cond x empty (aside e c b)) (cond x (wiped (left b)) none)
flow_wipe_or_keep wiped h true e c b = omega (arith, h (left b))
flow_wipe_or_keep wiped h false e c b = omega (arith, aside-sum e c b)

-- ## The three books

abbrev pub Flows : PerUnit Allowance → PerUnit Allowance → PerUnit Tally → Type 0
Flows bs cs ts = (k : UnitKind) → Flow (of k bs) (of k cs) (of k ts)

pub flows_then : (bs cs ds : PerUnit Allowance) (ts us : PerUnit Tally) → Flows bs cs ts → Flows cs ds us → Flows bs ds (each (λ k t. t ⊞ of k us) ts)
flows_then bs cs ds ts us p q Minutes = flow_then bs.minutes cs.minutes ds.minutes ts.minutes us.minutes (p Minutes) (q Minutes)
flows_then bs cs ds ts us p q Megabytes = flow_then bs.megabytes cs.megabytes ds.megabytes ts.megabytes us.megabytes (p Megabytes) (q Megabytes)
flows_then bs cs ds ts us p q Messages = flow_then bs.messages cs.messages ds.messages ts.messages us.messages (p Messages) (q Messages)

pub flows_none : (bs : PerUnit Allowance) → Flows bs bs (every none)
flows_none bs Minutes = flow_none bs.minutes
flows_none bs Megabytes = flow_none bs.megabytes
flows_none bs Messages = flow_none bs.messages

pub flows_each : (f : UnitKind → Allowance → Allowance) (t : UnitKind → Allowance → Tally) → ((k : UnitKind) (b : Allowance) → Flow b (f k b) (t k b)) →
    (bs : PerUnit Allowance) → Flows bs (each f bs) (each t bs)
flows_each f t h bs Minutes = h Minutes bs.minutes
flows_each f t h bs Megabytes = h Megabytes bs.megabytes
flows_each f t h bs Messages = h Messages bs.messages

pub flows_at : (k : UnitKind) (f : Allowance → Allowance) (t : Tally) (bs : PerUnit Allowance) → Flow (of k bs) (f (of k bs)) t → Flows bs (at k f bs) (only k t none)
flows_at Minutes f t bs h Minutes = h
flows_at Minutes f t bs h Megabytes = flow_none bs.megabytes
flows_at Minutes f t bs h Messages = flow_none bs.messages
flows_at Megabytes f t bs h Minutes = flow_none bs.minutes
flows_at Megabytes f t bs h Megabytes = h
flows_at Megabytes f t bs h Messages = flow_none bs.messages
flows_at Messages f t bs h Minutes = flow_none bs.minutes
flows_at Messages f t bs h Megabytes = flow_none bs.megabytes
flows_at Messages f t bs h Messages = h
