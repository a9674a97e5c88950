-- When a top-up wakes an account, and when it doesn't.
use Rattle.std.proofs.Common.{◌≡◌, ℕ, ◌<◌, ◌≤◌, false, leb, refl}
use Rattle.std.proofs.lemmas.Bool.{le-leb, lt-leb}
use Rattle.quantities.specs.declared.time.Day.{Day}
use Rattle.rules.specs.declared.call.Status.{Status}
use Rattle.rules.specs.declared.call.Status.TheVariants.{Blocked, Active}
use Rattle.rules.specs.State.{Calendar, State, awaited_fee, same}
use Rattle.rules.specs.DueDays.{start_on}
use Rattle.rules.specs.Calls.{wake_if_paid}

pub wakes : (w : Calendar) (D : ℕ) (s : State) → s.status ≡ Blocked → awaited_fee s ≤ s.balance → wake_if_paid w D s ≡ start_on w D s
wakes w D s b l = let f = le-leb (awaited_fee s) s.balance l in cc

pub stays_blocked : (w : Calendar) (D : ℕ) (s : State) → s.balance < awaited_fee s → wake_if_paid w D s ≡ same s
stays_blocked w D s l = go s.status refl
  where
    f : leb (awaited_fee s) s.balance ≡ false
    f = lt-leb (awaited_fee s) s.balance l

    go : (t : Status) → s.status ≡ t → wake_if_paid w D s ≡ same s
    go Blocked e = let q = f in cc
    go (Active d) e = cc

pub stays_active : (w : Calendar) (D : ℕ) (s : State) (d : Day) → s.status ≡ Active d → wake_if_paid w D s ≡ same s
stays_active w D s d e = cc
