-- The laws of every run of calls.
use Rattle.std.specs.Prelude.{◌≡◌, ℕ, ◌+◌, ◌≤◌, ◌⊎◌, List, [], ◌∷◌, ◌++◌, length, take, drop, Some, None, Option}
use Rattle.std.specs.List.{AllByRecursion}
use Rattle.quantities.specs.Units.{of}
use Rattle.quantities.specs.declared.unit.UnitKind.{UnitKind}
use Rattle.tariff.specs.Terms.{Terms}
use Rattle.rules.specs.declared.call.Call.{Call}
use Rattle.rules.specs.declared.call.Call.TheVariants.{TopUp as top_up, Use as use_of, Restart as restart, Switch as switch, MegabyteOption as option, DayMark as day_mark}
use Rattle.rules.specs.declared.call.Event.{Event}
use Rattle.rules.specs.State.{World, Calendar, State, Account, money_held, money_charged, units_accounted, then}
use Rattle.rules.specs.DueDays.{bring_up}
use Rattle.rules.specs.Checks.{Refusal}
use Rattle.rules.specs.Runs.{step, run, opened}

-- ## Money

abbrev pub paid_in : Call → ℕ
paid_in (top_up n) = n.0
paid_in (use_of v n) = 0
paid_in restart = 0
paid_in (switch c) = 0
paid_in option = 0
paid_in day_mark = 0

-- what one call paid in: nothing where it was refused
abbrev pub paid_by : Call → Option Refusal → ℕ
paid_by c None = paid_in c
paid_by c (Some f) = 0

-- the sum of the accepted top-ups
abbrev pub topped_up : List Event → List (Option Refusal) → ℕ
topped_up [] os = 0
topped_up (e ∷ es) [] = 0
topped_up (e ∷ es) (o ∷ os) = paid_by e.call o + topped_up es os

-- Accepted top-ups add up to the money held plus all charges.
abbrev pub MoneyCloses : Type 0
MoneyCloses =
    (w : World) (c : ℕ) (t : Terms) (m : ℕ) (es : List Event) →
    let r = run w (opened c t m) es in
    topped_up es r.outcomes ≡ money_held r.account.state + money_charged r.total

-- ## Units

-- For each unit, receipts grant exactly what they use within the allowance, what ended, came late and was wiped, and
-- what is left.
abbrev pub UnitsClose : Type 0
UnitsClose =
    (w : World) (c : ℕ) (t : Terms) (m : ℕ) (es : List Event) (k : UnitKind) →
    let r = run w (opened c t m) es in
    (of k r.total.units).granted ≡ units_accounted k r.account.state r.total

-- ## Day marks

abbrev pub marked_at : ℕ → Event
marked_at m = record { moment = record { 0 = m }; call = day_mark }

-- one of the calls was accepted
abbrev pub OneAccepted : List (Option Refusal) → Type 0
OneAccepted [] = ⊥
OneAccepted (o ∷ os) = (o ≡ None) ⊎ OneAccepted os

-- One more day mark, dated no later than the calls after it, one of which is accepted: each other call is accepted, or
-- refused alike, as without it; the account at the end and all totals are as without it.
abbrev pub DayMarkFree : Type 0
DayMarkFree =
    (w : World) (c : ℕ) (t : Terms) (opening : ℕ) (before later : List Event) (m : ℕ) →
    AllByRecursion (λ e. m ≤ e.moment.0) later →
    let a = opened c t opening in
    let plain = run w a (before ++ later) in
    let marked = run w a (before ++ (marked_at m ∷ later)) in
    let n = length before in
    OneAccepted (drop n plain.outcomes) →
    ((x : Option Refusal) × (marked.outcomes ≡ take n plain.outcomes ++ (x ∷ drop n plain.outcomes)))
    × (marked.account ≡ plain.account)
    × (marked.total ≡ plain.total)

-- ## Bringing up

-- Bringing up to one day and then to a later one is bringing up to the later one, receipts added.
abbrev pub BringingUpJoins : Type 0
BringingUpJoins = (w : Calendar) (D E : ℕ) (s : State) → D ≤ E → then (bring_up w D s) (bring_up w E) ≡ bring_up w E s

-- A refused call changes nothing.
abbrev pub RefusalChangesNothing : Type 0
RefusalChangesNothing = (w : World) (a : Account) (e : Event) (f : Refusal) → (step w a e).outcome ≡ Some f → (step w a e).account ≡ a
