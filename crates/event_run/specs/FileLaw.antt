-- The law over the run of a file, said of what the run hands back: its postings and the account at the end.
use Rattle.std.specs.Prelude.{◌≡◌, ℕ, ◌+◌, ◌≤◌, List, [], ◌∷◌, ◌++◌, length, take, drop, Some, None, Option}
use Rattle.std.specs.List.{AllByRecursion, filter_map}
use Rattle.quantities.specs.Units.{of}
use Rattle.quantities.specs.declared.unit.UnitKind.{UnitKind}
use Rattle.rules.specs.declared.call.Event.{Event}
use Rattle.rules.specs.Receipt.{Receipt, nothing, ◌⊕◌}
use Rattle.rules.specs.State.{World, Account, money_held, money_charged, units_accounted}
use Rattle.rules.specs.Checks.{Refusal}
use Rattle.rules.specs.Runs.{run}
use Rattle.rules.specs.Laws.{topped_up, marked_at, OneAccepted}
use Rattle.event_file.specs.Parts.{Placed, parts}
use Rattle.event_file.specs.Records.{decoded}
use Rattle.event_run.specs.Postings.{PlacedRefusal, Posting, opened_by, file_postings, file_closing}

-- ## The calls of a file

-- the calls that the right records ask for, in their order; a wrong record makes none
abbrev pub calls : List Placed → List Event
calls ps = filter_map (λ p. decoded p.bytes) ps

abbrev pub with_outcome : Option Event → Option Refusal → List (Option Refusal) → List (Option Refusal)
with_outcome None o os = os
with_outcome (Some e) o os = o ∷ os

abbrev pub bare : Option PlacedRefusal → Option Refusal
bare None = None
bare (Some f) = Some f.refusal

-- how these calls came out, as the postings tell it
abbrev pub call_outcomes : List Placed → List Posting → List (Option Refusal)
call_outcomes [] xs = []
call_outcomes (p ∷ ps) [] = []
call_outcomes (p ∷ ps) (x ∷ xs) = with_outcome (decoded p.bytes) (bare x.outcome) (call_outcomes ps xs)

-- the sum of the receipts that were posted
abbrev pub total : List Posting → Receipt
total [] = nothing
total (x ∷ xs) = x.receipt ⊕ total xs

-- ## The law

pub record FileLaw (w : World) (ps : List Placed) (a : Account) (posted : List Posting) (end : Account) : Type 0 where
  -- Accepted top-ups add up to the money held at the end plus all charges posted.
  pub money : topped_up (calls ps) (call_outcomes ps posted) ≡ money_held end.state + money_charged (total posted)
  -- For each unit, receipts grant exactly what they use within the allowance, what ended, came late and was wiped, and
  -- what is left.
  pub units : (k : UnitKind) → (of k (total posted).units).granted ≡ units_accounted k end.state (total posted)
  -- One more day mark among the calls, dated no later than those after it, one of which is accepted: each other call
  -- comes out as it did, and the account at the end and all totals are as they were.
  pub marks : (before later : List Event) → before ++ later ≡ calls ps → (m : ℕ) →
      AllByRecursion (λ e. m ≤ e.moment.0) later →
      OneAccepted (drop (length before) (call_outcomes ps posted)) →
      let marked = run w a (before ++ (marked_at m ∷ later)) in
      let n = length before in
      ((x : Option Refusal) × (marked.outcomes ≡ take n (call_outcomes ps posted) ++ (x ∷ drop n (call_outcomes ps posted))))
      × (marked.account ≡ end)
      × (marked.total ≡ total posted)

-- the law from the account that the file opens
abbrev pub LawFrom : Option Account → World → List ℕ → List Posting → Account → Type 0
LawFrom None w file posted end = Unit {0}
LawFrom (Some a) w file posted end = FileLaw w (parts file) a posted end

abbrev pub LawOfFile : World → List ℕ → List Posting → Account → Type 0
LawOfFile w file posted end = LawFrom (opened_by w file) w file posted end

-- the law of whatever a file's run comes to
abbrev pub LawClosing : Option Account → World → List ℕ → Type 0
LawClosing None w file = Unit {0}
LawClosing (Some end) w file = LawOfFile w file (file_postings w file) end

abbrev pub ObeysLaw : World → List ℕ → Type 0
ObeysLaw w file = LawClosing (file_closing w file) w file
