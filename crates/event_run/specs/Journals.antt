-- What becomes of a journal that takes the postings of a run.
use Rattle.std.specs.Prelude.{◌≡◌, List, [], ◌∷◌}
use Rattle.event_run.specs.Postings.{Posting}

-- The postings, taken one after another, lead from the journal x to the journal y.
abbrev pub Taken : {J : Type 0} → (J → Posting → J → Type 0) → J → List Posting → J → Type 0
Taken takes x [] y = y ≡ x
Taken {J} takes x (p ∷ ps) y = (z : J) × takes x p z × Taken takes z ps y
