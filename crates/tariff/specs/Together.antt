-- Two lines together are again a line.
use Rattle.std.specs.Prelude.{ℕ, cond, is_some, Option}
use Rattle.tariff.specs.Terms.{Terms, Entry}

-- the first that has terms for the code answers
abbrev pub joined_terms : (ℕ → Option Terms) → (ℕ → Option Terms) → ℕ → Option Terms
joined_terms first second c = cond (is_some (first c)) (first c) (second c)

-- entry goes to the line that answers for the target
abbrev pub joined_entry : (ℕ → Option Terms) → (ℕ → ℕ → Option Entry) → (ℕ → ℕ → Option Entry) → ℕ → ℕ → Option Entry
joined_entry first from_First from_Second a b = cond (is_some (first b)) (from_First a b) (from_Second a b)
