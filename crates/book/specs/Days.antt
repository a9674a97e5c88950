-- Lots by what ends on each day.
use Rattle.std.specs.Prelude.{ℕ, min, List, filter, nat_eq}
use Rattle.book.specs.declared.lot.Lot.{Lot}
use Rattle.book.specs.Allowance.{units}

-- how much of some lots ends on day d
abbrev pub ending_on : ℕ → List Lot → ℕ
ending_on d ls = units (filter (λ l. nat_eq l.end.0 d) ls)

-- the same with each end past c lowered to c
abbrev pub capped_on : ℕ → ℕ → List Lot → ℕ
capped_on c d ls = units (filter (λ l. nat_eq (min c l.end.0) d) ls)
