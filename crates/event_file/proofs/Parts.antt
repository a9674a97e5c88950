-- The first of the records still to come, and the others.
use Rattle.std.proofs.Common.{◌≡◌, ℕ, zero, suc, ◌+◌, ◌-◌, ◌*◌, ◌<◌, List, ◌∷◌, length, refl, ap, sub-one, arith}
use Rattle.event_file.specs.Layout.{sixteen_at}
use Rattle.event_file.specs.Parts.{parts_from}

pub first_part : (file : List ℕ) (first k n offset : ℕ) (bytes : List ℕ) → 0 < n → offset ≡ first + 16 * k → bytes ≡ sixteen_at file offset → parts_from file first k n ≡ record { bytes = bytes; place = record { index = k; offset = offset } } ∷ parts_from file first (k + 1) (n - 1)
first_part file first k zero offset bytes some at same = absurd (omega arith)
first_part file first k (suc n) offset bytes some at same = rw (sub-one, same, at) refl

-- So many come as are told.
pub length-parts_from : (file : List ℕ) (first k n : ℕ) → length (parts_from file first k n) ≡ n
length-parts_from file first k zero = refl
length-parts_from file first k (suc n) = ap suc (length-parts_from file first (k + 1) n)
