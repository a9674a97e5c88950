-- The rule of the table of first days, over all its entries.
use Rattle.std.proofs.Common.{◌≡◌, ℕ, zero, suc, ◌+◌, ◌<◌, ◌≤◌, true, false, leb, List, [], ◌∷◌, get_or, inl, inr, sym, ap, ◌∙◌, le_of_suc-le-suc, not-suc-le-zero, add-zero, add-suc, suc-add, zero-add, arith}
use Rattle.std.specs.List.Sorted.{IsPartitionPoint}
use Rattle.std.proofs.lemmas.Bool.{cases_order, leb-true, leb-false}
use Rattle.calendar.specs.Dates.{last_day, months}
use Rattle.calendar.specs.Gregorian.{first, month_length}
use Rattle.calendar.specs.Due.{month_of}
use Rattle.calendar.proofs.Months.{next, first_monotone, month_of-within}
use Rattle.calendar.proofs.Due.{month_of-calendar}

-- n entries, of the months from i on, the first of which begins on day x
abbrev pub entries : ℕ → ℕ → ℕ → List ℕ
entries zero i x = []
entries (suc n) i x = x ∷ entries n (suc i) (x + month_length i)

from : (n i k e : ℕ) → k < n → get_or (entries n i (first i)) k e ≡ first (i + k)
from zero i k e h = absurd (not-suc-le-zero h)
from (suc n) i zero e h = ap first (sym (add-zero i))
from (suc n) i (suc k) e h = from n (suc i) k e (le_of_suc-le-suc h) ∙ ap first (suc-add i k ∙ sym (add-suc i k))

-- the table of the calendar's months, and the day after the last
abbrev pub table : List ℕ
table = entries 1213 0 0

pub at : (k e : ℕ) → k ≤ months → get_or table k e ≡ first k
at k e h = from 1213 0 k e (omega arith) ∙ ap first (zero-add k)

-- the last entry is the largest
pub most : (k : ℕ) → k ≤ months → get_or table k 0 ≤ last_day + 1
most k h =
    let b : first k ≤ 36_890 = first_monotone k months h in
    omega (arith, at k 0 h)

-- the entries rise
pub rising : (i j e : ℕ) → i ≤ j → j < 1213 → get_or table i e ≤ get_or table j e
rising i j e h l = omega (arith, first_monotone i j h, at i e (omega arith), at j e (omega arith))

-- the entries up to a day are those of the months up to its own
pub begun : (d r : ℕ) → d ≤ last_day → r ≤ 1213 → IsPartitionPoint (λ x. leb x d ≡ true) (λ x. leb x d ≡ false) table r → r ≡ month_of d + 1
begun d r h b p =
    let m = month_of d in
    let c = month_of-calendar d h in
    let w = month_of-within d in
    let n = next m in
    elim (cases_order r (m + 1)) [
      | inl e ↦ e
      | inr o ↦ elim o [
        | inl lt ↦ absurd (omega (arith, leb-false _ _ (p.1 m 0 (omega arith) (omega arith)), at m 0 (omega arith)))
        | inr gt ↦ absurd (omega (arith, leb-true _ _ (p.0 (m + 1) 0 (omega arith) gt), at (m + 1) 0 (omega arith)))
      ]
    ]
