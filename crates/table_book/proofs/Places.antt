-- Where one lot more goes: the first place whose lot doesn't end before it.
use Rattle.std.proofs.Common.{◌≡◌, ℕ, suc, ◌+◌, ◌<◌, ◌≤◌, List, [], ◌∷◌, eqb, leb, false, length, get_or, take, set, not, sym, refl, ap, ◌∙◌, arith}
use Prim.Native.Nat.{zero}
use Rattle.std.specs.List.{insert, position_or_len}
use lib.Seq.{take-set-lt}
use Rattle.std.proofs.lemmas.List.{get_or-take, get_or_default}
use Rattle.std.proofs.lemmas.Bool.Decides.{nat_tests}
use Rattle.std.proofs.lemmas.List.Sums.{prefix_len-le-length}
use Rattle.book.specs.declared.lot.Lot.{Lot}
use Rattle.table_book.specs.declared.lots.Lots.{Lots}
use Rattle.book.specs.Allowance.{units, with_lot}
use Rattle.table_book.specs.Held.{held}
use Rattle.table_book.proofs.Rows.{none, length-held}

abbrev pub place : ℕ → List Lot → ℕ
place end ks = position_or_len (λ k. leb end k.end.0) ks

first : (l j : Lot) (js : List Lot) → 0 ≡ place l.end.0 (j ∷ js) → l.end.0 ≤ j.end.0
first l j js at = grind (arith, nat_tests)

later : (l j : Lot) (js : List Lot) (i : ℕ) → suc i ≡ place l.end.0 (j ∷ js) → (j.end.0 < l.end.0) × (i ≡ place l.end.0 js)
later l j js i at = grind (arith, nat_tests)

pub place_within : (l : Lot) (ks : List Lot) (i : ℕ) → i ≡ place l.end.0 ks → i ≤ length ks
place_within l ks i at = let h = prefix_len-le-length (λ k. not (leb l.end.0 k.end.0)) ks in omega arith

-- into the lot of equal end that stands there
pub joins : (l k : Lot) (ks : List Lot) (i : ℕ) → i ≡ place l.end.0 ks → i < length ks → k ≡ get_or ks i k → k.end.0 ≡ l.end.0 → set ks i (record { amount = k.amount + l.amount; end = k.end }) ≡ with_lot l ks
joins l k [] i at h e eq = absurd (omega arith)
joins l k (j ∷ js) zero at h e eq = grind (arith, nat_tests)
joins l k (j ∷ js) (suc i) at h e eq =
    let p = later l j js i at in
    let r = joins l k js i p.1 (omega arith) e eq in
    grind (arith, nat_tests)

-- written into the array, where it stands
pub joins_at : (t : Lots) (l k : Lot) (i : ℕ) → i ≡ place l.end.0 (held t) → i < length (held t) → k ≡ get_or (held t) i none → k.end.0 ≡ l.end.0 → take t.len (set t.lots i (record { amount = (get_or t.lots i none).amount + l.amount; end = (get_or t.lots i none).end })) ≡ with_lot l (held t)
joins_at t l k i at h e eq =
    let n = length-held t in
    let same : get_or t.lots i none ≡ k = sym (get_or-take t.len t.lots i none (omega arith)) ∙ sym e in
    take-set-lt t.len t.lots i (record { amount = (get_or t.lots i none).amount + l.amount; end = (get_or t.lots i none).end }) (omega arith)
    ∙ ap (λ x. set (held t) i (record { amount = x.amount + l.amount; end = x.end })) same
    ∙ joins l k (held t) i at h (e ∙ get_or_default (held t) i none k h) eq

-- or in before it, where it ends later
pub goes_in : (l k : Lot) (ks : List Lot) (i : ℕ) → i ≡ place l.end.0 ks → i < length ks → k ≡ get_or ks i k → eqb k.end.0 l.end.0 ≡ false → insert ks i l ≡ with_lot l ks
goes_in l k [] i at h e apart = absurd (omega arith)
goes_in l k (j ∷ js) zero at h e apart = let f = first l j js at in grind (arith, nat_tests)
goes_in l k (j ∷ js) (suc i) at h e apart =
    let p = later l j js i at in
    let r = goes_in l k js i p.1 (omega arith) e apart in
    grind (arith, nat_tests)

-- or behind them all
pub goes_last : (l : Lot) (ks : List Lot) (i : ℕ) → i ≡ place l.end.0 ks → length ks ≤ i → insert ks i l ≡ with_lot l ks
goes_last l [] zero at h = refl
goes_last l [] (suc i) at h = absurd (omega arith)
goes_last l (j ∷ js) zero at h = absurd (omega arith)
goes_last l (j ∷ js) (suc i) at h =
    let p = later l j js i at in
    let r = goes_last l js i p.1 (omega arith) in
    grind (arith, nat_tests)

-- what stands at a place is no more than the sum
pub units_set : (k : Lot) (ks : List Lot) (i : ℕ) → i < length ks → k.amount ≤ units (set ks i k)
units_set k [] i h = absurd (omega arith)
units_set k (j ∷ js) zero h = omega arith
units_set k (j ∷ js) (suc i) h = let r = units_set k js i (omega arith) in omega arith
