-- The lots in the front of an array.
use Rattle.std.proofs.Common.{◌≡◌, ℕ, suc, ◌+◌, ◌<◌, ◌≤◌, List, [], ◌∷◌, length, get_or, take, drop, set, sym, ap, ◌∙◌, arith, length-take}
use Prim.Native.Nat.{zero}
use Rattle.std.proofs.lemmas.List.{drop_more, get_or-take, get_or-drop, length-take-le, drop-set-lt}
use Rattle.std.proofs.lemmas.Bool.{cond-true, cond-false, le-leb, lt-leb}
use lib.Seq.{take-set-lt}
use Rattle.std.specs.List.{insert}
use Rattle.book.specs.declared.lot.Lot.{Lot}
use Rattle.table_book.specs.declared.lots.Lots.{Lots}
use Rattle.book.specs.Allowance.{units, ended}
use Rattle.book.proofs.Lots.{units_rest}
use Rattle.table_book.specs.Held.{held}

-- the lot at i, and those after it
pub next : (xs : List Lot) (n i : ℕ) (d : Lot) → i < n → n ≤ length xs → drop i (take n xs) ≡ get_or xs i d ∷ drop (i + 1) (take n xs)
next xs n i d h k =
    let l : i < length (take n xs) = simp length-take (omega arith) in
    drop_more (take n xs) i d l ∙ ap (λ x. x ∷ drop (i + 1) (take n xs)) (get_or-take n xs i d h)

abbrev pub none : Lot
none = record { amount = 0; end = record { 0 = 0 } }

pub at : (t : Lots) (i : ℕ) → i < t.len → drop i (held t) ≡ get_or t.lots i none ∷ drop (i + 1) (held t)
at t i h = next t.lots t.len i none h (omega arith)

pub length-held : (t : Lots) → length (held t) ≡ t.len
length-held t = length-take-le t.len t.lots (omega arith)

-- the lots after i, when the one at i changes
pub after-set : (xs : List Lot) (n i : ℕ) (v : Lot) → i < n → drop (i + 1) (take n (set xs i v)) ≡ drop (i + 1) (take n xs)
after-set xs n i v h = ap (drop (i + 1)) (take-set-lt n xs i v h) ∙ drop-set-lt (i + 1) (take n xs) i v (omega arith)

-- a lot that is lowered leaves no more units
less_at : (v : Lot) (ks : List Lot) (i : ℕ) → i < length ks → v.amount ≤ (get_or ks i none).amount → units (set ks i v) ≤ units ks
less_at v [] i h le = absurd (omega arith)
less_at v (k ∷ ks) zero h le = omega arith
less_at v (k ∷ ks) (suc i) h le = let r = less_at v ks i (omega arith) le in omega arith

pub units_lowered : (t : Lots) (i : ℕ) (v : Lot) → i < t.len → v.amount ≤ (get_or t.lots i none).amount → units (take t.len (set t.lots i v)) ≤ units (held t)
units_lowered t i v h le =
    let n = length-held t in
    let same = ap (λ k. k.amount) (get_or-take t.len t.lots i none h) in
    let r = less_at v (held t) i (omega arith) (omega arith) in
    omega (arith, ap units (take-set-lt t.len t.lots i v h))

-- a lot put in adds its units
pub units_inserted : (l : Lot) (ks : List Lot) (i : ℕ) → i ≤ length ks → units (insert ks i l) ≡ units ks + l.amount
units_inserted l ks zero h = omega arith
units_inserted l [] (suc i) h = absurd (omega arith)
units_inserted l (k ∷ ks) (suc i) h = let r = units_inserted l ks i (omega arith) in omega arith

-- no lot has more units than all of them
pub amount_at : (t : Lots) (i : ℕ) → i < t.len → (get_or t.lots i none).amount ≤ units (held t)
amount_at t i h = omega (arith, ap units (at t i h), units_rest (held t) i)

-- and a lot that is written over another leaves their number
pub length_set : (t : Lots) (i : ℕ) (v : Lot) (ks : List Lot) → take t.len (set t.lots i v) ≡ ks → length ks ≤ 31
length_set t i v ks e = omega (arith, ap length e, length-take t.len (set t.lots i v))

-- what was not written yet is as it was
pub same_at : (xs ys : List Lot) (i : ℕ) → drop i ys ≡ drop i xs → get_or ys i none ≡ get_or xs i none
same_at xs ys i e =
    let z : i + 0 ≡ i = omega arith in
    ap (λ k. get_or ys k none) (sym z) ∙ sym (get_or-drop i ys 0 none) ∙ ap (λ zs. get_or zs 0 none) e ∙ get_or-drop i xs 0 none ∙ ap (λ k. get_or xs k none) z

-- a lot that ends at or before x, and one that lasts
pub ended_more : (x : ℕ) (xs : List Lot) (n i : ℕ) → i < n → n ≤ length xs → (get_or xs i none).end.0 ≤ x →
    units (ended x (drop i (take n xs))) ≡ (get_or xs i none).amount + units (ended x (drop (i + 1) (take n xs)))
ended_more x xs n i h k le = ap (λ ks. units (ended x ks)) (next xs n i none h k) ∙ ap units (cond-true _ _ _ (le-leb (get_or xs i none).end.0 x le))

pub ended_same : (x : ℕ) (xs : List Lot) (n i : ℕ) → i < n → n ≤ length xs → x < (get_or xs i none).end.0 →
    units (ended x (drop i (take n xs))) ≡ units (ended x (drop (i + 1) (take n xs)))
ended_same x xs n i h k lt = ap (λ ks. units (ended x ks)) (next xs n i none h k) ∙ ap units (cond-false _ _ _ (lt-leb (get_or xs i none).end.0 x lt))
