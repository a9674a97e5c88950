-- What a copy inside the array leaves.
use Rattle.std.proofs.Common.{◌≡◌, ℕ, ◌+◌, ◌-◌, ◌<◌, ◌≤◌, List, [], ◌∷◌, ◌++◌, length, take, drop, set, sym, ap, ◌∙◌, append_assoc, arith, length-drop, length-take}
use lib.Seq.{paste, take-set-lt}
use Rattle.std.specs.List.{insert}
use Rattle.std.proofs.lemmas.List.Edits.{take-paste}
use Rattle.std.proofs.lemmas.List.{drop-take, take-take, take_more_set, set-append_left}
use Rattle.book.specs.declared.lot.Lot.{Lot}

-- what `copy_within` leaves
pub closed : (xs ys : List Lot) (n g : ℕ) → g ≤ n → n ≤ length xs → ys ≡ paste xs 0 (drop g xs) (n - g) → take (n - g) ys ≡ drop g (take n xs)
closed xs ys n g gn nx e =
    let z : n - g ≡ 0 + (n - g) = omega arith in
    let s : g + (n - g) ≡ n = omega arith in
    let long : n - g ≤ length (drop g xs) = simp length-drop (omega arith) in
    ap (take (n - g)) e ∙ ap (λ k. take k (paste xs 0 (drop g xs) (n - g))) z ∙ take-paste xs 0 (drop g xs) (n - g) (omega arith) long
    ∙ sym (drop-take g (n - g) xs) ∙ ap (λ k. drop g (take k xs)) s

pub opened : (xs ys : List Lot) (n i : ℕ) (l : Lot) → i ≤ n → n < length xs → ys ≡ paste xs (i + 1) (drop i xs) (n - i) → take (n + 1) (set ys i l) ≡ insert (take n xs) i l
opened xs ys n i l h nx e =
    let long : n - i ≤ length (drop i xs) = simp length-drop (omega arith) in
    let s : n + 1 ≡ (i + 1) + (n - i) = omega arith in
    let t : i + (n - i) ≡ n = omega arith in
    let front : i < length (take (i + 1) xs) = simp length-take (omega arith) in
    let whole : take (n + 1) ys ≡ take (i + 1) xs ++ take (n - i) (drop i xs) = ap (take (n + 1)) e ∙ ap (λ k. take k (paste xs (i + 1) (drop i xs) (n - i))) s ∙ take-paste xs (i + 1) (drop i xs) (n - i) (omega arith) long in
    let one : set (take (i + 1) xs) i l ≡ take i xs ++ l ∷ [] = sym (take-set-lt (i + 1) xs i l (omega arith)) ∙ take_more_set xs i l (omega arith) in
    let rest : take (n - i) (drop i xs) ≡ drop i (take n xs) = sym (drop-take i (n - i) xs) ∙ ap (λ k. drop i (take k xs)) t in
    take-set-lt (n + 1) ys i l (omega arith)
    ∙ ap (λ ks. set ks i l) whole
    ∙ set-append_left (take (i + 1) xs) (take (n - i) (drop i xs)) i l front
    ∙ ap (λ ks. ks ++ take (n - i) (drop i xs)) one
    ∙ append_assoc (take i xs) (l ∷ []) (take (n - i) (drop i xs))
    ∙ ap (λ ks. take i xs ++ l ∷ ks) rest
    ∙ ap (λ ks. ks ++ l ∷ drop i (take n xs)) (sym (take-take i n xs h))
