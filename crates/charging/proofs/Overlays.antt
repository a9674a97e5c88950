-- One row put after another.
use Rattle.std.proofs.Common.{◌≡◌, ℕ, ◌+◌, ◌≤◌, List, ◌++◌, length, take, drop, sym, ap, ◌∙◌, append_assoc, arith, length-append, length-take-le, drop-drop}
use lib.Seq.{drop-append-add}
use Rattle.std.proofs.lemmas.List.{take_at}
use Rattle.charging.specs.Rows.{overlaid}

pub overlaid_next : (i : ℕ) (a b xs : List ℕ) → i + length a ≤ length xs → overlaid (i + length a) b (overlaid i a xs) ≡ overlaid i (a ++ b) xs
overlaid_next i a b xs h =
    let n = i + length a in
    let p = take i xs in
    let q = drop n xs in
    let rest = drop (n + length b) xs in
    let long : length (p ++ a) ≡ n = omega (arith, length-append p a, length-take-le i xs (omega arith)) in
    let whole : overlaid i a xs ≡ (p ++ a) ++ q = sym (append_assoc p a q) in
    let front : take n (overlaid i a xs) ≡ p ++ a = ap (take n) whole ∙ take_at (p ++ a) q n long in
    let back : drop (n + length b) (overlaid i a xs) ≡ rest =
    ap (drop (n + length b)) whole
    ∙ ap (λ m. drop (m + length b) ((p ++ a) ++ q)) (sym long)
    ∙ drop-append-add (p ++ a) q (length b)
    ∙ drop-drop (length b) n xs in
    let far : n + length b ≡ i + length (a ++ b) = omega (arith, length-append a b) in
    ap (λ x. x ++ (b ++ drop (n + length b) (overlaid i a xs))) front
    ∙ ap (λ x. (p ++ a) ++ (b ++ x)) back
    ∙ append_assoc p a (b ++ rest)
    ∙ ap (λ x. p ++ x) (sym (append_assoc a b rest))
    ∙ ap (λ m. p ++ ((a ++ b) ++ drop m xs)) far

-- the same with the place told as another sum
pub overlaid-after : (i m : ℕ) (a b xs : List ℕ) → m ≡ i + length a → m ≤ length xs → overlaid m b (overlaid i a xs) ≡ overlaid i (a ++ b) xs
overlaid-after i m a b xs e h = ap (λ n. overlaid n b (overlaid i a xs)) e ∙ overlaid_next i a b xs (omega arith)
