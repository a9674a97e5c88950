-- Lots by what ends on each day, and by what lasts past it.
use Rattle.std.proofs.Common.{◌≡◌, ℕ, ◌+◌, ◌<◌, ◌≤◌, true, cond, ltb, List, [], ◌∷◌, ◌++◌, fold, refl, ap, ◌∙◌, inl, inr, arith}
use Rattle.std.proofs.lemmas.Bool.Decides.{nat_tests}
use Rattle.std.proofs.lemmas.Bool.{cases_order}
use Rattle.book.specs.declared.lot.Lot.{Lot}
use Rattle.book.specs.Allowance.{units, rising, lasting, as_lot, with_lot, with_capped, aside}
use Rattle.book.specs.Days.{ending_on, capped_on}
use Rattle.book.specs.Laws.{AsideByDays, DecidedByDays, AsideBeforeCap, AsidePastCap, AsideNoLonger}
use Rattle.book.proofs.Lots.{parts}
use Rattle.book.proofs.Gathering.{capped}

-- one lot more counts on its day, wherever it is put
with_on : (d : ℕ) (l : Lot) (ks : List Lot) → ending_on d (with_lot l ks) ≡ ending_on d (l ∷ ks)
with_on d l [] = refl
with_on d l (k ∷ ks) = let h = with_on d l ks in grind (arith, nat_tests)

all_on : (c d : ℕ) (ks ls : List Lot) → ending_on d (fold (with_capped c) ks ls) ≡ ending_on d ks + capped_on c d ls
all_on c d ks [] = omega arith
all_on c d ks (l ∷ ls) =
    let h = all_on c d (with_capped c ks l) ls in
    let w = with_on d (capped c l) ks in
    grind (arith, nat_tests)

pub aside_by_days : AsideByDays
aside_by_days e c d b = let h = all_on c d [] (b.lots ++ as_lot b.fresh e) in omega arith

-- the same of what lasts past a day
with_past : (x : ℕ) (l : Lot) (ks : List Lot) → units (lasting x (with_lot l ks)) ≡ units (lasting x ks) + cond (ltb x l.end.0) l.amount 0
with_past x l [] = grind (arith, nat_tests)
with_past x l (k ∷ ks) = let h = with_past x l ks in grind (arith, nat_tests)

all_past : (c x : ℕ) (ks ls : List Lot) → x < c → units (lasting x (fold (with_capped c) ks ls)) ≡ units (lasting x ks) + units (lasting x ls)
all_past c x ks [] h = omega arith
all_past c x ks (l ∷ ls) h =
    let r = all_past c x (with_capped c ks l) ls h in
    let w = with_past x (capped c l) ks in
    grind (arith, nat_tests)

none_past : (c x : ℕ) (ks ls : List Lot) → c ≤ x → units (lasting x (fold (with_capped c) ks ls)) ≡ units (lasting x ks)
none_past c x ks [] h = refl
none_past c x ks (l ∷ ls) h =
    let r = none_past c x (with_capped c ks l) ls h in
    let w = with_past x (capped c l) ks in
    grind (arith, nat_tests)

lasting-append : (x : ℕ) (ks ls : List Lot) → units (lasting x (ks ++ ls)) ≡ units (lasting x ks) + units (lasting x ls)
lasting-append x [] ls = omega arith
lasting-append x (k ∷ ks) ls = let h = lasting-append x ks ls in grind (arith, nat_tests)

lasting_lot : (x n e : ℕ) → units (lasting x (as_lot n e)) ≡ cond (ltb x e) n 0
lasting_lot x n e = grind (arith, nat_tests)

pub aside_before_cap : AsideBeforeCap
aside_before_cap e c x b h =
    let p = all_past c x [] (b.lots ++ as_lot b.fresh e) h in
    let q = lasting-append x b.lots (as_lot b.fresh e) in
    let r = lasting_lot x b.fresh e in
    omega arith

pub aside_past_cap : AsidePastCap
aside_past_cap e c x b h = none_past c x [] (b.lots ++ as_lot b.fresh e) h

pub aside_no_longer : AsideNoLonger
aside_no_longer e c x b =
    let p : x < c → units (lasting x (aside e c b).lots) ≡ units (lasting x b.lots) + cond (ltb x e) b.fresh 0 = aside_before_cap e c x b in
    let q : c ≤ x → units (lasting x (aside e c b).lots) ≡ 0 = aside_past_cap e c x b in
    grind (arith, nat_tests)

-- rising lots are decided by what ends on each day
on_here : (l : Lot) (ls : List Lot) → ending_on l.end.0 (l ∷ ls) ≡ l.amount + ending_on l.end.0 ls
on_here l ls = grind (arith, nat_tests)

on_none : (d e : ℕ) (ls : List Lot) → d < e → rising e ls ≡ true → ending_on d ls ≡ 0
on_none d e [] h s = refl
on_none d e (l ∷ ls) h s =
    let p = parts e l ls s in
    let r = on_none d (l.end.0 + 1) ls (omega arith) p.2 in
    grind (arith, nat_tests)

sooner : (x d : ℕ) (l : Lot) (ls : List Lot) → x < l.end.0 → rising d (l ∷ ls) ≡ true → ending_on x (l ∷ ls) ≡ 0
sooner x d l ls h s = let p = parts d l ls s in let r = on_none x (l.end.0 + 1) ls (omega arith) p.2 in grind (arith, nat_tests)

decided : (d : ℕ) (ks ls : List Lot) → rising d ks ≡ true → rising d ls ≡ true → ((x : ℕ) → ending_on x ks ≡ ending_on x ls) → ks ≡ ls
decided d [] [] r s e = refl
decided d [] (l ∷ ls) r s e = let p = parts d l ls s in let h = e l.end.0 in let g = on_here l ls in absurd (omega arith)
decided d (k ∷ ks) [] r s e = let p = parts d k ks r in let h = e k.end.0 in let g = on_here k ks in absurd (omega arith)
decided d (k ∷ ks) (l ∷ ls) r s e =
    let p = parts d k ks r in
    let q = parts d l ls s in
    let hk = on_here k ks in
    let hl = on_here l ls in
    let ek = e k.end.0 in
    let el = e l.end.0 in
    let end : k.end.0 ≡ l.end.0 = elim (cases_order k.end.0 l.end.0) [
      | inl same ↦ same
      | inr m ↦ elim m [ inl lt ↦ let z = sooner k.end.0 d l ls lt s in absurd (omega arith) | inr gt ↦ let z = sooner l.end.0 d k ks gt r in absurd (omega arith) ]
    ] in
    let zk = on_none k.end.0 (k.end.0 + 1) ks (omega arith) p.2 in
    let zl = on_none l.end.0 (l.end.0 + 1) ls (omega arith) q.2 in
    let at = ap (λ x. ending_on x (l ∷ ls)) end in
    let amount : k.amount ≡ l.amount = omega arith in
    let lot : ℕ → ℕ → Lot = λ n x. record { amount = n; end = record { 0 = x } } in
    let same : k ≡ l = ap (λ n. lot n k.end.0) amount ∙ ap (lot l.amount) end in
    let rest : ks ≡ ls = decided (k.end.0 + 1) ks ls p.2 (ap (λ x. rising (x + 1) ls) end ∙ q.2) (λ x. let h = e x in grind (arith, nat_tests)) in
    cc

pub decided_by_days : DecidedByDays
decided_by_days ks ls r s e = decided 0 ks ls r s e
