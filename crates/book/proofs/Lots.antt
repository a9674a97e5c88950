-- The sum and the order of lots, and what drawing, lapsing and an amount as a lot make of them.
use Rattle.std.proofs.Common.{◌≡◌, ℕ, ◌+◌, ◌-◌, ◌<◌, ◌≤◌, Bool, true, List, [], ◌∷◌, ◌++◌, length, take, drop, filter, refl, ap, arith}
use Rattle.std.proofs.lemmas.List.{take-append-drop}
use Rattle.std.proofs.lemmas.Bool.Decides.{nat_tests}
use Rattle.std.proofs.lemmas.Bool.{cond_both}
use Rattle.book.specs.declared.lot.Lot.{Lot}
use Rattle.book.specs.Allowance.{units, rising, undrawn, ended, lasting, as_lot}

-- Sums
pub units-append : (ks ls : List Lot) → units (ks ++ ls) ≡ units ks + units ls
units-append [] ls = omega arith
units-append (k ∷ ks) ls = let h = units-append ks ls in omega arith

pub units_rest : (ls : List Lot) (i : ℕ) → units (drop i ls) ≤ units ls
units_rest ls i =
    let h = units-append (take i ls) (drop i ls) in
    let e = ap units (take-append-drop i ls) in
    omega arith

pub units_kept : (p : Lot → Bool) (ls : List Lot) → units (filter p ls) ≤ units ls
units_kept p [] = omega arith
units_kept p (l ∷ ls) =
    let h = units_kept p ls in
    cond_both (p l) (l ∷ filter p ls) (filter p ls) (λ ks. units ks ≤ l.amount + units ls) (λ e. omega arith) (λ e. omega arith)

pub units-parts : (x : ℕ) (ls : List Lot) → units (ended x ls) + units (lasting x ls) ≡ units ls
units-parts x [] = refl
units-parts x (l ∷ ls) = let h = units-parts x ls in grind (arith, nat_tests)

pub units_lot : (n e : ℕ) → units (as_lot n e) ≡ n
units_lot n e = grind (arith, nat_tests)

-- the order of a lot and those after it, taken apart and put together
pub parts : (d : ℕ) (l : Lot) (ls : List Lot) → rising d (l ∷ ls) ≡ true → (1 ≤ l.amount) × (d ≤ l.end.0) × (rising (l.end.0 + 1) ls ≡ true)
parts d l ls s = (grind (arith, nat_tests), grind (arith, nat_tests), grind (arith, nat_tests))

pub made : (d : ℕ) (l : Lot) (ls : List Lot) → 1 ≤ l.amount → d ≤ l.end.0 → rising (l.end.0 + 1) ls ≡ true → rising d (l ∷ ls) ≡ true
made d l ls a h s = grind (arith, nat_tests)

weaker : (d e : ℕ) (ls : List Lot) → d ≤ e → rising e ls ≡ true → rising d ls ≡ true
weaker d e [] h s = refl
weaker d e (l ∷ ls) h s = let p = parts e l ls s in made d l ls p.0 (omega arith) p.2

pub after : (d : ℕ) (l : Lot) (ls : List Lot) → rising d (l ∷ ls) ≡ true → rising d ls ≡ true
after d l ls s = let p = parts d l ls s in weaker d (l.end.0 + 1) ls (omega arith) p.2

pub rising_lot : (d n e : ℕ) → d ≤ e → rising d (as_lot n e) ≡ true
rising_lot d n e h = grind (arith, nat_tests)

-- Draw
pub rising-undrawn : (d n : ℕ) (ls : List Lot) → rising d ls ≡ true → rising d (undrawn n ls) ≡ true
rising-undrawn d n [] s = refl
rising-undrawn d n (l ∷ ls) s =
    let p = parts d l ls s in
    let h = rising-undrawn d (n - l.amount) ls (after d l ls s) in
    grind (arith, nat_tests)

pub units-undrawn : (n : ℕ) (ls : List Lot) → units (undrawn n ls) ≡ units ls - n
units-undrawn n [] = omega arith
units-undrawn n (l ∷ ls) = let h = units-undrawn (n - l.amount) ls in grind (arith, nat_tests)

pub length-undrawn : (n : ℕ) (ls : List Lot) → length (undrawn n ls) ≤ length ls
length-undrawn n [] = omega arith
length-undrawn n (l ∷ ls) = let h = length-undrawn (n - l.amount) ls in grind (arith, nat_tests)

pub none-undrawn : (n : ℕ) (ls : List Lot) → units ls ≤ n → undrawn n ls ≡ []
none-undrawn n [] h = refl
none-undrawn n (l ∷ ls) h = let r = none-undrawn (n - l.amount) ls (omega arith) in grind (arith, nat_tests)

-- Lapse
pub rising_kept : (d : ℕ) (p : Lot → Bool) (ls : List Lot) → rising d ls ≡ true → rising d (filter p ls) ≡ true
rising_kept d p [] s = refl
rising_kept d p (l ∷ ls) s =
    let q = parts d l ls s in
    let h = rising_kept (l.end.0 + 1) p ls q.2 in
    let g = rising_kept d p ls (after d l ls s) in
    grind (arith, nat_tests)

pub length_kept : (p : Lot → Bool) (ls : List Lot) → length (filter p ls) ≤ length ls
length_kept p [] = omega arith
length_kept p (l ∷ ls) =
    let h = length_kept p ls in
    cond_both (p l) (l ∷ filter p ls) (filter p ls) (λ ks. length ks ≤ length (l ∷ ls)) (λ e. omega arith) (λ e. omega arith)

pub lasting_again : (x y : ℕ) (ls : List Lot) → x ≤ y → lasting y (lasting x ls) ≡ lasting y ls
lasting_again x y [] h = refl
lasting_again x y (l ∷ ls) h = let r = lasting_again x y ls h in grind (arith, nat_tests)

pub ended_again : (x y : ℕ) (ls : List Lot) → x ≤ y → units (ended x ls) + units (ended y (lasting x ls)) ≡ units (ended y ls)
ended_again x y [] h = refl
ended_again x y (l ∷ ls) h = let r = ended_again x y ls h in grind (arith, nat_tests)

-- with ends from d on, nothing ends before d
pub none-ended : (x d : ℕ) (ls : List Lot) → x < d → rising d ls ≡ true → units (ended x ls) ≡ 0
none-ended x d [] h s = refl
none-ended x d (l ∷ ls) h s =
    let p = parts d l ls s in
    let r = none-ended x (l.end.0 + 1) ls (omega arith) p.2 in
    grind (arith, nat_tests)

-- a draw takes first what ends first
pub ended-undrawn : (x d n : ℕ) (ls : List Lot) → rising d ls ≡ true → units (ended x (undrawn n ls)) ≡ units (ended x ls) - n
ended-undrawn x d n [] s = omega arith
ended-undrawn x d n (l ∷ ls) s =
    let p = parts d l ls s in
    let h = ended-undrawn x (l.end.0 + 1) (n - l.amount) ls p.2 in
    let z : x < l.end.0 → units (ended x ls) ≡ 0 = λ lt. none-ended x (l.end.0 + 1) ls (omega arith) p.2 in
    grind (arith, nat_tests)
