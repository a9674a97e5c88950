-- Lots put together one after another: their sum, their number and their order.
use Rattle.std.proofs.Common.{◌≡◌, ℕ, ◌+◌, ◌<◌, ◌≤◌, min, true, List, [], ◌∷◌, ◌++◌, length, fold, refl, ap, ◌∙◌, arith, length-append}
use Rattle.std.proofs.lemmas.Bool.Decides.{nat_tests}
use Rattle.book.specs.declared.lot.Lot.{Lot}
use Rattle.book.specs.Allowance.{units, rising, as_lot, with_lot, with_capped, gathered}
use Rattle.book.proofs.Lots.{parts, made, units_lot, rising_lot}

-- the lot with its end lowered to c where it is past c
abbrev pub capped : ℕ → Lot → Lot
capped c l = record { amount = l.amount; end = record { 0 = min c l.end.0 } }

-- one lot more
pub units_with : (l : Lot) (ks : List Lot) → units (with_lot l ks) ≡ units ks + l.amount
units_with l [] = omega arith
units_with l (k ∷ ks) = let h = units_with l ks in grind (arith, nat_tests)

pub length_with : (l : Lot) (ks : List Lot) → length (with_lot l ks) ≤ length ks + 1
length_with l [] = omega arith
length_with l (k ∷ ks) = let h = length_with l ks in grind (arith, nat_tests)

rising_with : (d : ℕ) (l : Lot) (ks : List Lot) → 1 ≤ l.amount → d ≤ l.end.0 → rising d ks ≡ true → rising d (with_lot l ks) ≡ true
rising_with d l [] a h s = made d l [] a h refl
rising_with d l (k ∷ ks) a h s =
    let p = parts d k ks s in
    let r : k.end.0 < l.end.0 → rising (k.end.0 + 1) (with_lot l ks) ≡ true = λ lt. rising_with (k.end.0 + 1) l ks a (omega arith) p.2 in
    grind (arith, nat_tests)

-- many
rising_all : (c d e : ℕ) (ks ls : List Lot) → d ≤ c → d ≤ e → rising d ks ≡ true → rising e ls ≡ true → rising d (fold (with_capped c) ks ls) ≡ true
rising_all c d e ks [] h k s r = s
rising_all c d e ks (l ∷ ls) h k s r =
    let p = parts e l ls r in
    rising_all c d (l.end.0 + 1) (with_capped c ks l) ls h (omega arith) (rising_with d (capped c l) ks p.0 (omega arith) s) p.2

units_all : (c : ℕ) (ks ls : List Lot) → units (fold (with_capped c) ks ls) ≡ units ks + units ls
units_all c ks [] = omega arith
units_all c ks (l ∷ ls) =
    let h = units_all c (with_capped c ks l) ls in
    let u = units_with (capped c l) ks in
    omega arith

length_all : (c : ℕ) (ks ls : List Lot) → length (fold (with_capped c) ks ls) ≤ length ks + length ls
length_all c ks [] = omega arith
length_all c ks (l ∷ ls) =
    let h = length_all c (with_capped c ks l) ls in
    let u = length_with (capped c l) ks in
    omega arith

all_append : (c : ℕ) (js ks ls : List Lot) → fold (with_capped c) js (ks ++ ls) ≡ fold (with_capped c) (fold (with_capped c) js ks) ls
all_append c js [] ls = refl
all_append c js (k ∷ ks) ls = all_append c (with_capped c js k) ks ls

pub units-gathered : (c : ℕ) (ls : List Lot) → units (gathered c ls) ≡ units ls
units-gathered c ls = let h = units_all c [] ls in omega arith

pub length-gathered : (c : ℕ) (ls : List Lot) → length (gathered c ls) ≤ length ls
length-gathered c ls = let h = length_all c [] ls in omega arith

pub units-aside : (n e c : ℕ) (ls : List Lot) → units (gathered c (ls ++ as_lot n e)) ≡ units ls + n
units-aside n e c ls =
    ap units (all_append c [] ls (as_lot n e))
    ∙ units_all c (gathered c ls) (as_lot n e)
    ∙ (let h = units-gathered c ls in let k = units_lot n e in omega arith)

pub rising-aside : (d n e c : ℕ) (ls : List Lot) → d ≤ e → d ≤ c → rising d ls ≡ true → rising d (gathered c (ls ++ as_lot n e)) ≡ true
rising-aside d n e c ls h k s =
    ap (rising d) (all_append c [] ls (as_lot n e))
    ∙ rising_all c d d (gathered c ls) (as_lot n e) k (omega arith) (rising_all c d d [] ls k (omega arith) refl s) (rising_lot d n e h)

-- lots put to no fresh amount are only lowered and joined
pub length-aside-none : (n e c : ℕ) (ls : List Lot) → n ≡ 0 → length (gathered c (ls ++ as_lot n e)) ≤ length ls
length-aside-none n e c ls z =
    let h = length-gathered c (ls ++ as_lot n e) in
    let a = length-append ls (as_lot n e) in
    let l : length (as_lot n e) ≡ 0 = grind (arith, nat_tests) in
    omega arith
