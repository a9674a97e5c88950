-- The lots that last past a day: no more of them, no more units, and in order.
use Rattle.std.proofs.Common.{◌≡◌, ℕ, ◌≤◌, true, not, List, leb, length, ap, ◌∙◌, arith}
use Rattle.book.specs.declared.lot.Lot.{Lot}
use Rattle.book.specs.Allowance.{units, rising, lasting}
use Rattle.book.proofs.Lots.{units_kept, length_kept, rising_kept}

pub units_lasting : (ks ls : List Lot) (x : ℕ) → ks ≡ lasting x ls → units ks ≤ units ls
units_lasting ks ls x e = let h = units_kept (λ l. not (leb l.end.0 x)) ls in omega (arith, ap units e)

pub length_lasting : (ks ls : List Lot) (x : ℕ) → ks ≡ lasting x ls → length ks ≤ length ls
length_lasting ks ls x e = let h = length_kept (λ l. not (leb l.end.0 x)) ls in omega (arith, ap length e)

pub rising_lasting : (ks ls : List Lot) (x : ℕ) → ks ≡ lasting x ls → rising 0 ls ≡ true → rising 0 ks ≡ true
rising_lasting ks ls x e s = ap (rising 0) e ∙ rising_kept 0 (λ l. not (leb l.end.0 x)) ls s
