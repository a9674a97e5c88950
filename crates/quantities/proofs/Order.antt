-- What the order of days, and of moments, says of their numbers.
use Rattle.std.specs.Prelude.{◌≡◌, ℕ, ◌≤◌, false}
use Rattle.std.specs.Ordering.{is_lt, is_gt, nat_cmp}
use Rattle.std.proofs.Common.{arith}
use Rattle.std.proofs.lemmas.Bool.Decides.{nat_tests}

pub not_past : (x y : ℕ) → false ≡ is_gt (nat_cmp x y) → x ≤ y
not_past x y h = grind (arith, nat_tests)

pub not_before : (x y : ℕ) → false ≡ is_lt (nat_cmp x y) → y ≤ x
not_before x y h = grind (arith, nat_tests)
