-- Units as a sum in the library's words.
use Rattle.std.proofs.Common.{◌≡◌, List, refl}
use Rattle.std.specs.List.{sum_by}
use Rattle.std.proofs.lemmas.List.Recursion.{is_sum_by}
use Rattle.book.specs.declared.lot.Lot.{Lot}
use Rattle.book.specs.Allowance.{units}

pub units_sum : (ls : List Lot) → units ls ≡ sum_by (λ l. l.amount) ls
units_sum = is_sum_by units (λ l. l.amount) refl (λ _ _. refl)
