-- The number and the words by which a book's refusal is told.
use Rattle.std.specs.Prelude.{ℕ, List, codes}
use Rattle.book.specs.declared.fault.BookFault.{BookFault}
use Rattle.book.specs.declared.fault.BookFault.TheVariants.{NotEmpty, TooLarge, TooManyLots, TooManyUnits}

-- A refusal by a book has number 12, whatever its reason.
abbrev pub fault_number : BookFault → ℕ
fault_number NotEmpty = 12
fault_number TooLarge = 12
fault_number TooManyLots = 12
fault_number TooManyUnits = 12

-- The words name the reason.
abbrev pub reason : BookFault → List ℕ
reason NotEmpty = codes "not-empty"
reason TooLarge = codes "too-large"
reason TooManyLots = codes "too-many-lots"
reason TooManyUnits = codes "too-many-units"
