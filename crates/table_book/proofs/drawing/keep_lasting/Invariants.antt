-- The lots that last, of those seen so far, are in the front, and the sum is of the others.
use Rattle.std.proofs.Common.{◌≡◌, ◌+◌, not, leb, take, drop}
use Rattle.std.proofs.lemmas.List.Filters.{FiltersInPlace}
use Rattle.book.specs.Allowance.{units, ended}
use Rattle.table_book.proofs.drawing.keep_lasting.Given as goal

abbrev pub invariant-loop-i : goal.invariant-loop-i
invariant-loop-i l =
    FiltersInPlace (λ k. not (leb k.end.0 l.day.0)) l.initial.lots l.lots l.stay l.i
    × (l.sum + units (ended l.day.0 (drop l.i (take l.len l.initial.lots))) ≡ units (ended l.day.0 (take l.len l.initial.lots)))
