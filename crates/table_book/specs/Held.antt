-- The old lots that a table holds: the first `len` of its array.
use Rattle.std.specs.Prelude.{List, take}
use Rattle.book.specs.declared.lot.Lot.{Lot}
use Rattle.table_book.specs.declared.lots.Lots.{Lots}

abbrev pub held : Lots → List Lot
held t = take t.len t.lots
