-- What a table book means.
use Rattle.book.specs.Allowance.{Allowance}
use Rattle.table_book.specs.declared.table.Table.{Table}
use Rattle.table_book.specs.Held.{held}

abbrev pub meaning : Table → Allowance
meaning b = record { fresh = b.fresh; lots = held b.old }
