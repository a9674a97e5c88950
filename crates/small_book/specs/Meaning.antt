-- What a small book means.
use Rattle.book.specs.Allowance.{Allowance, as_lot}
use Rattle.small_book.specs.declared.small.Small.{Small}

abbrev pub meaning : Small → Allowance
meaning b = record { fresh = b.fresh; lots = as_lot b.old b.end.0 }
