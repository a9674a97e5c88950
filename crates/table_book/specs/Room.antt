-- How many old lots a table book has room for.
use Rattle.std.specs.Prelude.{ℕ, cond, List, length, Ok, Err, Result, nat_le}
use Rattle.book.specs.declared.fault.BookFault.{BookFault}
use Rattle.book.specs.declared.fault.BookFault.TheVariants.{TooManyLots}
use Rattle.book.specs.declared.lot.Lot.{Lot}

abbrev pub most_lots : ℕ
most_lots = 31

-- What is answered where these lots are to stand.
abbrev pub room_answer : List Lot → Result Unit BookFault
room_answer ls = cond (nat_le (length ls) most_lots) (Ok tt) (Err TooManyLots)
