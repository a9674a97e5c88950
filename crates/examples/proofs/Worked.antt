-- A table that stays the same when all of it is worked out again is one of examples that hold.
use Rattle.std.proofs.Common.{◌≡◌, List, [], ◌∷◌, map, refl}
use Rattle.std.specs.Fmt.{digits}
use Rattle.calendar.specs.Due.{month_of, month_day, due_after}
use Rattle.examples.specs.Examples.{Example, worked, examples, Every, Holds, ExamplesHold}

every : (es : List Example) → map worked es ≡ es → Every Holds es
every [] h = tt
every (e ∷ es) h = (cc, every es (cc))

pub examples_hold : ExamplesHold
unfolding month_of month_day due_after digits
examples_hold = every examples refl
