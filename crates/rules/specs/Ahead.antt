-- What the handling of a due day reads of an account: all but the old lots, which it drops.
use Rattle.std.specs.Prelude.{[]}
use Rattle.quantities.specs.Units.{each}
use Rattle.rules.specs.State.{State, with_books}

-- a state without its old lots
abbrev pub stripped : State → State
stripped s = with_books (each (λ k b. record { fresh = b.fresh; lots = [] }) s.books) s
