-- The table is worked out in proofs/Worked.antt.
use Rattle.examples.proofs.Worked.{examples_hold}
use Rattle.examples.proofs.examples_stand.Goals as goal

pub returns : goal.returns
returns c = examples_hold
