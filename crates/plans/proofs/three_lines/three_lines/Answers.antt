-- The three lines together are lawful since each is, and the examples are computed from the tables.
use Rattle.std.proofs.Common.{refl}
use Rattle.tariff.specs.LawfulTogether.{joined_lawful}
use Rattle.plans.specs.LawfulLines.{doimiy_lawful, sof_lawful, single_lawful}
use Rattle.plans.proofs.three_lines.three_lines.Goals as goal

pub returns : goal.returns
returns c = record {
  lawful = joined_lawful _ _ _ _ doimiy_lawful (joined_lawful _ _ _ _ sof_lawful single_lawful);
  examples = (refl, refl);
}
