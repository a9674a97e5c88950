-- The world of the three lines.
use Rattle.tariff.specs.LawfulTogether.{joined_lawful}
use Rattle.plans.specs.LawfulLines.{doimiy_lawful, sof_lawful, single_lawful}
use Rattle.plans.specs.ThreeLines.{all_terms, all_entry}
use Rattle.rules.specs.State.{World}
use Rattle.rules.specs.Gregorian.{gregorian}

-- The Gregorian calendar, the three lines, and books of 31 old lots.
abbrev pub three_lines : World
three_lines = record {
  calendar = gregorian;
  terms = all_terms;
  entry = all_entry;
  capacity = 31;
  lawful = joined_lawful _ _ _ _ doimiy_lawful (joined_lawful _ _ _ _ sof_lawful single_lawful);
}
