-- The world of the three lines.
use Rattle.std.specs.Prelude.{ℕ}
use Rattle.tariff.specs.LawfulTogether.{joined_lawful}
use Rattle.plans.specs.LawfulLines.{doimiy_lawful, sof_lawful, single_lawful}
use Rattle.plans.specs.ThreeLines.{all_terms, all_entry}
use Rattle.rules.specs.State.{World}
use Rattle.rules.specs.Gregorian.{gregorian}

-- The Gregorian calendar, the three lines, and books with room for so many old lots.
abbrev pub three_lines : ℕ → World
three_lines lots = record {
  calendar = gregorian;
  terms = all_terms;
  entry = all_entry;
  capacity = lots;
  lawful = joined_lawful _ _ _ _ doimiy_lawful (joined_lawful _ _ _ _ sof_lawful single_lawful);
}
