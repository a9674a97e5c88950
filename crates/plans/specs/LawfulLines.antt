-- The three lines: their tables, which pass the test of lawful tables.
use Rattle.std.specs.Prelude.{refl}
use Rattle.tariff.specs.LawfulTables.{tables_lawful}
use Rattle.tariff.specs.Tables.{listed_terms, listed_entry}
use Rattle.tariff.specs.Terms.{Lawful, Tariff}
use Rattle.plans.specs.Doimiy.{doimiy_plans, doimiy_ways}
use Rattle.plans.specs.SinglePlans.{single_plans, single_ways}
use Rattle.plans.specs.Sof.{sof_plans, sof_ways}

pub doimiy_lawful : Lawful (listed_terms doimiy_plans) (listed_entry doimiy_ways)
doimiy_lawful = tables_lawful doimiy_plans doimiy_ways refl

pub sof_lawful : Lawful (listed_terms sof_plans) (listed_entry sof_ways)
sof_lawful = tables_lawful sof_plans sof_ways refl

pub single_lawful : Lawful (listed_terms single_plans) (listed_entry single_ways)
single_lawful = tables_lawful single_plans single_ways refl

abbrev pub doimiy : Tariff
doimiy = record { terms = listed_terms doimiy_plans; entry = listed_entry doimiy_ways; lawful = doimiy_lawful }

abbrev pub sof : Tariff
sof = record { terms = listed_terms sof_plans; entry = listed_entry sof_ways; lawful = sof_lawful }

abbrev pub single_line : Tariff
single_line = record { terms = listed_terms single_plans; entry = listed_entry single_ways; lawful = single_lawful }
