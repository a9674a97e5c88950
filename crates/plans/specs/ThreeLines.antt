-- The three lines as one: Doimiy, then Sof, then the single plans.
use Rattle.std.specs.Prelude.{◌≡◌, ℕ, Some, Option}
use Rattle.tariff.specs.Tables.{listed_terms, listed_entry}
use Rattle.tariff.specs.Terms.{Terms, Entry, Lawful}
use Rattle.tariff.specs.Together.{joined_terms, joined_entry}
use Rattle.tariff.specs.declared.terms.Fate.TheVariants.{Kept, Wiped}
use Rattle.plans.specs.Doimiy.{doimiy_plans, doimiy_ways}
use Rattle.plans.specs.Plans.{free_entry, charged_entry}
use Rattle.plans.specs.SinglePlans.{single_plans, single_ways}
use Rattle.plans.specs.Sof.{sof_plans, sof_ways}

abbrev pub all_terms : ℕ → Option Terms
all_terms = joined_terms (listed_terms doimiy_plans) (joined_terms (listed_terms sof_plans) (listed_terms single_plans))

abbrev pub all_entry : ℕ → ℕ → Option Entry
all_entry =
    joined_entry (listed_terms doimiy_plans) (listed_entry doimiy_ways)
    (joined_entry (listed_terms sof_plans) (listed_entry sof_ways) (listed_entry single_ways))

-- The three lines as one keep to the limits.
abbrev pub ThreeLinesLawful : Type 0
ThreeLinesLawful = Lawful all_terms all_entry

-- From Doimiy 50 back to Doimiy 35 entry is charged and wipes; from Internet 60 to Sof 70 it is free and keeps.
abbrev pub EntriesOfNote : Type 0
EntriesOfNote = (all_entry 3 2 ≡ Some (charged_entry Wiped)) × (all_entry 22 15 ≡ Some (free_entry Kept))
