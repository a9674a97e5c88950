-- The line Sof: what is left is carried.
use Rattle.std.specs.Prelude.{List, [], ◌∷◌}
use Rattle.tariff.specs.Tables.{Plan, plan, Way, way, codes, code, upward, downward, anyhow}
use Rattle.tariff.specs.declared.terms.Fate.TheVariants.{Kept, Wiped}
use Rattle.plans.specs.Plans.{carrying, unlimited, free_entry, charged_entry}

-- For each code: the number in the plan's name, what a fee grants (minutes, megabytes, messages), and the price of each unit beyond.
abbrev pub sof_plans : List Plan
sof_plans =
    plan 11 (carrying 18 1_200 3_072 500 50)
    ∷ (plan 12 (carrying 30 3_000 7_168 1_000 50)
    ∷ (plan 13 (carrying 40 unlimited 10_240 1_500 25)
    ∷ (plan 14 (carrying 50 unlimited 13_312 2_500 25)
    ∷ (plan 15 (carrying 70 unlimited 22_528 4_000 25)
    ∷ (plan 16 (carrying 100 unlimited 35_840 5_000 25)
    ∷ [])))))

-- From a lower code of the line entry is free and keeps what is left; from a higher it is charged and wipes.
-- From Ovoz 15 it is free and keeps.
-- From Internet 60 it is charged and wipes to the first four codes, and is free and keeps to the last two.
-- From Doimiy no way leads to Sof.
abbrev pub sof_ways : List Way
sof_ways =
    way (codes 11 16) upward (codes 11 16) (free_entry Kept)
    ∷ (way (codes 11 16) downward (codes 11 16) (charged_entry Wiped)
    ∷ (way (code 21) anyhow (codes 11 16) (free_entry Kept)
    ∷ (way (code 22) anyhow (codes 11 14) (charged_entry Wiped)
    ∷ (way (code 22) anyhow (codes 15 16) (free_entry Kept)
    ∷ []))))
