-- The line Doimiy: unlimited minutes, and what is left is carried.
use Rattle.std.specs.Prelude.{List, [], ◌∷◌}
use Rattle.tariff.specs.Tables.{Plan, plan, Way, way, codes, code, upward, downward, anyhow}
use Rattle.tariff.specs.declared.terms.Fate.TheVariants.{Kept, Wiped}
use Rattle.plans.specs.Plans.{carrying, unlimited, free_entry, charged_entry}

-- For each code: the number in the plan's name, what a fee grants (minutes, megabytes, messages), and the price of each unit beyond.
abbrev pub doimiy_plans : List Plan
doimiy_plans =
    plan 1 (carrying 20 unlimited 5_120 500 50)
    ∷ (plan 2 (carrying 35 unlimited 10_240 1_000 50)
    ∷ (plan 3 (carrying 50 unlimited 20_480 1_500 25)
    ∷ (plan 4 (carrying 70 unlimited 35_840 2_000 25)
    ∷ (plan 5 (carrying 100 unlimited 51_200 2_500 25)
    ∷ (plan 6 (carrying 150 unlimited 204_800 3_000 25)
    ∷ [])))))

-- From a lower code of the line entry is free and keeps what is left; from a higher it is charged and wipes.
-- From Sof and from Ovoz 15 it is free and wipes.
-- From Internet 60 it is charged to the first three codes, free to the other three, and wipes.
abbrev pub doimiy_ways : List Way
doimiy_ways =
    way (codes 1 6) upward (codes 1 6) (free_entry Kept)
    ∷ (way (codes 1 6) downward (codes 1 6) (charged_entry Wiped)
    ∷ (way (codes 11 16) anyhow (codes 1 6) (free_entry Wiped)
    ∷ (way (code 21) anyhow (codes 1 6) (free_entry Wiped)
    ∷ (way (code 22) anyhow (codes 1 3) (charged_entry Wiped)
    ∷ (way (code 22) anyhow (codes 4 6) (free_entry Wiped)
    ∷ [])))))
