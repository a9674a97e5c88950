-- The single plans Ovoz 15 and Internet 60: what is left at a due day ends.
use Rattle.std.specs.Prelude.{List, [], ◌∷◌}
use Rattle.tariff.specs.Tables.{Plan, plan, Way, way, codes, code, anyhow}
use Rattle.tariff.specs.declared.terms.Fate.TheVariants.{Kept, Wiped}
use Rattle.plans.specs.Plans.{ending, internet_plan, free_entry, charged_entry}

-- Ovoz 15: 1,500 minutes, 500 megabytes, 1,500 messages, each unit beyond 50.
-- Internet 60: 30,720 megabytes, each beyond 25, and no other service.
abbrev pub single_plans : List Plan
single_plans = plan 21 (ending 15 1_500 500 1_500 50) ∷ (plan 22 (internet_plan 60 30_720 25) ∷ [])

-- To Ovoz 15 entry is charged and wipes, from wherever it is.
-- To Internet 60 it is charged and wipes from the last three codes of Doimiy, is free and wipes from the first three and from
-- Sof, and is free and keeps from Ovoz 15.
abbrev pub single_ways : List Way
single_ways =
    way (codes 1 6) anyhow (code 21) (charged_entry Wiped)
    ∷ (way (codes 11 16) anyhow (code 21) (charged_entry Wiped)
    ∷ (way (code 22) anyhow (code 21) (charged_entry Wiped)
    ∷ (way (codes 4 6) anyhow (code 22) (charged_entry Wiped)
    ∷ (way (codes 1 3) anyhow (code 22) (free_entry Wiped)
    ∷ (way (codes 11 16) anyhow (code 22) (free_entry Wiped)
    ∷ (way (code 21) anyhow (code 22) (free_entry Kept)
    ∷ []))))))
