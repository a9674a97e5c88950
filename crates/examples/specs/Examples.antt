-- Worked examples of the rules: one table, under one theorem.
use Rattle.std.specs.Prelude.{◌≡◌, ℕ, List, [], ◌∷◌, ◌++◌, Some, codes, Option}
use Rattle.calendar.specs.declared.date.Date.{Date}
use Rattle.calendar.specs.Dates.{number}
use Rattle.calendar.specs.Due.{date_of, due_after}
use Rattle.tariff.specs.Terms.{Entry}
use Rattle.tariff.specs.declared.terms.Fate.TheVariants.{Kept, Wiped}
use Rattle.plans.specs.ThreeLines.{all_entry}
use Rattle.statement_file.specs.Statement.{text_of_statement}
use Rattle.examples.specs.ThreeLines.{three_lines}

-- An example of each kind, with what is given and what the rules say.
pub data Example : Type 0 where
  -- a day and its date
  dated : ℕ → Date → Example
  -- the date of a fee, the anchor, and the date on which the next fee falls due
  due : Date → ℕ → Date → Example
  -- the code of a plan, the code of another, and what entry from the first to the second costs and does
  entered : ℕ → ℕ → Option Entry → Example
  -- the bytes of an event file, and those of its statement under the three lines
  stated : List ℕ → Option (List ℕ) → Example

-- An example worked out again by the rules: what is given stays, and what the rules say is computed.
abbrev pub worked : Example → Example
worked (dated d t) = dated (number t) (date_of d)
worked (due t a u) = due t a (date_of (due_after (number t) a))
worked (entered a b e) = entered a b (all_entry a b)
worked (stated file text) = stated file (text_of_statement three_lines file)

-- the date of a year, a month and a day
abbrev pub on : ℕ → ℕ → ℕ → Date
on y m d = record { year = y; month = m; day = d }

-- Five calls, and the opening on Ovoz 15 at moment 0.
abbrev pub first_month : List ℕ
first_month =
    -- a top-up of 20,000 at moment 600, which pays the first fee
    (1 ∷ 0 ∷ 0 ∷ 0 ∷ 32 ∷ 78 ∷ 0 ∷ 0 ∷ 88 ∷ 2 ∷ 0 ∷ 0 ∷ 0 ∷ 0 ∷ 0 ∷ 0 ∷ [])
    -- a use of 600 megabytes at 700, more than the allowance of 500
    ++ (2 ∷ 2 ∷ 0 ∷ 0 ∷ 88 ∷ 2 ∷ 0 ∷ 0 ∷ 188 ∷ 2 ∷ 0 ∷ 0 ∷ 0 ∷ 0 ∷ 0 ∷ 0 ∷ [])
    -- the option at 701
    ++ (5 ∷ 0 ∷ 0 ∷ 0 ∷ 0 ∷ 0 ∷ 0 ∷ 0 ∷ 189 ∷ 2 ∷ 0 ∷ 0 ∷ 0 ∷ 0 ∷ 0 ∷ 0 ∷ [])
    -- the use again at 702: 100 beyond the allowance, at 50 each
    ++ (2 ∷ 2 ∷ 0 ∷ 0 ∷ 88 ∷ 2 ∷ 0 ∷ 0 ∷ 190 ∷ 2 ∷ 0 ∷ 0 ∷ 0 ∷ 0 ∷ 0 ∷ 0 ∷ [])
    -- a day mark at 44,640, the due day, with nothing left to pay the fee
    ++ (6 ∷ 0 ∷ 0 ∷ 0 ∷ 0 ∷ 0 ∷ 0 ∷ 0 ∷ 96 ∷ 174 ∷ 0 ∷ 0 ∷ 0 ∷ 0 ∷ 0 ∷ 0 ∷ [])
    -- five records from offset 0 on, plan 21, moment 0
    ++ (0 ∷ 0 ∷ 0 ∷ 0 ∷ 5 ∷ 0 ∷ 0 ∷ 0 ∷ 21 ∷ 0 ∷ 0 ∷ 0 ∷ 0 ∷ 0 ∷ 0 ∷ 0 ∷ [])

abbrev pub examples : List Example
examples =
    dated 59 (on 2000 2 29)
    ∷ dated 36_583 (on 2100 2 28)
    -- the anchor survives a short month
    ∷ due (on 2023 1 31) 31 (on 2023 2 28)
    ∷ due (on 2023 2 28) 31 (on 2023 3 31)
    -- and February has a 29th day in a leap year
    ∷ due (on 2024 1 31) 31 (on 2024 2 29)
    -- from Doimiy 50 back to Doimiy 35 entry is charged and wipes
    ∷ entered 3 2 (Some (record { price = 2_105; fate = Wiped }))
    -- and from Internet 60 to Sof 70 it is free and keeps
    ∷ entered 22 15 (Some (record { price = 0; fate = Kept }))
    ∷ stated first_month (Some (codes "0 0 15000 0 0 5000\n1 9 0 0 0 5000\n2 0 0 0 0 5000\n3 0 0 5000 0 0\n4 0 0 0 0 0\nblocked\n"))
    ∷ []

-- what holds of every example of a list
abbrev pub Every : (Example → Type 0) → List Example → Type 0
Every P [] = Unit {0}
Every P (e ∷ es) = P e × Every P es

-- An example holds if the rules give what it says.
abbrev pub Holds : Example → Type 0
Holds e = worked e ≡ e

-- Every example of the table holds.
abbrev pub ExamplesHold : Type 0
ExamplesHold = Every Holds examples
