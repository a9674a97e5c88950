-- A line written down as two tables: its plans, and the ways that lead to them.
use Rattle.std.specs.Prelude.{ℕ, zero, suc, ◌+◌, ◌-◌, Bool, true, cond, ◌&&◌, ◌||◌, ltb, List, [], ◌∷◌, is_some, Some, None, Option, ◌==◌, nat_le, nat_lt}
use Rattle.quantities.specs.Limits.{most_fee, most_grant, most_price, most_entry_price}
use Rattle.tariff.specs.Terms.{Terms, UnitTerms, Entry}

-- ## The table of plans

-- a row: a code, and the terms of its plan
pub record Plan : Type 0 where
  pub code : ℕ
  pub terms : Terms

abbrev pub plan : ℕ → Terms → Plan
plan c t = record { code = c; terms = t }

-- a code has the terms of the first row that names it, and no terms where none does
abbrev pub listed_terms : List Plan → ℕ → Option Terms
listed_terms [] c = None
listed_terms (p ∷ ps) c = cond (c == p.code) (Some p.terms) (listed_terms ps c)

-- ## The table of ways

-- codes from one to another, both included
pub record Codes : Type 0 where
  pub least : ℕ
  pub most : ℕ

abbrev pub codes : ℕ → ℕ → Codes
codes a b = record { least = a; most = b }

abbrev pub code : ℕ → Codes
code a = codes a a

abbrev pub among : Codes → ℕ → Bool
among r c = nat_le r.least c && nat_le c r.most

-- whether a way leads from a lower code only, from a higher only, or from either
pub data Direction : Type 0 where
  upward : Direction
  downward : Direction
  anyhow : Direction

abbrev pub goes : Direction → ℕ → ℕ → Bool
goes upward a b = nat_lt a b
goes downward a b = nat_lt b a
goes anyhow a b = true

-- a row: from which codes, in which direction, to which codes, and what entry takes
pub record Way : Type 0 where
  pub from : Codes
  pub direction : Direction
  pub to : Codes
  pub takes : Entry

abbrev pub way : Codes → Direction → Codes → Entry → Way
way f d t e = record { from = f; direction = d; to = t; takes = e }

abbrev pub joins : Way → ℕ → ℕ → Bool
joins w a b = among w.from a && (among w.to b && goes w.direction a b)

-- entry is what the first row says that joins the two codes, and nothing where none does
abbrev pub listed_entry : List Way → ℕ → ℕ → Option Entry
listed_entry [] a b = None
listed_entry (w ∷ ws) a b = cond (joins w a b) (Some w.takes) (listed_entry ws a b)

-- ## The test that two tables are lawful

abbrev pub unit_within : UnitTerms → Bool
unit_within u = nat_le u.amount most_grant && nat_le u.beyond most_price

abbrev pub plan_within : Plan → Bool
plan_within p =
    nat_le 1 p.code && (nat_le 1 p.terms.fee && (nat_le p.terms.fee most_fee && (nat_le p.terms.abroad_price most_price
    && (unit_within p.terms.units.minutes && (unit_within p.terms.units.megabytes && unit_within p.terms.units.messages)))))

abbrev pub plans_within : List Plan → Bool
plans_within [] = true
plans_within (p ∷ ps) = plan_within p && plans_within ps

-- a way that has a direction leads from no code to itself, nor does one between ranges that lie apart
abbrev pub way_apart : Way → Bool
way_apart w = elim w.direction [ upward ↦ true | downward ↦ true | anyhow ↦ nat_lt w.from.most w.to.least || ltb w.to.most w.from.least ]

-- whether the n codes from c on all have terms
abbrev pub all_listed : List Plan → ℕ → ℕ → Bool
all_listed ps c zero = true
all_listed ps c (suc n) = is_some (listed_terms ps (c + n)) && all_listed ps c n

abbrev pub way_within : List Plan → Way → Bool
way_within ps w = nat_le w.takes.price most_entry_price && (way_apart w && all_listed ps w.to.least (suc w.to.most - w.to.least))

abbrev pub ways_within : List Plan → List Way → Bool
ways_within ps [] = true
ways_within ps (w ∷ ws) = way_within ps w && ways_within ps ws

-- Plans keep to the limits and none has code 0; ways keep to the limits, lead from no code to itself, and only to listed plans.
abbrev pub lawful_tables : List Plan → List Way → Bool
lawful_tables ps ws = plans_within ps && ways_within ps ws
