-- What the plans of the three lines have in common.
use Rattle.std.specs.Prelude.{ℕ, ◌*◌, Bool, true, false}
use Rattle.tariff.specs.Terms.{Terms, UnitTerms, Entry}
use Rattle.tariff.specs.declared.terms.Fate.{Fate}

-- Unlimited minutes are a grant of 45,000: a month of 31 days has 44,640.
abbrev pub unlimited : ℕ
unlimited = 45_000

-- An international message costs 1,000 sums.
abbrev pub abroad_cost : ℕ
abroad_cost = 1_000

-- A service that is offered: what each fee grants, what each unit beyond costs, and whether a Restart wipes what is left.
abbrev pub offered_unit : ℕ → ℕ → Bool → UnitTerms
offered_unit n price wipes = record { offered = true; amount = n; beyond = price; restart_wipes = wipes }

-- A service that isn't offered: amount and price are 0.
abbrev pub missing_unit : Bool → UnitTerms
missing_unit wipes = record { offered = false; amount = 0; beyond = 0; restart_wipes = wipes }

-- A plan of all services: the number in its name, the minutes, megabytes and messages that each fee grants, the price of each
-- unit beyond, and whether it carries. Its fee is the number in its name times 1,000. A Restart wipes minutes and megabytes, and
-- keeps messages.
abbrev pub full_plan : ℕ → ℕ → ℕ → ℕ → ℕ → Bool → Terms
full_plan name minutes megabytes messages price carried = record {
  fee = name * 1_000;
  units = record {
    minutes = offered_unit minutes price true;
    megabytes = offered_unit megabytes price true;
    messages = offered_unit messages price false;
  };
  abroad = true;
  abroad_price = abroad_cost;
  carries = carried;
}

-- A plan of megabytes alone, with which what is left at a due day ends: neither minutes nor messages are offered, and no
-- messages abroad.
abbrev pub internet_plan : ℕ → ℕ → ℕ → Terms
internet_plan name megabytes price = record {
  fee = name * 1_000;
  units = record {
    minutes = missing_unit true;
    megabytes = offered_unit megabytes price true;
    messages = missing_unit false;
  };
  abroad = false;
  abroad_price = 0;
  carries = false;
}

-- A plan of all services that carries what is left at a paid due day.
abbrev pub carrying : ℕ → ℕ → ℕ → ℕ → ℕ → Terms
carrying name minutes megabytes messages price = full_plan name minutes megabytes messages price true

-- A plan of all services with which what is left at a due day ends.
abbrev pub ending : ℕ → ℕ → ℕ → ℕ → ℕ → Terms
ending name minutes megabytes messages price = full_plan name minutes megabytes messages price false

-- Entry is free, or costs 2,105 sums.
abbrev pub free_entry : Fate → Entry
free_entry f = record { price = 0; fate = f }

abbrev pub charged_entry : Fate → Entry
charged_entry f = record { price = 2_105; fate = f }
