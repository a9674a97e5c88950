-- The meaning of a tariff line: for a plan code its terms, and for two codes what leads from one to the other.
use Rattle.std.specs.Prelude.{◌≡◌, ℕ, ◌≤◌, Bool, true, false, is_some, Some, None, Option}
use Rattle.quantities.specs.Limits.{most_fee, most_grant, most_price, most_entry_price}
use Rattle.quantities.specs.Units.{of}
use Rattle.quantities.specs.declared.unit.UnitKind.{UnitKind}
use Rattle.quantities.specs.declared.unit.PerUnit.{PerUnit}
use Rattle.tariff.specs.declared.terms.Fate.{Fate}
use Rattle.tariff.specs.declared.terms.Fate.TheVariants.{Kept, Wiped}
use Rattle.tariff.specs.declared.terms.UnitTerms.{UnitTerms as CodedUnit}
use Rattle.tariff.specs.declared.terms.Terms.{Terms as Coded}
use Rattle.tariff.specs.declared.terms.Entry.{Entry as CodedEntry}

-- A plan's terms for one unit: whether it is offered, what each fee grants, what one unit beyond the allowance costs,
-- and whether a Restart wipes what is left.
pub record UnitTerms : Type 0 where
  pub offered : Bool
  pub amount : ℕ
  pub beyond : ℕ
  pub restart_wipes : Bool

-- A plan's terms: the fee, the units, messages abroad, and whether what is left at a paid due day is carried.
pub record Terms : Type 0 where
  pub fee : ℕ
  pub units : PerUnit UnitTerms
  pub abroad : Bool
  pub abroad_price : ℕ
  pub carries : Bool

-- What it takes to enter a plan from another: a price, and what becomes of units left.
pub record Entry : Type 0 where
  pub price : ℕ
  pub fate : Fate

-- ## One reader for each question about a unit

abbrev pub offers : UnitKind → Terms → Bool
offers k t = (of k t.units).offered

abbrev pub amount : UnitKind → Terms → ℕ
amount k t = (of k t.units).amount

abbrev pub price_beyond : UnitKind → Terms → ℕ
price_beyond k t = (of k t.units).beyond

-- whether what is left of the unit at a paid due day is carried: a plan answers alike for all its units
abbrev pub carries_unit : UnitKind → Terms → Bool
carries_unit k t = t.carries

-- whether a Restart wipes what is left of the unit
abbrev pub restart_wipes_unit : UnitKind → Terms → Bool
restart_wipes_unit k t = (of k t.units).restart_wipes

-- whether a switch may keep what is left of the unit: every plan lets all its units be kept
abbrev pub switch_may_keep : UnitKind → Terms → Bool
switch_may_keep k t = true

-- whether an entry keeps what is left
abbrev pub keeps : Entry → Bool
keeps e = elim e.fate [ Kept ↦ true | Wiped ↦ false ]

-- ## Limits

-- the limits of a plan's terms
pub record WithinLimits (t : Terms) : Type 0 where
  pub fee_least : 1 ≤ t.fee
  pub fee_most : t.fee ≤ most_fee
  pub amounts : (k : UnitKind) → amount k t ≤ most_grant
  pub prices : (k : UnitKind) → price_beyond k t ≤ most_price
  pub abroad : t.abroad_price ≤ most_price

-- What every tariff line shows: its terms and entry prices keep to the limits, code 0 has no terms, and entry leads
-- from no code to itself and to no code without terms.
pub record Lawful (terms : ℕ → Option Terms) (entry : ℕ → ℕ → Option Entry) : Type 0 where
  pub within : (c : ℕ) (t : Terms) → terms c ≡ Some t → WithinLimits t
  pub prices : (a b : ℕ) (e : Entry) → entry a b ≡ Some e → e.price ≤ most_entry_price
  pub none_at_zero : terms 0 ≡ None
  pub apart : (a : ℕ) → entry a a ≡ None
  pub leads : (a b : ℕ) → is_some (entry a b) ≡ true → is_some (terms b) ≡ true

-- What a tariff line is: for a code the terms of its plan, where the line has one; for two codes what it takes to come
-- from the plan of one to that of the other, where a way leads there; and that both keep to the limits.
pub record Tariff : Type 0 where
  pub terms : ℕ → Option Terms
  pub entry : ℕ → ℕ → Option Entry
  pub lawful : Lawful terms entry

-- ## What values of the code mean

abbrev pub unit_terms_of : {K : Type 0} → CodedUnit K → UnitTerms
unit_terms_of t = record { offered = t.offered; amount = t.amount.number; beyond = t.beyond.sums; restart_wipes = t.wiped_by_restart }

abbrev pub terms_of : Coded → Terms
terms_of t = record {
  fee = t.fee.sums.0;
  units = record {
    minutes = unit_terms_of t.minutes;
    megabytes = unit_terms_of t.megabytes;
    messages = unit_terms_of t.messages;
  };
  abroad = t.international.offered;
  abroad_price = t.international.price.sums;
  carries = t.carries;
}

abbrev pub entry_of : CodedEntry → Entry
entry_of e = record { price = e.price.0; fate = e.fate }

abbrev pub told_terms : Option Coded → Option Terms
told_terms None = None
told_terms (Some t) = Some (terms_of t)

abbrev pub told_entry : Option CodedEntry → Option Entry
told_entry None = None
told_entry (Some e) = Some (entry_of e)
