-- What a receipt tells of a call, and the sum of two receipts.
use Rattle.std.specs.Prelude.{ℕ, ◌+◌}
use Rattle.quantities.specs.Units.{of, each, every}
use Rattle.quantities.specs.declared.unit.PerUnit.{PerUnit}

-- For one unit: what fees granted, what was used within the allowance and beyond it, what ended, what came late
-- (was still fresh when a fee fell due and wasn't paid), and what a Restart and a switch wiped.
pub record Tally : Type 0 where
  pub granted : ℕ
  pub within : ℕ
  pub beyond : ℕ
  pub ended : ℕ
  pub late : ℕ
  pub restart_wiped : ℕ
  pub switch_wiped : ℕ

-- Fees, use charges and switch charges in sums, and a tally for each unit.
pub record Receipt : Type 0 where
  pub fees : ℕ
  pub use_charges : ℕ
  pub switch_charges : ℕ
  pub units : PerUnit Tally

-- ## Tallies with one entry

abbrev pub none : Tally
none = record { granted = 0; within = 0; beyond = 0; ended = 0; late = 0; restart_wiped = 0; switch_wiped = 0 }

abbrev pub granting : ℕ → Tally
granting n = record { granted = n; within = 0; beyond = 0; ended = 0; late = 0; restart_wiped = 0; switch_wiped = 0 }

abbrev pub used : ℕ → ℕ → Tally
used w b = record { granted = 0; within = w; beyond = b; ended = 0; late = 0; restart_wiped = 0; switch_wiped = 0 }

abbrev pub ending : ℕ → ℕ → Tally
ending e l = record { granted = 0; within = 0; beyond = 0; ended = e; late = l; restart_wiped = 0; switch_wiped = 0 }

abbrev pub wiping_by_restart : ℕ → Tally
wiping_by_restart n = record { granted = 0; within = 0; beyond = 0; ended = 0; late = 0; restart_wiped = n; switch_wiped = 0 }

abbrev pub wiping_by_switch : ℕ → Tally
wiping_by_switch n = record { granted = 0; within = 0; beyond = 0; ended = 0; late = 0; restart_wiped = 0; switch_wiped = n }

-- ## Sums, column by column

infixl 65 ◌⊞◌
abbrev pub ◌⊞◌ : Tally → Tally → Tally
s ⊞ t = record {
  granted = s.granted + t.granted;
  within = s.within + t.within;
  beyond = s.beyond + t.beyond;
  ended = s.ended + t.ended;
  late = s.late + t.late;
  restart_wiped = s.restart_wiped + t.restart_wiped;
  switch_wiped = s.switch_wiped + t.switch_wiped;
}

infixl 65 ◌⊕◌
abbrev pub ◌⊕◌ : Receipt → Receipt → Receipt
r ⊕ s = record {
  fees = r.fees + s.fees;
  use_charges = r.use_charges + s.use_charges;
  switch_charges = r.switch_charges + s.switch_charges;
  units = each (λ k t. t ⊞ of k s.units) r.units;
}

-- all zeros
abbrev pub nothing : Receipt
nothing = record { fees = 0; use_charges = 0; switch_charges = 0; units = every none }

-- a receipt of units alone
abbrev pub units_only : PerUnit Tally → Receipt
units_only t = record { fees = 0; use_charges = 0; switch_charges = 0; units = t }
