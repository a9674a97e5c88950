-- What a receipt of the code means, and bounds on all its columns.
use Rattle.std.specs.Prelude.{ℕ, ◌-◌, ◌^◌, ◌<◌, min}
use Rattle.quantities.specs.Units.{each}
use Rattle.rules.specs.Receipt.{Tally, Receipt}
use Rattle.receipt.specs.declared.tally.Tally.{Tally as CodedTally}
use Rattle.receipt.specs.declared.receipt.Receipt.{Receipt as Coded}

abbrev pub tally_of : {K : Type 0} → CodedTally K → Tally
tally_of t = record {
  granted = t.granted.number;
  within = t.within.number;
  beyond = t.beyond.number;
  ended = t.ended.number;
  late = t.late.number;
  restart_wiped = t.wiped_by_restart.number;
  switch_wiped = t.wiped_by_switch.number;
}

abbrev pub receipt_of : Coded → Receipt
receipt_of r = record {
  fees = r.fees.0;
  use_charges = r.use_charges.0;
  switch_charges = r.switch_charges.0;
  units = record { minutes = tally_of r.minutes; megabytes = tally_of r.megabytes; messages = tally_of r.messages };
}

-- the largest number that a column holds
abbrev pub most_column : ℕ
most_column = 2 ^ 64 - 1

abbrev pub capped_tally : Tally → Tally
capped_tally t = record {
  granted = min t.granted most_column;
  within = min t.within most_column;
  beyond = min t.beyond most_column;
  ended = min t.ended most_column;
  late = min t.late most_column;
  restart_wiped = min t.restart_wiped most_column;
  switch_wiped = min t.switch_wiped most_column;
}

abbrev pub capped : Receipt → Receipt
capped r = record {
  fees = min r.fees most_column;
  use_charges = min r.use_charges most_column;
  switch_charges = min r.switch_charges most_column;
  units = each (λ k t. capped_tally t) r.units;
}

-- every column of a tally, and of a receipt, is below n
pub record Below (n : ℕ) (t : Tally) : Type 0 where
  pub granted : t.granted < n
  pub within : t.within < n
  pub beyond : t.beyond < n
  pub ended : t.ended < n
  pub late : t.late < n
  pub restart_wiped : t.restart_wiped < n
  pub switch_wiped : t.switch_wiped < n

pub record AllBelow (n : ℕ) (r : Receipt) : Type 0 where
  pub fees : r.fees < n
  pub use_charges : r.use_charges < n
  pub switch_charges : r.switch_charges < n
  pub minutes : Below n r.units.minutes
  pub megabytes : Below n r.units.megabytes
  pub messages : Below n r.units.messages
