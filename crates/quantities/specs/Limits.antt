-- The limits of the subject, as clauses name them.
use Rattle.std.specs.Prelude.{ℕ}

-- a plan's fee is 1 to this many sums
abbrev pub most_fee : ℕ
most_fee = 10_000_000

-- a fee grants at most this many of a unit
abbrev pub most_grant : ℕ
most_grant = 1_000_000

-- a unit beyond the allowance, and an international message, cost at most this many sums
abbrev pub most_price : ℕ
most_price = 10_000

-- to enter a plan from another costs at most this many sums
abbrev pub most_entry_price : ℕ
most_entry_price = 10_000_000

-- an account holds at most this many sums
abbrev pub most_balance : ℕ
most_balance = 1_000_000_000

-- a top-up is 1 to this many sums
abbrev pub most_top_up : ℕ
most_top_up = 10_000_000

-- a use is 1 to this many units
abbrev pub most_use : ℕ
most_use = 1_000_000

-- a book holds at most this many old units
abbrev pub most_old_units : ℕ
most_old_units = 2_000_000_000

-- the last minute that a call can be dated
abbrev pub last_moment : ℕ
last_moment = 52_595_999

-- and its day, 31 December 2099
abbrev pub last_call_day : ℕ
last_call_day = 36_524
