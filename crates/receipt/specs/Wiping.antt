-- The column of a receipt that wiped units stand in.
use Rattle.std.specs.Prelude.{ℕ}
use Rattle.rules.specs.Receipt.{Tally, wiping_by_restart, wiping_by_switch}
use Rattle.receipt.specs.declared.cause.Cause.{Cause}
use Rattle.receipt.specs.declared.cause.Cause.TheVariants.{Restart, Switch}

-- what was wiped, in the column of its cause
abbrev pub wiping : Cause → ℕ → Tally
wiping Restart n = wiping_by_restart n
wiping Switch n = wiping_by_switch n
