-- What judging answers of an account whose due days are handled.
use Rattle.std.specs.Prelude.{ℕ, Option}
use Rattle.rules.specs.declared.call.Call.{Call}
use Rattle.rules.specs.State.{World, State}
use Rattle.rules.specs.DueDays.{lapse_all}
use Rattle.rules.specs.Checks.{Refusal, first_refusal, checks}

-- which refusal a call on day D meets once old lots have lapsed
abbrev pub refusal_after_lapse : World → ℕ → Call → State → Option Refusal
refusal_after_lapse w D call s = first_refusal (checks w D call (lapse_all D s).state)
