-- Worked examples: a line of two small plans, and what some calls on the edge of a rule come to.
use Rattle.std.specs.Prelude.{◌≡◌, ℕ, ◌*◌, true, false, cond, ◌&&◌, [], ◌∷◌, Some, None, Option, ◌==◌}
use Rattle.quantities.specs.Units.{every}
use Rattle.tariff.specs.Terms.{UnitTerms, Terms, Entry, Lawful}
use Rattle.tariff.specs.declared.terms.Fate.TheVariants.{Kept}
use Rattle.rules.specs.declared.call.Status.TheVariants.{Active as active}
use Rattle.rules.specs.declared.call.Call.{Call}
use Rattle.rules.specs.declared.call.Call.TheVariants.{TopUp as top_up, Restart as restart, Switch as switch, MegabyteOption as option, DayMark as day_mark}
use Rattle.rules.specs.declared.call.Event.{Event}
use Rattle.rules.specs.State.{World, Account}
use Rattle.rules.specs.Checks.{Refusal}
use Rattle.rules.specs.Runs.{step, run, opened}
use Rattle.rules.specs.Gregorian.{gregorian}

-- ## Plan 1 has a fee of 10 and grants 5 of each unit; plan 2, of 20 and 7, is entered from it free, units kept

abbrev pub granting_each : ℕ → UnitTerms
granting_each n = record { offered = true; amount = n; beyond = 1; restart_wipes = true }

abbrev pub plan : ℕ → ℕ → Terms
plan fee n = record { fee = fee; units = every (granting_each n); abroad = false; abroad_price = 0; carries = true }

abbrev pub plans : ℕ → Option Terms
plans c = cond (c == 1) (Some (plan 10 5)) (cond (c == 2) (Some (plan 20 7)) None)

abbrev pub entries : ℕ → ℕ → Option Entry
entries a b = cond (a == 1 && b == 2) (Some (record { price = 0; fate = Kept })) None

-- ## Calls on the first account's plan, dated by day at 00:00

abbrev pub on_day : ℕ → Call → Event
on_day d c = record { moment = record { 0 = d * 1440 }; call = c }

abbrev pub paying : ℕ → Call
paying n = top_up (record { 0 = n })

-- an account on plan 1, opened and topped up by n on day d
abbrev pub started : World → ℕ → ℕ → Account
started w d n = (run w (opened 1 (plan 10 5) (d * 1440)) (on_day d (paying n) ∷ [])).account

abbrev pub told_number : Option Refusal → ℕ
told_number None = 0
told_number (Some f) = f.number

-- the examples, for a world with this line
pub record Worked (w : World) : Type 0 where
  -- Started on 31 January 2000, day 30, the account has its due day on 29 February, day 59. A top-up at 00:00 of that
  -- day is late: the account is blocked first, its fresh units late, and starts anew with the 29th as its anchor.
  pub late_status : (step w (started w 30 10) (on_day 59 (paying 10))).account.state.status ≡ active (record { 0 = 88 })
  pub late_anchor : (step w (started w 30 10) (on_day 59 (paying 10))).account.state.anchor ≡ Some (record { 0 = 29 })
  pub late_units : (step w (started w 30 10) (on_day 59 (paying 10))).receipt.units.minutes.late ≡ 5
  pub late_fee : (step w (started w 30 10) (on_day 59 (paying 10))).receipt.fees ≡ 10
  -- A Restart on a due day that is paid meets the fee of that day; on one that isn't, a blocked account.
  pub restart_paid : told_number (step w (started w 30 20) (on_day 59 restart)).outcome ≡ 8
  pub restart_unpaid : told_number (step w (started w 30 10) (on_day 59 restart)).outcome ≡ 6
  -- The option lasts until the next fee, and no longer.
  pub option_on : (step w (started w 30 20) (on_day 30 option)).account.state.option ≡ true
  pub option_off : (step w (step w (started w 30 20) (on_day 30 option)).account (on_day 59 day_mark)).account.state.option ≡ false
  -- A renewal on 29 February carries to 31 March, day 90. A switch on that day has its due day on 29 March, day 88, so
  -- what it keeps ends there: the carried lot and the fresh amount are joined.
  pub kept-lowered :
      (step w (started w 30 60) (on_day 59 (switch (record { 0 = 2 })))).account.state.books.minutes
      ≡ record { fresh = 7; lots = record { amount = 10; end = record { 0 = 88 } } ∷ [] }

-- The line is lawful, and with it, the Gregorian calendar and books of 31 lots the examples hold.
abbrev pub Examples : Type 0
Examples = (lawful : Lawful plans entries) × Worked (record { calendar = gregorian; terms = plans; entry = entries; capacity = 31; lawful = lawful })
