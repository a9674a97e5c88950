-- What an account of the code means, and the world that its rules are read from.
use Rattle.std.specs.Prelude.{ℕ, Some, None, Option}
use Rattle.quantities.specs.declared.time.Day.{Day}
use Rattle.tariff.specs.Terms.{Tariff}
use Rattle.book.specs.Allowance.{Allowance}
use Rattle.rules.specs.declared.call.Status.{Status}
use Rattle.rules.specs.declared.call.Status.TheVariants.{Blocked, Active}
use Rattle.rules.specs.Receipt.{Receipt}
use Rattle.rules.specs.State.{World, Account as Meant}
use Rattle.rules.specs.Checks.{Refusal}
use Rattle.rules.specs.Runs.{Answer}
use Rattle.rules.specs.Gregorian.{gregorian}
use Rattle.ledger.specs.Meaning.{state_of}
use Rattle.account.specs.declared.account.Account.{Account}

abbrev pub account_of : {L B : Type 0} → (B → Allowance) → Account L B → Meant
account_of means a = record { latest = a.latest.0; state = state_of means a.ledger }

-- the Gregorian calendar, a line's tables and a capacity
abbrev pub world : Tariff → ℕ → World
world line most = record { calendar = gregorian; terms = line.terms; entry = line.entry; capacity = most; lawful = line.lawful }

-- how a call came out, the account after it and its receipt
abbrev pub answer : Option Refusal → Meant → Receipt → Answer
answer o a r = record { outcome = o; account = a; receipt = r }

-- the due day of a status: none while blocked
abbrev pub due_day_of : Status → Option Day
due_day_of Blocked = None
due_day_of (Active d) = Some d
