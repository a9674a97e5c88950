-- What a call on an account makes of it.
use Rattle.std.specs.Prelude.{◌≡◌, ℕ, false, is_ok, Result}
use Rattle.tariff.specs.Terms.{Tariff}
use Rattle.book.specs.Allowance.{Allowance}
use Rattle.rules.specs.declared.call.Event.{Event}
use Rattle.rules.specs.Runs.{step}
use Rattle.rules.specs.Bounds.{most_column, ColumnsWithin}
use Rattle.receipt.specs.declared.receipt.Receipt.{Receipt}
use Rattle.receipt.specs.Columns.{receipt_of}
use Rattle.fault.specs.declared.account.Fault.{Fault}
use Rattle.fault.specs.Faults.{outcome_of}
use Rattle.account.specs.declared.account.Account.{Account}
use Rattle.account.specs.Meaning.{account_of, world, answer}

-- From the account a, the event e leads to the outcome o, the account b and the receipt r, on books that mean what
-- `means` says and have room for `most` old lots each.
pub record OneStep {L B : Type 0} (tariff : L → Tariff) (means : B → Allowance) (most : ℕ) (a : Account L B) (e : Event)
    (o : Result Unit Fault) (b : Account L B) (r : Receipt) : Type 0 where
  -- outcome, account and receipt are those of one step of the rules
  pub does : answer (outcome_of o) (account_of means b) (receipt_of r) ≡ step (world (tariff a.line) most) (account_of means a) e
  -- the account stays on its line
  pub line : b.line ≡ a.line
  -- a refused call leaves the account exactly as found, books included
  pub same : is_ok o ≡ false → b ≡ a
  -- each column of the receipt is within its bound
  pub columns : ColumnsWithin most_column (receipt_of r)
