-- Every column of a call's receipt is bounded, for any account of the code.
use Rattle.std.proofs.Common.{ℕ, ◌+◌, ◌≤◌, arith}
use Rattle.quantities.specs.Limits.{most_grant, most_old_units}
use Rattle.quantities.specs.declared.unit.UnitKind.TheVariants.{Minutes, Megabytes, Messages}
use Rattle.tariff.specs.Terms.{WithinLimits, terms_of}
use Rattle.tariff.specs.declared.terms.Terms.{Terms as Coded}
use Rattle.book.specs.Allowance.{Allowance, Kept, left}
use Rattle.calendar.proofs.Due.{month_of_before}
use Rattle.rules.specs.declared.call.Event.{Event}
use Rattle.rules.specs.State.{World}
use Rattle.rules.specs.Runs.{step}
use Rattle.rules.specs.Gregorian.{gregorian}
use Rattle.rules.specs.Bounds.{most_column, ColumnsWithin, HundredYears}
use Rattle.rules.proofs.Columns.{step_columns}
use Rattle.account.specs.declared.account.Account.{Account}
use Rattle.account.specs.Meaning.{account_of}

coded_limits : (t : Coded) → WithinLimits (terms_of t)
coded_limits t = record {
  fee_least = t.fee.least;
  fee_most = t.fee.most;
  amounts = elim [ Minutes ↦ t.few_minutes | Megabytes ↦ t.few_megabytes | Messages ↦ t.few_messages ];
  prices = elim [ Minutes ↦ t.cheap_minutes | Megabytes ↦ t.cheap_megabytes | Messages ↦ t.cheap_messages ];
  abroad = t.cheap_abroad;
}

pub hundred_years : HundredYears gregorian
hundred_years d h = month_of_before d 1200 (omega arith)

few-left : (C : ℕ) (b : Allowance) → Kept C b → left b ≤ most_grant + most_old_units
few-left C b k = let f = k.fresh in let s = k.sum in omega arith

pub columns_of : {L B : Type 0} (means : B → Allowance) (C : ℕ) → ((b : B) → Kept C (means b)) → (w : World) → HundredYears w.calendar →
    (e : Event) (a : Account L B) → ColumnsWithin most_column (step w (account_of means a) e).receipt
columns_of means C kept w years e a =
    let books = a.ledger.books in
    step_columns w years (account_of means a) e (coded_limits a.ledger.terms) a.ledger.balance.most
    (elim [
      | Minutes ↦ few-left C (means books.minutes) (kept books.minutes)
      | Megabytes ↦ few-left C (means books.megabytes) (kept books.megabytes)
      | Messages ↦ few-left C (means books.messages) (kept books.messages)
    ])
