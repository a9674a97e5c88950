-- What a ledger of the code means, given what its books mean.
use Rattle.std.specs.Prelude.{◌≡◌, ℕ, ◌+◌, min}
use Rattle.quantities.specs.Units.{each}
use Rattle.tariff.specs.Terms.{terms_of}
use Rattle.book.specs.Allowance.{Allowance}
use Rattle.rules.specs.declared.call.Status.{Status}
use Rattle.rules.specs.declared.call.Status.TheVariants.{Blocked, Active}
use Rattle.rules.specs.Receipt.{Receipt}
use Rattle.rules.specs.State.{State, Out}
use Rattle.receipt.specs.declared.receipt.Receipt.{Receipt as Coded}
use Rattle.receipt.specs.Columns.{receipt_of}
use Rattle.ledger.specs.declared.ledger.Ledger.{Ledger}

abbrev pub state_of : {B : Type 0} → (B → Allowance) → Ledger B → State
state_of means l = record {
  plan = l.plan.0;
  terms = terms_of l.terms;
  balance = l.balance.sums.0;
  status = l.status;
  last_fee = l.last_fee;
  anchor = l.anchor;
  option = l.option;
  books = each (λ k b. means b) l.books;
}

-- what a step left, with its receipt
abbrev pub out : State → Receipt → Out
out s r = record { state = s; receipt = r }

-- The rule f of the definitions is what led from the ledger a to the ledger b, with the receipt r.
abbrev pub FollowsRule : {B : Type 0} → (B → Allowance) → (State → Out) → Ledger B → Ledger B → Coded → Type 0
FollowsRule means f a b r = out (state_of means b) (receipt_of r) ≡ f (state_of means a)

-- how far due days are handled on the way to day D: up to the next one, at most the day after D
abbrev pub reached : Status → ℕ → ℕ
reached Blocked D = D + 1
reached (Active d) D = min d.0 (D + 1)
