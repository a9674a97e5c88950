-- One call, a run of calls, and a newly opened account.
use Rattle.std.specs.Prelude.{ℕ, false, cond, not, List, [], ◌∷◌, is_some, Some, None, Option, nat_lt}
use Rattle.quantities.specs.Limits.{last_moment}
use Rattle.quantities.specs.Units.{every}
use Rattle.tariff.specs.Terms.{Terms}
use Rattle.book.specs.Allowance.{empty}
use Rattle.rules.specs.declared.call.Status.TheVariants.{Blocked as blocked}
use Rattle.rules.specs.declared.call.Event.{Event}
use Rattle.rules.specs.Receipt.{Receipt, nothing, ◌⊕◌}
use Rattle.rules.specs.State.{World, Account, Out, then}
use Rattle.rules.specs.Calls.{perform}
use Rattle.rules.specs.Checks.{Refusal, check, first_refusal, refusal, brought, day_of}

-- What a call comes to: its refusal or none, the account after it, and its receipt.
pub record Answer : Type 0 where
  pub outcome : Option Refusal
  pub account : Account
  pub receipt : Receipt

-- An accepted call brings the account up to its day, does what it does, and makes its moment the latest.
abbrev pub accepted : World → Account → Event → Answer
accepted w a e =
    let o : Out = then (brought w e.moment.0 a) (perform w (day_of e.moment.0) e.call) in
    record { outcome = None; account = record { latest = e.moment.0; state = o.state }; receipt = o.receipt }

-- A refused call leaves the account as found, and a receipt of zeros.
abbrev pub refused : Refusal → Account → Answer
refused f a = record { outcome = Some f; account = a; receipt = nothing }

abbrev pub answered : Option Refusal → World → Account → Event → Answer
answered None w a e = accepted w a e
answered (Some f) w a e = refused f a

abbrev pub step : World → Account → Event → Answer
step w a e = answered (refusal w a e) w a e

-- What a run comes to: the outcomes one by one, the account at the end, and all receipts added up.
pub record Run : Type 0 where
  pub outcomes : List (Option Refusal)
  pub account : Account
  pub total : Receipt

-- one call and what came after it
abbrev pub onward : Answer → Run → Run
onward x r = record { outcomes = x.outcome ∷ r.outcomes; account = r.account; total = x.receipt ⊕ r.total }

abbrev pub run : World → Account → List Event → Run
run w a [] = record { outcomes = []; account = a; total = nothing }
run w a (e ∷ es) = let x : Answer = step w a e in onward x (run w x.account es)

-- A new account is blocked, with balance 0, no last fee day, no anchor, the option off, empty books, and the moment of
-- its opening as its latest.
abbrev pub opened : ℕ → Terms → ℕ → Account
opened c t m = record {
  latest = m;
  state = record {
    plan = c;
    terms = t;
    balance = 0;
    status = blocked;
    last_fee = None;
    anchor = None;
    option = false;
    books = every empty;
  };
}

-- An opening is refused past the last moment, and on a code without terms.
abbrev pub opening_refusal : World → ℕ → ℕ → Option Refusal
opening_refusal w c m = first_refusal (check 1 (nat_lt last_moment m) ∷ check 4 (not (is_some (w.terms c))) ∷ [])

-- the account that an opening makes: none where it is refused
abbrev pub opening : World → ℕ → ℕ → Option Account
opening w c m = cond (nat_lt last_moment m) None (elim (w.terms c) [ None ↦ None | Some t ↦ Some (opened c t m) ])
