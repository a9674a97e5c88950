-- Taking a fee, handling due days, and bringing an account up to a day.
use Rattle.std.specs.Prelude.{ℕ, zero, suc, ◌-◌, Bool, true, false, cond, is_ok, Some, nat_le}
use Rattle.quantities.specs.Units.{each, every}
use Rattle.tariff.specs.Terms.{carries_unit}
use Rattle.book.specs.Allowance.{Allowance, units, left, empty, fill_answer, filled, ended, lapsed, carried}
use Rattle.rules.specs.declared.call.Status.TheVariants.{Blocked as blocked, Active as active}
use Rattle.rules.specs.Receipt.{Tally, granting, ending, units_only}
use Rattle.rules.specs.State.{Calendar, State, Out, awaited_fee, awaited_grant, anchor_day, with_books, with_status, with_anchor, same, then}

-- ## The fee

-- a book after a fill: a refused fill leaves it as it was
abbrev pub refilled : ℕ → Allowance → Allowance
refilled n b = cond (is_ok (fill_answer n b)) (filled n b) b

-- what the fill granted
abbrev pub granted : ℕ → Allowance → ℕ
granted n b = cond (is_ok (fill_answer n b)) n 0

-- the due day after a fee on day d
abbrev pub next_due : Calendar → ℕ → State → ℕ
next_due w d s = w.due_after d (anchor_day s.anchor)

-- Taking the fee on day d lowers the balance by the fee, makes d the last fee day and the status active until the next
-- due day, turns the option off and fills each book.
abbrev pub take_fee : Calendar → ℕ → State → Out
take_fee w d s = record {
  state = record {
    plan = s.plan;
    terms = s.terms;
    balance = s.balance - awaited_fee s;
    status = active (record { 0 = next_due w d s });
    last_fee = Some (record { 0 = d });
    anchor = s.anchor;
    option = false;
    books = each (λ k b. refilled (awaited_grant k s) b) s.books;
  };
  receipt = record {
    fees = awaited_fee s;
    use_charges = 0;
    switch_charges = 0;
    units = each (λ k b. granting (granted (awaited_grant k s) b)) s.books;
  };
}

-- day d's day of the month becomes the anchor, and the fee is taken on d
abbrev pub start_on : Calendar → ℕ → State → Out
start_on w d s = take_fee w d (with_anchor (w.month_day d) s)

-- ## A due day

-- When a due day is paid, a book carries to the next due day, or is cleared as ended where the plan doesn't carry.
abbrev pub closed : Bool → ℕ → Allowance → Allowance
closed carries e b = cond carries (carried e b) empty

abbrev pub closing : Bool → Allowance → Tally
closing carries b = ending (cond carries (units b.lots) (left b)) 0

abbrev pub close_month : ℕ → State → Out
close_month e s = record {
  state = with_books (each (λ k b. closed (carries_unit k s.terms) e b) s.books) s;
  receipt = units_only (each (λ k b. closing (carries_unit k s.terms) b) s.books);
}

-- a renewal: the books are closed, and the fee is taken on the due day, the anchor unchanged
abbrev pub renew : Calendar → ℕ → State → Out
renew w d s = then (close_month (next_due w d s) s) (take_fee w d)

-- When a due day isn't paid, the account is blocked and its books are cleared: old lots count as ended, the fresh
-- amount as late.
abbrev pub block : State → Out
block s = record {
  state = with_status blocked (with_books (every empty) s);
  receipt = units_only (each (λ k b. ending (units b.lots) b.fresh) s.books);
}

abbrev pub handle : Calendar → ℕ → State → Out
handle w d s = cond (nat_le (awaited_fee s) s.balance) (renew w d s) (block s)

-- ## Bringing up

-- The due days at or before day D, one after another. Each lies after the one before, so n = D + 1 turns are enough.
abbrev pub settle : Calendar → ℕ → ℕ → State → Out
settle w zero D s = same s
settle w (suc n) D s =
    elim s.status [
      | blocked ↦ same s
      | active d ↦ elim (nat_le d.0 D) [ true ↦ then (handle w d.0 s) (settle w n D) | false ↦ same s ]
    ]

-- each book lapses on day D
abbrev pub lapse_all : ℕ → State → Out
lapse_all D s = record {
  state = with_books (each (λ k b. lapsed D b) s.books) s;
  receipt = units_only (each (λ k b. ending (units (ended D b.lots)) 0) s.books);
}

-- Bringing up to day D handles every due day at or before D, and then each book lapses on D.
abbrev pub bring_up : Calendar → ℕ → State → Out
bring_up w D s = then (settle w (suc D) D s) (lapse_all D)
