-- What an account keeps, and what its rules are read from: a calendar, a tariff line and the books' capacity.
use Rattle.std.specs.Prelude.{◌≡◌, ℕ, ◌+◌, ◌<◌, ◌≤◌, Bool, Some, None, Option}
use Rattle.quantities.specs.Units.{of}
use Rattle.quantities.specs.declared.unit.UnitKind.{UnitKind}
use Rattle.quantities.specs.declared.unit.PerUnit.{PerUnit}
use Rattle.quantities.specs.declared.time.Day.{Day}
use Rattle.calendar.specs.declared.anchor.Anchor.{Anchor}
use Rattle.tariff.specs.Terms.{Terms, Entry, Lawful, amount}
use Rattle.book.specs.Allowance.{Allowance, left}
use Rattle.rules.specs.declared.call.Status.{Status}
use Rattle.rules.specs.Receipt.{Receipt, Tally, nothing, ◌⊕◌}

-- Days by month: the day of the month of a day, the month in which it lies, and the due day after a fee on a day with
-- an anchor, which lies in the month after.
pub record Calendar : Type 0 where
  pub month_day : ℕ → ℕ
  pub month_of : ℕ → ℕ
  pub due_after : ℕ → ℕ → ℕ
  pub due_later : (d a : ℕ) → d < due_after d a
  pub due_next_month : (d a : ℕ) → month_of (due_after d a) ≡ month_of d + 1
  pub month_of_monotone : (d e : ℕ) → d ≤ e → month_of d ≤ month_of e
  pub month_day_least : (d : ℕ) → 1 ≤ month_day d
  pub month_day_most : (d : ℕ) → month_day d ≤ 31

-- The calendar, a tariff line's two tables and the capacity of the books.
pub record World : Type 0 where
  pub calendar : Calendar
  pub terms : ℕ → Option Terms
  pub entry : ℕ → ℕ → Option Entry
  pub capacity : ℕ
  pub lawful : Lawful terms entry

-- All of an account but the moment of its latest accepted call: the plan and a copy of its terms, the balance, the
-- status, the last fee day and the anchor (none before the first fee), whether the option is on, and the three books.
pub record State : Type 0 where
  pub plan : ℕ
  pub terms : Terms
  pub balance : ℕ
  pub status : Status
  pub last_fee : Option Day
  pub anchor : Option Anchor
  pub option : Bool
  pub books : PerUnit Allowance

pub record Account : Type 0 where
  pub latest : ℕ
  pub state : State

-- ## What an account waits for and holds

-- the fee that an account waits for
abbrev pub awaited_fee : State → ℕ
awaited_fee s = s.terms.fee

-- what the next fee will grant of a unit
abbrev pub awaited_grant : UnitKind → State → ℕ
awaited_grant k s = amount k s.terms

-- the day of the month of an anchor; without one, which no active account is, the first
abbrev pub anchor_day : Option Anchor → ℕ
anchor_day None = 1
anchor_day (Some a) = a.0

-- the money that an account holds
abbrev pub money_held : State → ℕ
money_held s = s.balance

-- the money that receipts tell of: fees, use charges and switch charges
abbrev pub money_charged : Receipt → ℕ
money_charged r = r.fees + r.use_charges + r.switch_charges

-- what went out of a book: used within the allowance, ended, late, wiped by a Restart or a switch
abbrev pub units_gone : Tally → ℕ
units_gone t = t.within + t.ended + t.late + t.restart_wiped + t.switch_wiped

-- the units of one kind that are accounted for: those gone and those left
abbrev pub units_accounted : UnitKind → State → Receipt → ℕ
units_accounted k s r = units_gone (of k r.units) + left (of k s.books)

-- ## Changes of one part

abbrev pub with_balance : ℕ → State → State
with_balance n s = record {
  plan = s.plan;
  terms = s.terms;
  balance = n;
  status = s.status;
  last_fee = s.last_fee;
  anchor = s.anchor;
  option = s.option;
  books = s.books;
}

abbrev pub with_books : PerUnit Allowance → State → State
with_books bs s = record {
  plan = s.plan;
  terms = s.terms;
  balance = s.balance;
  status = s.status;
  last_fee = s.last_fee;
  anchor = s.anchor;
  option = s.option;
  books = bs;
}

abbrev pub with_plan : ℕ → Terms → State → State
with_plan c t s = record {
  plan = c;
  terms = t;
  balance = s.balance;
  status = s.status;
  last_fee = s.last_fee;
  anchor = s.anchor;
  option = s.option;
  books = s.books;
}

abbrev pub with_anchor : ℕ → State → State
with_anchor a s = record {
  plan = s.plan;
  terms = s.terms;
  balance = s.balance;
  status = s.status;
  last_fee = s.last_fee;
  anchor = Some (record { 0 = a });
  option = s.option;
  books = s.books;
}

abbrev pub with_option : Bool → State → State
with_option b s = record {
  plan = s.plan;
  terms = s.terms;
  balance = s.balance;
  status = s.status;
  last_fee = s.last_fee;
  anchor = s.anchor;
  option = b;
  books = s.books;
}

abbrev pub with_status : Status → State → State
with_status x s = record {
  plan = s.plan;
  terms = s.terms;
  balance = s.balance;
  status = x;
  last_fee = s.last_fee;
  anchor = s.anchor;
  option = s.option;
  books = s.books;
}

-- ## Steps

-- what a step leaves, and its receipt
pub record Out : Type 0 where
  pub state : State
  pub receipt : Receipt

-- the step that does nothing
abbrev pub same : State → Out
same s = record { state = s; receipt = nothing }

abbrev pub after : Receipt → Out → Out
after r o = record { state = o.state; receipt = r ⊕ o.receipt }

-- one step after another: the receipts add up
abbrev pub then : Out → (State → Out) → Out
then o f = after o.receipt (f o.state)
