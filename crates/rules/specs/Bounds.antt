-- What holds of the account, and of each receipt, in every run of calls from a new account.
use Rattle.std.specs.Prelude.{◌≡◌, ℕ, ◌+◌, ◌*◌, ◌<◌, ◌≤◌, List, Some, None, Option}
use Rattle.quantities.specs.Limits.{most_balance, last_call_day}
use Rattle.quantities.specs.Units.{of}
use Rattle.quantities.specs.declared.unit.UnitKind.{UnitKind}
use Rattle.quantities.specs.declared.time.Day.{Day}
use Rattle.calendar.specs.declared.anchor.Anchor.{Anchor}
use Rattle.tariff.specs.Terms.{Terms, amount}
use Rattle.book.specs.Allowance.{empty}
use Rattle.rules.specs.declared.call.Status.TheVariants.{Blocked as blocked, Active as active}
use Rattle.rules.specs.declared.call.Call.{Call}
use Rattle.rules.specs.declared.call.Call.TheVariants.{TopUp as top_up, Use as use_of, Restart as restart, Switch as switch, MegabyteOption as option, DayMark as day_mark}
use Rattle.rules.specs.declared.call.Event.{Event}
use Rattle.rules.specs.Receipt.{Tally, Receipt}
use Rattle.rules.specs.State.{Calendar, World, State, Account, awaited_fee}
use Rattle.rules.specs.Checks.{day_of}
use Rattle.rules.specs.Runs.{step, run, opened}

-- P holds of every account that calls lead to from a new account on a plan that has terms.
abbrev pub Always : (World → Account → Type 0) → Type 0
Always P = (w : World) (c : ℕ) (t : Terms) (m : ℕ) → w.terms c ≡ Some t → (es : List Event) → P w (run w (opened c t m) es).account

-- ## The account

-- The balance never passes its limit, and a blocked account's is below the fee that it waits for.
abbrev pub BalanceWithin : State → Type 0
BalanceWithin s = (s.balance ≤ most_balance) × (s.status ≡ blocked → s.balance < awaited_fee s)

abbrev pub BalanceBounded : Type 0
BalanceBounded = Always λ w a. BalanceWithin a.state

-- A blocked account's books are empty.
abbrev pub BlockedEmpty : Type 0
BlockedEmpty = Always λ w a. a.state.status ≡ blocked → (k : UnitKind) → of k a.state.books ≡ empty

-- There are a last fee day and an anchor, and the due day d is the one that they give.
pub record DueBy (w : Calendar) (last_fee : Option Day) (anchor : Option Anchor) (d : ℕ) : Type 0 where
  pub fee_day : Day
  pub day_of_month : Anchor
  pub has_fee_day : last_fee ≡ Some fee_day
  pub has_anchor : anchor ≡ Some day_of_month
  pub is_next : d ≡ w.due_after fee_day.0 day_of_month.0
  pub is_later : fee_day.0 < d

-- An anchor is a day of the month: 1 to 31.
abbrev pub AnchorWithin : State → Type 0
AnchorWithin s = (a : Anchor) → s.anchor ≡ Some a → (1 ≤ a.0) × (a.0 ≤ 31)

-- An active account has a last fee day and an anchor, which give its due day; that lies after the day of the latest call.
abbrev pub DueDayAhead : Type 0
DueDayAhead =
    Always λ w a.
    ((d : Day) → a.state.status ≡ active d → DueBy w.calendar a.state.last_fee a.state.anchor d.0 × (day_of a.latest < d.0))
    × AnchorWithin a.state

-- The last day on which a fee can fall due: 31 January 2100.
abbrev pub last_due_day : ℕ
last_due_day = 36_555

-- A fee that is taken on a day on which a call can be dated falls due again on that day or before.
abbrev pub DuesEnd : Calendar → Type 0
DuesEnd w = (d a : ℕ) → d ≤ last_call_day → w.due_after d a ≤ last_due_day

-- In such a calendar no due day comes after it, since no fee is taken after the last day on which a call can be dated.
abbrev pub DueDaysBounded : Type 0
DueDaysBounded = Always λ w a. DuesEnd w.calendar → (d : Day) → a.state.status ≡ active d → d.0 ≤ last_due_day

-- ## Each call's receipt

-- the terms that a call goes over to: a switch's alone
abbrev pub entered : World → Call → Option Terms
entered w (top_up n) = None
entered w (use_of v n) = None
entered w restart = None
entered w (switch c) = w.terms c.0
entered w option = None
entered w day_mark = None

-- n fees on the terms t were taken, each with its grant in full, and then one on the terms that were entered, if any
abbrev pub InFull : ℕ → Terms → Option Terms → Receipt → Type 0
InFull n t None r = (r.fees ≡ n * t.fee) × ((k : UnitKind) → (of k r.units).granted ≡ n * amount k t)
InFull n t (Some u) r =
    (r.fees ≡ n * t.fee + u.fee) × ((k : UnitKind) → (of k r.units).granted ≡ n * amount k t + amount k u)

-- Each fee grants each unit's amount in full, since no fill is ever refused: an accepted call takes the fee some number
-- of times and grants the amounts as often; a switch takes the new plan's fee and grants its amounts once more.
abbrev pub FeesGrantInFull : Type 0
FeesGrantInFull =
    Always λ w a. (e : Event) → (step w a e).outcome ≡ None → (n : ℕ) × InFull n a.state.terms (entered w e.call) (step w a e).receipt

-- no column of a receipt passes this number, which 32 bits hold
abbrev pub most_column : ℕ
most_column = 4_000_000_000

pub record TallyWithin (n : ℕ) (t : Tally) : Type 0 where
  pub granted : t.granted ≤ n
  pub within : t.within ≤ n
  pub beyond : t.beyond ≤ n
  pub ended : t.ended ≤ n
  pub late : t.late ≤ n
  pub restart_wiped : t.restart_wiped ≤ n
  pub switch_wiped : t.switch_wiped ≤ n

-- Every column of the receipt is at most n.
pub record ColumnsWithin (n : ℕ) (r : Receipt) : Type 0 where
  pub fees : r.fees ≤ n
  pub use_charges : r.use_charges ≤ n
  pub switch_charges : r.switch_charges ≤ n
  pub units : (k : UnitKind) → TallyWithin n (of k r.units)

-- The days that calls can be dated lie in 1,200 months: 100 years.
abbrev pub HundredYears : Calendar → Type 0
HundredYears w = (d : ℕ) → d ≤ last_call_day → w.month_of d < 1200

-- In such a calendar every column of every call's receipt fits.
abbrev pub ColumnsBounded : Type 0
ColumnsBounded = Always λ w a. HundredYears w.calendar → (e : Event) → ColumnsWithin most_column (step w a e).receipt
