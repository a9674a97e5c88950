-- What each accepted call does, on day D, to an account that is brought up to D.
use Rattle.std.specs.Prelude.{ℕ, ◌+◌, ◌-◌, ◌*◌, Bool, true, false, cond, not, ◌&&◌, Some, None, Option, nat_le}
use Rattle.quantities.specs.Units.{of, each, every, only, at}
use Rattle.quantities.specs.declared.unit.UnitKind.{UnitKind}
use Rattle.quantities.specs.declared.unit.PerUnit.{PerUnit}
use Rattle.tariff.specs.Terms.{Terms, Entry, price_beyond, restart_wipes_unit, switch_may_keep, keeps}
use Rattle.book.specs.Allowance.{Allowance, left, empty, drawn, draw_answer, aside}
use Rattle.rules.specs.declared.call.Status.TheVariants.{Blocked as blocked, Active as active}
use Rattle.rules.specs.declared.call.Service.{Service}
use Rattle.rules.specs.declared.call.Service.TheVariants.{Counted as counted, International as international}
use Rattle.rules.specs.declared.call.Call.{Call}
use Rattle.rules.specs.declared.call.Call.TheVariants.{TopUp as top_up, Use as use_of, Restart as restart, Switch as switch, MegabyteOption as option, DayMark as day_mark}
use Rattle.rules.specs.Receipt.{Tally, none, used, wiping_by_restart, wiping_by_switch, nothing, units_only}
use Rattle.rules.specs.State.{Calendar, World, State, Out, awaited_fee, with_balance, with_books, with_plan, with_option, same, then}
use Rattle.rules.specs.DueDays.{start_on}

abbrev pub is_blocked : State → Bool
is_blocked s = elim s.status [ blocked ↦ true | active d ↦ false ]

-- ## Top-up

-- Where a blocked account's balance reaches the fee, the day becomes the anchor and the fee is taken.
abbrev pub wake_if_paid : Calendar → ℕ → State → Out
wake_if_paid w D s = cond (is_blocked s && nat_le (awaited_fee s) s.balance) (start_on w D s) (same s)

-- ## Use

-- how much of n goes beyond what is left of a unit
abbrev pub beyond : UnitKind → ℕ → State → ℕ
beyond k n s = n - left (of k s.books)

-- What a use costs: the part beyond the allowance at its price, and each message abroad.
abbrev pub charge : Option Service → ℕ → State → ℕ
charge None n s = 0
charge (Some (counted k)) n s = beyond k n s * price_beyond k s.terms
charge (Some international) n s = n * s.terms.abroad_price

abbrev pub used_books : Option Service → ℕ → PerUnit Allowance → PerUnit Allowance
used_books None n bs = bs
used_books (Some (counted k)) n bs = at k (drawn n) bs
used_books (Some international) n bs = bs

abbrev pub use_tally : Option Service → ℕ → State → PerUnit Tally
use_tally None n s = every none
use_tally (Some (counted k)) n s = only k (used (draw_answer n (of k s.books)) (beyond k n s)) none
use_tally (Some international) n s = every none

abbrev pub serve : Option Service → ℕ → State → Out
serve v n s = record {
  state = with_balance (s.balance - charge v n s) (with_books (used_books v n s.books) s);
  receipt = record { fees = 0; use_charges = charge v n s; switch_charges = 0; units = use_tally v n s };
}

-- ## Restart and switch

-- the due day of a fee on day D with D's day of the month as the anchor
abbrev pub new_due : Calendar → ℕ → ℕ
new_due w D = w.due_after D (w.month_day D)

-- Some units are wiped, told by `wiped`; the others are set aside with end e and cap c.
abbrev pub wipe_or_keep : (ℕ → Tally) → (UnitKind → Bool) → ℕ → ℕ → State → Out
wipe_or_keep wiped wipes e c s = record {
  state = with_books (each (λ k b. cond (wipes k) empty (aside e c b)) s.books) s;
  receipt = units_only (each (λ k b. cond (wipes k) (wiped (left b)) none) s.books);
}

-- A Restart clears the units that it wipes, sets the others aside with end at the due day and cap at the new one, makes
-- the day the anchor and takes the fee.
abbrev pub restarted : Calendar → ℕ → State → Out
restarted w D s =
    elim s.status [
      | blocked ↦ same s
      | active d ↦ then (wipe_or_keep wiping_by_restart (λ k. restart_wipes_unit k s.terms) d.0 (new_due w D) s) (start_on w D)
    ]

-- whether an entry wipes a unit of the plan that is left
abbrev pub switch_wipes_unit : Entry → Terms → UnitKind → Bool
switch_wipes_unit e t k = not (keeps e && switch_may_keep k t)

-- Leaving a plan clears the books or sets them aside; a blocked account's books stay as they are, empty.
abbrev pub leave_plan : Calendar → ℕ → Entry → State → Out
leave_plan w D e s =
    elim s.status [
      | blocked ↦ same s
      | active d ↦ wipe_or_keep wiping_by_switch (switch_wipes_unit e s.terms) d.0 (new_due w D) s
    ]

abbrev pub pay_entry : Entry → State → Out
pay_entry e s = record {
  state = with_balance (s.balance - e.price) s;
  receipt = record { fees = 0; use_charges = 0; switch_charges = e.price; units = every none };
}

-- A switch takes the entry price, leaves the old plan, takes the new terms, makes the day the anchor and takes the fee.
abbrev pub switched : Calendar → ℕ → ℕ → Terms → Entry → State → Out
switched w D c t e s = then (pay_entry e s) λ s₁. then (leave_plan w D e s₁) λ s₂. start_on w D (with_plan c t s₂)

abbrev pub switch_to : World → ℕ → ℕ → State → Out
switch_to w D c s =
    elim (w.terms c) [
      | None ↦ same s
      | Some t ↦ elim (w.entry s.plan c) [ None ↦ same s | Some e ↦ switched w.calendar D c t e s ]
    ]

-- ## Every call

abbrev pub perform : World → ℕ → Call → State → Out
perform w D (top_up n) s = wake_if_paid w.calendar D (with_balance (s.balance + n.0) s)
perform w D (use_of v n) s = serve v n s
perform w D restart s = restarted w.calendar D s
perform w D (switch c) s = switch_to w D c.0 s
perform w D option s = record { state = with_option true s; receipt = nothing }
perform w D day_mark s = same s
