-- No column of a receipt passes what 32 bits hold, for any account within the limits.
use Rattle.std.proofs.Common.{◌≡◌, ℕ, suc, ◌+◌, ◌*◌, ◌≤◌, false, Some, None, Option, sym, refl, subst, inl, inr, ⊎_elim, mul-le-mul, arith}
use Rattle.std.specs.List.{AllByRecursion}
use Rattle.std.proofs.lemmas.Bool.{ltb-false}
use Rattle.std.proofs.lemmas.Bool.Decides.{nat_tests}
use Rattle.quantities.specs.Limits.{most_grant, most_old_units, most_balance, most_use, most_top_up, last_moment, last_call_day}
use Rattle.quantities.specs.Units.{of}
use Rattle.quantities.specs.declared.unit.PerUnit.{PerUnit}
use Rattle.quantities.specs.declared.unit.UnitKind.{UnitKind}
use Rattle.quantities.specs.declared.unit.UnitKind.TheVariants.{Minutes, Megabytes, Messages}
use Rattle.calendar.proofs.Due.{month_of_before}
use Rattle.tariff.specs.Terms.{Terms, Entry, WithinLimits, amount}
use Rattle.book.specs.Allowance.{Allowance, left}
use Rattle.rules.specs.declared.call.Service.{Service}
use Rattle.rules.specs.declared.call.Service.TheVariants.{Counted as counted, International as international}
use Rattle.rules.specs.declared.call.Call.{Call}
use Rattle.rules.specs.declared.call.Call.TheVariants.{TopUp as top_up, Use as use_of, Restart as restart, Switch as switch, MegabyteOption as option, DayMark as day_mark}
use Rattle.rules.specs.declared.call.Event.{Event}
use Rattle.rules.specs.Receipt.{Receipt, ◌⊕◌, nothing}
use Rattle.rules.specs.State.{Calendar, World, State, Account, Out, same}
use Rattle.rules.specs.DueDays.{settle, lapse_all, bring_up}
use Rattle.rules.specs.Calls.{serve, perform, switch_to, switched}
use Rattle.rules.specs.Checks.{Refusal, outside, checks, all_checks, day_of, brought, refusal}
use Rattle.rules.specs.Runs.{Answer, accepted, step, run, opened}
use Rattle.rules.specs.Laws.{paid_in, paid_by}
use Rattle.rules.specs.Gregorian.{gregorian}
use Rattle.rules.specs.Bounds.{most_column, ColumnsWithin, HundredYears, ColumnsBounded}
use Rattle.rules.proofs.Closing.{Closes, closes_bring_up, out_of, closes_step, stands}
use Rattle.rules.proofs.Steps.{step_accepts, step_refuses, told, passed}
use Rattle.rules.proofs.Fees.{Renews, renews_bring_up, feeless_nothing}
use Rattle.rules.proofs.FeesOfCalls.{OneFee, granted_once, fee_top_up, ungranted_serve, fee_restart, starts_switch}
use Rattle.rules.proofs.SoundRuns.{reached}

-- ## Grants

-- what a book may hold: a fresh amount and old units
abbrev pub most-left : ℕ
most-left = most_grant + most_old_units

-- a step that grants at most g of each unit, and in which at most the largest use goes beyond an allowance
abbrev Lends : ℕ → Receipt → Type 0
Lends g r = (k : UnitKind) → ((of k r.units).granted ≤ g) × ((of k r.units).beyond ≤ most_use)

renewals : (w : Calendar) → HundredYears w → (D : ℕ) → D ≤ last_call_day → (s : State) (o : Out) (r : Renews w D s o) → r.count ≤ 1200
renewals w y D l s o r =
    let m = y D l in
    ⊎_elim (λ e. let z = r.idle e in omega arith) (λ x. let q = r.months x.0 x.1 in omega arith) (stands s)

bring_up_lends : (w : Calendar) → HundredYears w → (D : ℕ) → D ≤ last_call_day → (s : State) → WithinLimits s.terms → Lends (1200 * most_grant) (bring_up w D s).receipt
bring_up_lends w y D l s h k =
    let r = renews_bring_up w D s h in
    let few = renewals w y D l s (bring_up w D s) r in
    let p : r.count * amount k s.terms ≤ 1200 * most_grant = mul-le-mul few (h.amounts k) in
    (omega (arith, r.taken.grants k), omega (arith, r.taken.unused k))

lends_once : (w : Calendar) (D : ℕ) (t : Terms) (s : State) (r : Receipt) → WithinLimits t → OneFee w D t s r → Lends most_grant r
lends_once w D t s r h f k = let p = granted_once w D t s r h f k in omega arith

beyond-serve : (v : Option Service) (n : ℕ) (s : State) (k : UnitKind) → (of k (serve v n s).receipt.units).beyond ≤ n
beyond-serve None n s = elim [ Minutes ↦ omega arith | Megabytes ↦ omega arith | Messages ↦ omega arith ]
beyond-serve (Some (counted Minutes)) n s = elim [ Minutes ↦ omega arith | Megabytes ↦ omega arith | Messages ↦ omega arith ]
beyond-serve (Some (counted Megabytes)) n s = elim [ Minutes ↦ omega arith | Megabytes ↦ omega arith | Messages ↦ omega arith ]
beyond-serve (Some (counted Messages)) n s = elim [ Minutes ↦ omega arith | Megabytes ↦ omega arith | Messages ↦ omega arith ]
beyond-serve (Some international) n s = elim [ Minutes ↦ omega arith | Megabytes ↦ omega arith | Messages ↦ omega arith ]

inside : (a b n : ℕ) → outside a b n ≡ false → n ≤ b
inside a b n h = grind (arith, nat_tests)

perform_lends : (w : World) (D : ℕ) (c : Call) (s : State) → WithinLimits s.terms → AllByRecursion (λ x. x.fails ≡ false) (checks w D c s) →
    Lends most_grant (perform w D c s).receipt
perform_lends w D (top_up n) s h p = lends_once w.calendar D s.terms s _ h (fee_top_up w.calendar D n.0 s)
perform_lends w D (use_of v n) s h p = λ k. (omega (arith, ungranted_serve v n s k), omega (arith, beyond-serve v n s k, inside 1 most_use n p.0))
perform_lends w D restart s h p = lends_once w.calendar D s.terms s _ h (fee_restart w.calendar D s)
perform_lends w D (switch c) s h p = go (w.terms c.0) (w.entry s.plan c.0) refl refl
  where
    idle : Lends most_grant nothing
    idle = lends_once w.calendar D s.terms s nothing h (inl feeless_nothing)

    go : (t : Option Terms) (e : Option Entry) → w.terms c.0 ≡ t → w.entry s.plan c.0 ≡ e → Lends most_grant (switch_to w D c.0 s).receipt
    go None e i j = let x : same s ≡ switch_to w D c.0 s = cc in subst (λ (o : Out). Lends most_grant o.receipt) x idle
    go (Some t) None i j = let x : same s ≡ switch_to w D c.0 s = cc in subst (λ (o : Out). Lends most_grant o.receipt) x idle
    go (Some t) (Some e) i j =
        let x : switched w.calendar D c.0 t e s ≡ switch_to w D c.0 s = cc in
        subst (λ (o : Out). Lends most_grant o.receipt) x
        (lends_once w.calendar D t s _ (w.lawful.within c.0 t i) (inr (starts_switch w.calendar D c.0 t e s)))
perform_lends w D option s h p = lends_once w.calendar D s.terms s nothing h (inl feeless_nothing)
perform_lends w D day_mark s h p = lends_once w.calendar D s.terms s nothing h (inl feeless_nothing)

lends_then : (g l : ℕ) (r s : Receipt) → Lends g r → ((k : UnitKind) → (of k r.units).beyond ≡ 0) → Lends l s → Lends (g + l) (r ⊕ s)
lends_then g l r s p z q = elim [ Minutes ↦ at Minutes | Megabytes ↦ at Megabytes | Messages ↦ at Messages ]
  where
    at : (k : UnitKind) → ((of k r.units).granted + (of k s.units).granted ≤ g + l) × ((of k r.units).beyond + (of k s.units).beyond ≤ most_use)
    at k = let a = p k in let b = q k in let c = z k in omega arith

-- ## Columns

pub columns_nothing : (n : ℕ) → ColumnsWithin n nothing
columns_nothing n = record { fees = omega arith; use_charges = omega arith; switch_charges = omega arith; units = elim [ Minutes ↦ omega arith | Megabytes ↦ omega arith | Messages ↦ omega arith ] }

-- a part of a receipt is within what the whole is within
pub columns_first : (n : ℕ) (r s : Receipt) → ColumnsWithin n (r ⊕ s) → ColumnsWithin n r
columns_first n r s h = record {
  fees = let x = h.fees in omega arith;
  use_charges = let x = h.use_charges in omega arith;
  switch_charges = let x = h.switch_charges in omega arith;
  units = elim [
    | Minutes ↦ (let x = h.units Minutes in omega arith)
    | Megabytes ↦ (let x = h.units Megabytes in omega arith)
    | Messages ↦ (let x = h.units Messages in omega arith)
  ];
}

pub columns_second : (n : ℕ) (r s : Receipt) → ColumnsWithin n (r ⊕ s) → ColumnsWithin n s
columns_second n r s h = record {
  fees = let x = h.fees in omega arith;
  use_charges = let x = h.use_charges in omega arith;
  switch_charges = let x = h.switch_charges in omega arith;
  units = elim [
    | Minutes ↦ (let x = h.units Minutes in omega arith)
    | Megabytes ↦ (let x = h.units Megabytes in omega arith)
    | Messages ↦ (let x = h.units Messages in omega arith)
  ];
}

-- what is charged was held or paid in, and what goes out of a book was left or granted
columns_from : (n b : ℕ) (bs : PerUnit Allowance) (o : Out) → n ≤ most_top_up → b ≤ most_balance → ((k : UnitKind) → left (of k bs) ≤ most-left) →
    Closes n b bs o → Lends (1201 * most_grant) o.receipt → ColumnsWithin most_column o.receipt
columns_from n b bs o p q h c l =
    let m = c.money in
    record {
      fees = omega arith;
      use_charges = omega arith;
      switch_charges = omega arith;
      units = λ k. let x = c.units k in let y = l k in let z = h k in omega arith;
    }

pub bring_up_columns : (w : Calendar) → HundredYears w → (D : ℕ) → D ≤ last_call_day → (s : State) → WithinLimits s.terms → s.balance ≤ most_balance →
    ((k : UnitKind) → left (of k s.books) ≤ most-left) → ColumnsWithin most_column (bring_up w D s).receipt
bring_up_columns w y D l s h b books =
    columns_from 0 s.balance s.books (bring_up w D s) (omega arith) b books (closes_bring_up w D s)
    (λ k. let x = bring_up_lends w y D l s h k in omega arith)

pub settle_columns : (w : Calendar) → HundredYears w → (D : ℕ) → D ≤ last_call_day → (s : State) → WithinLimits s.terms → s.balance ≤ most_balance →
    ((k : UnitKind) → left (of k s.books) ≤ most-left) → ColumnsWithin most_column (settle w (suc D) D s).receipt
settle_columns w y D l s h b books =
    let o = settle w (suc D) D s in
    columns_first most_column o.receipt (lapse_all D o.state).receipt (bring_up_columns w y D l s h b books)

paid_most : (w : World) (D : ℕ) (c : Call) (s : State) → AllByRecursion (λ x. x.fails ≡ false) (checks w D c s) → paid_in c ≤ most_top_up
paid_most w D (top_up n) s p = inside 1 most_top_up n.0 p.0
paid_most w D (use_of v n) s p = omega arith
paid_most w D restart s p = omega arith
paid_most w D (switch c) s p = omega arith
paid_most w D option s p = omega arith
paid_most w D day_mark s p = omega arith

-- One call on any account whose terms, balance and books are within the limits.
pub step_columns : (w : World) → HundredYears w.calendar → (a : Account) (e : Event) →
    WithinLimits a.state.terms → a.state.balance ≤ most_balance → ((k : UnitKind) → left (of k a.state.books) ≤ most-left) →
    ColumnsWithin most_column (step w a e).receipt
step_columns w y a e h b books = ⊎_elim accept refuse (told w a e)
  where
    D : ℕ
    D = day_of e.moment.0

    accept : refusal w a e ≡ None → ColumnsWithin most_column (step w a e).receipt
    accept z =
        let up = brought w e.moment.0 a in
        let all = passed (all_checks w a e) z in
        let early = ltb-false last_moment e.moment.0 all.0 in
        let l : D ≤ last_call_day = omega arith in
        let r = renews_bring_up w.calendar D a.state h in
        let lends = perform_lends w D e.call up.state (subst WithinLimits (sym r.terms) h) all.1.1 in
        let p : Closes (paid_in e.call) a.state.balance a.state.books (out_of (accepted w a e)) =
        subst (λ (x : Answer). Closes (paid_by e.call x.outcome) a.state.balance a.state.books (out_of x)) (step_accepts w a e z) (closes_step w a e) in
        subst (λ (x : Answer). ColumnsWithin most_column x.receipt) (sym (step_accepts w a e z))
        (columns_from (paid_in e.call) a.state.balance a.state.books (out_of (accepted w a e)) (paid_most w D e.call up.state all.1.1) b books p
        (lends_then (1200 * most_grant) most_grant up.receipt (perform w D e.call up.state).receipt (bring_up_lends w.calendar y D l a.state h) r.taken.unused lends))

    refuse : (f : Refusal) × (refusal w a e ≡ Some f) → ColumnsWithin most_column (step w a e).receipt
    refuse n = subst (λ (x : Answer). ColumnsWithin most_column x.receipt) (sym (step_refuses w a e n.0 n.1)) (columns_nothing most_column)

pub columns_bounded : ColumnsBounded
columns_bounded w c t m h es y e =
    let a = (run w (opened c t m) es).account in
    let fit = (reached w c t m h es).sound.fit in
    step_columns w y a e fit.limits fit.balance (λ k. let x = fit.books k in omega arith)

-- the Gregorian calendar has 1,200 months up to the last day on which a call can be dated
pub gregorian_years : HundredYears gregorian
gregorian_years d h = month_of_before d 1200 (omega arith)
