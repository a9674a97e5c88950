-- A call can be judged ahead of its due days on small books: what they leave depends on no old lot, and after a renewal
-- a book holds at most one old lot, which ends on the due day that then stands, so that no book refuses to be set aside.
use Rattle.std.proofs.Common.{◌≡◌, ℕ, zero, suc, ◌≤◌, Bool, true, false, cond, not, ltb, leb, [], ◌∷◌, is_some, Some, None, Ok, Err, Option, sym, refl, ap, ◌∙◌, subst, inl, inr, arith}
use Rattle.std.proofs.lemmas.Bool.Decides.{nat_tests}
use Rattle.quantities.specs.Limits.{most_grant}
use Rattle.quantities.specs.Units.{of}
use Rattle.quantities.specs.declared.time.Day.{Day}
use Rattle.quantities.specs.declared.unit.UnitKind.{UnitKind}
use Rattle.quantities.specs.declared.unit.UnitKind.TheVariants.{Minutes, Megabytes, Messages}
use Rattle.tariff.specs.Terms.{Entry, carries_unit, restart_wipes_unit}
use Rattle.book.specs.declared.fault.BookFault.{BookFault}
use Rattle.book.specs.Allowance.{Allowance, as_lot, lasting, lapsed, aside_answer}
use Rattle.rules.specs.declared.call.Status.{Status}
use Rattle.rules.specs.declared.call.Status.TheVariants.{Blocked as blocked, Active as active}
use Rattle.rules.specs.declared.call.Call.{Call}
use Rattle.rules.specs.declared.call.Call.TheVariants.{TopUp as top_up, Use as use_of, Restart as restart, Switch as switch, MegabyteOption as option, DayMark as day_mark}
use Rattle.rules.specs.State.{Calendar, World, State, Out, awaited_fee, awaited_grant}
use Rattle.rules.specs.DueDays.{refilled, next_due, closed, renew, block, handle, settle, lapse_all, bring_up}
use Rattle.rules.specs.Calls.{is_blocked, new_due, switch_wipes_unit}
use Rattle.rules.specs.Checks.{check, check_books, first_refusal, is_on, switch_takes, aside_refusal, concern_of, first_concern, refusing, entry_refusing, checks}
use Rattle.rules.specs.Ahead.{stripped}
use Rattle.rules.proofs.Advance.{Rests, Due, look, settle_rests, settle-due}

-- ## Old lots make no difference to a due day

handle-stripped : (w : Calendar) (d : ℕ) (s : State) → (handle w d (stripped s)).state ≡ (handle w d s).state
handle-stripped w d s = go (leb (awaited_fee s) s.balance)
  where
    go : (t : Bool) → (cond t (renew w d (stripped s)) (block (stripped s))).state ≡ (cond t (renew w d s) (block s)).state
    go true = refl
    go false = refl

pub settle-stripped : (w : Calendar) (D : ℕ) (d : Day) (s : State) → s.status ≡ active d → d.0 ≤ D →
    (settle w (suc D) D (stripped s)).state ≡ (settle w (suc D) D s).state
settle-stripped w D d s e l =
    ap (λ (o : Out). o.state) (settle-due w D (stripped s) d e l D)
    ∙ ap (λ t. (settle w D D t).state) (handle-stripped w d.0 s)
    ∙ sym (ap (λ (o : Out). o.state) (settle-due w D s d e l D))

-- ## One old lot

pub record Lone (e : ℕ) (b : Allowance) : Type 0 where
  pub amount : ℕ
  pub is : b.lots ≡ as_lot amount e
  pub small : amount ≤ most_grant
  pub fresh : b.fresh ≤ most_grant

refilled-lots : (n : ℕ) (b : Allowance) → (refilled n b).lots ≡ b.lots
refilled-lots n b = grind (arith, nat_tests)

refilled-fresh : (n : ℕ) (b : Allowance) → b.fresh ≤ most_grant → (refilled n b).fresh ≤ most_grant
refilled-fresh n b h = grind (arith, nat_tests)

lone_renewed : (c : Bool) (n e : ℕ) (b : Allowance) → b.fresh ≤ most_grant → Lone e (refilled n (closed c e b))
lone_renewed true n e b k = record {
  amount = b.fresh;
  is = refilled-lots n (closed true e b);
  small = k;
  fresh = refilled-fresh n (closed true e b) (omega arith);
}
lone_renewed false n e b k = record {
  amount = 0;
  is = refilled-lots n (closed false e b);
  small = omega arith;
  fresh = refilled-fresh n (closed false e b) (omega arith);
}

lasting_lot : (D x e : ℕ) → lasting D (as_lot x e) ≡ as_lot (cond (leb e D) 0 x) e
lasting_lot D x e = grind (arith, nat_tests)

lone_lapse : (D e : ℕ) (b : Allowance) → Lone e b → Lone e (lapsed D b)
lone_lapse D e b h = record {
  amount = cond (leb e D) 0 h.amount;
  is = ap (lasting D) h.is ∙ lasting_lot D h.amount e;
  small = let k = h.small in grind (arith, nat_tests);
  fresh = h.fresh;
}

room_lot : (C f x e c : ℕ) → 1 ≤ C → f ≤ most_grant → x ≤ most_grant → aside_answer C e c (record { fresh = f; lots = as_lot x e }) ≡ Ok tt
room_lot C f x e c h k l = grind (arith, nat_tests)

room_lone : (C e c : ℕ) (b : Allowance) → 1 ≤ C → Lone e b → aside_answer C e c b ≡ Ok tt
room_lone C e c b h l =
    ap (λ ls. aside_answer C e c (record { fresh = b.fresh; lots = ls })) l.is ∙ room_lot C b.fresh l.amount e c h l.fresh l.small

-- ## The three books

abbrev pub FewFresh : State → Type 0
FewFresh s = (k : UnitKind) → (of k s.books).fresh ≤ most_grant

abbrev pub Tidy : State → Type 0
Tidy s = (e : Day) → s.status ≡ active e → (k : UnitKind) → Lone e.0 (of k s.books)

lone_each : (w : Calendar) (d : ℕ) (s : State) → FewFresh s → (k : UnitKind) → Lone (next_due w d s) (of k (renew w d s).state.books)
lone_each w d s h Minutes = lone_renewed (carries_unit Minutes s.terms) (awaited_grant Minutes s) (next_due w d s) s.books.minutes (h Minutes)
lone_each w d s h Megabytes = lone_renewed (carries_unit Megabytes s.terms) (awaited_grant Megabytes s) (next_due w d s) s.books.megabytes (h Megabytes)
lone_each w d s h Messages = lone_renewed (carries_unit Messages s.terms) (awaited_grant Messages s) (next_due w d s) s.books.messages (h Messages)

few-block : (s : State) (k : UnitKind) → (of k (block s).state.books).fresh ≤ most_grant
few-block s Minutes = omega arith
few-block s Megabytes = omega arith
few-block s Messages = omega arith

tidy_handle : (w : Calendar) (d : ℕ) (s : State) → FewFresh s → Tidy (handle w d s).state × FewFresh (handle w d s).state
tidy_handle w d s h = go (leb (awaited_fee s) s.balance)
  where
    go : (t : Bool) → Tidy (cond t (renew w d s) (block s)).state × FewFresh (cond t (renew w d s) (block s)).state
    go true = (
      (λ e p k. let q : next_due w d s ≡ e.0 = cc in subst (λ x. Lone x (of k (renew w d s).state.books)) q (lone_each w d s h k)),
      (λ k. (lone_each w d s h k).fresh),
    )
    go false = ((λ e p k. let z : ◌≡◌ {A = ℕ} 0 1 = cc in absurd (omega arith)), few-block s)

tidy_settle : (w : Calendar) (n D : ℕ) (s : State) → Tidy s → FewFresh s → Tidy (settle w n D s).state
unfolding Rests Due
tidy_settle w zero D s t h = t
tidy_settle w (suc n) D s t h =
    elim (look D s) [
      | inl r ↦ subst (λ (o : Out). Tidy o.state) (sym (settle_rests w D s r (suc n))) t
      | inr x ↦
          let (d, e, l) = x in
          let next = tidy_handle w d.0 s h in
          subst (λ (o : Out). Tidy o.state) (sym (settle-due w D s d e l n)) (tidy_settle w n D (handle w d.0 s).state next.0 next.1)
    ]

-- a due day was handled, and perhaps more
tidy_due : (w : Calendar) (D : ℕ) (d : Day) (s : State) → s.status ≡ active d → d.0 ≤ D → FewFresh s → Tidy (settle w (suc D) D s).state
tidy_due w D d s e l h =
    let next = tidy_handle w d.0 s h in
    subst (λ (o : Out). Tidy o.state) (sym (settle-due w D s d e l D)) (tidy_settle w D D (handle w d.0 s).state next.0 next.1)

tidy_lapse : (D : ℕ) (s : State) → Tidy s → Tidy (lapse_all D s).state
tidy_lapse D s h e p Minutes = lone_lapse D e.0 s.books.minutes (h e p Minutes)
tidy_lapse D s h e p Megabytes = lone_lapse D e.0 s.books.megabytes (h e p Megabytes)
tidy_lapse D s h e p Messages = lone_lapse D e.0 s.books.messages (h e p Messages)

-- ## No book refuses then, whatever its capacity

module _ (w : World) (h : 1 ≤ w.capacity) (D : ℕ) (s : State) (t : Tidy s) where
  none_refuses : (wipes : UnitKind → Bool) (d : Day) → s.status ≡ active d → (k : UnitKind) → aside_refusal w wipes d.0 D s k ≡ None
  none_refuses wipes d e k = go (wipes k)
    where
      room : aside_answer w.capacity d.0 (new_due w.calendar D) (of k s.books) ≡ Ok tt
      room = room_lone w.capacity d.0 (new_due w.calendar D) (of k s.books) h (t d e k)

      go : (x : Bool) → cond {A = Option BookFault} x None (elim (aside_answer w.capacity d.0 (new_due w.calendar D) (of k s.books)) [ Ok y ↦ None | Err f ↦ Some f ]) ≡ None
      go true = refl
      go false = let r = room in cc

  refusing-none : (wipes : UnitKind → Bool) → refusing w wipes D s ≡ None
  refusing-none wipes = go s.status refl
    where
      go : (x : Status) → s.status ≡ x → refusing w wipes D s ≡ None
      go blocked e = cc
      go (active d) e =
          let f = aside_refusal w wipes d.0 D s in
          let p = none_refuses wipes d e Minutes in
          let q = none_refuses wipes d e Megabytes in
          let r = none_refuses wipes d e Messages in
          let z : first_concern f ≡ None =
          ap (λ x. concern_of Minutes x (concern_of Megabytes (f Megabytes) (concern_of Messages (f Messages) None))) p
          ∙ ap (λ x. concern_of Megabytes x (concern_of Messages (f Messages) None)) q
          ∙ ap (λ x. concern_of Messages x None) r
          in cc

  entry_refusing-none : (o : Option Entry) → entry_refusing w o D s ≡ None
  entry_refusing-none None = refl
  entry_refusing-none (Some e) = refusing-none (switch_wipes_unit e s.terms)

-- two worlds that differ in the capacity alone
abbrev pub holding : World → ℕ → World
holding w C = record { calendar = w.calendar; terms = w.terms; entry = w.entry; capacity = C; lawful = w.lawful }

module _ (w : World) (m n : ℕ) (h : 1 ≤ m) (k : 1 ≤ n) where
  same-checks : (D : ℕ) (c : Call) (s : State) → Tidy s → checks (holding w m) D c s ≡ checks (holding w n) D c s
  same-checks D (top_up x) s t = refl
  same-checks D (use_of v x) s t = refl
  same-checks D restart s t =
      let wipes : UnitKind → Bool = λ u. restart_wipes_unit u s.terms in
      ap (λ r. check 6 (is_blocked s) ∷ check 8 (is_on s.last_fee D) ∷ check 10 (ltb s.balance (awaited_fee s)) ∷ check_books r ∷ [])
      (refusing-none (holding w m) h D s t wipes ∙ sym (refusing-none (holding w n) k D s t wipes))
  same-checks D (switch x) s t =
      let o = w.entry s.plan x.0 in
      ap (λ r. check 4 (not (is_some (w.terms x.0))) ∷ check 5 (not (is_some o)) ∷ check 10 (ltb s.balance (switch_takes (w.terms x.0) o)) ∷ check_books r ∷ [])
      (entry_refusing-none (holding w m) h D s t o ∙ sym (entry_refusing-none (holding w n) k D s t o))
  same-checks D option s t = refl
  same-checks D day_mark s t = refl

  -- u is what the settled small books mean, from a state without old lots
  pub same-told : (D : ℕ) (d : Day) (c : Call) (s u : State) → s.status ≡ active d → d.0 ≤ D → FewFresh s →
      u ≡ (settle w.calendar (suc D) D (stripped s)).state →
      first_refusal (checks (holding w m) D c (lapse_all D u).state) ≡ first_refusal (checks (holding w n) D c (bring_up w.calendar D s).state)
  same-told D d c s u e l f p =
      let v = (settle w.calendar (suc D) D s).state in
      let same : u ≡ v = p ∙ settle-stripped w.calendar D d s e l in
      let tidy : Tidy (lapse_all D v).state = tidy_lapse D v (tidy_due w.calendar D d s e l f) in
      ap (λ x. first_refusal (checks (holding w m) D c (lapse_all D x).state)) same ∙ ap first_refusal (same-checks D c (lapse_all D v).state tidy)
