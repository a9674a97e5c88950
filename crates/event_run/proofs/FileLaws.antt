-- The run of a file is the run of its calls, so that the laws over runs hold of what it hands back.
use Rattle.std.specs.List.{cons_option}
use Rattle.std.proofs.Common.{◌≡◌, ℕ, ◌+◌, Bool, true, false, cond, ltb, List, [], ◌∷◌, ◌++◌, length, take, drop, Some, None, Option, sym, refl, ap, ◌∙◌, subst, subst₂}
use Rattle.quantities.specs.Limits.{last_moment}
use Rattle.quantities.specs.Units.{of}
use Rattle.tariff.specs.Terms.{Terms}
use Rattle.rules.specs.declared.call.Event.{Event}
use Rattle.rules.specs.Receipt.{Receipt, ◌⊕◌}
use Rattle.rules.specs.State.{World, Account, money_held, money_charged, units_accounted}
use Rattle.rules.specs.Checks.{Refusal}
use Rattle.rules.specs.Runs.{Run, run, step, onward, opened}
use Rattle.rules.specs.Laws.{topped_up, OneAccepted}
use Rattle.rules.proofs.Receipts.{nothing-⊕}
use Rattle.rules.proofs.Closing.{money_closes, units_close}
use Rattle.rules.proofs.Marks.{day_mark_free}
use Rattle.event_file.specs.Layout.{opening_plan, opening_moment}
use Rattle.event_file.specs.Parts.{Placed, parts}
use Rattle.event_file.specs.Records.{decoded}
use Rattle.event_run.specs.Postings.{Posting, answer_to, placed_outcome, postings, closing, postings_from, closing_from, file_postings, file_closing}
use Rattle.event_run.specs.FileLaw.{calls, with_outcome, bare, call_outcomes, total, FileLaw, LawFrom, LawOfFile, LawClosing, ObeysLaw}

bare-placed : (o : Option Refusal) (p : _) → bare (placed_outcome o p) ≡ o
bare-placed None p = refl
bare-placed (Some f) p = refl

-- what a run of a file is, by its calls
abbrev Told : World → Account → List Placed → Type 0
Told w a ps =
    let r : Run = record { outcomes = call_outcomes ps (postings w a ps); account = closing w a ps; total = total (postings w a ps) } in
    r ≡ run w a (calls ps)

pub told : (w : World) (a : Account) (ps : List Placed) → Told w a ps
told w a [] = refl
told w a (p ∷ ps) = go (λ b. told w b ps) (decoded p.bytes)
  where
    go : ((b : Account) → Told w b ps) → (d : Option Event) →
        let x = answer_to d w a in
        let r : Run = record {
          outcomes = with_outcome d (bare (placed_outcome x.outcome p.place)) (call_outcomes ps (postings w x.account ps));
          account = closing w x.account ps;
          total = x.receipt ⊕ total (postings w x.account ps);
        } in
        r ≡ run w a (cons_option d (calls ps))
    go rest None =
        ap (λ t. let r : Run = record { outcomes = call_outcomes ps (postings w a ps); account = closing w a ps; total = t } in r) (nothing-⊕ (total (postings w a ps)))
        ∙ rest a
    go rest (Some e) =
        let x = step w a e in
        ap (λ o. let r : Run = record { outcomes = o ∷ call_outcomes ps (postings w x.account ps); account = closing w x.account ps; total = x.receipt ⊕ total (postings w x.account ps) } in r) (bare-placed x.outcome p.place)
        ∙ ap (onward x) (rest x.account)

-- the law of the run of a list of calls, for whatever run is equal to it
abbrev Law : World → Account → List Placed → Run → Type 0
Law w a ps r =
    let o : List Posting → Type 0 = λ posted. FileLaw w ps a posted r.account in
    (posted : List Posting) → call_outcomes ps posted ≡ r.outcomes → total posted ≡ r.total → o posted

law : (w : World) (c : ℕ) (t : Terms) (m : ℕ) (ps : List Placed) → Law w (opened c t m) ps (run w (opened c t m) (calls ps))
law w c t m ps posted os ts =
    let a = opened c t m in
    let es = calls ps in
    let r = run w a es in
    record {
      money = ap (topped_up es) os ∙ money_closes w c t m es ∙ ap (λ x. money_held r.account.state + money_charged x) (sym ts);
      units = λ k. ap (λ (x : Receipt). (of k x.units).granted) ts ∙ units_close w c t m es k ∙ ap (λ x. units_accounted k r.account.state x) (sym ts);
      marks = λ before later is n h one.
          let plain = ap (run w a) is in
          let free = day_mark_free w c t m before later n h (subst (λ x. OneAccepted (drop (length before) x)) (os ∙ sym (ap (λ (x : Run). x.outcomes) plain)) one) in
          let ((x, marked), end, sum) = free in
          let k = length before in
          let back : (run w a (before ++ later)).outcomes ≡ call_outcomes ps posted = ap (λ (y : Run). y.outcomes) plain ∙ sym os in
          ((x, marked ∙ ap (λ ys. take k ys ++ (x ∷ drop k ys)) back), end ∙ ap (λ (y : Run). y.account) plain, sum ∙ ap (λ (y : Run). y.total) plain ∙ sym ts);
    }

pub file_law : (w : World) (c : ℕ) (t : Terms) (m : ℕ) (ps : List Placed) →
    FileLaw w ps (opened c t m) (postings w (opened c t m) ps) (closing w (opened c t m) ps)
file_law w c t m ps =
    let a = opened c t m in
    let same = told w a ps in
    subst (Law w a ps) (sym same) (law w c t m ps) (postings w a ps) refl refl

-- what a run handed back obeys the law
pub law_of_file : (w : World) (file : List ℕ) (posted : List Posting) (end : Account) →
    posted ≡ file_postings w file → Some end ≡ file_closing w file → LawOfFile w file posted end
law_of_file w file posted end = go (ltb last_moment (opening_moment file)) (w.terms (opening_plan file))
  where
    go : (late : Bool) (t : Option Terms) →
        let o = cond {A = Option Account} late None (elim t [ None ↦ None | Some x ↦ Some (opened (opening_plan file) x (opening_moment file)) ]) in
        posted ≡ postings_from o w file → Some end ≡ closing_from o w file → LawFrom o w file posted end
    go true t p q = tt
    go false None p q = tt
    go false (Some t) p q =
        let c = opening_plan file in
        let m = opening_moment file in
        let a = opened c t m in
        let ends : end ≡ closing w a (parts file) = cc in
        subst₂ (FileLaw w (parts file) a) (sym p) (sym ends) (file_law w c t m (parts file))

pub obeys_law : (w : World) (file : List ℕ) → ObeysLaw w file
obeys_law w file = go (file_closing w file) refl
  where
    go : (o : Option Account) → o ≡ file_closing w file → LawClosing o w file
    go None e = tt
    go (Some end) e = law_of_file w file (file_postings w file) end refl e
