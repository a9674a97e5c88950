-- What bounds every run bounds the run of a file.
use Rattle.std.proofs.Common.{◌≡◌, ℕ, ◌≤◌, Bool, true, false, cond, ltb, List, [], ◌∷◌, Some, None, Option, sym, refl, ap, ◌∙◌, subst, arith}
use Rattle.std.specs.List.{AllByRecursion}
use Rattle.quantities.specs.Limits.{last_moment}
use Rattle.quantities.specs.declared.time.Day.{Day}
use Rattle.tariff.specs.Terms.{Terms}
use Rattle.rules.specs.declared.call.Status.TheVariants.{Active as active}
use Rattle.rules.specs.State.{World, Account}
use Rattle.rules.specs.declared.call.Event.{Event}
use Rattle.rules.specs.Runs.{Run, step, opened}
use Rattle.rules.specs.Bounds.{last_due_day, DuesEnd, most_column, ColumnsWithin, HundredYears}
use Rattle.rules.proofs.SoundRuns.{ReadyAccount, ready_step, ready_opened}
use Rattle.rules.proofs.Columns.{columns_nothing, step_columns}
use Rattle.rules.proofs.FeeDays.{due_days_bounded}
use Rattle.event_file.specs.Parts.{Placed, parts}
use Rattle.event_file.specs.Layout.{opening_plan, opening_moment}
use Rattle.event_file.specs.Records.{decoded}
use Rattle.event_run.specs.Postings.{Posting, answer_to, postings, postings_from, closing, closing_from, file_postings, file_closing}
use Rattle.event_run.specs.FileLaw.{calls}
use Rattle.event_run.proofs.FileLaws.{told}

-- ## Receipts

-- every column of every posting's receipt is within what 32 bits hold
abbrev pub AllWithin : List Posting → Type 0
AllWithin ps = AllByRecursion (λ p. ColumnsWithin most_column p.receipt) ps

postings_within : (w : World) → HundredYears w.calendar → (a : Account) → ReadyAccount w a → (ps : List Placed) → AllWithin (postings w a ps)
postings_within w y a h [] = tt
postings_within w y a h (p ∷ ps) = go (λ b k. postings_within w y b k ps) (decoded p.bytes)
  where
    go : ((b : Account) → ReadyAccount w b → AllWithin (postings w b ps)) → (d : Option Event) →
        ColumnsWithin most_column (answer_to d w a).receipt × AllWithin (postings w (answer_to d w a).account ps)
    go rest None = (columns_nothing most_column, rest a h)
    go rest (Some e) =
        let fit = h.sound.fit in
        (step_columns w y a e fit.limits fit.balance (λ k. let x = fit.books k in omega arith), rest (step w a e).account (ready_step w a e h))

pub file_within : (w : World) → HundredYears w.calendar → (file : List ℕ) → AllWithin (file_postings w file)
file_within w y file = go (ltb last_moment (opening_moment file)) (w.terms (opening_plan file)) refl
  where
    go : (late : Bool) (t : Option Terms) → w.terms (opening_plan file) ≡ t →
        AllWithin (postings_from (cond {A = Option Account} late None (elim t [ None ↦ None | Some x ↦ Some (opened (opening_plan file) x (opening_moment file)) ])) w file)
    go true t h = tt
    go false None h = tt
    go false (Some t) h =
        let c = opening_plan file in
        let m = opening_moment file in
        postings_within w y (opened c t m) (ready_opened w c t m (w.lawful.within c t h)) (parts file)

-- ## Due days

-- an account that has its due day, if any, on the last possible one or before
abbrev pub DueByLast : Account → Type 0
DueByLast a = (d : Day) → a.state.status ≡ active d → d.0 ≤ last_due_day

pub due_by_last : (w : World) (file : List ℕ) (end : Account) → DuesEnd w.calendar → Some end ≡ file_closing w file → DueByLast end
due_by_last w file end ends = go (ltb last_moment (opening_moment file)) (w.terms (opening_plan file)) refl
  where
    go : (late : Bool) (t : Option Terms) → w.terms (opening_plan file) ≡ t →
        let o = cond {A = Option Account} late None (elim t [ None ↦ None | Some x ↦ Some (opened (opening_plan file) x (opening_moment file)) ]) in
        Some end ≡ closing_from o w file → DueByLast end
    go true t h e = cc
    go false None h e = cc
    go false (Some t) h e =
        let c = opening_plan file in
        let m = opening_moment file in
        let ps = parts file in
        let a = opened c t m in
        let is : end ≡ closing w a ps = cc in
        let same = ap (λ (r : Run). r.account) (told w a ps) in
        subst DueByLast (sym (is ∙ same)) (λ d s. due_days_bounded w c t m h (calls ps) ends d s)
