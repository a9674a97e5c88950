-- What is written is the text of the due day's date.
use Rattle.std.proofs.Common.{◌≡◌, Bool, true, false, cond, List, ℕ, ◌++◌, codes, Ok, Err, Some, None, sym, ap, ◌∙◌}
use Rattle.calendar.specs.declared.date.Date.{Date}
use Rattle.calendar.specs.declared.days.PastCalendar.{PastCalendar}
use Rattle.calendar.proofs.Text.{date_written}
use Rattle.statement_text.specs.Text.{due_text, last_text}
use Rattle.statement_text.proofs.line.last_line.Goals as goal

told : (b : Bool) (t x : Date) (e : PastCalendar) → Ok t ≡ cond b (Ok x) (Err e) → cond b (Some x) None ≡ Some t
told true t x e h = cc
told false t x e h = cc

pub returns-in_ok-format-in-Active : goal.returns-in_ok-format-in-Active
returns-in_ok-format-in-Active c =
    let of = c.in-Ok.ensures in
    record {
      text = ap last_text c.in-Active.is ∙ ap due_text (told _ _ _ _ of.value) ∙ ap (λ (text : List ℕ). Some (codes "due " ++ (text ++ codes "\n"))) (sym (date_written _ _ of.date)) ∙ ap (λ (bytes : List ℕ). Some bytes) (sym c.in_ok-format-in-Active.ensures.ok);
    }
