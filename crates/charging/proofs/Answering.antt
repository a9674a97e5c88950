-- What a host is answered, where there is room for the answer.
use Rattle.std.proofs.Common.{◌≡◌, ℕ, ◌*◌, ◌≤◌, true, cond, ltb, List, Some, Option, sym, refl, ap, ◌∙◌}
use Rattle.std.proofs.lemmas.Bool.{le-ltb}
use Rattle.rules.specs.State.{World}
use Rattle.event_file.specs.Layout.{count, file_right}
use Rattle.event_file.specs.FileFaults.{number_of}
use Rattle.event_file.specs.declared.file_fault.FileFault.{FileFault}
use Rattle.event_file.specs.declared.file_fault.FileFault.TheVariants.{WrongFile, WrongRecord, Account}
use Rattle.event_run.specs.Postings.{PlacedRefusal, refused_file}
use Rattle.event_run.specs.Coded.{file_refusal_of}
use Rattle.charging.specs.Answers.{file_number, life_columns, totals_answer, posting_columns, postings_answer}

-- a file's refusal is told by its number
pub told_number : (f : FileFault) → number_of f ≡ file_number (Some (file_refusal_of f))
told_number WrongFile = refl
told_number (WrongRecord p) = refl
told_number (Account f p) = refl

with_room : (room answer : ℕ) → life_columns ≤ room → answer ≡ cond (ltb room life_columns) 100 answer
with_room room answer h = ap (λ b. cond b 100 answer) (sym (le-ltb room life_columns h))

pub totals_told : (w : World) (file : List ℕ) (room : ℕ) (o : Option PlacedRefusal) → life_columns ≤ room → o ≡ refused_file w file →
    file_number o ≡ totals_answer w file room
totals_told w file room o h e = ap file_number e ∙ with_room room (file_number (refused_file w file)) h

pub postings-told : (w : World) (file : List ℕ) (room : ℕ) → file_right file ≡ true → posting_columns * count file ≤ room →
    file_number (refused_file w file) ≡ postings_answer w file room
postings-told w file room right h =
    ap (λ b. cond b 100 (file_number (refused_file w file))) (sym (le-ltb room (posting_columns * count file) h))
    ∙ ap (λ b. cond b (cond (ltb room (posting_columns * count file)) 100 (file_number (refused_file w file))) 13) (sym right)
