-- The statement of an event file, as bytes.
use Rattle.std.specs.Prelude.{ℕ, List, [], ◌∷◌, ◌++◌, Some, None, Option}
use Rattle.rules.specs.State.{World, Account}
use Rattle.event_run.specs.Postings.{PlacedRefusal, Posting, refused_file, file_postings, file_closing}
use Rattle.statement_text.specs.Text.{record_text, refused_text, last_text}

-- An accepted call has the number 0, a refused one the number of its refusal.
abbrev pub outcome_number : Option PlacedRefusal → ℕ
outcome_number None = 0
outcome_number (Some f) = f.refusal.number

-- A record's line tells its index, the number of its outcome, what its call took, and the balance after it.
abbrev pub posting_text : Posting → List ℕ
posting_text p =
    record_text p.place.index (outcome_number p.outcome) p.receipt.fees p.receipt.use_charges p.receipt.switch_charges p.balance

-- The lines of all records stand one after another.
abbrev pub postings_text : List Posting → List ℕ
postings_text [] = []
postings_text (p ∷ ps) = posting_text p ++ postings_text ps

-- The last line tells the status of the account after the last record.
abbrev pub closing_text : Option Account → Option (List ℕ)
closing_text None = None
closing_text (Some a) = last_text a.state.status

-- the lines of the records with the last line after them, where there is one
abbrev pub with_last : List ℕ → Option (List ℕ) → Option (List ℕ)
with_last lines None = None
with_last lines (Some last) = Some (lines ++ last)

abbrev pub text_by : Option PlacedRefusal → World → List ℕ → Option (List ℕ)
text_by (Some f) w file = Some (refused_text f.refusal.number)
text_by None w file = with_last (postings_text (file_postings w file)) (closing_text (file_closing w file))

-- A refused file or opening has one line alone; any other file has a line for each record, and then the last line. There
-- is no statement only where the account is due past the calendar.
abbrev pub text_of_statement : World → List ℕ → Option (List ℕ)
text_of_statement w file = text_by (refused_file w file) w file
