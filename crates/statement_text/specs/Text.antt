-- The lines of a statement, as bytes.
use Rattle.std.specs.Prelude.{ℕ, cond, List, ◌++◌, Some, None, codes, decimal, Option, nat_le}
use Rattle.calendar.specs.declared.date.Date.{Date}
use Rattle.calendar.specs.Dates.{last_day}
use Rattle.calendar.specs.Due.{date_of}
use Rattle.calendar.specs.Text.{date_text}
use Rattle.rules.specs.declared.call.Status.{Status}
use Rattle.rules.specs.declared.call.Status.TheVariants.{Blocked, Active}

-- A record's line has its index, its refusal's number or 0, the fees, use charges and switch charges of its call, and
-- the balance after it: decimal numbers with a space between them, and a line feed.
abbrev pub record_text : ℕ → ℕ → ℕ → ℕ → ℕ → ℕ → List ℕ
record_text index number fees use_charges switch_charges balance =
    decimal index
    ++ (codes " " ++ (decimal number
    ++ (codes " " ++ (decimal fees
    ++ (codes " " ++ (decimal use_charges ++ (codes " " ++ (decimal switch_charges ++ (codes " " ++ (decimal balance ++ codes "\n"))))))))))

-- A refused file or opening has one line, with its number.
abbrev pub refused_text : ℕ → List ℕ
refused_text number = codes "refused " ++ (decimal number ++ codes "\n")

-- The date of a day, which days past the calendar's last don't have.
abbrev pub date_on : ℕ → Option Date
date_on d = cond (nat_le d last_day) (Some (date_of d)) None

abbrev pub due_text : Option Date → Option (List ℕ)
due_text None = None
due_text (Some t) = Some (codes "due " ++ (date_text t ++ codes "\n"))

-- The last line says that the account is blocked, or the date when it is due; a due day without a date has no line.
abbrev pub last_text : Status → Option (List ℕ)
last_text Blocked = Some (codes "blocked\n")
last_text (Active d) = due_text (date_on d.0)
