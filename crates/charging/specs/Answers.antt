-- What a host is answered: 0 where its call was made, and otherwise the number of the refusal.
use Rattle.std.specs.Prelude.{ℕ, ◌*◌, Bool, cond, ◌||◌, List, [], ◌++◌, Some, None, Ok, Err, Option, Result, ◌==◌, nat_lt}
use Rattle.rules.specs.Receipt.{Receipt}
use Rattle.rules.specs.State.{World, Account}
use Rattle.fault.specs.Faults as account
use Rattle.event_file.specs.FileFaults as file
use Rattle.event_file.specs.Layout.{count, file_right}
use Rattle.event_run.specs.Postings.{PlacedRefusal, refused_file}
use Rattle.charging.specs.declared.host_fault.HostFault.{HostFault}
use Rattle.charging.specs.declared.host_fault.HostFault.TheVariants.{TooShort, NoSuchBooks, File, Opening}
use Rattle.charging.specs.Rows.{receipt_row, state_row}

-- A refusal of the engine keeps its number; memory that is too short is 100, and books that aren't to be had are 101.
abbrev pub host_number : HostFault → ℕ
host_number TooShort = 100
host_number NoSuchBooks = 101
host_number (File f) = file.number_of f
host_number (Opening f) = account.number_of f

abbrev pub answer_of : Result Unit HostFault → ℕ
answer_of (Ok x) = 0
answer_of (Err f) = host_number f

abbrev pub file_number : Option PlacedRefusal → ℕ
file_number None = 0
file_number (Some f) = f.refusal.number

-- Books have room for 31 old lots, or for one.
abbrev pub has_books : ℕ → Bool
has_books lots = lots == 31 || lots == 1

abbrev pub with_books : ℕ → ℕ → ℕ
with_books lots answer = cond (has_books lots) answer 101

-- A row of totals has so many numbers.
abbrev pub life_columns : ℕ
life_columns = 30

-- Totals of a file take room for one row.
abbrev pub totals_answer : World → List ℕ → ℕ → ℕ
totals_answer w bytes room = cond (nat_lt room life_columns) 100 (file_number (refused_file w bytes))

-- The row: the columns of all receipts added up, and how the account stands at the end.
abbrev pub life_row : Receipt → Option Account → List ℕ
life_row r None = []
life_row r (Some a) = receipt_row r ++ state_row a.state

-- A row of a posting has so many numbers.
abbrev pub posting_columns : ℕ
posting_columns = 30

-- The postings of a right file take room for a row for each record.
abbrev pub postings_answer : World → List ℕ → ℕ → ℕ
postings_answer w bytes room =
    cond (file_right bytes) (cond (nat_lt room (posting_columns * count bytes)) 100 (file_number (refused_file w bytes))) 13
