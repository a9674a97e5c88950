-- The words in which a reason for no statement is told.
use Rattle.std.specs.Prelude.{ℕ, List, codes}
use Rattle.statement_file.specs.declared.statement.NoStatement.{NoStatement}
use Rattle.statement_file.specs.declared.statement.NoStatement.TheVariants.{PastCalendar, NoMemory}

-- A reason is told in words, without a full stop or a line feed.
abbrev pub reason_text : NoStatement → List ℕ
reason_text PastCalendar = codes "the due day is past the calendar"
reason_text NoMemory = codes "no memory"
