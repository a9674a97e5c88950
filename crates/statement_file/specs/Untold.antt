-- When no statement is handed out.
use Rattle.std.specs.Prelude.{◌≡◌, ℕ, List, None}
use Rattle.rules.specs.State.{World}
use Rattle.statement_file.specs.declared.statement.NoStatement.{NoStatement}
use Rattle.statement_file.specs.declared.statement.NoStatement.TheVariants.{PastCalendar, NoMemory}
use Rattle.statement_file.specs.Statement.{text_of_statement}

-- Only a file without a statement is told to be due past the calendar. Want of memory says nothing of the file.
abbrev pub Untold : World → List ℕ → NoStatement → Type 0
Untold w file PastCalendar = text_of_statement w file ≡ None
Untold w file NoMemory = Unit {0}
