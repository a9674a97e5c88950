-- The text so far has the lines of the records before this one.
use Rattle.std.proofs.Common.{◌≡◌, map, take, string_bytes}
use Rattle.event_run.specs.Coded.{posting_of}
use Rattle.statement_file.specs.Statement.{postings_text}
use Rattle.statement_file.proofs.lines.posting_lines.Given as goal

abbrev pub invariant-loop-posted : goal.invariant-loop-posted
invariant-loop-posted l = string_bytes l.text ≡ postings_text (map posting_of (take l.posted-index l.list))
