-- What is handed on is the first of the records still to come.
use Rattle.std.proofs.Common.{arith}
use Rattle.std.proofs.lemmas.List.{take_rest}
use Rattle.event_file.proofs.Parts.{first_part}
use Rattle.event_file.proofs.reader.RecordsIterator.next.Goals as goal

pub returns-clause-steps : goal.returns-clause-steps
returns-clause-steps c = grind (arith, first_part, take_rest, c.in_ok-bytes.ensures.cases.same)
