-- A turn adds the line of its record.
use Rattle.std.proofs.Common.{◌++◌, map, take, sym, ap, ◌∙◌}
use Rattle.std.proofs.lemmas.List.{take_more}
use Rattle.std.proofs.lemmas.Slice.{pushed}
use Rattle.event_run.specs.Coded.{posting_of}
use Rattle.statement_file.specs.Statement.{postings_text}
use Rattle.statement_file.proofs.LinesInOrder.{postings_text_push}
use Rattle.statement_file.proofs.lines.posting_lines.Goals as goal

pub loop-posted-preserved : goal.loop-posted-preserved
loop-posted-preserved c =
    let i = c.loop-posted.posted-index in
    let list = c.args.list.now in
    let before = take i list in
    let line = c.deref.ensures ∙ c.in_ok-line.ensures.text in
    pushed _ c.loop-posted.invariant c.in_ok-push_str.was c.push_str.ensures.bytes
    ∙ ap (λ text. postings_text (map posting_of before) ++ text) line
    ∙ sym (postings_text_push before _)
    ∙ ap (λ ps. postings_text (map posting_of ps)) (sym (take_more list i _ c.loop-posted-test.true))
