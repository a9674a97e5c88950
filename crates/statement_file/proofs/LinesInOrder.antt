-- One more line after the lines of the records before it.
use Rattle.std.proofs.Common.{◌≡◌, List, [], ◌∷◌, ◌++◌, map, sym, ap, ◌∙◌, append_assoc}
use Rattle.std.proofs.lemmas.List.{append-nil}
use Rattle.event_run.specs.Coded.{posting_of}
use Rattle.event_run.specs.declared.posted.Posted.{Posted}
use Rattle.statement_file.specs.Statement.{posting_text, postings_text}

pub postings_text_push : (ps : List Posted) (p : Posted) →
    postings_text (map posting_of (ps ++ (p ∷ []))) ≡ postings_text (map posting_of ps) ++ posting_text (posting_of p)
postings_text_push [] p = append-nil (posting_text (posting_of p))
postings_text_push (q ∷ ps) p =
    ap (λ text. posting_text (posting_of q) ++ text) (postings_text_push ps p)
    ∙ sym (append_assoc (posting_text (posting_of q)) (postings_text (map posting_of ps)) (posting_text (posting_of p)))
