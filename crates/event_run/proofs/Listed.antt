-- A list with room for a run's postings holds them all at its end.
use Rattle.std.proofs.Common.{◌≡◌, suc, ◌+◌, ◌≤◌, List, [], ◌∷◌, ◌++◌, length, map, vec_len, sym, refl, ap, ◌∙◌, append_assoc, arith}
use Rattle.std.proofs.lemmas.List.{append-nil}
use Rattle.std.specs.Vec.{vec_capacity}
use Rattle.rules.specs.State.{World, Account}
use Rattle.event_file.specs.Parts.{Placed}
use Rattle.event_run.specs.declared.listing.Listing.{Listing}
use Rattle.event_run.specs.Postings.{Posting, answer_at, postings}
use Rattle.event_run.specs.Coded.{posting_of}
use Rattle.event_run.specs.Journals.{Taken}
use Rattle.event_run.specs.Listing.{Lists}

pub length-postings : (w : World) (a : Account) (ps : List Placed) → length (postings w a ps) ≡ length ps
length-postings w a [] = refl
length-postings w a (p ∷ ps) = ap suc (length-postings w (answer_at w a p).account ps)

pub listed : (before : Listing) (ps : List Posting) (after : Listing) → Taken Lists before ps after →
    vec_len before.list + length ps ≤ vec_capacity before.list → map posting_of after.list.items ≡ map posting_of before.list.items ++ ps
listed before [] after same room = ap (λ (x : Listing). map posting_of x.list.items) same ∙ sym (append-nil (map posting_of before.list.items))
listed before (p ∷ ps) after (next, one, rest) room =
    listed next ps after rest (omega arith)
    ∙ ap (λ xs. xs ++ ps) (one.items (omega arith))
    ∙ append_assoc (map posting_of before.list.items) (p ∷ []) ps
