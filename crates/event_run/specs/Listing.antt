-- What becomes of a list that takes the postings of a run.
use Rattle.std.specs.Prelude.{◌≡◌, ◌+◌, ◌<◌, ◌≤◌, [], ◌∷◌, ◌++◌, map, vec_len}
use Rattle.std.specs.Vec.{vec_capacity}
use Rattle.event_run.specs.declared.listing.Listing.{Listing}
use Rattle.event_run.specs.Postings.{Posting}
use Rattle.event_run.specs.Coded.{posting_of}

-- A list that has room takes a posting at its end, and gives up none of its room.
pub record Lists (before : Listing) (p : Posting) (after : Listing) : Type 0 where
  pub items : vec_len before.list < vec_capacity before.list → map posting_of after.list.items ≡ map posting_of before.list.items ++ p ∷ []
  pub len : vec_len before.list < vec_capacity before.list → vec_len after.list ≡ vec_len before.list + 1
  pub room : vec_capacity before.list ≤ vec_capacity after.list
