-- What a reader's state means: the records still to come, and where it stands in the file.
use Rattle.std.specs.Prelude.{◌≡◌, ℕ, ◌+◌, ◌*◌, Bool, List, Option, length, nat_le, MatchOption}
use Rattle.std.specs.Iterator.{YieldsFirstBy}
use Rattle.event_file.specs.declared.records.Part.{Part}
use Rattle.event_file.specs.declared.records.Records.{Records}
use Rattle.event_file.specs.Parts.{Placed, parts_from}

-- The records still to come, in their order.
abbrev pub coming : Records → List Placed
coming r = parts_from r.file.now r.first r.index r.left

-- The offset of the next record.
abbrev pub position : Records → ℕ
position r = r.first + 16 * r.index

-- The offset after the last record.
abbrev pub end : Records → ℕ
end r = position r + 16 * r.left

-- So many records from an offset on, and a trailer after them, stand inside the file.
abbrev pub fits : ℕ → ℕ → List ℕ → Bool
fits first count file = nat_le (first + 16 * count + 16) (length file)

-- A part's bytes and place.
abbrev pub placed : Part → Placed
placed p = record { bytes = p.bytes.now; place = p.place }

-- One call on a reader, which stood as `before` tells and stands as `after` does.
pub record HandsOn (before : Records) (r : Option Part) (after : Records) : Type 0 where
  -- it hands on the first of the records still to come and leaves the others, or none, where none are to come
  pub part : YieldsFirstBy placed coming before r after
  -- one less is to come
  pub left : MatchOption r ((before.left ≡ 0) × (after.left ≡ 0)) (λ _. before.left ≡ after.left + 1)
  -- it stands 16 bytes on; after the last record it stands at the end
  pub position : MatchOption r (position after ≡ end before) (λ _. position after ≡ position before + 16)
  -- and the end stays
  pub end : end after ≡ end before
