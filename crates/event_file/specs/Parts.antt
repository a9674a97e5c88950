-- The records of a file, in their order, each with its place.
use Rattle.std.specs.Prelude.{ℕ, zero, suc, ◌+◌, ◌*◌, List, [], ◌∷◌}
use Rattle.event_file.specs.declared.file_fault.Place.{Place}
use Rattle.event_file.specs.Layout.{sixteen_at, first_offset, count}

-- A record's bytes and its place.
pub record Placed : Type 0 where
  pub bytes : List ℕ
  pub place : Place

-- The place of the record with an index, where the first one stands at an offset.
abbrev pub place_at : ℕ → ℕ → Place
place_at first k = record { index = k; offset = first + 16 * k }

abbrev pub placed_at : List ℕ → ℕ → ℕ → Placed
placed_at file first k = record { bytes = sixteen_at file (first + 16 * k); place = place_at first k }

-- So many records, from an index on, of a file whose first record stands at an offset.
abbrev pub parts_from : List ℕ → ℕ → ℕ → ℕ → List Placed
parts_from file first k zero = []
parts_from file first k (suc n) = placed_at file first k ∷ parts_from file first (k + 1) n

-- All records of a file.
abbrev pub parts : List ℕ → List Placed
parts file = parts_from file (first_offset file) 0 (count file)
