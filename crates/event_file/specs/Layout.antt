-- The layout of an event file: its trailer, and where its records stand.
use Rattle.std.specs.Prelude.{ℕ, ◌+◌, ◌-◌, ◌*◌, Bool, ◌&&◌, List, length, take, drop, ◌==◌, nat_le, slice_index}

-- A file has at most this many bytes.
abbrev pub most_bytes : ℕ
most_bytes = 65_536

-- A number of 32 bits stands as four bytes, the least first: here at place i of the bytes.
abbrev pub le32 : List ℕ → ℕ → ℕ
le32 bytes i = slice_index bytes i + slice_index bytes (i + 1) * 256 + slice_index bytes (i + 2) * 65536 + slice_index bytes (i + 3) * 16777216

-- The trailer is the last 16 bytes.
abbrev pub trailer : List ℕ → List ℕ
trailer file = drop (length file - 16) file

-- Its bytes 0 to 3 tell the offset of the first record,
abbrev pub first_offset : List ℕ → ℕ
first_offset file = le32 (trailer file) 0

-- its bytes 4 to 7 how many records there are,
abbrev pub count : List ℕ → ℕ
count file = le32 (trailer file) 4

-- its byte 8 the plan that the account is opened on,
abbrev pub opening_plan : List ℕ → ℕ
opening_plan file = slice_index (trailer file) 8

-- and its bytes 12 to 15 the moment of the opening.
abbrev pub opening_moment : List ℕ → ℕ
opening_moment file = le32 (trailer file) 12

-- Bytes 9 to 11 of the trailer are zero.
abbrev pub spare_right : List ℕ → Bool
spare_right file = slice_index (trailer file) 9 == 0 && (slice_index (trailer file) 10 == 0 && slice_index (trailer file) 11 == 0)

-- A file is right if it has room for a trailer and at most 65,536 bytes, the trailer's spare bytes are zero, and the
-- records, 16 bytes each, reach from the first one's offset up to the trailer. Offset and count are whole numbers: the
-- sum never wraps.
abbrev pub file_right : List ℕ → Bool
file_right file =
    nat_le 16 (length file)
    && (nat_le (length file) most_bytes && (spare_right file && first_offset file + 16 * count file == length file - 16))

-- The 16 bytes at an offset.
abbrev pub sixteen_at : List ℕ → ℕ → List ℕ
sixteen_at file offset = take 16 (drop offset file)
