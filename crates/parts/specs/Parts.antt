-- The support screen's part (rules V): the value bytes of the field at a place, as they lie in the file, cut where the file ends. Where fewer than three
-- bytes stand there the part is empty, and begins at the place or at the file's end, the smaller one.
use Rattle.std.specs.Prelude.{ℕ, ◌+◌, ◌-◌, min, Bool, cond, List, ◌≡◌, leb, length, take, drop}
use Rattle.std.specs.Borrow.{Bor}
use Rattle.octets.specs.BigEndian.{be}
use Rattle.parts.specs.Header.{header, length_at}

-- the three bytes of tag and length are there
unfoldable pub head_there : ℕ → ℕ → Bool
head_there size place = leb (place + header) size

unfoldable pub part_start : List ℕ → ℕ → ℕ
unfolding head_there
part_start file place = cond (head_there (length file) place) (place + header) (min place (length file))

unfoldable pub part_size : List ℕ → ℕ → ℕ
unfolding head_there be
part_size file place = cond (head_there (length file) place) (min (length_at file place) (length file - (place + header))) 0

-- V4: the part of a lent file for a place. It is no copy: it lies in the file's own memory, which a reference names by a block and an offset in it
pub record PartOf (file : Bor (List ℕ)) (place : ℕ) (part : Bor (List ℕ)) : Type 0 where
  pub bytes : part.now ≡ take (part_size file.now place) (drop (part_start file.now place) file.now)
  pub lies : part.ref_ptr ≡ (file.ref_ptr.0, file.ref_ptr.1 + part_start file.now place)
