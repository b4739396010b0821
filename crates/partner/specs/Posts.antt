-- Nobody has to believe this file: the parts of contracts by name, and where the code finds the first field that is wrong.
use Rattle.std.specs.Prelude.{ℕ, suc, ◌+◌, ◌-◌, ◌*◌, ◌/◌, ◌<◌, min, cond, List, [], ◌∷◌, ◌≡◌, ltb, eqb, get_or}
use Rattle.records.specs.Records.{record_bytes, roof_record_bytes}
use Rattle.partner.specs.declared.Verdict.{Verdict}
use Rattle.partner.specs.Verdict.{their_bytes, our_field}

-- n bytes at two places are the same
abbrev pub SameAt : ℕ → List ℕ → ℕ → List ℕ → ℕ → Type 0
SameAt n s i t j = (k : ℕ) → k < n → get_or s (i + k) 0 ≡ get_or t (j + k) 0

-- how many bytes two lists begin with that are the same
unfoldable pub alike_of : List ℕ → List ℕ → ℕ
alike_of [] ys = 0
alike_of (x ∷ xs) [] = 0
alike_of (x ∷ xs) (y ∷ ys) = cond (eqb x y) (suc (alike_of xs ys)) 0

-- ---- the field of a step's records, with so many units, in which byte d lies
abbrev pub units_end : ℕ → ℕ
units_end units = record_bytes * units

unfoldable pub field_start : ℕ → ℕ → ℕ
field_start units d =
    cond (ltb d (units_end units)) (d / record_bytes * record_bytes) (units_end units + (d - units_end units) / roof_record_bytes * roof_record_bytes)

unfoldable pub field_size : ℕ → ℕ → ℕ
field_size units d = cond (ltb d (units_end units)) record_bytes roof_record_bytes

-- what is shown for a field of ours that is not there, in a result of so many bytes: place of the run file's field, start and size of ours
unfoldable pub wrong_at : List ℕ → ℕ → ℕ → ℕ → ℕ → Verdict
unfolding our_field
wrong_at run place len start size =
    let there = min size (len - start) in
    cond (eqb there 0) (our_field run place) (their_bytes start there)
