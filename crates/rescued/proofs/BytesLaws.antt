-- No byte of a rescue is unaccounted for: the walk keeps each field's bytes, or 3 of a reading's 27, up to where it ends, and all from there on is dropped
-- or replaced by an end field of 7 bytes. Assumes nothing.
use mathlib.Core.Path.{◌≡◌, refl}
use mathlib.Core.Bool.{Bool, true, false, cond}
use mathlib.Core.List.{List, [], ◌∷◌, ◌++◌, map}
use Prim.Native.Nat.{ℕ, ◌+◌, ◌-◌, ◌*◌, ◌≤◌}
use native.Mathlib.Omega.{arith}
use lib.Dec.{leb, eqb}
use lib.ListN.{length, length-append}
use lib.Seq.{length-slice}
use borrow.Author.Tests.{leb-true}
use Rattle.octets.specs.BigEndian.{bytes_of}
use Rattle.parts.specs.Header.{past}
use Rattle.fields.specs.declared.State.{State}
use Rattle.stick.specs.Check.{start}
use Rattle.rescue.specs.Saved.{Saved, bytes_at, saved_of}
use Rattle.rescue.specs.Answers.{Change, change, made_missing, end_field, output_by, output_of, last_by, changes_by, changes_of}
use Rattle.rescue.proofs.SaveLaws.{Saving, over, ended, refused, lost, passed, waiting, saves}
use Rattle.rescued.specs.Holds.{dropped_in, written_in}

-- ---- the walk of a whole file
pub saved_file : (file : List ℕ) → Saving file start 0 (saved_of file)
unfolding saved_of
saved_file file = saves file (length file) start 0 (omega arith) (omega arith)

-- ---- what is kept, and 24 bytes of each reading made missing, is all up to where the walk ends
pub record Grown (file : List ℕ) (at : ℕ) (s : Saved) : Type 0 where
  pub all : at + length s.kept + 24 * length s.missing ≡ s.at
  pub upto : s.at ≤ length file

pub grown : (file : List ℕ) {st : State} {at : ℕ} {s : Saved} → Saving file st at s → at ≤ length file → Grown file at s
grown file {st} {at} (over e) h = record { all = omega arith; upto = h }
grown file {st} {at} (ended l e) h = record { all = omega arith; upto = h }
grown file {st} {at} (refused n l e f u) h = record { all = omega arith; upto = h }
grown file {st} {at} (lost l e f u more) h =
    let r = grown file more u.all in
    let all = r.all in
    let size = u.size in
    record { all = omega arith; upto = r.upto }
grown file {st} {at} (passed {s = s} m l e f w g more) h =
    let r = grown file more w in
    let all = r.all in
    let long = length-append (bytes_at file at) s.kept in
    let field : length (bytes_at file at) ≡ past file at - at = length-slice at (past file at) file w in
    record { all = omega arith; upto = r.upto }
grown file {st} {at} (waiting m l e f w g more) h = record { all = omega arith; upto = h }

-- ---- what the changes drop and write
dropped_append : (xs : List ℕ) (cs : List Change) → dropped_in (map made_missing xs ++ cs) ≡ 24 * length xs + dropped_in cs
unfolding dropped_in
dropped_append [] cs = omega arith
dropped_append (x ∷ xs) cs = let more = dropped_append xs cs in omega arith

written_append : (xs : List ℕ) (cs : List Change) → written_in (map made_missing xs ++ cs) ≡ written_in cs
unfolding written_in
written_append [] cs = refl
written_append (x ∷ xs) cs = let more = written_append xs cs in omega arith

end_long : (steps : ℕ) → length (end_field steps) ≡ 7
unfolding end_field bytes_of
end_long steps = refl

-- what becomes of the bytes from where the walk ends
last_bytes : (s : Saved) (n : ℕ) → s.at ≤ n
    → length (cond (eqb s.state.stage 0) [] (end_field s.state.steps)) + dropped_in (last_by s n) + s.at ≡ n + written_in (last_by s n)
unfolding last_by dropped_in written_in
last_bytes s n h = go (eqb s.state.stage 0) (leb n s.at) refl
  where
    by : Bool → Bool → List Change
    by e o = cond e (cond o [] (change s.at 3 (n - s.at) ∷ [])) (change s.at 2 (n - s.at) ∷ [])

    go : (e o : Bool) → leb n s.at ≡ o → length (cond e [] (end_field s.state.steps)) + dropped_in (by e o) + s.at ≡ n + written_in (by e o)
    go true true l = let m : n ≤ s.at = leb-true n s.at l in omega arith
    go true false l = omega arith
    go false o l = let seven = end_long s.state.steps in omega arith

bytes_by : (file : List ℕ) (s : Saved) → Grown file 0 s
    → length (output_by s) + dropped_in (changes_by s (length file)) ≡ length file + written_in (changes_by s (length file))
unfolding output_by changes_by
bytes_by file s g =
    let all = g.all in
    let end = cond (eqb s.state.stage 0) [] (end_field s.state.steps) in
    let long : length (s.kept ++ end) ≡ length s.kept + length end = length-append s.kept end in
    let dropped = dropped_append s.missing (last_by s (length file)) in
    let written = written_append s.missing (last_by s (length file)) in
    let last = last_bytes s (length file) g.upto in
    omega arith

pub bytes : (file : List ℕ) → length (output_of file) + dropped_in (changes_of file) ≡ length file + written_in (changes_of file)
unfolding output_of changes_of
bytes file = bytes_by file (saved_of file) (grown file (saved_file file) (omega arith))
