-- The numbers of a state: a part of lent bytes is the part that a definition names, and what is read one by one is the whole mark. Assumes nothing.
use mathlib.Core.Path.{◌≡◌, refl, sym, ap, ◌∙◌}
use mathlib.Core.Bool.{Bool, true, false, cond}
use mathlib.Core.List.{List, [], ◌∷◌}
use Prim.Native.Nat.{ℕ, zero, suc, ◌+◌, ◌-◌, ◌*◌, ◌≤◌}
use native.Mathlib.Nat.{zero-add, suc-add, le_trans, le_of_eq, le-add_right}
use native.Mathlib.Omega.{arith}
use lib.Dec.{T, eqb, leb, leb→le}
use lib.IntN.{ℤ}
use lib.ListN.{length, take, drop, replicate}
use lib.Seq.{slice, take-nil}
use borrow.Author.Tests.{eq-eqb, ne_eqb}
use mir.Syntax.{w32, w64}
use mir.Val.{Fits, to_z}
use mir.Facts.{Fits-below}
use Rattle.octets.specs.BigEndian.{be, bytes_of, laid}
use Rattle.octets.proofs.LaidLaws.{laid_length}
use Rattle.records.proofs.LayLaws.{behind, both}
use Rattle.site.specs.declared.Due.{Due}
use Rattle.fields.specs.declared.State.{State}
use Rattle.fields.specs.Fields.{at_voltage, gone_to}
use Rattle.stick.specs.declared.Reached.{Reached}
use Rattle.stick.specs.Check.{reach_of, start}
use Rattle.kept.specs.declared.Mark.{Mark}
use Rattle.kept.specs.Posts.{Sized}
use Rattle.kept.specs.Layout.{tail_most, flag_place, vars_place, site_place, site_most, place_in, steps_kept, stage_in, site_bytes, tail_bytes, site_part, sun_kept, due_kept, known_by, state_in, mark_in, tail_place, held_place, state_size, filled, progress_of, parts_of, numbers_of, top_of}
use Rattle.kept.proofs.PieceLaws.{laid_filled}
use Rattle.std.proofs.Common.{None, Option, Some}

-- so many bytes from a place on are those up to its end
pub take_drop : (n from : ℕ) (s : List ℕ) → take n (drop from s) ≡ slice from (from + n) s
take_drop n zero s = ap (λ (k : ℕ). take k s) (sym (zero-add n))
take_drop n (suc from) [] = take-nil n ∙ sym (ap (drop (suc from)) (take-nil (suc from + n)))
take_drop n (suc from) (x ∷ s) = take_drop n from s ∙ ap (λ (k : ℕ). drop (suc from) (take k (x ∷ s))) (sym (suc-add from n))

-- a place within the state's bytes
pub inside : (k n : ℕ) → n ≡ state_size → T (leb k state_size) → k ≤ n
inside k n e t = le_trans (leb→le k state_size t) (le_of_eq (sym e))

-- the site part's end lies behind its start and within the state's bytes
pub part_from : (n : ℕ) → site_place ≤ site_place + n
part_from n = le-add_right site_place n

pub end_upto : (n : ℕ) → n ≤ site_most → site_place + n ≤ state_size
end_upto n fits = omega arith

pub end_within : (s : List ℕ) (n : ℕ) → length s ≡ state_size → n ≤ site_most → site_place + n ≤ length s
end_within s n long fits = le_trans (end_upto n fits) (le_of_eq (sym long))

pub end_fits : (n : ℕ) → n ≤ site_most → Fits w64 (site_place + n)
end_fits n fits = Fits-below {n = state_size} tt (end_upto n fits)

-- at most 64 units and 64 inverters: so many values
pub both_few : (a b : ℕ) → a ≤ 64 → b ≤ 64 → a + b ≤ 128
both_few a b p q = omega arith

pub both_fit : (a b : ℕ) → a ≤ 64 → b ≤ 64 → Fits w64 (a + b)
both_fit a b p q = Fits-below {n = 128} tt (both_few a b p q)

-- where what is in use of each list ends
pub held_upto : (n : ℕ) → n ≤ 64 → held_place + 12 * n ≤ flag_place
held_upto n h = omega arith

pub flags_upto : (n : ℕ) → n ≤ 64 → flag_place + n ≤ vars_place
flags_upto n h = omega arith

pub vars_upto : (n : ℕ) → n ≤ 128 → vars_place + 4 * n ≤ site_place
vars_upto n h = omega arith

pub tail_upto : (s : List ℕ) (t : ℕ) → t ≡ tail_bytes s → Sized s → tail_place + t ≤ held_place
tail_upto s t e z = let h = z.tail_fits_is in omega arith

pub site_few : (s : List ℕ) (n : ℕ) → n ≡ site_bytes s → Sized s → n ≤ site_most
site_few s n e z = le_trans (le_of_eq e) z.site_fits_is

pub held_fit : (n : ℕ) → n ≤ 64 → Fits w64 (12 * n)
held_fit n h = Fits-below {n = 768} tt (omega arith)

pub vars_fit : (n : ℕ) → n ≤ 128 → Fits w64 (4 * n)
vars_fit n h = Fits-below {n = 512} tt (omega arith)

pub part_is : (from n : ℕ) (s : List ℕ) → take (from + n - from) (drop from s) ≡ slice from (from + n) s
part_is from n s = ap (λ (k : ℕ). take k (drop from s)) less ∙ take_drop n from s
  where
    less : from + n - from ≡ n
    less = omega arith

-- the state that is read
state_is : (s : List ℕ) (r : Reached) (st : State) (stage steps : ℕ)
    → r ≡ reach_of (length (site_part s)) start (site_part s) 0 → stage ≡ stage_in s → steps ≡ steps_kept s
    → st ≡ gone_to r.state stage r.state.left steps → st ≡ state_in s
unfolding state_in known_by
state_is s r st stage steps a b d e =
    let k : State = known_by (site_part s) in
    e
    ∙ ap (λ (x : Reached). gone_to x.state stage x.state.left steps) a
    ∙ ap (λ (n : ℕ). gone_to k n k.left steps) b
    ∙ ap (λ (n : ℕ). gone_to k (stage_in s) k.left n) d

-- the voltage that is read, behind a voltage field and else; and with the sun all that the step under way has
voltage_by : (s : List ℕ) (b : Bool) → eqb (stage_in s) at_voltage ≡ b → (due_kept s).voltage ≡ cond b (Some (be 2 s 25)) None
unfolding due_kept
voltage_by s b e = ap (λ (c : Bool). cond {A = (Option ℕ)} c (Some (be 2 s 25)) None) e

pub voltage_said : (s : List ℕ) (stage n : ℕ) → stage ≡ stage_in s → stage ≡ at_voltage → n ≡ be 2 s 25 → Some n ≡ (due_kept s).voltage
voltage_said s stage n a b e = ap Some e ∙ sym (voltage_by s true (eq-eqb (stage_in s) at_voltage (sym a ∙ b)))

pub voltage_unsaid : (s : List ℕ) (stage : ℕ) → stage ≡ stage_in s → (stage ≡ at_voltage → ⊥) → None ≡ (due_kept s).voltage
voltage_unsaid s stage a b = sym (voltage_by s false (ne_eqb (stage_in s) at_voltage (λ e. b (a ∙ e))))

pub due_is : (s : List ℕ) (light : ℕ) (warm : ℤ) (v : Option ℕ) → light ≡ be 4 s 17 → warm ≡ to_z w32 (be 4 s 21) → v ≡ (due_kept s).voltage
    → ◌≡◌ {A = Due} (record { sun = record { irradiance = light; temperature = warm }; voltage = v }) (due_kept s)
unfolding due_kept sun_kept
due_is s light warm v a b d = rw (a, b, d)

-- what is read one by one is the whole mark
pub mark_is : (s : List ℕ) (r : Reached) (st : State) (place stage steps site tail : ℕ) (due : Due)
    → r ≡ reach_of (length (site_part s)) start (site_part s) 0 → stage ≡ stage_in s → steps ≡ steps_kept s
    → st ≡ gone_to r.state stage r.state.left steps → place ≡ place_in s → site ≡ site_bytes s → tail ≡ tail_bytes s
    → due ≡ due_kept s → ◌≡◌ {A = Mark} (record { place = place; state = st; site = site; tail = tail; due = due }) (mark_in s)
unfolding mark_in
mark_is s r st place stage steps site tail due a b d e f g h i = rw (state_is s r st stage steps a b d e, f, g, h, i)

-- ---- the numbers and a tail, with 0 behind it, are laid whole
pub progress_length : (m : Mark) → length (progress_of m) ≡ 14
unfolding progress_of bytes_of
progress_length m = refl

pub parts_length : (m : Mark) → length (parts_of m) ≡ 13
unfolding parts_of bytes_of
parts_length m = refl

pub numbers_length : (m : Mark) → length (numbers_of m) ≡ 27
unfolding numbers_of
numbers_length m = both (progress_of m) (parts_of m) 14 13 (progress_length m) (parts_length m)

pub top_laid : (s : List ℕ) (m : Mark) (tail : List ℕ) → length s ≡ state_size → length tail ≡ m.tail → m.tail ≤ tail_most → (t u v : List ℕ)
    → t ≡ laid s 0 (numbers_of m) → u ≡ laid t tail_place tail → v ≡ laid u (tail_place + m.tail) (replicate (held_place - (tail_place + m.tail)) 0)
    → v ≡ laid s 0 (top_of m tail)
unfolding top_of
top_laid s m tail long l few t u v a b d =
    let n : length (numbers_of m) ≡ 27 = numbers_length m in
    let o : length t ≡ length s = ap length a ∙ laid_length s 0 (numbers_of m) (omega arith) in
    let second : v ≡ laid t tail_place (filled tail_most tail) = laid_filled t tail_place (omega arith) tail_most m.tail (held_place - (tail_place + m.tail)) tail l (omega arith) u v b d in
    behind s 0 (omega arith) (numbers_of m) (filled tail_most tail) 27 n t v a second
