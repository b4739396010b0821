-- How long the result is, and what a run answers and leaves, by the first test that fails. Assumes nothing.
use mathlib.Core.Path.{◌≡◌, refl, sym, ap, ap₂, ◌∙◌}
use mathlib.Core.Bool.{Bool, true, false, cond}
use mathlib.Core.List.{List, ◌++◌}
use Prim.Native.Nat.{ℕ, ◌+◌, ◌-◌, ◌*◌, ◌≤◌, ◌<◌}
use native.Mathlib.Nat.{zero-add, sub-zero, le_trans, le_of_eq}
use lib.Dec.{ltb, eqb}
use lib.ListN.{length, take, drop}
use lib.Seq.{length-take-le}
use borrow.Author.Tests.{lt-ltb, le-ltb, eq-eqb, ne_eqb}
use Rattle.octets.specs.BigEndian.{laid}
use Rattle.site.specs.Site.{count}
use Rattle.std.proofs.Common.{Ok, Err}
use Rattle.whole.specs.declared.Refusal.{Refusal}
use Rattle.stick.specs.declared.Checked.{Checked}
use Rattle.stick.specs.Check.{Answer, checked_by, answer, check_of}
use Rattle.stick.proofs.CheckedLaws.{accepted_is, refused_is}
use Rattle.stick.specs.Site.{site_of, roofs_of, plant_of, steps_of}
use Rattle.stick.proofs.SiteProved.{steps_count, steps_most}
use Rattle.stretch.specs.Stretch.{all_bytes}
use Rattle.stretch.proofs.SiteLaws.{few_units as units-few, few_roofs as roofs_few, few_bytes as bytes_few}
use Rattle.season.specs.Run.{result_of}
use Rattle.season.specs.Answers.{needed, room_of, run_answer, run_leaves}
use Rattle.season.specs.Posts.{Counted}
use Rattle.season.proofs.RunLaws.{by_length}

-- the result of any file is as long as what is needed for it
pub result_length_lem : (file : List ℕ) → length (result_of file) ≡ needed file
unfolding result_of needed
result_length_lem file = by_length (plant_of file) (steps_of file)

-- laid from the room's start, bytes are followed by what the room held past them
over : (bs room : List ℕ) (n : ℕ) → length bs ≡ n → laid room 0 bs ≡ bs ++ drop n room
unfolding laid
over bs room n e = ap (λ (k : ℕ). bs ++ drop k room) (zero-add (length bs) ∙ e)

-- a part of the first n of k elements has n
pub part_long : {A : Type 0} {n m k : ℕ} (l : List A) → length l ≡ k → n ≤ k → n ≡ m → length (take (n - 0) l) ≡ m
part_long {A} {n} l d h e = ap (λ (x : ℕ). length (take x l)) (sub-zero n) ∙ length-take-le n l (le_trans h (le_of_eq (sym d))) ∙ e

-- a step's records have so many bytes
pub all_bytes_lem : (file : List ℕ) {n m : ℕ} → n ≡ count (site_of file) → m ≡ length (roofs_of file) → 40 * n + 29 * m ≡ all_bytes (plant_of file)
unfolding plant_of
all_bytes_lem file e d = ap₂ (λ (u v : ℕ). 40 * u + 29 * v) e d

-- ---- the size of the room needed: no number on the way to it is near the end of its type
module _ {file : List ℕ} {steps : ℕ} (c : Counted file steps) where
  pub few_steps : steps ≤ 65535
  few_steps = le_trans (le_of_eq (sym c.counted)) (steps_most file)

  pub few_units : count (site_of file) ≤ 64
  few_units = units-few file c.accepted

  pub few_roofs : length (roofs_of file) ≤ 64
  few_roofs = roofs_few file c.accepted

  pub few_bytes : {n m : ℕ} → n ≡ count (site_of file) → m ≡ length (roofs_of file) → (40 * n + 29 * m) * steps ≤ (40 * 64 + 29 * 64) * 65535
  few_bytes {n} {m} e d = bytes_few file c.accepted n m steps e d few_steps

  pub same_steps : length (steps_of file) ≡ steps
  same_steps = steps_count file c.accepted ∙ c.counted

  pub bytes_needed : {n m : ℕ} → n ≡ count (site_of file) → m ≡ length (roofs_of file) → (40 * n + 29 * m) * steps + 7 ≡ needed file
  unfolding needed
  bytes_needed e d = ap₂ (λ (size k : ℕ). size * k + 7) (all_bytes_lem file e d) (sym same_steps)

-- ---- what is answered and left, by what the tests give
module _ (file : List ℕ) where
  room_by : (accepted : Bool) → eqb (check_of file).number 0 ≡ accepted → cond accepted (needed file) 0 ≡ room_of file
  unfolding room_of
  room_by accepted t = sym (ap (λ (b : Bool). cond b (needed file) 0) t)

  module _ (room : List ℕ) where
    abbrev tested : Bool → Bool → Answer
    tested accepted short = cond accepted (cond short (answer 11 (length file) (check_of file).steps) (check_of file)) (check_of file)

    answer_by_lem : (accepted short : Bool) → eqb (check_of file).number 0 ≡ accepted → ltb (length room) (needed file) ≡ short → tested accepted short ≡ run_answer file (length room)
    unfolding run_answer
    answer_by_lem accepted short t u = sym (ap₂ tested t u)

    leaves_by_lem : (x : Answer) → x ≡ run_answer file (length room) → (complete : Bool) → eqb x.number 0 ≡ complete → cond complete (laid room 0 (result_of file)) room ≡ run_leaves file room
    unfolding run_leaves
    leaves_by_lem x e complete t =
        ap (λ (l : List ℕ). cond complete l room) (over (result_of file) room (needed file) (result_length_lem file))
        ∙ ap (λ (b : Bool). cond b (result_of file ++ drop (needed file) room) room) (sym t ∙ ap (λ (y : Answer). eqb y.number 0) e)

-- ---- as the code has them: what the check gives, and the bytes needed where it accepts

-- refused
module _ (file : List ℕ) (r : Refusal) (e : Err r ≡ checked_by (check_of file)) where
  off : eqb (check_of file).number 0 ≡ false
  off = ne_eqb (check_of file).number 0 (refused_is (check_of file) r e).1

  pub no_room : 0 ≡ room_of file
  no_room = room_by file false off

  pub refused : (room : List ℕ) → (Err r ≡ checked_by (run_answer file (length room))) × (room ≡ run_leaves file room)
  refused room =
      let is : check_of file ≡ run_answer file (length room) = answer_by_lem file room false (ltb (length room) (needed file)) off refl in
      (e ∙ ap checked_by is, leaves_by_lem file room (check_of file) is false off)

-- accepted
module _ (file : List ℕ) (a : Checked) (e : Ok a ≡ checked_by (check_of file)) where
  is_answer : answer 0 a.place a.steps ≡ check_of file
  is_answer = accepted_is (check_of file) a e

  on : eqb (check_of file).number 0 ≡ true
  on = ap (λ (x : Answer). eqb x.number 0) (sym is_answer)

  pub counted : Counted file a.steps
  counted = record { accepted = record { complete = sym (ap (λ (x : Answer). x.number) is_answer) }; counted = sym (ap (λ (x : Answer). x.steps) is_answer) }

  pub room_is : (n : ℕ) → n ≡ needed file → n ≡ room_of file
  room_is n d = d ∙ room_by file true on

  module _ (room : List ℕ) (n : ℕ) (d : n ≡ needed file) where
    pub too_short : length room < n
        → (Err (record { number = 11; place = length file; steps = a.steps }) ≡ checked_by (run_answer file (length room))) × (room ≡ run_leaves file room)
    too_short l =
        let u : ltb (length room) (needed file) ≡ true = lt-ltb (length room) (needed file) (le_trans l (le_of_eq d)) in
        let is : answer 11 (length file) a.steps ≡ run_answer file (length room) =
        ap (λ (x : Answer). answer 11 (length file) x.steps) is_answer ∙ answer_by_lem file room true true on u in
        (ap checked_by is, leaves_by_lem file room (answer 11 (length file) a.steps) is false refl)

    module _ (l : n ≤ length room) where
      pub enough : needed file ≤ length room
      enough = le_trans (le_of_eq (sym d)) l

      pub done : (after : List ℕ) → after ≡ laid room 0 (result_of file) → (Ok a ≡ checked_by (run_answer file (length room))) × (after ≡ run_leaves file room)
      done after r =
          let is : check_of file ≡ run_answer file (length room) = answer_by_lem file room true false on (le-ltb (length room) (needed file) enough) in
          (e ∙ ap checked_by is, r ∙ leaves_by_lem file room (check_of file) is true on)
