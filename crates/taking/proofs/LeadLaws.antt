-- Whole fields that lead from a state to another, by whether the steps have begun: where they had, every field is one of the steps, and what the site has
-- stays as it is; where they have not, all fields stand before them; else the head ends within. The steps they close are counted. Assumes nothing.
use mathlib.Core.Path.{◌≡◌, refl, sym, ap, ◌∙◌, subst}
use mathlib.Core.Bool.{Bool, true, false}
use mathlib.Core.List.{List, []}
use Prim.Native.Nat.{ℕ, ◌+◌, ◌≤◌, ◌<◌}
use native.Mathlib.Omega.{arith}
use lib.Dec.{leb}
use lib.ListN.{length}
use borrow.Author.Tests.{leb-true, leb-false}
use Rattle.whole.proofs.Choice.{passed_failed}
use Rattle.parts.specs.Header.{tag_at}
use Rattle.site.specs.declared.Due.{Due}
use Rattle.site.specs.Site.{none_yet}
use Rattle.fields.specs.declared.State.{State}
use Rattle.stick.specs.declared.Reached.{Reached}
use Rattle.stick.specs.Check.{reached, reach_of}
use Rattle.stick.specs.Site.{of_steps, steps_from, due_from}
use Rattle.stick.proofs.PlaceLaws.{steps_over, due_over}
use Rattle.stretch.specs.Posts.{StepsThere}
use Rattle.stretch.proofs.ReachedLaws.{reached_steps_all, reached_count_all}
use Rattle.chunks.proofs.ReachChunks.{reach_over, Went, there, passing, went_reach}
use Rattle.chunks.proofs.PlaceChunks.{Whole, went_whole}
use Rattle.kept.specs.Kept.{begun}
use Rattle.taking.specs.Chunk.{head_in}
use Rattle.taking.specs.Posts.{Leads}
use Rattle.taking.proofs.LedLaws.{led}
use Rattle.taking.proofs.StageLaws.{Split, split, Along, along, along_from}

module _ {st next : State} (w : List ℕ) (l : Leads st w next) where
  pub parts : Split w st 0 next
  parts = split w (led l) refl

  -- ---- where the steps had begun
  pub going : begun st ≡ true → Along st next
  going b = along w (led l) b

  pub stays_begun : begun st ≡ true → begun next ≡ true
  stays_begun b = (going b).begun_next

  -- so where they have not, they had not
  pub before_too : begun next ≡ false → begun st ≡ false
  before_too e = go (begun st) refl
    where
      go : (x : Bool) → begun st ≡ x → begun st ≡ false
      go true ex = absurd (passed_failed (stays_begun ex) e)
      go false ex = ex

  pub no_head : begun st ≡ true → head_in w ≡ 0
  no_head b = parts.at_once b

  -- ---- behind the head: where fields follow, the steps begin; where none do, the state is that at the head's end
  pub behind_head : head_in w < length w → Along parts.mid next
  behind_head h = along_from w parts.on h (parts.begins h)

  pub only_head : head_in w ≡ length w → parts.mid ≡ next
  only_head e = go parts.on
    where
      go : Went w next (length w) parts.mid (head_in w) → parts.mid ≡ next
      go (there a b) = a
      go (passing m s a f u more) = absurd (omega arith)

  upto : head_in w ≤ length w
  upto = parts.upto

  pub all_head : begun st ≡ false → begun next ≡ false → head_in w ≡ length w
  all_head a b = go (leb (length w) (head_in w)) refl
    where
      go : (t : Bool) → leb (length w) (head_in w) ≡ t → head_in w ≡ length w
      go true e = let m : length w ≤ head_in w = leb-true (length w) (head_in w) e in let u = upto in omega arith
      go false e = absurd (passed_failed (behind_head (leb-false (length w) (head_in w) e)).begun_next b)

  pub head_ends : begun st ≡ false → begun next ≡ true → head_in w < length w
  head_ends a b = go (leb (length w) (head_in w)) refl
    where
      go : (t : Bool) → leb (length w) (head_in w) ≡ t → head_in w < length w
      go true e =
          let m : length w ≤ head_in w = leb-true (length w) (head_in w) e in
          let u = upto in
          absurd (passed_failed b (sym (ap begun (only_head (omega arith))) ∙ parts.still a))
      go false e = leb-false (length w) (head_in w) e

  -- ---- the steps that they close
  pub whole_behind : Whole w (head_in w)
  whole_behind = went_whole w parts.on refl

  all_reached : reach_of (length w) parts.mid w (head_in w) ≡ reached 0 (length w) next
  all_reached = went_reach w parts.on (length w) 0 (omega arith) (omega arith) ∙ reach_over w 0 next (length w) (omega arith)

  first_of_steps : head_in w < (reach_of (length w) parts.mid w (head_in w)).at → of_steps (tag_at w (head_in w)) ≡ true
  first_of_steps h = parts.begins (subst (λ (r : Reached). head_in w < r.at) all_reached h)

  pub steps_there : StepsThere w (head_in w)
  steps_there = reached_steps_all (length w) parts.mid w (head_in w) upto first_of_steps (ap (λ (r : Reached). r.at) all_reached)

  pub steps_counted : (d : Due) → st.steps + length (steps_from w d (head_in w)) ≡ next.steps
  steps_counted d =
      let e = reached_count_all (length w) parts.mid w (head_in w) upto first_of_steps (ap (λ (r : Reached). r.at) all_reached) d in
      let n = parts.none in
      let m : (reach_of (length w) parts.mid w (head_in w)).state.steps ≡ next.steps = ap (λ (r : Reached). r.state.steps) all_reached in
      omega arith

  pub more_steps : st.steps ≤ next.steps
  more_steps = let e = steps_counted none_yet in omega arith

  pub few_steps : st.steps ≤ 65535 → next.steps ≤ 65535
  few_steps h = go (leb (length w) (head_in w)) refl
    where
      mid_few : parts.mid.steps ≤ 65535
      mid_few = let n = parts.none in omega arith

      go : (t : Bool) → leb (length w) (head_in w) ≡ t → next.steps ≤ 65535
      go true e =
          let m : length w ≤ head_in w = leb-true (length w) (head_in w) e in
          let u = upto in
          subst (λ (s : State). s.steps ≤ 65535) (only_head (omega arith)) mid_few
      go false e = (behind_head (leb-false (length w) (head_in w) e)).few mid_few

  -- ---- where none have begun, there are none, and what the step under way has stays
  module _ (a : begun st ≡ false) (b : begun next ≡ false) where
    pub no_step_yet : (d : Due) → steps_from w d (head_in w) ≡ []
    no_step_yet d = let e = all_head a b in steps_over w (head_in w) (omega arith) d

    pub same_due_yet : (d : Due) → due_from w d (head_in w) ≡ d
    same_due_yet d = let e = all_head a b in due_over w (head_in w) (omega arith) d

    pub no_count_yet : next.steps ≡ st.steps
    no_count_yet = ap (λ (s : State). s.steps) (sym (only_head (all_head a b))) ∙ parts.none

  -- ---- where they have begun, what the site has stays
  module _ (b : begun st ≡ true) where
    pub same_edition : next.edition ≡ st.edition
    same_edition = ap (λ (s : State). s.edition) (going b).same

    pub same_units : next.units ≡ st.units
    same_units = ap (λ (s : State). s.units) (going b).same

    pub same_left : next.left ≡ st.left
    same_left = ap (λ (s : State). s.left) (going b).same
