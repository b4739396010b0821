-- What a state whose run goes on may be counted on for. Assumes nothing.
use mathlib.Core.Path.{◌≡◌, refl, sym, ap, ◌∙◌}
use mathlib.Core.Bool.{Bool, true, false, not, ◌&&◌, ◌||◌}
use mathlib.Core.List.{List}
use Prim.Native.Nat.{ℕ, ◌≤◌, ◌<◌}
use native.Mathlib.Omega.{arith}
use lib.Dec.{eqb}
use lib.ListN.{length}
use borrow.Author.Tests.{eqb-true, ne_eqb, not-true}
use Rattle.whole.proofs.OverLaws.{and_parts}
use Rattle.fields.specs.declared.State.{State}
use Rattle.fields.specs.Fields.{head_of}
use Rattle.chunks.proofs.FieldChunks.{Few}
use Rattle.kept.specs.Layout.{number_in, tail_bytes, tail_part, state_in, kept_in}
use Rattle.kept.specs.Formed.{tail_fits, well_formed}
use Rattle.kept.specs.Posts.{Sized, WellKept}
use Rattle.kept.proofs.FormedLaws.{kept_well, state_sized, tail_long}
use Rattle.kept.specs.Formed.{is_open}
use Rattle.taking.proofs.SiteLaws.{kept_few}
use Rattle.intake.specs.Posts.{Open}

-- a tail that is not empty is waited for
waits : (st : State) (tail : List ℕ) → tail_fits st tail ≡ true → 0 < length tail → (eqb st.stage 0 ≡ false) × (head_of st tail 0 ≡ 1)
unfolding tail_fits
waits st tail e h =
    let f : (not (eqb st.stage 0) && eqb (head_of st tail 0) 1) ≡ true =
    sym (ap (λ (b : Bool). b || (not (eqb st.stage 0) && eqb (head_of st tail 0) 1)) (ne_eqb (length tail) 0 (λ z. omega arith))) ∙ e in
    let p = and_parts (not (eqb st.stage 0)) (eqb (head_of st tail 0) 1) f in
    (not-true (eqb st.stage 0) p.0, eqb-true (head_of st tail 0) 1 p.1)

module _ (s : List ℕ) (o : Open s) where
  pub open_formed : well_formed s ≡ true
  unfolding is_open
  open_formed = (and_parts (well_formed s) (eqb (number_in s) 0) o.is_open_is).0

  pub open_number : number_in s ≡ 0
  unfolding is_open
  open_number = eqb-true (number_in s) 0 (and_parts (well_formed s) (eqb (number_in s) 0) o.is_open_is).1

  pub open_sized : Sized s
  open_sized = state_sized s open_formed open_number

  pub open_well : WellKept (kept_in s)
  open_well = kept_well s open_formed open_number

  -- at most 64 units are said
  pub open_few : Few (state_in s)
  unfolding kept_in
  open_few = kept_few (kept_in s) open_well

  pub open_tail : length (tail_part s) ≡ tail_bytes s
  open_tail = tail_long s open_formed open_number

  pub open_waits : 0 < tail_bytes s → (eqb (state_in s).stage 0 ≡ false) × (head_of (state_in s) (tail_part s) 0 ≡ 1)
  unfolding kept_in
  open_waits h = waits (state_in s) (tail_part s) open_well.tailed (omega (arith, open_tail))
