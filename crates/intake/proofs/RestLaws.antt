-- What is kept after whole fields, in bytes: a state again, without a tail. Assumes nothing.
use mathlib.Core.Path.{◌≡◌, refl, sym, ap, ap₂, ◌∙◌, subst}
use mathlib.Core.Bool.{true, ◌&&◌}
use mathlib.Core.List.{List, []}
use Prim.Native.Nat.{ℕ, ◌+◌, ◌-◌, ◌≤◌}
use native.Mathlib.Omega.{arith}
use lib.Dec.{eqb}
use lib.ListN.{take, drop}
use lib.Seq.{slice}
use borrow.Author.Tests.{eq-eqb}
use Rattle.fields.specs.declared.State.{State}
use Rattle.kept.specs.Kept.{Kept}
use Rattle.kept.specs.Formed.{well_formed}
use Rattle.kept.specs.Layout.{number_in, state_in, kept_in, bytes_for}
use Rattle.kept.specs.Posts.{Sized, WellKept}
use Rattle.kept.proofs.NumberLaws.{take_drop}
use Rattle.kept.proofs.FormedLaws.{state_sized}
use Rattle.kept.proofs.KeptLaws.{kept_back, kept_number, kept_formed, place_small}
use Rattle.taking.specs.Chunk.{absorbed}
use Rattle.taking.specs.Posts.{Leads}
use Rattle.taking.proofs.WellLaws.{absorbed_well}
use Rattle.kept.specs.Formed.{is_open}
use Rattle.intake.specs.Posts.{Open}
use Rattle.intake.proofs.OpenLaws.{open_well}
use Rattle.intake.proofs.GrowLaws.{leads_kept}

-- a lent part of bytes
pub part_read : (from to : ℕ) (b : List ℕ) → from ≤ to → take (to - from) (drop from b) ≡ slice from to b
part_read from to b h = take_drop (to - from) from b ∙ ap (λ (k : ℕ). slice from k b) (let z : from + (to - from) ≡ to = omega arith in z)

both_true : (t : List ℕ) → well_formed t ≡ true → number_in t ≡ 0 → (well_formed t && eqb (number_in t) 0) ≡ true
both_true t f z = ap₂ ◌&&◌ f (eq-eqb (number_in t) 0 z)

module _ (s : List ℕ) (o : Open s) (w : List ℕ) (next : State) (l : Leads (state_in s) w next) where
  abbrev then : Kept
  then = absorbed (kept_in s) w next

  pub then_well : WellKept then
  then_well = absorbed_well (kept_in s) (open_well s o) w next (leads_kept s o w next l)

  module _ (t : List ℕ) (is : t ≡ bytes_for then) where
    pub then_back : kept_in t ≡ then
    then_back = ap kept_in is ∙ kept_back then then_well

    pub then_open : Open t
    unfolding is_open
    then_open = record { is_open_is = subst (λ (x : List ℕ). is_open x ≡ true) (sym is) (both_true (bytes_for then) (kept_formed then then_well) (kept_number then then_well)) }

    pub then_sized : Sized t
    then_sized = subst Sized (sym is) (state_sized (bytes_for then) (kept_formed then then_well) (kept_number then then_well))

    pub then_laid : t ≡ bytes_for (kept_in t)
    then_laid = is ∙ ap bytes_for (sym then_back)

    pub then_no_tail : (kept_in t).tail ≡ []
    unfolding absorbed
    then_no_tail = ap (λ (k : Kept). k.tail) then_back

    pub then_near : (kept_in t).place ≤ 4000000
    then_near = subst (λ (k : Kept). k.place ≤ 4000000) (sym then_back) (place_small then then_well)

    pub then_state : state_in t ≡ next
    unfolding kept_in absorbed
    then_state = ap (λ (k : Kept). k.state) then_back
