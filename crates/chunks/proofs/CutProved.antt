-- `cut-law`: the fields of a are the same before b, and those of b the same behind a. Assumes nothing.
use Prim.Native.Nat.{ℕ, ◌+◌}
use mathlib.Core.List.{List, ◌++◌}
use mathlib.Core.Path.{◌≡◌, refl, ◌∙◌, subst}
use native.Mathlib.Omega.{arith}
use lib.ListN.{length, length-append}
use Rattle.site.specs.declared.Due.{Due}
use Rattle.fields.specs.declared.State.{State}
use Rattle.stick.specs.declared.Reached.{Reached}
use Rattle.stick.specs.Check.{reached, reach_of}
use Rattle.stick.specs.Site.{steps_from, due_from}
use Rattle.chunks.specs.Holds.{CutLaw, moved}
use Rattle.chunks.proofs.ReachChunks.{Went, went_reach, gone, reach_fuel, reach_shift, went_append}
use Rattle.chunks.proofs.PlaceChunks.{Whole, went_whole, at_end_lem, steps_append}

module _ (a b : List ℕ) (st m : State) (e : reach_of (length a) st a 0 ≡ reached 0 (length a) m) where
  over : Went a m (length a) st 0
  over = subst (λ (r : Reached). Went a r.state r.at st 0) e (gone a (length a) st 0 (omega arith) (omega arith)).went

  walks_on : reach_of (length (a ++ b)) st (a ++ b) 0 ≡ moved (length a) (reach_of (length b) m b 0)
  walks_on =
      went_reach (a ++ b) (went_append a b over) (length (a ++ b)) (length b) (omega arith) (omega (arith, length-append a b))
      ∙ at_end_lem a b (reach_of (length b) m (a ++ b)) (length a) refl
      ∙ reach_shift a b (length b) m 0

  steps_on_is : (d : Due) → steps_from (a ++ b) d 0 ≡ steps_from a d 0 ++ steps_from b (due_from a d 0) 0
  steps_on_is = steps_append a b (went_whole a over refl)

pub cut_law : (a b : List ℕ) → CutLaw a b
cut_law a b = record { behind = reach_shift a b; walks_on = walks_on a b; steps_on_is = steps_on_is a b }
