-- Whole fields and then others, in a state's bytes: what is kept after the first is what the others are taken into, and the records of both lie one behind
-- the other. Assumes nothing.
use mathlib.Core.Path.{◌≡◌, refl, sym, ap, ap₂, ◌∙◌, subst}
use mathlib.Core.List.{List}
use Prim.Native.Nat.{ℕ, ◌+◌}
use native.Mathlib.Omega.{arith}
use lib.ListN.{length, length-append}
use Rattle.octets.specs.BigEndian.{laid}
use Rattle.records.proofs.LayLaws.{behind}
use Rattle.fields.specs.declared.State.{State}
use Rattle.kept.specs.Kept.{Kept}
use Rattle.kept.specs.Layout.{state_in, kept_in, bytes_for}
use Rattle.taking.specs.Chunk.{absorbed, results_by, with_tail}
use Rattle.taking.specs.Posts.{Leads}
use Rattle.intake.specs.Posts.{Open, both_results}
use Rattle.intake.proofs.RestLaws.{then_back, then_state}

module _ (s : List ℕ) (o : Open s) (w : List ℕ) (mid : State) (l : Leads (state_in s) w mid) (v : List ℕ) (next : State) where
  abbrev k : Kept
  k = kept_in s

  -- the records are as long as those of the first and those of the others
  pub both_long : length (both_results k w mid v next) ≡ length (results_by k w mid) + length (results_by (absorbed k w mid) v next)
  both_long = length-append (results_by k w mid) (results_by (absorbed k w mid) v next)

  module _ (t : List ℕ) (is : t ≡ bytes_for (absorbed (kept_in s) w mid)) where
    pub others_lead : Leads mid v next → Leads (state_in t) v next
    others_lead = subst (λ (st : State). Leads st v next) (sym (then_state s o w mid l t is))

    pub others_results : results_by (kept_in t) v next ≡ results_by (absorbed k w mid) v next
    others_results = ap (λ (x : Kept). results_by x v next) (then_back s o w mid l t is)

    pub others_kept : (rest : List ℕ) → bytes_for (with_tail (absorbed (kept_in t) v next) rest) ≡ bytes_for (with_tail (absorbed (absorbed k w mid) v next) rest)
    others_kept rest = ap (λ (x : Kept). bytes_for (with_tail (absorbed x v next) rest)) (then_back s o w mid l t is)

    -- the records of both
    pub both_laid : (room once twice : List ℕ) (out : ℕ) → out ≡ length (results_by k w mid) → once ≡ laid room 0 (results_by k w mid)
        → twice ≡ laid once out (results_by (kept_in t) v next) → twice ≡ laid room 0 (both_results k w mid v next)
    both_laid room once twice out e d f =
        let place : out ≡ 0 + length (results_by k w mid) = omega arith in
        behind room 0 (omega arith) (results_by k w mid) (results_by (absorbed k w mid) v next) (length (results_by k w mid)) refl once twice d
        (f ∙ ap₂ (laid once) place others_results)
