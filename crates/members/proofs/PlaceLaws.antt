-- A loop that replaces each request in place and notes whether one changed: what it has reached, and where it ends. Assumes nothing.
use mathlib.Core.Path.{◌≡◌, refl, sym, ap, ap₂, ◌∙◌}
use mathlib.Core.Bool.{Bool, false, not, ◌||◌}
use mathlib.Core.List.{List}
use Prim.Native.Nat.{ℕ, ◌+◌, ◌^◌, ◌≤◌, ◌<◌}
use native.Mathlib.Omega.{arith}
use lib.Dec.{eqb}
use lib.IntN.{ℤ, pos}
use lib.ListN.{length, get_or, set}
use lib.Signed.{mag}
use mir.Syntax.{w32}
use mir.Val.{to_z, of_z}
use Rattle.whole.specs.Over.{some_of, each}
use Rattle.whole.proofs.OverLaws.{some_next, some_same, each_at, part, part_none, part_all, part_length, part_next, part_more}
use Rattle.whole.proofs.SignLaws.{read}
use Rattle.members.specs.Sums.{differ, changed_of}
use Rattle.members.proofs.DifferLaws.{bits_differ}

-- ---- what the loop has reached
pub record Reached (f : ℕ → ℤ → ℤ) (l now : List ℤ) (changed : Bool) (i : ℕ) : Type 0 where
  pub upto : i ≤ length l
  pub requests : now ≡ part f l i
  pub flag : changed ≡ some_of i (λ (k : ℕ). differ (get_or l k (pos 0)) (f k (get_or l k (pos 0))))

module _ (f : ℕ → ℤ → ℤ) (l : List ℤ) where
  pub reached_none : Reached f l l false 0
  unfolding some_of
  reached_none = record { upto = omega arith; requests = sym (part_none f l); flag = refl }

  module _ (now : List ℤ) (changed : Bool) (i : ℕ) (r : Reached f l now changed i) where
    pub reached_length : length now ≡ length l
    reached_length = ap length r.requests ∙ part_length f l i r.upto

    reached_next : i < length l → get_or now i (pos 0) ≡ get_or l i (pos 0)
    reached_next h = ap (λ (t : List ℤ). get_or t i (pos 0)) r.requests ∙ part_next f l i (pos 0) h

    reached_more : i < length l → (v : ℤ) (flag : Bool) → v ≡ f i (get_or l i (pos 0)) → flag ≡ differ (get_or l i (pos 0)) v
        → Reached f l (set now i v) (changed || flag) (i + 1)
    reached_more h v flag e d = record {
      upto = omega arith;
      requests = ap (λ (t : List ℤ). set t i v) r.requests ∙ part_more f l i (pos 0) v h e;
      flag =
          ap₂ ◌||◌ r.flag (d ∙ ap (differ (get_or l i (pos 0))) e)
          ∙ sym (some_next i (λ (k : ℕ). differ (get_or l k (pos 0)) (f k (get_or l k (pos 0)))));
    }

    -- one turn, over the code's bits
    pub reached_step : i < length l → (next : ℤ) → mag (get_or now i (pos 0)) < 2 ^ 31 → mag next < 2 ^ 31 → next ≡ f i (to_z w32 (of_z w32 (get_or now i (pos 0))))
        → Reached f l (set now i (to_z w32 (of_z w32 next))) (changed || not (eqb (of_z w32 (get_or now i (pos 0))) (of_z w32 next))) (i + 1)
    reached_step h next ho hn e =
        let old = get_or now i (pos 0) in
        let same : old ≡ get_or l i (pos 0) = reached_next h in
        reached_more h (to_z w32 (of_z w32 next)) (not (eqb (of_z w32 old) (of_z w32 next))) (read w32 next hn ∙ e ∙ ap (f i) (read w32 old ho ∙ same))
        (bits_differ w32 old next ho hn ∙ ap₂ differ same (sym (read w32 next hn)))

    pub reached_requests : i ≡ length l → now ≡ each f l
    reached_requests e = r.requests ∙ ap (part f l) e ∙ part_all f l

    pub reached_flag : i ≡ length l → changed ≡ changed_of l now
    unfolding changed_of
    reached_flag e =
        r.flag
        ∙ ap (λ (n : ℕ). some_of n (λ (k : ℕ). differ (get_or l k (pos 0)) (f k (get_or l k (pos 0))))) e
        ∙ some_same (length l) (λ (k : ℕ). differ (get_or l k (pos 0)) (f k (get_or l k (pos 0)))) (λ (k : ℕ). differ (get_or l k (pos 0)) (get_or now k (pos 0)))
        (λ k h. ap (differ (get_or l k (pos 0))) (sym (ap (λ (t : List ℤ). get_or t k (pos 0)) (reached_requests e) ∙ each_at f l k (pos 0) h)))
