-- Passes of a study with no premise at all: each keeps the number of requests, and one that changes none gives the same list, so that all later
-- ones do too. Assumes nothing.
use mathlib.Core.Path.{◌≡◌, refl, sym, ap, ◌∙◌}
use mathlib.Core.Bool.{false}
use mathlib.Core.List.{List}
use Prim.Native.Nat.{ℕ, zero, suc, ◌+◌, ◌-◌, ◌≤◌}
use native.Mathlib.Nat.{add-zero, add-suc}
use native.Mathlib.Omega.{arith}
use lib.IntN.{ℤ, pos, ◌-ℤ◌}
use lib.ListN.{length, replicate, length-replicate}
use Rattle.rules.specs.declared.Settings.{Settings}
use Rattle.members.specs.Ranges.{Fleet}
use Rattle.members.specs.Sums.{sum_of_all, changed_of}
use Rattle.members.proofs.DifferLaws.{unchanged}
use Rattle.controller.proofs.StandsLaws.{pass_length}
use Rattle.settling.specs.Study.{study_pass, passes}
use Rattle.settling.specs.Settling.{requests_at, changes}

module _ (s : Settings) (load : ℤ) (f : Fleet) where
  pub studied_length : (rs : List ℤ) → length (study_pass s load f rs) ≡ length rs
  unfolding study_pass
  studied_length rs = pass_length s (load -ℤ sum_of_all rs) f rs

  -- the last of k + 1 passes
  last_pass : (k : ℕ) (rs : List ℤ) → passes s load f (suc k) rs ≡ study_pass s load f (passes s load f k rs)
  unfolding passes
  last_pass zero rs = refl
  last_pass (suc k) rs = last_pass k (study_pass s load f rs)

  module _ (n : ℕ) where
    pub next_requests : (k : ℕ) → requests_at s load f n (suc k) ≡ study_pass s load f (requests_at s load f n k)
    unfolding requests_at
    next_requests k = last_pass k (replicate n (pos 0))

    pub requests_length : (k : ℕ) → length (requests_at s load f n k) ≡ n
    unfolding requests_at
    requests_length zero = length-replicate n (pos 0)
    requests_length (suc k) = ap length (next_requests k) ∙ studied_length (requests_at s load f n k) ∙ requests_length k

    -- a pass that changes none, and all passes after it
    pub still : (k : ℕ) → changes s load f n k ≡ false → requests_at s load f n k ≡ requests_at s load f n (suc k)
    unfolding changes
    still k e =
        unchanged (requests_at s load f n k) (study_pass s load f (requests_at s load f n k)) (studied_length (requests_at s load f n k)) e
        ∙ sym (next_requests k)

    still_next : (k : ℕ) → changes s load f n k ≡ false → changes s load f n (suc k) ≡ false
    unfolding changes
    still_next k e = ap (λ (rs : List ℤ). changed_of rs (study_pass s load f rs)) (sym (still k e)) ∙ e

    still_by : (k j : ℕ) → changes s load f n k ≡ false → changes s load f n (k + j) ≡ false
    still_by k zero e = ap (changes s load f n) (add-zero k) ∙ e
    still_by k (suc j) e = ap (changes s load f n) (add-suc k j) ∙ still_next (k + j) (still_by k j e)

    pub still_after : (k m : ℕ) → k ≤ m → changes s load f n k ≡ false → changes s load f n m ≡ false
    still_after k m h e = let sum : k + (m - k) ≡ m = omega arith in ap (changes s load f n) (sym sum) ∙ still_by k (m - k) e
