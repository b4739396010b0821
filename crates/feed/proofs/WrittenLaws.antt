-- An answer as it is given: by its number the bytes written, or the refusal's number, and back. Assumes nothing.
use Rattle.std.proofs.Common.{◌≡◌, ℕ, Bool, true, false, cond, eqb, Ok, Err, Result, refl, sym, ap, ◌∙◌}
use borrow.Author.Tests.{eq-eqb, ne_eqb}
use Rattle.std.proofs.lemmas.Bool.{eqb-true}
use Rattle.feed.specs.Answers.{written_by}

abbrev given : ℕ → ℕ → Bool → Result ℕ ℕ
given number bytes b = cond b (Ok bytes) (Err number)

module _ (number bytes : ℕ) where
  pub is_written : (n : ℕ) → n ≡ bytes → number ≡ 0 → Ok n ≡ written_by number bytes
  is_written n e z = ap Ok e ∙ sym (ap (given number bytes) (eq-eqb number 0 z))

  pub is_refused : (n : ℕ) → n ≡ number → (n ≡ 0 → ⊥) → Err n ≡ written_by number bytes
  is_refused n e some = ap Err e ∙ sym (ap (given number bytes) (ne_eqb number 0 (λ z. some (e ∙ z))))

  -- what is written has the number 0
  pub written_is : (n : ℕ) → Ok n ≡ written_by number bytes → (number ≡ 0) × (n ≡ bytes)
  written_is n e = go (eqb number 0) refl e
    where
      go : (b : Bool) → eqb number 0 ≡ b → Ok n ≡ given number bytes b → (number ≡ 0) × (n ≡ bytes)
      go true t d = (eqb-true number 0 t, cc)
      go false t d = cc

  -- a refusal's number is not 0
  pub refused_is : (n : ℕ) → Err n ≡ written_by number bytes → (n ≡ number) × (number ≡ 0 → ⊥)
  refused_is n e = go (eqb number 0) refl e
    where
      go : (b : Bool) → eqb number 0 ≡ b → Err n ≡ given number bytes b → (n ≡ number) × (number ≡ 0 → ⊥)
      go true t d = cc
      go false t d = (cc, λ z. let f : true ≡ false = sym (eq-eqb number 0 z) ∙ t in cc)
