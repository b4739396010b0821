-- A choice by a test: what holds of each answer under its test holds of the choice. Assumes nothing.
use mathlib.Core.Path.{◌≡◌, refl, sym, subst}
use mathlib.Core.Bool.{Bool, true, false, cond}

pub by_test {ℓ} : {X : Type ℓ} (P : X → Type 0) (b : Bool) (x y : X) → (b ≡ true → P x) → (b ≡ false → P y) → P (cond b x y)
by_test P true x y f g = f refl
by_test P false x y f g = g refl

-- no test both passes and fails
abbrev Failed : Bool → Type 0
Failed true = ⊥
Failed false = Unit {0}

pub passed_failed : {b : Bool} → b ≡ true → b ≡ false → ⊥
passed_failed t f = subst Failed (sym f ∙' t) tt
  where
    infixl 60 ◌∙'◌
    ◌∙'◌ : {x y z : Bool} → x ≡ y → y ≡ z → x ≡ z
    p ∙' q = cc
