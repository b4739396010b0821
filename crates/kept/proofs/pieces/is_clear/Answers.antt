use Prim.Native.Nat.{ℕ, ◌+◌, ◌-◌}
use mathlib.Core.Path.{◌≡◌, refl, sym, ap, ap₂, ◌∙◌}
use mathlib.Core.Bool.{◌&&◌}
use native.Mathlib.Omega.{arith}
use lib.Dec.{eqb}
use lib.ListN.{get_or}
use Rattle.whole.specs.Over.{all_of}
use Rattle.whole.proofs.OverLaws.{all_next}
use Rattle.kept.specs.Formed.{clear}
use Rattle.kept.proofs.pieces.is_clear.Goals as goal

pub loop-i-init : goal.loop-i-init
unfolding all_of
loop-i-init c = (omega arith, refl)

pub loop-i-preserved : goal.loop-i-preserved
loop-i-preserved c =
    let a = c.args in (
      omega arith,
      ap₂ ◌&&◌ c.loop-i.invariant.1 refl ∙ sym (all_next c.loop-i.i (λ (k : ℕ). eqb (get_or a.s.now (a.from + k) 0) 0)),
    )

pub returns : goal.returns
unfolding clear
returns c =
    let a = c.args in
    let e : c.loop-i.i ≡ a.to - a.from = omega (arith, c.loop-i.invariant.0) in
    c.loop-i.invariant.1 ∙ ap (λ (n : ℕ). all_of n (λ (k : ℕ). eqb (get_or a.s.now (a.from + k) 0) 0)) e
