use native.Mathlib.Omega.{arith}
use Prim.Native.Nat.{ℕ}
use mathlib.Core.Path.{refl, sym, ap, ap₂, ◌∙◌}
use mathlib.Core.Bool.{◌&&◌}
use lib.Dec.{leb}
use lib.IntN.{nat_abs}
use Rattle.whole.specs.Over.{all_of}
use Rattle.whole.proofs.OverLaws.{all_next}
use Rattle.whole.proofs.SignLaws.{sized}
use Rattle.kept.specs.Layout.{var_at}
use Rattle.kept.specs.Formed.{var_fits}
use Rattle.kept.proofs.tests.vars_fit.Goals as goal

pub loop-i-init : goal.loop-i-init
unfolding all_of
loop-i-init c = (omega arith, refl)

pub loop-i-preserved : goal.loop-i-preserved
unfolding var_fits var_at
loop-i-preserved c =
    let s = c.args.s.now in
    let e = sized c.i32_at.result c.unsigned_abs.result c.i32_at.type_inv c.unsigned_abs.ensures.value ∙ ap nat_abs c.i32_at.ensures in (
      omega arith,
      ap₂ ◌&&◌ c.loop-i.invariant.1 (ap (λ (n : ℕ). leb n 100000000) e) ∙ sym (all_next c.loop-i.i (var_fits s)),
    )
