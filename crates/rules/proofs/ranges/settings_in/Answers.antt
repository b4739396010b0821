-- The code's tests are the definition's, one by one, at the target that is read back.
use mathlib.Core.Path.{ap, ◌∙◌}
use mathlib.Core.Bool.{◌&&◌}
use Prim.Native.Nat.{ℕ, ◌<◌, ◌^◌}
use lib.Dec.{leb}
use lib.IntN.{nat_abs}
use lib.Signed.{mag}
use mir.Syntax.{w32}
use Rattle.whole.proofs.SignLaws.{read}
use Rattle.whole.specs.Interval.{between}
use Rattle.rules.specs.Ranges.{settings_in}
use Rattle.rules.proofs.ranges.settings_in.Goals as goal

pub returns : goal.returns
unfolding settings_in
returns c =
    let s = c.args.s in
    let h : mag s.target < 2 ^ 31 = c.struct_told-1.given.1.0.1 in
    let e = c.unsigned_abs-size.ensures.value ∙ ap nat_abs (read w32 s.target h) in
    ap (λ (n : ℕ). between 1 5 s.mode && leb n 100000000 && leb s.band 200000000 && between 1 1000 s.factor) e
