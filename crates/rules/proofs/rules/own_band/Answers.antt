-- Band and link are multiplied in 64 bits, which never wraps at these sizes.
use Prim.Native.Nat.{◌*◌, ◌≤◌}
use native.Mathlib.Nat.{mul-le-mul}
use native.Mathlib.Omega.{arith}
use Rattle.rules.proofs.RuleLaws.{band_is, fleet_band_is}
use mathlib.Core.Path.{ap}
use mathlib.Core.Bool.{not}
use Rattle.rules.proofs.rules.own_band.Goals as goal

pub returns-then-not-current : goal.returns-then-not-current
returns-then-not-current c = let a = c.args in fleet_band_is a.current a.link a.band (ap not c.if-not-current.true)

pub overflow_mul-result : goal.overflow_mul-result
overflow_mul-result c =
    let b : c.args.band ≤ 4294967295 = omega (arith, c.ranges.band) in
    let h : c.args.band * c.args.link ≤ 4294967295 * 120000 = mul-le-mul b c.requires in
    omega arith

pub returns : goal.returns
returns c = let a = c.args in band_is a.current a.link a.band (ap not c.if-not-current.false)
