-- In the dark DC power is 0 by `no-sun`; else the factor is read at the temperature.
use mathlib.Core.Path.{sym, ap, ◌∙◌}
use Prim.Native.Nat.{ℕ, ◌*◌, ◌/◌}
use lib.IntN.{nat_abs}
use native.Mathlib.Nat.{le_trans, le_of_eq}
use Rattle.curve.specs.Curve.{curve_at}
use Rattle.curve.specs.Layout.{points_at}
use Rattle.curve.proofs.LineFits.{small_fits}
use Rattle.solar.proofs.PowerLaws.{no_sun}
use Rattle.solar.proofs.StepLaws.{factor_is}
use Rattle.solar.proofs.steps.dc_of.Goals as goal
use Rattle.solar.proofs.steps.dc_of.Goals.{After-share-factor, Start}

pub returns-then-s-eq0 : goal.returns-then-s-eq0
returns-then-s-eq0 c =
    let a = c.args in
    sym (no_sun a.array a.s.irradiance (nat_abs (curve_at (points_at a.bytes.now a.warm) a.s.temperature)) c.if-s-eq0.true)

pub overflow_cast-s : goal.overflow_cast-s
overflow_cast-s c =
    small_fits c.args.s.temperature c.requires.shining.temperature_small

pub share-factor-requires : goal.share-factor-requires
share-factor-requires c = c.requires.usable

pub dc-requires : goal.dc-requires
dc-requires c =
    let a = c.args in
    let e = factor_is (points_at a.bytes.now a.warm) a.s c.requires.shining c.share-factor.result c.share-factor.ensures in record { array_bound = c.requires.array_bound; irradiance_bound = c.requires.shining.irradiance_small; factor_bound = le_trans (le_of_eq e) c.requires.temperature_bound }

pub returns : goal.returns
returns c =
    let a = c.args in
    let e = factor_is (points_at a.bytes.now a.warm) a.s c.requires.shining c.share-factor.result c.share-factor.ensures in
    c.dc.ensures ∙ ap (λ (n : ℕ). a.array * a.s.irradiance / 1000 * n / 10000) e
