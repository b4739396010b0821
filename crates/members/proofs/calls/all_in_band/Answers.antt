-- By current every unit's band is looked at; by watts all have one band and one need, and there is some unit.
use mathlib.Core.Path.{ap, ◌∙◌, subst⁻¹}
use Prim.Native.Nat.{◌≤◌}
use native.Mathlib.Nat.{le_trans}
use lib.Dec.{lit≤}
use lib.IntN.{ℤ, nat_abs}
use lib.ListN.{length}
use mir.Syntax.{w64}
use Rattle.whole.proofs.SignLaws.{read}
use Rattle.rules.specs.Rules.{in_band}
use Rattle.members.specs.Posts.{fleet_by}
use Rattle.members.proofs.CallLaws.{in_band_is}
use Rattle.members.proofs.calls.all_in_band.Goals as goal
use Rattle.members.proofs.calls.all_in_band.Goals.{After-own_need, Else-w, Start}

pub in_band-requires : goal.in_band-requires
in_band-requires c =
    subst⁻¹ (λ (z : ℤ). nat_abs z ≤ 10000000000000) (read w64 c.own_need.result c.own_need.type_inv) (le_trans c.own_need.ensures.result_bound (lit≤ tt))

pub returns : goal.returns
returns c =
    let a = c.args in
    c.in_band.ensures
    ∙ ap (in_band a.band) (read w64 c.own_need.result c.own_need.type_inv ∙ c.own_need.ensures.value)
    ∙ in_band_is a.w (fleet_by a.units.now a.stored.now) (length a.units.now) c.if-w.false c.requires.in_bounds a.band
