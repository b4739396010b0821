-- The need in watts at the unit, with F added behind it; both are small beside 64 bits.
use mathlib.Core.Path.{subst⁻¹}
use Prim.Native.Nat.{◌≤◌}
use lib.IntN.{ℤ, nat_abs}
use Rattle.rules.proofs.RuleLaws.{plain_ok, sum_ok, watts_ok, own_is, need_size}
use Rattle.rules.proofs.rules.own_need.Goals as goal

pub in_watts-requires : goal.in_watts-requires
in_watts-requires c = record { link_bound = c.requires.link_bound; need_bound = plain_ok c.args.w c.args.link c.requires.modest c.requires.link_bound }

pub with_sum-requires : goal.with_sum-requires
with_sum-requires c =
    let w = c.args.w in
    let l = c.args.link in record { plain_bound = watts_ok w l c.requires.modest c.requires.link_bound c.in_watts.result c.in_watts.ensures; sum_bound = sum_ok w l c.requires.modest c.requires.link_bound }

pub returns : goal.returns
returns c =
    let w = c.args.w in
    let l = c.args.link in
    let is = own_is w l c.requires.modest c.requires.link_bound c.in_watts.result c.in_watts.ensures c.with_sum.result c.with_sum.type_inv c.with_sum.ensures in record { value = is; result_bound = subst⁻¹ (λ (z : ℤ). nat_abs z ≤ 400000000000) is (need_size w l c.requires.modest c.requires.link_bound) }
