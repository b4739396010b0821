-- By current F is left out; otherwise it is added where the fleet is in the other state.
use native.Mathlib.Nat.{le_trans}
use lib.Dec.{lit≤}
use Rattle.rules.proofs.RuleLaws.{plain_ok, sum_ok, reported_is}
use Rattle.rules.proofs.rules.reported.Goals as goal

pub with_sum-requires : goal.with_sum-requires
with_sum-requires c =
    let w = c.args.w in record { plain_bound = le_trans (plain_ok w 0 c.requires (lit≤ tt)) (lit≤ tt); sum_bound = sum_ok w 0 c.requires (lit≤ tt) }

pub returns : goal.returns
returns c =
    reported_is c.args.w 0 c.requires (lit≤ tt) c.with_sum.result c.with_sum.type_inv c.with_sum.ensures
