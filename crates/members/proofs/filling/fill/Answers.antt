use native.Mathlib.Omega.{arith}
use lib.ListN.{length}
use Rattle.members.specs.Ranges.{Fleet, fleet_linked}
use Rattle.members.proofs.ColumnLaws.{filled_none, filled_more, filled_all}
use Rattle.members.proofs.filling.fill.Goals as goal
use Rattle.members.proofs.filling.fill.Goals.{At-loop-i, Start}

abbrev fleet : (c : Start) → Fleet
fleet c = let a = c.args in fleet_linked a.rated.now a.reserve.now a.stored.now a.rating.now a.weight.now a.links.now

pub loop-i-init : goal.loop-i-init
loop-i-init c = filled_none (fleet (goal.at.loop-i-init c).Start) c.args.rows.now

pub loop-i-preserved : goal.loop-i-preserved
loop-i-preserved c =
    filled_more (fleet (goal.at.loop-i-preserved c).Start) (length c.args.rows.now) c.loop-i.rows c.loop-i.i c.loop-i.invariant (omega (arith, c.loop-i.invariant.count)) c.member_row.result c.member_row.ensures

pub returns : goal.returns
returns c =
    filled_all (fleet (goal.at.returns c).Start) (length c.args.rows.now) c.loop-i.rows c.loop-i.i c.loop-i.invariant (omega (arith, c.loop-i.invariant.count, c.loop-i.invariant.upto)) c.requires
