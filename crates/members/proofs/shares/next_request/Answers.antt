-- A unit with nothing to give, or no room, gets 0; of any other the request and the share, which fits since need, factor, weight and sum of weights
-- are bounded.
use mathlib.Core.Path.{◌≡◌, sym, ap, ◌∙◌, subst⁻¹}
use Prim.Native.Nat.{◌≤◌}
use native.Mathlib.Nat.{lt_of_le_of_lt}
use lib.Dec.{lit<}
use lib.IntN.{ℤ, nat_abs}
use lib.ListN.{get_or}
use mir.Syntax.{w64}
use Rattle.whole.proofs.SignLaws.{read}
use Rattle.unit.specs.declared.Unit.{Unit}
use Rattle.rows.specs.Rows.{no_row, unit_by}
use Rattle.rules.specs.Rules.{unit_after}
use Rattle.members.proofs.FleetLaws.{next_none, next_some}
use Rattle.rules.proofs.RuleLaws.{read_sized, share_size, unit_is, back64}
use Rattle.members.proofs.shares.next_request.Goals as goal
use Rattle.members.proofs.shares.next_request.Goals.{After-share-part, After-unable, Else-unable, Start}

abbrev unit_here : Start → Unit
unit_here s = unit_by (get_or s.args.units.now s.args.i no_row)

need_read : (s : Start) → back64 s.args.need ≡ s.args.need
need_read s = read_sized s.args.need (lt_of_le_of_lt s.requires.sharable.need_small (lit< tt))

need_ok : (s : Start) → nat_abs (back64 s.args.need) ≤ 400000000000
need_ok s = subst⁻¹ (λ (z : ℤ). nat_abs z ≤ 400000000000) (need_read s) s.requires.sharable.need_small

pub returns-then-unable : goal.returns-then-unable
returns-then-unable c =
    next_none c.args.charging c.args.factor c.args.need c.args.weights (unit_here (goal.at.returns-then-unable c).Start) c.args.held c.args.request
    (sym c.unable.ensures ∙ c.if-unable.true)

pub share-part-requires : goal.share-part-requires
share-part-requires c = record { need_bound = need_ok (goal.at.share-part-requires c).Start; factor_bound = c.requires.sharable.factor_small; weight_bound = c.requires.sharable.weight_small; weights_bound = c.requires.sharable.weights_small }

pub request_after-requires : goal.request_after-requires
request_after-requires c = record {
  rating_bound = c.requires.sharable.rating_small;
  share_bound = subst⁻¹ (λ (z : ℤ). nat_abs z ≤ 4000000000000000000) (read w64 c.share-part.result c.share-part.type_inv ∙ c.share-part.ensures)
      (share_size c.args.factor (back64 c.args.need) (unit_here (goal.at.request_after-requires c).Start).weight c.args.weights (need_ok (goal.at.request_after-requires c).Start) c.requires.sharable.factor_small
      c.requires.sharable.weight_small);
}

pub returns : goal.returns
returns c =
    unit_is c.args.charging c.args.factor (back64 c.args.need) c.args.weights (unit_here (goal.at.returns c).Start).rating (unit_here (goal.at.returns c).Start).weight c.args.request c.share-part.result c.request_after.result
    c.ranges.request.sfits c.share-part.type_inv c.request_after.type_inv c.share-part.ensures c.request_after.ensures
    ∙ ap (λ (z : ℤ). unit_after c.args.charging c.args.factor z c.args.weights (unit_here (goal.at.returns c).Start).rating (unit_here (goal.at.returns c).Start).weight c.args.request) (need_read (goal.at.returns c).Start)
    ∙ next_some c.args.charging c.args.factor c.args.need c.args.weights (unit_here (goal.at.returns c).Start) c.args.held c.args.request
    (sym c.unable.ensures ∙ c.if-unable.false)
