-- A unit with nothing to give, or no room, gets 0. Of any other the size of its own need and that of its share fit, and the sign, which goes through both
-- quotients, is put back behind them.
use mathlib.Core.Path.{◌≡◌, sym, ap, ◌∙◌, subst⁻¹}
use Prim.Native.Nat.{ℕ, ◌*◌, ◌/◌, ◌≤◌}
use native.Mathlib.Nat.{lt_of_le_of_lt, le_trans, le_of_eq, mul-le-mul}
use mathlib.Core.Bool.{true}
use lib.Dec.{lit<, lit≤}
use lib.IntN.{ℤ, nat_abs}
use lib.ListN.{get_or}
use mir.Syntax.{w64}
use Rattle.whole.specs.Signed.{signed}
use Rattle.whole.proofs.SignLaws.{size_signed, read}
use Rattle.unit.specs.declared.Unit.{Unit}
use Rattle.rows.specs.Rows.{no_row, unit_by}
use Rattle.rules.specs.Rules.{in_watts, share_of, unit_after}
use Rattle.rules.proofs.RuleLaws.{watts_most, sized_watts, sized_share, share_fits, share_size, unit_is}
use Rattle.members.specs.Posts.{sized_by}
use Rattle.members.proofs.FleetLaws.{next_none, next_some}
use Rattle.members.proofs.sized.next_sized.Goals as goal
use Rattle.members.proofs.sized.next_sized.Goals.{After-signed64-share, After-unable, Else-unable, Start}

abbrev unit_here : Start → Unit
unit_here s = unit_by (get_or s.args.units.now s.args.i no_row)

-- the unit's own need
abbrev own_here : Start → ℤ
own_here s = in_watts true (unit_here s).link (signed s.args.below s.args.size)

pub returns-then-unable : goal.returns-then-unable
unfolding sized_by
returns-then-unable c =
    next_none c.args.charging c.args.factor (own_here (goal.at.returns-then-unable c).Start) c.args.weights (unit_here (goal.at.returns-then-unable c).Start) c.args.held c.args.request (sym c.unable.ensures ∙ c.if-unable.true)

pub overflow_mul-own : goal.overflow_mul-own
overflow_mul-own c =
    let p = c.requires.sharable_by_size in record { fits = lt_of_le_of_lt (mul-le-mul p.size_small p.link_small) (lit< tt) }

-- the size of the unit's own need
abbrev own_size : Start → ℕ
own_size s = s.args.size * (unit_here s).link / 1000

own_small : (s : Start) → own_size s ≤ 400000000000
own_small s =
    let p = s.requires.sharable_by_size in le_trans (watts_most s.args.size (unit_here s).link p.size_small p.link_small) (lit≤ tt)

pub share_size-part-requires : goal.share_size-part-requires
share_size-part-requires c =
    let p = c.requires.sharable_by_size in record { size_bound = own_small (goal.at.share_size-part-requires c).Start; factor_bound = p.unit.factor_small; weight_bound = p.unit.weight_small; le_weights = p.weights_some; weights_bound = p.unit.weights_small }

pub signed64-share-requires : goal.signed64-share-requires
signed64-share-requires c =
    let s = (goal.at.signed64-share-requires c).Start in
    share_fits s.args.factor (own_size s) (unit_here s).weight s.args.weights (own_small s) s.requires.sharable_by_size.unit.factor_small s.requires.sharable_by_size.unit.weight_small
    s.args.below c.share_size-part.result c.share_size-part.ensures

-- what it gives is the unit's share
share_is : (g : After-signed64-share) → let a = g.args in let u = unit_by (get_or a.units.now a.i no_row) in
    g.signed64-share.result ≡ share_of a.factor (signed a.below (a.size * u.link / 1000)) u.weight a.weights
share_is g =
    let a = g.args in
    let u = unit_by (get_or a.units.now a.i no_row) in
    g.signed64-share.ensures ∙ ap (signed a.below) g.share_size-part.ensures ∙ sym (sized_share a.below a.factor (a.size * u.link / 1000) u.weight a.weights)

pub request_after-requires : goal.request_after-requires
request_after-requires c =
    let s = (goal.at.request_after-requires c).Start in record {
      rating_bound = s.requires.sharable_by_size.unit.rating_small;
      share_bound = subst⁻¹ (λ (z : ℤ). nat_abs z ≤ 4000000000000000000) (read w64 c.signed64-share.result c.signed64-share.type_inv ∙ share_is (goal.at.request_after-requires c).After-signed64-share)
          (share_size s.args.factor (signed s.args.below (own_size s)) (unit_here s).weight s.args.weights
          (le_trans (le_of_eq (size_signed s.args.below (own_size s))) (own_small s)) s.requires.sharable_by_size.unit.factor_small s.requires.sharable_by_size.unit.weight_small);
    }

pub returns : goal.returns
unfolding sized_by
returns c =
    let s = (goal.at.returns c).Start in
    let a = s.args in
    unit_is a.charging a.factor (signed a.below (own_size s)) a.weights (unit_here s).rating (unit_here s).weight a.request c.signed64-share.result c.request_after.result
    s.ranges.request.sfits c.signed64-share.type_inv c.request_after.type_inv (share_is (goal.at.returns c).After-signed64-share) c.request_after.ensures
    ∙ ap (λ (z : ℤ). unit_after a.charging a.factor z a.weights (unit_here s).rating (unit_here s).weight a.request)
    (sym (sized_watts a.below a.size (unit_here s).link))
    ∙ next_some a.charging a.factor (own_here s) a.weights (unit_here s) a.held a.request (sym c.unable.ensures ∙ c.if-unable.false)
