use Prim.Native.Nat.{ℕ, ◌<◌}
use mathlib.Core.Path.{◌≡◌, refl, sym, ◌∙◌}
use native.Mathlib.Nat.{le_trans, le_of_eq}
use native.Mathlib.Omega.{arith}
use lib.IntN.{ℤ, pos}
use lib.ListN.{length, get_or}
use mir.Syntax.{w32, w64}
use mir.Val.{to_z, of_z}
use Rattle.whole.proofs.SignLaws.{read}
use Rattle.rows.specs.Rows.{no_row, unit_by}
use Rattle.rules.proofs.RuleLaws.{back64}
use Rattle.members.specs.Posts.{fleet_by, shared_by}
use Rattle.members.proofs.ColumnLaws.{link_at_lem, own_at}
use Rattle.members.proofs.PlaceLaws.{reached_none, reached_length, reached_step, reached_requests, reached_flag}
use Rattle.members.proofs.ShareLaws.{row_there, may_share, next_is}
use Rattle.members.proofs.shares.share_linked.Goals as goal
use Rattle.members.proofs.shares.share_linked.Goals.{After-old-1, After-own_need-need, At-loop-i, In-loop-i, Start}

-- the function that the loop maps
abbrev at : (s : Start) → ℕ → ℤ → ℤ
at s = let a = s.args in shared_by a.charging a.factor a.w a.weights (fleet_by a.units.now a.stored.now)

long : (c : At-loop-i) → length c.loop-i.requests ≡ length c.args.requests.now
long c = reached_length (at c.before.before.before) c.args.requests.now c.loop-i.requests c.loop-i.changed c.loop-i.i c.loop-i.invariant

-- the unit at hand has its row
here : (c : In-loop-i) → c.loop-i.i < length c.args.units.now
here c =
    let a = c.args in
    row_there a.factor a.w a.weights a.units.now a.stored.now (length a.requests.now) c.requires c.loop-i.i (omega (arith, long (record { before = c.before.before; type_inv = record { stored = c.shared_slice_known-1.given } })))

pub loop-i-init : goal.loop-i-init
loop-i-init c = reached_none (at (goal.at.loop-i-init c).Start) c.args.requests.now

pub bounds-units-i : goal.bounds-units-i
bounds-units-i c = here (goal.at.bounds-units-i c).In-loop-i

pub own_need-need-requires : goal.own_need-need-requires
own_need-need-requires c =
    let p = c.requires.linked in record { modest = p.modest; link_bound = le_trans (le_of_eq (sym (link_at_lem c.args.units.now c.args.stored.now c.loop-i.i))) (p.link_small c.loop-i.i) }

pub next_request-next-requires : goal.next_request-next-requires
next_request-next-requires c =
    let a = c.args in record {
      i_in_bounds = here (goal.at.next_request-next-requires c).In-loop-i;
      sharable = may_share a.factor a.w a.weights a.units.now a.stored.now (length a.requests.now) c.requires c.loop-i.i
          c.own_need-need.result c.own_need-need.type_inv c.own_need-need.ensures.result_bound;
    }

pub loop-i-preserved : goal.loop-i-preserved
loop-i-preserved c =
    let a = c.args in
    let i = c.loop-i.i in
    let own = read w64 c.own_need-need.result c.own_need-need.type_inv ∙ c.own_need-need.ensures.value
    ∙ own_at a.w a.units.now a.stored.now i (unit_by (get_or a.units.now i no_row)).link refl in
    let r = to_z w32 (of_z w32 (get_or c.loop-i.requests i (pos 0))) in
    reached_step (at (goal.at.loop-i-preserved c).Start) a.requests.now c.loop-i.requests c.loop-i.changed i c.loop-i.invariant (omega (arith, long (goal.at.loop-i-preserved c).At-loop-i)) c.next_request-next.result c.old-1.given c.next_request-next.type_inv
    (next_is a.charging a.factor a.w a.weights a.units.now a.stored.now (back64 c.own_need-need.result) i r c.next_request-next.result own c.next_request-next.ensures)

pub returns : goal.returns
returns c =
    let rs = c.args.requests.now in
    let e : c.loop-i.i ≡ length rs = omega (arith, long (goal.at.returns c).At-loop-i, c.loop-i.invariant.upto) in record { requests_after = reached_requests (at (goal.at.returns c).Start) rs c.loop-i.requests c.loop-i.changed c.loop-i.i c.loop-i.invariant e; value = reached_flag (at (goal.at.returns c).Start) rs c.loop-i.requests c.loop-i.changed c.loop-i.i c.loop-i.invariant e }
