use Prim.Native.Nat.{ℕ, zero-le}
use mathlib.Core.Path.{◌≡◌, ap, ◌∙◌}
use native.Mathlib.Omega.{arith}
use lib.IntN.{ℤ}
use lib.ListN.{length}
use mir.Syntax.{w64}
use Rattle.whole.specs.Over.{each}
use Rattle.whole.proofs.SignLaws.{read}
use Rattle.rules.proofs.RuleLaws.{back64}
use Rattle.members.proofs.PlaceLaws.{reached_none, reached_length, reached_step, reached_requests, reached_flag}
use Rattle.members.proofs.ShareLaws.{row_there, may_share, row_next, alike_is}
use Rattle.members.proofs.shares.share_alike.Goals as goal
use Rattle.members.proofs.shares.share_alike.Goals.{After-old-1, After-own_need-need, At-loop-i, Start}

-- the function that the loop maps
abbrev at : (n : After-own_need-need) → ℕ → ℤ → ℤ
at n = let a = n.args in row_next a.charging a.factor (back64 n.own_need-need.result) a.weights a.units.now a.stored.now

long : (c : At-loop-i) → length c.loop-i.requests ≡ length c.args.requests.now
long c = reached_length (at (record { before = c.before.before; type_inv = record { stored = c.shared_slice_known-1.given } })) c.args.requests.now c.loop-i.requests c.loop-i.changed c.loop-i.i c.loop-i.invariant

pub own_need-need-requires : goal.own_need-need-requires
own_need-need-requires c = record { modest = c.requires.sharing.linked.modest; link_bound = zero-le }

pub loop-i-init : goal.loop-i-init
loop-i-init c = reached_none (at c) c.args.requests.now

pub next_request-next-requires : goal.next_request-next-requires
next_request-next-requires c =
    let a = c.args in
    let i = c.loop-i.i in record { i_in_bounds = row_there a.factor a.w a.weights a.units.now a.stored.now (length a.requests.now) c.requires.sharing i (omega (arith, long (goal.at.next_request-next-requires c).At-loop-i)); sharable = may_share a.factor a.w a.weights a.units.now a.stored.now (length a.requests.now) c.requires.sharing i c.own_need-need.result c.own_need-need.type_inv c.own_need-need.ensures.result_bound }

pub loop-i-preserved : goal.loop-i-preserved
loop-i-preserved c =
    reached_step (at (goal.at.loop-i-preserved c).After-own_need-need) c.args.requests.now c.loop-i.requests c.loop-i.changed c.loop-i.i c.loop-i.invariant (omega (arith, long (goal.at.loop-i-preserved c).At-loop-i))
    c.next_request-next.result c.old-1.given c.next_request-next.type_inv c.next_request-next.ensures

pub returns : goal.returns
returns c =
    let a = c.args in
    let rs = a.requests.now in
    let own = read w64 c.own_need-need.result c.own_need-need.type_inv ∙ c.own_need-need.ensures.value in
    let same = alike_is a.charging a.factor a.w a.weights a.units.now a.stored.now (back64 c.own_need-need.result) c.requires.current_value own in
    let e : c.loop-i.i ≡ length rs = omega (arith, long (goal.at.returns c).At-loop-i, c.loop-i.invariant.upto) in record { requests_after = reached_requests (at (goal.at.returns c).After-own_need-need) rs c.loop-i.requests c.loop-i.changed c.loop-i.i c.loop-i.invariant e ∙ ap (λ (f : ℕ → ℤ → ℤ). each f rs) same; value = reached_flag (at (goal.at.returns c).After-own_need-need) rs c.loop-i.requests c.loop-i.changed c.loop-i.i c.loop-i.invariant e }
