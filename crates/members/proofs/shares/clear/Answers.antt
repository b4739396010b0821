use mathlib.Core.Path.{◌≡◌, refl}
use native.Mathlib.Omega.{arith}
use lib.Dec.{lit<}
use lib.IntN.{pos}
use lib.ListN.{length}
use Rattle.members.proofs.PlaceLaws.{reached_none, reached_length, reached_step, reached_requests, reached_flag}
use Rattle.members.proofs.shares.clear.Invariants.{none}
use Rattle.members.proofs.shares.clear.Goals as goal
use Rattle.members.proofs.shares.clear.Goals.{At-loop-r, In-loop-r}

long : (c : In-loop-r) → length c.loop-r.requests ≡ length c.args.requests.now
long c = reached_length none c.args.requests.now c.loop-r.requests c.loop-r.changed c.loop-r.r-index c.loop-r.invariant

pub loop-r-init : goal.loop-r-init
loop-r-init c = reached_none none c.args.requests.now

pub loop-r-preserved : goal.loop-r-preserved
loop-r-preserved c =
    let rs = c.args.requests.now in
    reached_step none rs c.loop-r.requests c.loop-r.changed c.loop-r.r-index c.loop-r.invariant (omega (arith, long (goal.at.loop-r-preserved c).In-loop-r)) (pos 0) c.changed-1.given (lit< tt) refl

pub returns : goal.returns
returns c =
    let rs = c.args.requests.now in
    let n : length c.loop-r.requests ≡ length rs = reached_length none rs c.loop-r.requests c.loop-r.changed c.loop-r.r-index c.loop-r.invariant in
    let e : c.loop-r.r-index ≡ length rs = omega (arith, c.loop-r.invariant.upto) in record { requests_after = reached_requests none rs c.loop-r.requests c.loop-r.changed c.loop-r.r-index c.loop-r.invariant e; value = reached_flag none rs c.loop-r.requests c.loop-r.changed c.loop-r.r-index c.loop-r.invariant e }
