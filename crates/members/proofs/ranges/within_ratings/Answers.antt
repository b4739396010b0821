use Prim.Native.Nat.{ℕ}
use mathlib.Core.Path.{◌≡◌, refl, sym, ap, ap₂, ◌∙◌}
use mathlib.Core.Bool.{◌&&◌}
use native.Mathlib.Omega.{arith}
use lib.Dec.{leb}
use lib.IntN.{pos, nat_abs}
use lib.ListN.{length, get_or}
use mir.Syntax.{w32}
use Rattle.whole.specs.Over.{all_of}
use Rattle.whole.proofs.OverLaws.{all_next}
use Rattle.whole.proofs.SignLaws.{read}
use Rattle.members.specs.Ranges.{within_ratings}
use Rattle.members.proofs.ranges.within_ratings.Goals as goal
use Rattle.members.proofs.ranges.within_ratings.Goals.{After-unsigned_abs-size, At-loop-i}

pub loop-i-init : goal.loop-i-init
unfolding all_of
loop-i-init c = (refl)

pub loop-i-preserved : goal.loop-i-preserved
loop-i-preserved c =
    let a = c.args in
    let rs = a.requests.now in
    let ws = a.rating.now in
    let r = get_or rs c.loop-i.i (pos 0) in
    let e = c.unsigned_abs-size.ensures.value ∙ ap nat_abs (read w32 r c.unsigned_abs-arg-1.given) in
    ap₂ ◌&&◌ c.loop-i.invariant (ap (λ (z : ℕ). leb z (get_or ws c.loop-i.i 0)) e)
    ∙ sym (all_next c.loop-i.i (λ k. leb (nat_abs (get_or rs k (pos 0))) (get_or ws k 0)))

pub returns : goal.returns
unfolding within_ratings
returns c =
    let a = c.args in
    let e : c.loop-i.i ≡ length a.requests.now = omega arith in
    c.loop-i.invariant ∙ ap (λ n. all_of n (λ k. leb (nat_abs (get_or a.requests.now k (pos 0))) (get_or a.rating.now k 0))) e
