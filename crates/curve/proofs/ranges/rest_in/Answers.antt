-- The places are tested one by one, from that behind the last point on.
use Rattle.std.proofs.Common.{rules, ◌≡◌, refl, ℕ, ◌+◌, ◌*◌, ◌-◌, true, false, Bool}
use borrow.Author.Tests.{tests}
use lib.Dec.{eqb}
use Rattle.std.proofs.lemmas.Iterator.{cases_from_all, YieldsList-from_range}
use Rattle.whole.proofs.ChainLaws.{all_ranged}
use Rattle.octets.specs.BigEndian.{be}
use Rattle.curve.proofs.ranges.rest_in.Goals as goal

pub returns : goal.returns
returns c =
    let n = c.args.n in
    let clear : ℕ → Bool = λ k. eqb (be 8 c.args.bytes.now (c.args.place + 1 + 8 * k)) 0 in
    all_ranged n (16 - n) clear c.all.result
    (cases_from_all _ _ _ (λ k. clear k ≡ true) (λ k. clear k ≡ false) c.all.ensures.ran (YieldsList-from_range n 16 (16 - n) (cc) refl)
    (λ x q k. search (rules, tests)) (λ x q k. search (rules, tests)))
