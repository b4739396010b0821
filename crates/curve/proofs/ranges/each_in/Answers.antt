-- Each point is read and tested.
use Rattle.std.proofs.Common.{rules, arith, ◌≡◌, ℕ, ◌-◌, true, false, Bool, ◌∙◌}
use borrow.Author.Tests.{tests}
use lib.Dec.{eqb}
use lib.Signed.{lt_z}
use mathlib.Core.Bool.{◌&&◌, ◌||◌}
use Rattle.std.proofs.lemmas.Iterator.{serves_from_Range, cases_from_all, YieldsList-from_range}
use Rattle.whole.proofs.ChainLaws.{all_below}
use Rattle.curve.specs.Ranges.{in_bounds}
use Rattle.curve.specs.Layout.{x_at}
use Rattle.curve.proofs.PointLaws.{point_at}
use Rattle.curve.proofs.RangeTests.{each_tested}
use Rattle.curve.proofs.ranges.each_in.Goals as goal

pub all-requires-clause-callable : goal.all-requires-clause-callable
all-requires-clause-callable c = serves_from_Range (λ x q r. search rules) (λ x low high. search rules)

pub returns : goal.returns
returns c =
    let n = c.args.n in
    let s = c.args.bytes.now in
    let p = c.args.place in
    let fine : ℕ → Bool = λ i. in_bounds c.args.b (point_at s p i) && (eqb i 0 || lt_z (x_at s p (i - 1)) (x_at s p i)) in
    all_below n fine c.all.result
    (cases_from_all _ _ _ (λ k. fine k ≡ true) (λ k. fine k ≡ false) c.all.ensures.ran (YieldsList-from_range 0 n n (cc) (omega arith))
    (λ x q k. search (rules, tests)) (λ x q k. search (rules, tests)))
    ∙ each_tested c.args.b s p n
