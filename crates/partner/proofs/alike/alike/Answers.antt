use mathlib.Core.Path.{◌≡◌, ◌∙◌}
use native.Mathlib.Omega.{arith}
use Rattle.partner.proofs.AlikeLaws.{goes_many, comes_to, stops, goes_on}
use Rattle.partner.proofs.alike.alike.Goals as goal

pub returns-then-all_alike : goal.returns-then-all_alike
returns-then-all_alike c =
    let a = c.args in
    let most = c.min-most.result in
    let same = goes_many a.ours.now a.n a.theirs.now a.at most c.requires.n_in_bounds (omega (arith, c.min-most.ensures)) (c.all_alike.ensures c.if-all_alike.true) in
    comes_to a.ours.now a.n a.theirs.now a.at most same c.requires.n_in_bounds (omega (arith, c.min-most.ensures)) (omega (arith, c.min-most.ensures))

pub returns-then-ours-i : goal.returns-then-ours-i
returns-then-ours-i c =
    let a = c.args in
    stops a.ours.now a.n a.theirs.now a.at c.loop-i.i c.loop-i.invariant.1 c.requires.n_in_bounds (omega (arith, c.min-most.ensures)) c.if-ours-i.true

pub loop-i-preserved : goal.loop-i-preserved
loop-i-preserved c =
    let a = c.args in
    (omega arith, goes_on a.ours.now a.n a.theirs.now a.at c.loop-i.i c.loop-i.invariant.1 c.requires.n_in_bounds (omega (arith, c.min-most.ensures)) c.if-ours-i.false)

pub returns : goal.returns
returns c =
    let a = c.args in
    let e : c.min-most.result ≡ c.loop-i.i = omega arith in
    e ∙ comes_to a.ours.now a.n a.theirs.now a.at c.loop-i.i c.loop-i.invariant.1 c.requires.n_in_bounds (omega (arith, c.min-most.ensures)) (omega (arith, c.min-most.ensures))
