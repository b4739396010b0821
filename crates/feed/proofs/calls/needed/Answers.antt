-- With at most 64 units and 64 inverters, and at most 65,535 steps, the product fits.
use native.Mathlib.Omega.{arith}
use Rattle.feed.proofs.FewLaws.{few_needed}
use Rattle.feed.proofs.calls.needed.Goals as goal
use Rattle.feed.proofs.calls.needed.Goals.{Start}

pub overflow_mul-result : goal.overflow_mul-result
overflow_mul-result c =
    let a = c.args in
    omega (arith, few_needed a.next.units a.next.left a.st.steps a.next.steps c.requires.units_bound c.requires.steps_bound)
