-- Each arm is the definition's arm; the sum of three numbers that 32 bits hold fits 64.
use mathlib.Core.Path.{sym, ◌∙◌}
use mir.Syntax.{w64}
use Rattle.whole.proofs.SignLaws.{read}
use Rattle.reading.specs.Choice.{larger_of, smaller_of}
use Rattle.reading.proofs.ChoiceLaws.{sum_fits, sums_fit, sum_is, phase_sum, phase_first, phase_second, phase_third, phase_largest, phase_smallest, read_two}
use Rattle.reading.proofs.choosing.choice.Goals as goal

pub overflow_add-result : goal.overflow_add-result
overflow_add-result c = sum_fits c.args.a c.args.b c.args.c c.ranges.a c.ranges.b c.ranges.c c.requires.a_bound c.requires.b_bound c.requires.c_bound

pub overflow_add-result-then-phase-eq0 : goal.overflow_add-result-then-phase-eq0
overflow_add-result-then-phase-eq0 c = sums_fit c.args.a c.args.b c.args.c c.ranges.a c.ranges.b c.ranges.c c.requires.a_bound c.requires.b_bound c.requires.c_bound

pub returns-then-phase-eq0 : goal.returns-then-phase-eq0
returns-then-phase-eq0 c =
    sum_is c.args.a c.args.b c.args.c c.ranges.a c.ranges.b c.ranges.c c.requires.a_bound c.requires.b_bound c.requires.c_bound
    ∙ sym (phase_sum c.args.phase c.args.a c.args.b c.args.c c.if-phase-eq0.true)

pub returns-then-phase-eq1 : goal.returns-then-phase-eq1
returns-then-phase-eq1 c =
    read w64 c.args.a c.ranges.a.sfits ∙ sym (phase_first c.args.phase c.args.a c.args.b c.args.c c.if-phase-eq1.true)

pub returns-then-phase-eq2 : goal.returns-then-phase-eq2
returns-then-phase-eq2 c =
    read w64 c.args.b c.ranges.b.sfits ∙ sym (phase_second c.args.phase c.args.a c.args.b c.args.c c.if-phase-eq2.true)

pub returns-then-phase-eq3 : goal.returns-then-phase-eq3
returns-then-phase-eq3 c =
    read w64 c.args.c c.ranges.c.sfits ∙ sym (phase_third c.args.phase c.args.a c.args.b c.args.c c.if-phase-eq3.true)

pub returns-then-phase-eq4 : goal.returns-then-phase-eq4
returns-then-phase-eq4 c =
    read_two c.args.a c.args.b c.args.c c.ranges.a c.ranges.b c.ranges.c larger_of c.larger.result c.larger-then-phase-eq4.result c.larger.type_inv c.larger-then-phase-eq4.type_inv c.larger.ensures c.larger-then-phase-eq4.ensures
    ∙ sym (phase_largest c.args.phase c.args.a c.args.b c.args.c c.if-phase-eq4.true)

pub returns : goal.returns
returns c =
    read_two c.args.a c.args.b c.args.c c.ranges.a c.ranges.b c.ranges.c smaller_of c.smaller.result c.smaller-2.result c.smaller.type_inv c.smaller-2.type_inv c.smaller.ensures c.smaller-2.ensures
    ∙ sym (phase_smallest c.args.phase c.args.a c.args.b c.args.c c.if-phase-eq0.false c.if-phase-eq1.false c.if-phase-eq2.false c.if-phase-eq3.false c.if-phase-eq4.false)
