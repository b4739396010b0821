-- The lengths are tested first; behind them the answer is that of the roof whose curves the lists are.
use mathlib.Core.Path.{sym, ◌∙◌, ap}
use mathlib.Core.Bool.{◌&&◌, not}
use lib.ListN.{length}
use borrow.Author.Tests.{not-false}
use Rattle.whole.proofs.OverLaws.{and_parts}
use Rattle.solar.specs.Answers.{lists_of}
use Rattle.solar.proofs.AnswerLaws.{lengths_few, lit_lengths, lit_answer}
use Rattle.solar.proofs.calls.step.Goals as goal
use Rattle.solar.proofs.calls.step.Goals.{After-lengths_in-eff, After-lengths_in-warm, Else-not-warm-eff, Then-not-warm-eff}

pub returns-then-not-warm-eff : goal.returns-then-not-warm-eff
returns-then-not-warm-eff c =
    let a = c.args in
    let lists = lists_of a.warm_x.now a.warm_y.now a.eff_x.now a.eff_y.now in
    lit_lengths a.v lists a.on a.w
    c.lengths_in-warm.result c.lengths_in-eff.result c.lengths_in-warm.ensures c.lengths_in-eff.ensures (ap not c.if-not-warm-eff.true) c.refused.result c.refused.ensures

pub step_over-requires : goal.step_over-requires
step_over-requires c =
    let a = c.args in
    let p = and_parts c.lengths_in-warm.result c.lengths_in-eff.result (not-false (c.lengths_in-warm.result && c.lengths_in-eff.result) (ap not c.if-not-warm-eff.false)) in
    let w = lengths_few (length a.warm_x.now) (length a.warm_y.now) (sym c.lengths_in-warm.ensures ∙ p.0) in
    let f = lengths_few (length a.eff_x.now) (length a.eff_y.now) (sym c.lengths_in-eff.ensures ∙ p.1) in record { warm_x_len_bound = w.0; warm_y_len = w.1; eff_x_len_bound = f.0; eff_y_len = f.1 }

pub returns : goal.returns
returns c =
    let a = c.args in
    let lists = lists_of a.warm_x.now a.warm_y.now a.eff_x.now a.eff_y.now in
    lit_answer a.v lists a.on a.w
    c.lengths_in-warm.result c.lengths_in-eff.result c.lengths_in-warm.ensures c.lengths_in-eff.ensures (ap not c.if-not-warm-eff.false) c.step_over.result c.step_over.ensures
