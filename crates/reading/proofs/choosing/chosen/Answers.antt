-- The first refusal met answers 6; where all three are whole, the choice among them is the definition's.
use mathlib.Core.Path.{ap, ◌∙◌}
use mir.Syntax.{w64}
use Rattle.whole.proofs.SignLaws.{read, wide_fits}
use Rattle.reading.proofs.ChoiceLaws.{all_taken, widened_size, choice_widened}
use Rattle.std.proofs.Common.{Ok}
use Rattle.reading.proofs.choosing.chosen.Goals as goal

pub returns-in_default : goal.returns-in_default
returns-in_default c = cc

pub returns-in_default-b : goal.returns-in_default-b
returns-in_default-b c = cc

pub returns-in_default-c : goal.returns-in_default-c
returns-in_default-c c = cc

pub overflow_cast-x : goal.overflow_cast-x
overflow_cast-x c =
    wide_fits c.in-Some.x c.in-Some.known_told-1-own.given.0.1

pub overflow_cast-y : goal.overflow_cast-y
overflow_cast-y c =
    wide_fits c.in-Some-b.y c.in-Some-b.known_told-in-Some-b-1-own.given.0.1

pub overflow_cast-z : goal.overflow_cast-z
overflow_cast-z c = wide_fits c.in-Some-c.z c.in-Some-c.known_told-in-Some-c-1-own.given.0.1

pub choice-requires : goal.choice-requires
choice-requires c = record { a_bound = widened_size c.in-Some.x c.in-Some.known_told-1-own.given.0.1; b_bound = widened_size c.in-Some-b.y c.in-Some-b.known_told-in-Some-b-1-own.given.0.1; c_bound = widened_size c.in-Some-c.z c.in-Some-c.known_told-in-Some-c-1-own.given.0.1 }

pub returns : goal.returns
returns c =
    let x = c.in-Some.x in
    let y = c.in-Some-b.y in
    let z = c.in-Some-c.z in
    ap Ok
    (read w64 c.choice.result c.choice.type_inv
    ∙ c.choice.ensures
    ∙ choice_widened c.args.phase x y z c.in-Some.known_told-1-own.given.0.1 c.in-Some-b.known_told-in-Some-b-1-own.given.0.1 c.in-Some-c.known_told-in-Some-c-1-own.given.0.1)
    ∙ all_taken c.args.phase c.args.a c.args.b c.args.c x y z c.in-Some.is c.in-Some-b.is c.in-Some-c.is
