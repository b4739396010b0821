-- By current a plain need that does not call, with nothing added, calls at no unit; otherwise every unit is asked. By watts all have one need, and there
-- is some unit.
use borrow.Author.Tests.{not-true}
use mathlib.Core.Bool.{not}
use mathlib.Core.Path.{sym, ap, ◌∙◌}
use native.Mathlib.Nat.{lt_of_le_of_lt}
use lib.Dec.{lit<}
use lib.ListN.{length}
use mir.Syntax.{w64}
use Rattle.whole.proofs.OverLaws.{and_parts}
use Rattle.whole.proofs.SignLaws.{read}
use Rattle.rules.specs.Rules.{no_call}
use Rattle.rules.proofs.RuleLaws.{read_sized}
use Rattle.members.specs.Posts.{fleet_by}
use Rattle.members.proofs.CallLaws.{plain_rests, none_calls_is}
use Rattle.members.proofs.calls.none_calls.Goals as goal
use Rattle.members.proofs.calls.none_calls.Goals.{After-no_call, After-own_need, Else-w, Start, Then-w}

pub returns-then-w-no_call : goal.returns-then-w-no_call
returns-then-w-no_call c =
    let a = c.args in
    let both = and_parts (not a.w.other) c.no_call.result c.if-w-no_call.true in
    plain_rests a.charging a.w (fleet_by a.units.now a.stored.now) (length a.units.now) c.if-w.true (not-true a.w.other both.0)
    (sym (c.no_call.ensures ∙ ap (no_call a.charging) (read_sized a.w.plain (lt_of_le_of_lt c.requires.linked.modest.plain_small (lit< tt)))) ∙ both.1)
    c.requires.in_bounds

pub returns : goal.returns
returns c =
    let a = c.args in
    c.no_call-2.ensures
    ∙ ap (no_call a.charging) (read w64 c.own_need.result c.own_need.type_inv ∙ c.own_need.ensures.value)
    ∙ none_calls_is a.w (fleet_by a.units.now a.stored.now) (length a.units.now) c.if-w.false c.requires.in_bounds a.charging
