use Prim.Native.Nat.{ℕ}
use mathlib.Core.Path.{◌≡◌, refl, sym, ap, ap₂, ◌∙◌}
use mathlib.Core.Bool.{Bool, ◌&&◌, not}
use native.Mathlib.Nat.{le_trans, le_of_eq}
use native.Mathlib.Omega.{arith}
use lib.ListN.{length}
use mir.Syntax.{w64}
use borrow.Author.Tests.{not-true, not-false}
use Rattle.whole.specs.Over.{all_of}
use Rattle.whole.proofs.OverLaws.{all_next}
use Rattle.whole.proofs.SignLaws.{read}
use Rattle.rules.specs.Rules.{no_call}
use Rattle.members.specs.Posts.{fleet_by, own_by, none_calls_by}
use Rattle.members.proofs.ColumnLaws.{link_at_lem, own_at}
use Rattle.members.proofs.CallLaws.{one_fails}
use Rattle.members.proofs.calls.no_unit_calls.Goals as goal
use Rattle.members.proofs.calls.no_unit_calls.Goals.{After-no_call, At-loop-row, Start}

abbrev at : (s : Start) → ℕ → Bool
at s k = no_call s.args.charging (own_by s.args.w (fleet_by s.args.units.now s.args.stored.now) k)

-- the test is that of the unit
test_is : (c : After-no_call) → c.no_call.result ≡ at c.before.before.before.before.before.before.before c.loop-row.row-index
test_is c =
    let a = c.args in
    c.no_call.ensures
    ∙ ap (no_call a.charging)
    (read w64 c.own_need-need.result c.own_need-need.type_inv ∙ c.own_need-need.ensures.value
    ∙ own_at a.w a.units.now a.stored.now c.loop-row.row-index _ refl)

pub loop-row-init : goal.loop-row-init
unfolding all_of
loop-row-init c = (refl)

pub own_need-need-requires : goal.own_need-need-requires
own_need-need-requires c = record { modest = c.requires.modest; link_bound = le_trans (le_of_eq (sym (link_at_lem c.args.units.now c.args.stored.now c.loop-row.row-index))) (c.requires.link_small c.loop-row.row-index) }

pub returns-then-not-no_call : goal.returns-then-not-no_call
unfolding none_calls_by
returns-then-not-no_call c =
    sym (one_fails (length c.args.units.now) (at (goal.at.returns-then-not-no_call c).Start) c.loop-row.row-index (omega arith) (sym (test_is (goal.at.returns-then-not-no_call c).After-no_call) ∙ not-true c.no_call.result (ap not c.if-not-no_call.true)))

pub loop-row-preserved : goal.loop-row-preserved
loop-row-preserved c =
    (all_next c.loop-row.row-index (at (goal.at.loop-row-preserved c).Start) ∙ ap₂ ◌&&◌ c.loop-row.invariant (sym (test_is (goal.at.loop-row-preserved c).After-no_call) ∙ not-false c.no_call.result (ap not c.if-not-no_call.false)))

pub returns : goal.returns
unfolding none_calls_by
returns c =
    let e : c.loop-row.row-index ≡ length c.args.units.now = omega arith in
    sym c.loop-row.invariant ∙ ap (λ (n : ℕ). all_of n (at (goal.at.returns c).Start)) e
