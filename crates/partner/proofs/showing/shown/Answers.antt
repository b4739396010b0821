-- What the verdict shows lies within the file that it is chosen from, so that the part taken there is what is to be shown.
use mathlib.Core.Path.{◌≡◌, refl, ap, ◌∙◌}
use Prim.Native.Nat.{◌+◌, ◌≤◌}
use native.Mathlib.Omega.{arith}
use lib.ListN.{length}
use Rattle.partner.specs.Verdict.{partner_answer}
use Rattle.partner.specs.Shown.{told_by}
use Rattle.partner.proofs.ShownLaws.{reaches, shown_there}
use Rattle.partner.proofs.showing.shown.Goals as goal
use Rattle.partner.proofs.showing.shown.Goals.{After-chosen-file, After-told-v, Start}

-- where the function starts; the verdict is the told one
abbrev start : After-told-v → Start
start t = t.before.before.before.before.before

verdict_is : (t : After-told-v) → t.told-v.result ≡ told_by (partner_answer (start t).args.run.now (start t).args.res.now)
verdict_is t = t.told-v.ensures ∙ ap told_by t.judge.ensures

-- what it shows is there
there : (c : After-chosen-file) → c.told-v.result.start + c.told-v.result.len ≤ length c.chosen-file.result.now
there c = reaches (start (record { before = c.before.before.before; type_inv = record { res = c.shared_slice_known-2-1.given; run = c.shared_slice_known-1.given } })).args.run (start (record { before = c.before.before.before; type_inv = record { res = c.shared_slice_known-2-1.given; run = c.shared_slice_known-1.given } })).args.res (verdict_is (record { before = c.before.before.before; type_inv = record { res = c.shared_slice_known-2-1.given; run = c.shared_slice_known-1.given } })) c.chosen-file.ensures

pub overflow_add-result : goal.overflow_add-result
overflow_add-result c = omega (arith, there c)

pub slice_bounds-result-end : goal.slice_bounds-result-end
slice_bounds-result-end c = there c

pub returns : goal.returns
returns c =
    shown_there (start (goal.at.returns c).After-told-v).args.run (start (goal.at.returns c).After-told-v).args.res (verdict_is (goal.at.returns c).After-told-v) c.chosen-file.ensures refl refl
