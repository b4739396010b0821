-- Each mode has its own reading, and asks by it.
use borrow.Author.Tests.{le-leb, lt-leb}
use mathlib.Core.Path.{◌∙◌}
use Rattle.fleet.specs.Posts.{site_in}
use Rattle.fleet.proofs.StepLaws.{asked_current, asked_watts}
use Rattle.fleet.proofs.steps.ask.Goals as goal
use Rattle.fleet.proofs.steps.ask.Goals.{After-ask_by_current, After-ask_by_watts, Else-s-ge4, Start, Then-s-ge4}

pub returns-then-s-ge4 : goal.returns-then-s-ge4
returns-then-s-ge4 c =
    c.ask_by_current.ensures
    ∙ asked_current (site_in c.args.f c.args.rows.now) c.args.stored.now c.args.requests.now c.args.r (le-leb 4 _ c.if-s-ge4.true)

pub returns-else-s-ge4 : goal.returns-else-s-ge4
returns-else-s-ge4 c =
    c.ask_by_watts.ensures
    ∙ asked_watts (site_in c.args.f c.args.rows.now) c.args.stored.now c.args.requests.now c.args.r (lt-leb 4 _ c.if-s-ge4.false)
