-- What the meter shows is the measure that the pass goes by, where the reading is of the mode's kind; where it is silent, or the reading is of the other kind, the
-- definition leaves the requests too.
use mathlib.Core.Path.{sym, ◌∙◌, subst, ap}
use borrow.Author.Tests.{not-true, not-false}
use Rattle.fleet.specs.Posts.{site_in}
use Rattle.fleet.proofs.StepLaws.{ask_sound}
use Rattle.tally.specs.Posts.{Metered}
use Rattle.peaks.proofs.FleetLaws.{silent_asks, other_asks, pass_asks}
use Rattle.peaks.proofs.WalkLaws.{meter_metered}
use mathlib.Core.Bool.{not}
use Rattle.peaks.proofs.fleets.ask.Goals as goal

pub returns-in_default : goal.returns-in_default
returns-in_default c =
    let a = c.args in
    silent_asks (site_in a.f a.rows.now) a.stored.now a.requests.now a.r a.m c.requires.m_value c.in_default.is

pub returns-then-not-fits : goal.returns-then-not-fits
returns-then-not-fits c =
    let a = c.args in
    other_asks (site_in a.f a.rows.now) a.stored.now a.requests.now a.r a.m c.requires.m_value c.in-Some.z c.in-Some.is (sym (not-true c.fits.result (ap not c.if-not-fits.true)) ∙ c.fits.ensures)

pub pass_within-requires : goal.pass_within-requires
pass_within-requires c =
    let a = c.args in record {
      sound = ask_sound a.f.head a.rows.now a.stored.now a.requests.now c.in-Some.z (subst Metered (sym c.requires.m_value ∙ c.in-Some.is) (meter_metered a.r a.f.head.phase))
          c.in-Some.known_told-1-own.given.0.1 c.requires.ready.sited c.requires.stored_len c.requires.requests_len c.requires.stored;
      totals_of = c.requires.ready.totals;
    }

pub returns : goal.returns
returns c =
    let a = c.args in
    pass_asks (site_in a.f a.rows.now) a.stored.now a.requests.now a.r a.m c.requires.m_value c.in-Some.z c.in-Some.is (sym (not-false c.fits.result (ap not c.if-not-fits.false)) ∙ c.fits.ensures)
    c.in-Some.known_told-1-own.given.0.1 c.pass_within.new.requests c.pass_within.ensures.requests
