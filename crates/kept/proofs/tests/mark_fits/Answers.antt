-- The four tests are the definition's, since the mark is what the bytes say.
use native.Mathlib.Omega.{arith}
use Prim.Native.Nat.{◌≤◌}
use Rattle.kept.specs.Layout.{tail_most, site_most}
use Rattle.kept.proofs.ListLaws.{mark_site, mark_tail, mark_fits_is}
use Rattle.kept.proofs.tests.mark_fits.Goals as goal
use Rattle.kept.proofs.tests.mark_fits.Goals.{After-shared_slice_known-1, After-sun_fits, After-sun_fits-arg-1, After-u16_at, After-volt_fits, Start}

-- the parts are no longer than their places
site_small : (c : Start) → c.args.m.site ≤ site_most
site_small c = omega (arith, c.requires.sized.site_fits_is, mark_site c.args.s.now c.args.m c.requires.m_value)

tail_small : (c : Start) → c.args.m.tail ≤ tail_most
tail_small c = omega (arith, c.requires.sized.tail_fits_is, mark_tail c.args.s.now c.args.m c.requires.m_value)

pub place_fits-requires : goal.place_fits-requires
place_fits-requires c = record { site_le_site_most = site_small (goal.at.place_fits-requires c).Start; tail_le_tail_most = tail_small (goal.at.place_fits-requires c).Start }

pub overflow_add-t : goal.overflow_add-t
overflow_add-t c = omega (arith, tail_small (goal.at.overflow_add-t c).Start)

pub slice_bounds-tail_fits-end : goal.slice_bounds-tail_fits-end
slice_bounds-tail_fits-end c = omega (arith, c.requires.sized.long, tail_small (goal.at.slice_bounds-tail_fits-end c).Start)

pub returns : goal.returns
returns c =
    mark_fits_is
    c.args.s.now
    c.args.m
    c.u16_at.result
    c.place_fits.result
    c.sun_fits.result
    c.volt_fits.result
    c.tail_fits.result
    c.requires.m_value
    c.u16_at.ensures
    c.place_fits.ensures
    c.sun_fits.ensures
    c.volt_fits.ensures
    c.tail_fits.ensures
