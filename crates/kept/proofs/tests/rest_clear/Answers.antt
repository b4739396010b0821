-- The five tests are the definition's.
use lib.ListN.{length}
use Prim.Native.Nat.{◌+◌}
use mir.Facts.{Fits-below}
use Rattle.kept.specs.Layout.{state_size, held_place, flag_place, vars_place, site_place}
use Rattle.kept.proofs.NumberLaws.{inside, end_fits, end_upto, both_few, both_fit, held_upto, flags_upto, vars_upto, tail_upto, site_few, held_fit, vars_fit}
use Rattle.kept.proofs.FitLaws.{rest_is}
use Rattle.kept.proofs.tests.rest_clear.Goals as goal
use Rattle.kept.proofs.tests.rest_clear.Goals.{After-is_clear, After-is_clear-2, After-is_clear-3, After-is_clear-4, After-u16_at-n, After-u8_at-t}

pub u16_at-n-requires : goal.u16_at-n-requires
u16_at-n-requires c = inside 16 (length c.args.s.now) c.requires.sized.long tt

pub u8_at-t-requires : goal.u8_at-t-requires
u8_at-t-requires c = inside 17 (length c.args.s.now) c.requires.sized.long tt

pub overflow_add-t : goal.overflow_add-t
overflow_add-t c = Fits-below {n = held_place} tt (tail_upto c.args.s.now c.u8_at-t.result c.u8_at-t.ensures c.requires.sized)

pub is_clear-requires : goal.is_clear-requires
is_clear-requires c = record { from_le_to = tail_upto c.args.s.now c.u8_at-t.result c.u8_at-t.ensures c.requires.sized; to_in_bounds = inside held_place (length c.args.s.now) c.requires.sized.long tt }

pub overflow_mul-units : goal.overflow_mul-units
overflow_mul-units c = held_fit c.args.units c.requires.units_bound

pub overflow_add-units : goal.overflow_add-units
overflow_add-units c = Fits-below {n = flag_place} tt (held_upto c.args.units c.requires.units_bound)

pub is_clear-requires-2 : goal.is_clear-requires-2
is_clear-requires-2 c = record { from_le_to = held_upto c.args.units c.requires.units_bound; to_in_bounds = inside flag_place (length c.args.s.now) c.requires.sized.long tt }

pub overflow_add-roofs : goal.overflow_add-roofs
overflow_add-roofs c = Fits-below {n = vars_place} tt (flags_upto c.args.roofs c.requires.roofs_bound)

pub is_clear-requires-3 : goal.is_clear-requires-3
is_clear-requires-3 c = record { from_le_to = flags_upto c.args.roofs c.requires.roofs_bound; to_in_bounds = inside vars_place (length c.args.s.now) c.requires.sized.long tt }

pub overflow_add-units-2 : goal.overflow_add-units-2
overflow_add-units-2 c = both_fit c.args.units c.args.roofs c.requires.units_bound c.requires.roofs_bound

pub overflow_mul-units-2 : goal.overflow_mul-units-2
overflow_mul-units-2 c = vars_fit (c.args.units + c.args.roofs) (both_few c.args.units c.args.roofs c.requires.units_bound c.requires.roofs_bound)

pub overflow_add-units-3 : goal.overflow_add-units-3
overflow_add-units-3 c = Fits-below {n = site_place} tt (vars_upto (c.args.units + c.args.roofs) (both_few c.args.units c.args.roofs c.requires.units_bound c.requires.roofs_bound))

pub is_clear-requires-4 : goal.is_clear-requires-4
is_clear-requires-4 c = record { from_le_to = vars_upto (c.args.units + c.args.roofs) (both_few c.args.units c.args.roofs c.requires.units_bound c.requires.roofs_bound); to_in_bounds = inside site_place (length c.args.s.now) c.requires.sized.long tt }

pub overflow_add-n : goal.overflow_add-n
overflow_add-n c = end_fits c.u16_at-n.result (site_few c.args.s.now c.u16_at-n.result c.u16_at-n.ensures c.requires.sized)

pub is_clear-requires-5 : goal.is_clear-requires-5
is_clear-requires-5 c = record { from_le_to = end_upto c.u16_at-n.result (site_few c.args.s.now c.u16_at-n.result c.u16_at-n.ensures c.requires.sized); to_in_bounds = inside state_size (length c.args.s.now) c.requires.sized.long tt }

pub returns : goal.returns
returns c =
    let a = c.args in
    rest_is
    a.s.now
    a.units
    a.roofs
    c.u16_at-n.result
    c.u8_at-t.result
    c.is_clear.result
    c.is_clear-2.result
    c.is_clear-3.result
    c.is_clear-4.result
    c.is_clear-5.result
    c.u16_at-n.ensures
    c.u8_at-t.ensures
    c.is_clear.ensures
    c.is_clear-2.ensures
    c.is_clear-3.ensures
    c.is_clear-4.ensures
    c.is_clear-5.ensures
