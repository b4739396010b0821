-- A site has at most 64 units and 64 inverters, so that the number of bytes fits.
use native.Mathlib.Omega.{arith}
use Rattle.stretch.proofs.SiteLaws.{few_units, few_roofs, few_bytes}
use Rattle.intake.proofs.SiteLaws.{bytes_are}
use Rattle.intake.proofs.running.bytes_of.Goals as goal
use Rattle.intake.proofs.running.bytes_of.Goals.{Start}

pub overflow_mul-size : goal.overflow_mul-size
overflow_mul-size c = omega (arith, few_units c.args.site.now c.requires.accepted, c.units.ensures)

pub overflow_mul-size-2 : goal.overflow_mul-size-2
overflow_mul-size-2 c = omega (arith, few_roofs c.args.site.now c.requires.accepted, c.roofs.ensures)

pub overflow_add-size : goal.overflow_add-size
overflow_add-size c =
    omega (arith, few_units c.args.site.now c.requires.accepted, c.units.ensures, few_roofs c.args.site.now c.requires.accepted, c.roofs.ensures)

pub overflow_mul-result : goal.overflow_mul-result
overflow_mul-result c =
    omega (arith, few_bytes c.args.site.now c.requires.accepted c.units.result c.roofs.result c.args.steps c.units.ensures c.roofs.ensures c.requires.steps_bound)

pub returns : goal.returns
returns c =
    bytes_are c.args.site.now c.units.result c.roofs.result c.args.steps c.units.ensures c.roofs.ensures
