-- Each number that is kept fits its type: a draw is at most S and the loss at the grid, and a floor lies below 2^50.
use Prim.Native.Nat.{◌+◌, ◌*◌, ◌≤◌}
use native.Mathlib.Nat.{mul-le-mul}
use native.Mathlib.Omega.{arith}
use mir.Syntax.{w32}
use Rattle.whole.proofs.SignLaws.{signed_fits}
use Rattle.unit.proofs.RangeLaws.{bounds}
use Rattle.storage.proofs.StepLaws.{idle_draw_small, rest_draw_small}
use Rattle.storage.proofs.KindLaws.{limited_most}
use Rattle.storage.proofs.GivingLaws.{removal_small}
use Rattle.storage.proofs.resting.row_of.Goals as goal
use Rattle.storage.proofs.resting.row_of.Goals.{After-idle_draw-idle, After-limited-size}

pub overflow_cast-idle : goal.overflow_cast-idle
overflow_cast-idle c = omega (arith, idle_draw_small c.args.u c.requires.unit c.idle_draw-idle.result c.idle_draw-idle.ensures)

pub overflow_mul-least : goal.overflow_mul-least
overflow_mul-least c =
    let b = bounds c.requires in
    let m : c.args.seconds * c.args.u.charge ≤ 86400 * 10000 = mul-le-mul b.seconds_most b.charge_most in
    omega (arith, m)

-- at the grid the loss there comes to what the unit draws
draws : (d : After-idle_draw-idle) → d.idle_draw-idle.result + d.args.u.grid_loss ≤ 110000000
draws d = rest_draw_small d.args.u d.requires.unit d.idle_draw-idle.result d.idle_draw-idle.ensures

pub overflow_add-kept : goal.overflow_add-kept
overflow_add-kept c = omega (arith, draws (goal.at.overflow_add-kept c).After-idle_draw-idle)

pub idle_vars-requires : goal.idle_vars-requires
idle_vars-requires c = c.requires.unit

pub removed-requires : goal.removed-requires
removed-requires c = record { ranged = c.requires; p_bound = omega arith }

pub overflow_add-kept-2 : goal.overflow_add-kept-2
overflow_add-kept-2 c =
    let b = bounds c.requires in
    omega (arith, b.rated_most, b.reserve_most, removal_small c.args.u c.args.seconds c.requires, c.removed.ensures)

-- the limited vars are at most S
few : (l : After-limited-size) → l.limited-size.result ≤ 100000000
few l =
    omega (arith, l.limited-size.ensures, limited_most l.args.u l.args.seconds l.requires, (bounds l.requires).kva_most)

pub signed32-requires : goal.signed32-requires
signed32-requires c =
    signed_fits w32 c.below_zero32.result c.limited-size.result (omega (arith, few (goal.at.signed32-requires c).After-limited-size))
