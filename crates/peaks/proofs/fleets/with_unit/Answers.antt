-- Each sum grows by the unit's own, and stays within its bound for one unit more.
use mathlib.Core.Path.{subst⁻¹}
use Prim.Native.Nat.{◌+◌}
use Rattle.whole.proofs.SignLaws.{wide_fits}
use Rattle.tally.specs.Posts.{Within}
use Rattle.peaks.proofs.UnitLaws.{power_fits, unit_is, unit_within}
use Rattle.peaks.proofs.fleets.with_unit.Goals as goal
use Rattle.peaks.proofs.fleets.with_unit.Goals.{After-struct_told-1, After-struct_told-2-1, Start}

-- where the unit's watts are known, seen from where the sum's power is, and where the function starts
abbrev told : After-struct_told-2-1 → After-struct_told-1
told c = (record { before = c.before.before.before; type_inv = record { o = c.struct_told-1.given } })

abbrev start : After-struct_told-1 → Start
start t = t.before.before.before

pub overflow_cast-result : goal.overflow_cast-result
overflow_cast-result c = wide_fits c.args.o.watts c.struct_told-1.given.0.1

pub overflow_add-result : goal.overflow_add-result
overflow_add-result c =
    let t = told c in
    let s = start t in
    power_fits s.args.n s.args.s s.args.missed s.args.o s.requires.n_bound s.requires.within t.struct_told-1.given.0.1

pub returns : goal.returns
returns c =
    let t = told (goal.at.returns c).After-struct_told-2-1 in
    let s = start t in
    let is = unit_is s.args.n s.args.s s.args.missed s.args.o s.requires.n_bound s.requires.within t.struct_told-1.given.0.1 in record { value = is; within_2 = subst⁻¹ (Within (s.args.n + 1)) is (unit_within s.args.n s.args.s s.args.missed s.args.o s.requires.n_bound s.requires.within t.struct_told-1.given.0.1 s.requires.stored_bound s.requires.loss_bound) }
