-- What flows in one step of one unit, and what comes of it: rules U5, U7 to U11. Power is whole watts, positive for discharge; energy whole joules.
use Rattle.std.specs.Prelude.{ℕ, zero, suc, ◌+◌, ◌-◌, ◌*◌, cond, ltb, eqb, ℤ, pos, neg_ℤ}
use Rattle.whole.specs.Signed.{negative}
use Rattle.unit.specs.declared.Unit.{Unit}
use Rattle.unit.specs.Ranges.{idle_draw}
use Rattle.energy.specs.Limits.{held_size, removed_by, deliverable, added_by, takeable}
use Rattle.flows.specs.declared.Flow.{Flow}
use Rattle.flows.specs.declared.Flow.TheVariants.{Out, In, Idle}

-- what flows in a step: watts out, watts in, or nothing asked or possible. A unit idles where no count can be delivered or its store is below its
-- reserve, and where what it takes adds nothing
abbrev pub out_flow : ℕ → Flow
out_flow zero = Idle
out_flow (suc x) = Out (suc x)

unfoldable pub discharged : Unit → ℕ → ℕ → Flow
unfolding deliverable
discharged u seconds p = cond (ltb u.stored u.reserve) Idle (out_flow (deliverable u seconds p))

unfoldable pub charged : Unit → ℕ → ℕ → Flow
unfolding takeable added_by
charged u seconds p = let x = takeable u seconds p in cond (eqb (added_by u seconds x) 0) Idle (In x)

unfoldable pub flow_of : Unit → ℕ → ℤ → Flow
unfolding held_size discharged charged
flow_of u seconds request = let p = held_size u request in cond (negative request) (charged u seconds p) (discharged u seconds p)

-- U9: the inverter's watts; that of an idle unit draws the idle draw
unfoldable pub inverter_watts : Unit → Flow → ℤ
unfolding idle_draw
inverter_watts u (Out x) = pos x
inverter_watts u (In x) = neg_ℤ (pos x)
inverter_watts u Idle = neg_ℤ (pos (idle_draw u))

-- U10: the store after the step
unfoldable pub stored_of : Unit → ℕ → Flow → ℕ
unfolding removed_by added_by
stored_of u seconds (Out x) = u.stored - removed_by u seconds x
stored_of u seconds (In x) = u.stored + added_by u seconds x
stored_of u seconds Idle = u.stored

-- U11: the loss, but for that at the grid
unfoldable pub loss_of : Unit → ℕ → Flow → ℕ
unfolding removed_by added_by idle_draw
loss_of u seconds (Out x) = removed_by u seconds x - x * seconds
loss_of u seconds (In x) = x * seconds - added_by u seconds x
loss_of u seconds Idle = idle_draw u * seconds
