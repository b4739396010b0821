-- A stick that fits is accepted as it is laid out: each of its fields is taken where it stands, and the end field counts its steps. Assumes nothing.
use mathlib.Core.Path.{◌≡◌, refl, sym, ap, subst, ◌∙◌}
use mathlib.Core.Bool.{false}
use mathlib.Core.List.{List, [], ◌∷◌}
use Prim.Native.Nat.{ℕ, ◌+◌, ◌≤◌}
use native.Mathlib.Omega.{arith}
use lib.ListN.{length}
use borrow.Author.Tests.{le-ltb, eq-eqb}
use Rattle.unit.specs.declared.Unit.{Unit}
use Rattle.rules.specs.Rules.{by_current}
use Rattle.fields.specs.declared.State.{State}
use Rattle.fields.specs.Fields.{at_end, at_units, at_settings, begins, flags, state_of, gone_to}
use Rattle.stick.specs.Check.{answer, start, check_of}
use Rattle.stick.specs.Posts.{answered}
use Rattle.stick.proofs.ReachLaws.{walk_reach}
use Rattle.stick.proofs.WalkLaws.{ends_complete, not_too_large}
use Rattle.layouts.specs.Written.{Stick}
use Rattle.layouts.specs.Layout.{joined, unit_field, laid_out}
use Rattle.layouts.specs.Ranges.{Each, UnitFits, Fits}
use Rattle.layouts.proofs.SayLaws.{within}
use Rattle.layouts.proofs.WalkLaws.{Walks, walks_append, leads, Stands}
use Rattle.layouts.proofs.HeadWalks.{fleet_walks, units_walk, settings_walk, connections_walk}
use Rattle.layouts.proofs.RoofWalks.{roofs_walk, function_walks}
use Rattle.layouts.proofs.StepWalks.{steps_walk, end_walks}

-- one unit at least
some_units_walk : (e n : ℕ) (us : List Unit) → 1 ≤ length us → Each (UnitFits e) us
    → Walks (state_of at_units e n (length us) 0 (flags false false)) (joined (unit_field e) us) (state_of at_settings e n 0 0 (flags false false))
some_units_walk e n [] some f = absurd (omega arith)
some_units_walk e n (u ∷ us) some f = units_walk e n u us f

-- from the start over all of its bytes to the end of the order
whole_walks : (s : Stick) → Fits s → (m : State) × (Walks start (laid_out s) m × ((m.stage ≡ 0) × (m.steps ≡ length s.steps)))
unfolding laid_out
whole_walks s f =
    let e = s.head.edition in
    let n = length s.units in
    let amps = by_current s.head.settings.mode in
    let (some, few) = within 1 64 n f.count in
    let fleet = fleet_walks s.head n f.edition f.count f.seconds in
    let units = some_units_walk e n s.units some f.units in
    let settings = settings_walk e n s.head f.settings f.phase in
    let (linked, (connections, (free, room))) = connections_walk e n amps s.connections some few f.connections in
    let (roofed, (roofs, lit)) = roofs_walk amps s.roofs linked free (omega arith) f.roofs_in in
    let (guided, (function, ready)) = function_walks amps s.leading roofed lit f.leading in
    let (stepped, (steps, counted)) = steps_walk amps 0 s.leading s.steps guided ready (omega arith) f.steps_in in
    let all : 0 + length s.steps ≡ length s.steps = omega arith in
    let end = end_walks amps (leads s.leading) (length s.steps) stepped (subst (λ (k : ℕ). Stands begins amps (leads s.leading) k stepped) all counted) f.steps in (
      gone_to stepped at_end stepped.left stepped.steps,
      (
        walks_append fleet (walks_append units (walks_append settings (walks_append connections (walks_append roofs (walks_append function (walks_append steps end)))))),
        (refl, counted.steps ∙ all),
      ),
    )

pub fits_accepted : (s : Stick) → Fits s → check_of (laid_out s) ≡ answer 0 (length (laid_out s)) (length s.steps)
fits_accepted s f =
    let file = laid_out s in
    let (m, (walks, (ended, steps))) = whole_walks s f in
    sym (not_too_large file (le-ltb 2097152 (length file) f.size))
    ∙ walk_reach file (length file) start 0
    ∙ ap answered walks.reach
    ∙ sym (ends_complete m (length file) (eq-eqb m.stage 0 ended))
    ∙ ap (answer 0 (length file)) steps
