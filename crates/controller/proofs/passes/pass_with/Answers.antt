-- Filled rows are the lists' fleet, so the pass over them, with their sums, is the pass over the lists.
use mathlib.Core.Path.{subst⁻¹}
use lib.ListN.{length}
use Rattle.members.specs.Ranges.{Fleet, fleet_linked}
use Rattle.members.specs.Posts.{Addable, fleet_by}
use Rattle.controller.proofs.PassLaws.{sound_on, done_on}
use Rattle.controller.proofs.passes.pass_with.Goals as goal
use Rattle.controller.proofs.passes.pass_with.Goals.{After-fill-arg-1, After-pass_within, After-shared_slice_known-6-1, After-units-1, Start}

abbrev fleet : Start → Fleet
fleet s = let a = s.args in fleet_linked a.rated.now a.reserve.now a.stored.now a.rating.now a.weight.now a.links.now

pub summed-t-requires : goal.summed-t-requires
summed-t-requires c = record { addable = subst⁻¹ (λ (f : Fleet). Addable f.rated) c.fill.ensures c.requires.sound.energies.rated; addable_2 = subst⁻¹ (λ (f : Fleet). Addable f.reserve) c.fill.ensures c.requires.sound.energies.reserve }

pub pass_within-requires : goal.pass_within-requires
pass_within-requires c = record { sound = sound_on c.args.aim.settings c.args.aim.measure (fleet (goal.at.pass_within-requires c).Start) (fleet_by c.fill.new.rows c.args.stored.now) (length c.args.requests.now) c.fill.ensures c.requires.sound; totals_of = c.summed-t.ensures }

pub returns : goal.returns
returns c =
    done_on c.args.aim.settings c.args.aim.measure (fleet (goal.at.returns c).Start) (fleet_by c.fill.new.rows c.args.stored.now) (length c.args.requests.now) c.fill.ensures c.requires.sound
    c.args.requests.now c.pass_within.new.requests c.pass_within.result c.pass_within.ensures
