-- The list that is filled holds the units' links, so the pass with it is the pass over the fleet.
use Prim.Native.Nat.{ℕ}
use mathlib.Core.Path.{◌≡◌, ap, ◌∙◌, subst, subst⁻¹}
use lib.ListN.{length, get_or}
use Rattle.whole.proofs.OverLaws.{each_length}
use Rattle.unit.specs.Ranges.{link_of}
use Rattle.members.specs.Ranges.{Fleet, links_of}
use Rattle.controller.specs.Posts.{Sound, DonePass}
use Rattle.controller.proofs.SoundLaws.{front_linked, front_fits}
use Rattle.controller.proofs.current.pass_linked.Goals as goal
use Rattle.controller.proofs.current.pass_linked.Goals.{After-link_all, After-links-1, After-pass_over, Start}

abbrev start : After-link_all → Start
start k = k.before.before.before.before.before.before.before.before.before.before

-- the part that was filled has as many links as there are units
filled : (k : After-link_all) → length k.link_all.new.links ≡ length (start k).args.requests.now
unfolding links_of
filled k = let s = start k in ap length k.link_all.ensures ∙ each_length (λ (i p : ℕ). link_of p (get_or s.args.volts.now i 0)) s.args.phases.now ∙ s.requires.phases_len

pub slice_bounds-pass_over-end : goal.slice_bounds-pass_over-end
slice_bounds-pass_over-end c = front_fits c.link_all.new.links _ (length (start (goal.at.slice_bounds-pass_over-end c).After-link_all).args.requests.now) (filled (goal.at.slice_bounds-pass_over-end c).After-link_all)

pub pass_over-requires : goal.pass_over-requires
pass_over-requires c =
    let s = start (goal.at.pass_over-requires c).After-link_all in
    let a = s.args in
    let n = length a.requests.now in
    subst⁻¹ (λ (f : Fleet). Sound a.aim.settings a.aim.measure f n)
    (front_linked a.rated.now a.reserve.now a.stored.now a.rating.now a.weight.now n c.link_all.new.links _ (links_of a.phases.now a.volts.now) c.link_all.ensures (filled (goal.at.pass_over-requires c).After-link_all)) s.requires.sound

pub returns : goal.returns
returns c =
    let a = (start (goal.at.returns c).After-link_all).args in
    subst (λ (f : Fleet). DonePass a.aim.settings a.aim.measure f a.requests.now c.pass_over.new.requests c.pass_over.result)
    (front_linked a.rated.now a.reserve.now a.stored.now a.rating.now a.weight.now (length a.requests.now) c.link_all.new.links _ (links_of a.phases.now a.volts.now) c.link_all.ensures (filled (goal.at.returns c).After-link_all)) c.pass_over.ensures
