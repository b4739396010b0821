-- Rows with the file's units, and a list of what they hold, are the file's fleet, so the study over them is the study over that fleet.
use mathlib.Core.Path.{◌≡◌, subst, subst⁻¹}
use mathlib.Core.List.{List, map}
use lib.ListN.{length}
use Rattle.unit.specs.declared.Unit.{Unit}
use Rattle.members.specs.Ranges.{Fleet}
use Rattle.members.specs.Posts.{Addable, fleet_by}
use Rattle.settling.specs.Study.{shaving}
use Rattle.settling.specs.Posts.{Trying, DoneStudy}
use Rattle.ask.specs.Says.{fleet_said}
use Rattle.ask.proofs.FleetLaws.{rows_fleet}
use Rattle.ask.proofs.StudyLaws.{file_trying}
use Rattle.ask.proofs.studies.study_with.Goals as goal
use Rattle.ask.proofs.studies.study_with.Goals.{After-load, After-settle_within, After-slice_known-1, After-stored-1, After-stores, Start}

-- the start, from the place after the rows were filled
abbrev start : After-load → Start
start l = l.before.before.before.before.before

-- what the study counts on
tried : (l : After-load) → let s = start l in Trying s.args.q (fleet_said s.args.file.now) (length s.args.requests.now)
tried l = let s = start l in file_trying s.args.file.now s.args.q s.args.requests.now s.requires.studying

-- the rows and the list are the file's fleet
fleet_is : (k : After-stores)
    → fleet_by k.load.new.rows k.stores.new.stored ≡ fleet_said (start (record { before = k.before.before.before.before; type_inv = record { stored = k.slice_known-1.given; file = k.shared_slice_known-1.given } })).args.file.now
fleet_is k =
    rows_fleet (start (record { before = k.before.before.before.before; type_inv = record { stored = k.slice_known-1.given; file = k.shared_slice_known-1.given } })).args.file.now k.load.new.rows k.stores.new.stored k.load.ensures.rows_after k.stores.ensures

pub summed-t-requires : goal.summed-t-requires
summed-t-requires c =
    let e = (tried (goal.at.summed-t-requires c).After-load).sound.energies in record { addable = subst⁻¹ (λ (us : List Unit). Addable (map (λ (u : Unit). u.rated) us)) c.load.ensures.rows_after e.rated; addable_2 = subst⁻¹ (λ (us : List Unit). Addable (map (λ (u : Unit). u.reserve) us)) c.load.ensures.rows_after e.reserve }

pub settle_within-requires : goal.settle_within-requires
settle_within-requires c =
    let s = start (goal.at.settle_within-requires c).After-load in record { trying = subst⁻¹ (λ (f : Fleet). Trying s.args.q f (length s.args.requests.now)) (fleet_is (goal.at.settle_within-requires c).After-stores) (tried (goal.at.settle_within-requires c).After-load); totals_of = c.summed-t.ensures }

pub returns : goal.returns
returns c =
    let s = start (goal.at.returns c).After-load in
    let q = s.args.q in
    subst (λ (f : Fleet). DoneStudy (shaving q.settings) q.load f q.budget (length s.args.requests.now) c.settle_within.new.requests c.settle_within.result) (fleet_is (goal.at.returns c).After-stores)
    c.settle_within.ensures
