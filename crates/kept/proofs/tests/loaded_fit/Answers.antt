-- The lists are filled with what the bytes say, so that their test is the definition's.
use native.Mathlib.Nat.{le_trans, le_of_eq}
use Prim.Native.Nat.{ℕ, ◌+◌, ◌-◌, ◌≤◌}
use mathlib.Core.Path.{◌≡◌, sym, ap, ap₂, ◌∙◌, subst⁻¹}
use mathlib.Core.List.{List}
use lib.IntN.{ℤ}
use lib.ListN.{length, take, drop}
use Rattle.whole.specs.Over.{all_of}
use Rattle.stick.specs.Site.{site_of}
use Rattle.site.specs.Site.{count}
use Rattle.stick.specs.Check.{Accepted}
use Rattle.kept.specs.Layout.{site_place, site_most, site_part, store_at, request_at}
use Rattle.kept.specs.Formed.{held_fits, var_fits}
use Rattle.kept.proofs.StandLaws.{up_to_length}
use Rattle.kept.proofs.ListLaws.{site_part_is, few_units, few_roofs, loaded_is}
use Rattle.kept.proofs.NumberLaws.{part_from, end_within, end_fits, both_few, both_fit, site_few}
use Rattle.kept.proofs.tests.loaded_fit.Goals as goal
use Rattle.kept.proofs.tests.loaded_fit.Goals.{After-flags_fit, After-held_fits, After-load, After-load-arg-1, Start}

-- few units and few inverters
few : (c : Start) → length c.args.stored.now ≤ 64
few c = le_trans (le_of_eq c.requires.stored_len) (few_units (site_part c.args.s.now) c.requires.accepted)

fewer : (c : Start) → c.args.roofs ≤ 64
fewer c = le_trans (le_of_eq c.requires.roofs_value) (few_roofs (site_part c.args.s.now) c.requires.accepted)

few_bytes : (c : Start) → c.args.n ≤ site_most
few_bytes c = site_few c.args.s.now c.args.n c.requires.n_value c.requires.sized

pub load-requires : goal.load-requires
load-requires c = record { s_len = c.requires.sized.long; stored_len_bound = few (goal.at.load-requires c).Start; requests_len = c.requires.requests_len ∙ sym c.requires.stored_len }

pub overflow_add-n : goal.overflow_add-n
overflow_add-n c = end_fits c.args.n (few_bytes (goal.at.overflow_add-n c).Start)

pub slice_bounds-held_fits-count : goal.slice_bounds-held_fits-count
slice_bounds-held_fits-count c = part_from c.args.n

pub slice_bounds-held_fits-start : goal.slice_bounds-held_fits-start
slice_bounds-held_fits-start c = part_from c.args.n

pub slice_bounds-held_fits-end : goal.slice_bounds-held_fits-end
slice_bounds-held_fits-end c = end_within c.args.s.now c.args.n c.requires.sized.long (few_bytes (goal.at.slice_bounds-held_fits-end c).Start)

pub held_fits-requires : goal.held_fits-requires
held_fits-requires c =
    let part = site_part_is c.args.s.now c.args.n c.requires.n_value in
    let n = length c.args.stored.now in record { accepted = subst⁻¹ Accepted part c.requires.accepted; stored_len = ap length c.load.ensures.stored_after ∙ up_to_length n (store_at c.args.s.now) ∙ c.requires.stored_len ∙ ap (λ (t : List ℕ). count (site_of t)) (sym part); requests_len = ap length c.load.ensures.requests_after ∙ up_to_length n (request_at c.args.s.now) ∙ c.requires.stored_len ∙ ap (λ (t : List ℕ). count (site_of t)) (sym part) }

pub flags_fit-requires : goal.flags_fit-requires
flags_fit-requires c = record { s_len = c.requires.sized.long; n_bound = fewer (goal.at.flags_fit-requires c).Start }

-- there are as many stores as there were
still : (c : After-load) → length c.load.new.stored ≡ length c.args.stored.now
still c =
    ap length c.load.ensures.stored_after ∙ up_to_length (length c.args.stored.now) (store_at c.args.s.now)

pub overflow_add-stored : goal.overflow_add-stored
overflow_add-stored c =
    both_fit (length c.load.new.stored) c.args.roofs (le_trans (le_of_eq (still (goal.at.overflow_add-stored c).After-load)) (few (goal.at.overflow_add-stored c).Start)) (fewer (goal.at.overflow_add-stored c).Start)

pub vars_fit-requires : goal.vars_fit-requires
vars_fit-requires c = record { s_len = c.requires.sized.long; n_bound = both_few (length c.load.new.stored) c.args.roofs (le_trans (le_of_eq (still (goal.at.vars_fit-requires c).After-load)) (few (goal.at.vars_fit-requires c).Start)) (fewer (goal.at.vars_fit-requires c).Start) }

pub shape_of-stored : goal.shape_of-stored
shape_of-stored c = c.load.auto.stored

pub shape_of-requests : goal.shape_of-requests
shape_of-requests c = c.load.auto.requests

pub returns : goal.returns
returns c =
    let part = site_part_is c.args.s.now c.args.n c.requires.n_value in
    let lent = take (site_place + c.args.n - site_place) (drop site_place c.args.s.now) in
    loaded_is
    c.args.s.now
    (length c.args.stored.now)
    lent
    c.args.roofs
    c.held_fits.result
    c.flags_fit.result
    c.vars_fit.result
    part
    (c.held_fits.ensures ∙ ap₂ (λ (x : List ℕ) (y : List ℤ). held_fits (site_of lent) x y) c.load.ensures.stored_after c.load.ensures.requests_after)
    c.flags_fit.ensures
    (c.vars_fit.ensures ∙ ap (λ (n : ℕ). all_of (n + c.args.roofs) (var_fits c.args.s.now)) (still (goal.at.returns c).After-load))
