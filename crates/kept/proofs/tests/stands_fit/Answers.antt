-- An accepted site has at most 64 units, so that a part of each array holds a value for every one.
use native.Mathlib.Omega.{arith}
use Prim.Native.Nat.{ℕ, ◌≤◌}
use mathlib.Core.Path.{ap, ◌∙◌}
use lib.ListN.{length-take}
use Rattle.kept.specs.Layout.{site_part}
use Rattle.kept.specs.Formed.{lists_fit}
use Rattle.kept.proofs.ListLaws.{few_units}
use Rattle.kept.proofs.tests.stands_fit.Goals as goal
use Rattle.kept.proofs.tests.stands_fit.Goals.{After-loaded_fit, Start}

few : (c : Start) → c.args.units ≤ 64
few c = omega (arith, c.requires.units_value, few_units (site_part c.args.s.now) c.requires.accepted)

pub slice_bounds-stored-end : goal.slice_bounds-stored-end
slice_bounds-stored-end c = few (goal.at.slice_bounds-stored-end c).Start

pub slice_bounds-requests-end : goal.slice_bounds-requests-end
slice_bounds-requests-end c = few (goal.at.slice_bounds-requests-end c).Start

pub loaded_fit-requires : goal.loaded_fit-requires
loaded_fit-requires c =
    let l = few (goal.at.loaded_fit-requires c).Start in record { sized = c.requires.sized; n_value = c.requires.n_value; accepted = c.requires.accepted; stored_len = simp length-take (omega (arith, c.requires.units_value, l)); requests_len = simp length-take (omega (arith, c.requires.units_value, l)); roofs_value = c.requires.roofs_value }

pub returns : goal.returns
returns c =
    let l = few (goal.at.returns c).Start in
    c.loaded_fit.ensures ∙ ap (λ (n : ℕ). lists_fit c.args.s.now n c.args.roofs) (simp length-take (omega (arith, l)))
