-- What can be relied on of a led inverter: it is one in its ranges, whatever vars are requested; and vars led by what the circle leaves after the watts fit
-- beside these, which are the same with whatever vars. Assumes nothing.
use mathlib.Core.Path.{◌≡◌}
use mathlib.Core.Bool.{Bool, true}
use Prim.Native.Nat.{◌≤◌}
use lib.IntN.{ℤ, nat_abs}
use Rattle.solar.specs.declared.Sun.{Sun}
use Rattle.solar.specs.Roof.{Roof, roof_in}
use Rattle.solar.proofs.ReliedProved.{relied}
use Rattle.lead.specs.declared.Lead.{Lead}
use Rattle.guided.specs.Units.{Guiding}
use Rattle.guided.specs.Roofs.{led_roof, requested_of, vars_kept, LitTheorem}
use Rattle.guided.proofs.SharedLaws.{kept_most}
use Rattle.guided.proofs.RoofLaws.{led_in, unled_is, stands_is, asked_small, lit_same, lit_fits, lit_whole}

kept : (l : Lead) (r : Roof) (last : ℤ) (on : Bool) (s : Sun) → roof_in r ≡ true → Guiding l last → nat_abs (vars_kept l r last on s) ≤ 100000000
unfolding vars_kept
kept l r last on s h g = kept_most l last (requested_of l r last on s) g.last_small (asked_small l r last on s h g)

pub lit_law : LitTheorem
lit_law l r last on s h g =
    let requested = requested_of l r last on s in
    record {
      relied = relied (led_roof l r requested) (led_in l r h requested (asked_small l r last on s h g)) on s;
      kept_small = kept l r last on s h g;
      same_watts = lit_same l r last on s;
      fits = lit_fits l r last on s h g;
      given_whole = lit_whole l r last on s h g;
      unled = unled_is l r last on s;
      stands = stands_is l r last on s;
    }
