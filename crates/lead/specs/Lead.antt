-- Voltage-led vars (rules L1 to L5): what leads a step of a site, and the vars that are requested of a unit or an inverter in it.
use Rattle.std.specs.Prelude.{ℕ, ◌≤◌, Bool, true, false, cond, ◌&&◌, List, leb, eqb, ℤ, pos, neg_ℤ, nat_abs, ◌*ℤ◌, None, Option, Some}
use Rattle.whole.specs.Largest.{leg_of}
use Rattle.whole.specs.Quotient.{cut}
use Rattle.curve.specs.declared.Bounds.{Bounds}
use Rattle.curve.specs.Curve.{Point, curve_at}
use Rattle.curve.specs.Ranges.{points_in}
use Rattle.lead.specs.declared.Lead.{Lead}

-- L1: a function is a base, 0 for S and 1 for what the circle leaves after the watts, and a volt-var curve; a site has one or none
pub record Function : Type 0 where
  pub base : ℕ
  pub curve : List Point

pub data Leading : Type 0 where
  unled : Leading
  led : Function → Leading

-- Q50 to Q53
abbrev pub volt_var_bounds : Bounds
volt_var_bounds = record { x_least = pos 0; x_most = pos 20000; y_least = neg_ℤ (pos 10000); y_most = pos 10000 }

abbrev pub voltage_in : ℕ → Bool
voltage_in x = leb x 20000

unfoldable pub function_in : Function → Bool
unfolding points_in
function_in f = leb f.base 1 && points_in volt_var_bounds f.curve

-- what leads a step with this voltage, or none
abbrev pub after_watts : Function → Bool
after_watts f = eqb f.base 1

abbrev pub lead : Bool → Bool → Bool → ℤ → Lead
lead leads after fresh y = record { leads = leads; after = after; fresh = fresh; y = y }

unfoldable pub lead_of : Leading → Option ℕ → Lead
unfolding curve_at
lead_of unled v = lead false false false (pos 0)
lead_of (led f) None = lead true (after_watts f) false (pos 0)
lead_of (led f) (Some x) = lead true (after_watts f) true (curve_at f.curve (pos x))

-- L5: the priority that counts: watts first where the base is what they leave
abbrev pub first_by : Lead → ℕ → ℕ
first_by l priority = cond l.after 0 priority

-- L2, L3: the vars requested, by the own var request, those last requested, S and the size of the inverter's watts
abbrev pub base_of : Bool → ℕ → ℕ → ℕ
base_of after S watts = cond after (leg_of S watts) S

abbrev pub led_vars : Lead → ℕ → ℕ → ℤ
led_vars l S watts = cut (pos (base_of l.after S watts) *ℤ l.y) 10000

unfoldable pub requested_by : Lead → ℤ → ℤ → ℕ → ℕ → ℤ
unfolding leg_of cut
requested_by l own last S watts = cond l.fresh (led_vars l S watts) (cond l.leads last own)

-- L4: what is kept as last requested; without a function that stands as it was
abbrev pub kept_by : Lead → ℤ → ℤ → ℤ
kept_by l last requested = cond l.leads requested last

-- a lead whose value is a curve's: at most one either way
pub record Modest (l : Lead) : Type 0 where
  pub y_small : nat_abs l.y ≤ 10000
