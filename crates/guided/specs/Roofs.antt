-- One step of one inverter that a voltage leads (rules L2 to L9).
use Rattle.std.specs.Prelude.{ℕ, ◌≤◌, Bool, true, false, ◌≡◌, ℤ, nat_abs}
use Rattle.whole.specs.Largest.{leg_of}
use Rattle.lead.specs.declared.Lead.{Lead}
use Rattle.lead.specs.Lead.{first_by, requested_by, kept_by}
use Rattle.solar.specs.declared.Inverter.{Inverter}
use Rattle.solar.specs.declared.Sun.{Sun}
use Rattle.solar.specs.declared.Given.{Given}
use Rattle.solar.specs.Roof.{Roof, roof_in}
use Rattle.solar.specs.Step.{step_of}
use Rattle.solar.specs.Relied.{Relied}
use Rattle.guided.specs.Units.{Guiding}

-- L4, L5: the inverter with the vars requested in place of its var request, and with the priority that counts
abbrev pub led_inverter : Lead → Inverter → ℤ → Inverter
led_inverter l v vars = record {
  array = v.array;
  kva = v.kva;
  cut_in = v.cut_in;
  cut_out = v.cut_out;
  limit = v.limit;
  var_request = vars;
  priority = first_by l v.priority;
}

abbrev pub led_roof : Lead → Roof → ℤ → Roof
led_roof l r vars = record { inverter = led_inverter l r.inverter vars; warm = r.warm; efficiency = r.efficiency }

-- L2, L6: its watts, 0 while it is off. They count only where the base is what they leave, and there they come first
unfoldable pub watts_first : Lead → Roof → Bool → Sun → ℕ
unfolding step_of
watts_first l r on s = nat_abs (step_of (led_roof l r r.inverter.var_request) on s).watts

-- the vars requested
unfoldable pub requested_of : Lead → Roof → ℤ → Bool → Sun → ℤ
unfolding requested_by watts_first
requested_of l r last on s = requested_by l r.inverter.var_request last r.inverter.kva (watts_first l r on s)

-- what the step gives, and the vars kept as last requested
unfoldable pub lit_step : Lead → Roof → ℤ → Bool → Sun → Given
unfolding requested_of step_of
lit_step l r last on s = step_of (led_roof l r (requested_of l r last on s)) on s

unfoldable pub vars_kept : Lead → Roof → ℤ → Bool → Sun → ℤ
unfolding requested_of
vars_kept l r last on s = kept_by l last (requested_of l r last on s)

-- what can be relied on (rules L7 to L9), for a roof in its ranges, a curve's value of at most one and vars last requested of at most 10^8 either way: `lit-law`
-- proves it
pub record LitLaw (l : Lead) (r : Roof) (last : ℤ) (on : Bool) (s : Sun) : Type 0 where
  pub relied : Relied (led_roof l r (requested_of l r last on s)) on s
  pub kept_small : nat_abs (vars_kept l r last on s) ≤ 100000000
  pub same_watts : l.after ≡ true → watts_first l r on s ≡ nat_abs (lit_step l r last on s).watts
  pub fits : l.fresh ≡ true → l.after ≡ true → nat_abs (requested_of l r last on s) ≤ leg_of r.inverter.kva (nat_abs (lit_step l r last on s).watts)
  -- so an inverter that is on gives them as they are
  pub given_whole : l.fresh ≡ true → l.after ≡ true → (lit_step l r last on s).on ≡ true → (lit_step l r last on s).vars ≡ requested_of l r last on s
  pub unled : l.leads ≡ false → l.after ≡ false → l.fresh ≡ false → lit_step l r last on s ≡ step_of r on s
  pub stands : l.leads ≡ false → vars_kept l r last on s ≡ last

-- the theorem
abbrev pub LitTheorem : Type 0
LitTheorem = (l : Lead) (r : Roof) (last : ℤ) (on : Bool) (s : Sun) → roof_in r ≡ true → Guiding l last → LitLaw l r last on s
