-- The law of the vars led: a value of at most one makes no more of the base than it is, and the base is S or the leg, which is at most S. Assumes nothing.
use mathlib.Core.Path.{subst}
use mathlib.Core.Bool.{Bool}
use Prim.Native.Nat.{◌≤◌}
use native.Mathlib.Nat.{le_trans}
use lib.IntN.{nat_abs}
use Rattle.lead.specs.Lead.{base_of, led_vars}
use Rattle.lead.specs.Laws.{LeadTheorem}
use Rattle.lead.proofs.LeadLaws.{base_le, led_most}

pub lead_law : LeadTheorem
lead_law l S watts h = record {
  within_s = le_trans most (base_le l.after S watts);
  fits = λ a. subst (λ (b : Bool). nat_abs (led_vars l S watts) ≤ base_of b S watts) a most;
}
  where
    most : nat_abs (led_vars l S watts) ≤ base_of l.after S watts
    most = led_most (base_of l.after S watts) l.y h.y_small
