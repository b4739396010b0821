-- Nobody has to believe this file: the rules over what a fleet's requests say, as the code has it.
use Rattle.std.specs.Prelude.{ℕ, ◌≤◌, Bool, true, not, cond, ◌&&◌, ◌≡◌, ℤ, nat_abs, ◌+ℤ◌}
use Rattle.rules.specs.declared.Asked.{Asked}
use Rattle.rules.specs.declared.Wanted.{Wanted}
use Rattle.rules.specs.declared.Settings.{Settings}
use Rattle.rules.specs.Rules.{charges, by_current, plain_need, in_watts}

-- P1 and P2: where each unit's need comes from
unfoldable pub wanted_by : Settings → ℤ → Asked → Wanted
unfolding plain_need
wanted_by s m a = record {
  current = by_current s.mode;
  plain = plain_need s m;
  other = cond (charges s.mode) a.above a.below;
  sum = a.sum;
}

-- the own need of a unit, by what an ampere of its connection is in watts
unfoldable pub need_by : Wanted → ℕ → ℤ
unfolding in_watts
need_by w link = cond w.other (in_watts w.current link w.plain +ℤ w.sum) (in_watts w.current link w.plain)

-- P7: the need that is reported
unfoldable pub reported_by : Wanted → ℤ
reported_by w = cond (w.other && not w.current) (w.plain +ℤ w.sum) w.plain

-- needs whose products stay well within 64 bits
pub record Modest (w : Wanted) : Type 0 where
  pub plain_small : nat_abs w.plain ≤ 202147483648
  pub current_small : w.current ≡ true → nat_abs w.plain ≤ 400000000
  pub sum_small : nat_abs w.sum ≤ 137438953472
