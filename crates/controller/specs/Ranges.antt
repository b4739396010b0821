-- What a pass without a file refuses, in the order of rule N15: lengths (10), values (5), then requests (10). It goes by watts, modes 1 to 3, or by current,
-- modes 4 and 5, where each unit's phases and volts are lent too.
use Rattle.std.specs.Prelude.{ℕ, Bool, not, cond, ◌&&◌, List, eqb, ℤ, length}
use Rattle.whole.specs.Over.{all_of}
use Rattle.rules.specs.declared.Settings.{Settings}
use Rattle.rules.specs.Rules.{by_current}
use Rattle.rules.specs.Ranges.{settings_in, measure_in, current_in}
use Rattle.members.specs.Ranges.{Fleet, member_at, connection_at, lengths_ok, lengths_in, requests_ok, requests_in}

-- three tests in a row, each with its refusal; 0 for none
abbrev pub graded : Bool → Bool → Bool → ℕ
graded lengths values requests = cond (not lengths) 10 (cond (not values) 5 (cond (not requests) 10 0))

-- the values, by watts and by current
unfoldable pub pass_in : Settings → ℤ → Fleet → ℕ → Bool
unfolding settings_in measure_in member_at all_of
pass_in s m f n = settings_in s && not (by_current s.mode) && measure_in m && all_of n (member_at f)

unfoldable pub current_pass_in : Settings → ℤ → Fleet → List ℕ → List ℕ → ℕ → Bool
unfolding settings_in current_in member_at connection_at all_of
current_pass_in s m f phases volts n =
    settings_in s && by_current s.mode && current_in m && all_of n (member_at f) && all_of n (connection_at phases volts)

unfoldable pub pass_refusal : Settings → ℤ → Fleet → List ℤ → ℕ
unfolding pass_in lengths_ok requests_ok
pass_refusal s m f rs = graded (lengths_in f (length rs)) (pass_in s m f (length rs)) (requests_in f rs)

unfoldable pub current_refusal : Settings → ℤ → Fleet → List ℕ → List ℕ → List ℤ → ℕ
unfolding current_pass_in lengths_ok requests_ok
current_refusal s m f phases volts rs =
    graded (lengths_in f (length rs) && eqb (length phases) (length rs) && eqb (length volts) (length rs))
    (current_pass_in s m f phases volts (length rs)) (requests_in f rs)
