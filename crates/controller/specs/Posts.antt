-- Nobody has to believe this file: the parts of contracts by name, and what a pass may count on.
use Rattle.std.specs.Prelude.{ℕ, ◌≤◌, Bool, true, not, cond, ◌&&◌, List, ◌≡◌, ℤ, nat_abs, get_or}
use Rattle.rules.specs.declared.Asked.{Asked}
use Rattle.rules.specs.declared.Settings.{Settings}
use Rattle.rules.specs.declared.Wanted.{Wanted}
use Rattle.rules.specs.Rules.{by_current}
use Rattle.members.specs.Ranges.{Fleet, some_above, some_below}
use Rattle.members.specs.Sums.{sum_of_all, changed_of}
use Rattle.members.specs.Posts.{SameLengths, Addable, none_calls_by}
use Rattle.controller.specs.declared.Passed.{Passed}
use Rattle.controller.specs.Pass.{other_state, need_of, pass_of}

pub record Energies (a b c : List ℕ) : Type 0 where
  pub rated : Addable a
  pub reserve : Addable b
  pub stored : Addable c

-- what a pass may count on: lists of one length, 1 to 64, and values whose sums and products stay well within 64 bits. The ranges give it, and the
-- measure of a study too
pub record Sound (s : Settings) (measure : ℤ) (f : Fleet) (n : ℕ) : Type 0 where
  pub lengths : SameLengths f n
  pub some : 1 ≤ n
  pub few : n ≤ 64
  pub measure_small : nat_abs measure ≤ 200000000000
  pub target_small : nat_abs s.target ≤ 100000000
  pub factor_small : s.factor ≤ 1000
  pub energies : Energies f.rated f.reserve f.stored
  pub rating_small : (i : ℕ) → get_or f.rating i 0 ≤ 100000000
  pub weight_small : (i : ℕ) → get_or f.weight i 0 ≤ 10000
  -- by current a measure is a meter's
  pub current_small : by_current s.mode ≡ true → nat_abs measure ≤ 300000000
  pub link_small : (i : ℕ) → get_or f.link i 0 ≤ 120000

-- a is what the requests ask, its sum where the fleet is in the state that is not the mode's own
pub record AskedFor (charging : Bool) (rs : List ℤ) (a : Asked) : Type 0 where
  pub sum : other_state charging rs ≡ true → a.sum ≡ sum_of_all rs
  pub above : a.above ≡ some_above rs
  pub below : a.below ≡ some_below rs
  pub bounded : nat_abs a.sum ≤ 137438953472

-- P3, as the code has it
unfoldable pub rests_by : Bool → Wanted → Asked → Fleet → ℕ → Bool
unfolding none_calls_by
rests_by charging w a f n = not (cond charging a.below a.above) && none_calls_by charging w f n

-- what a pass leaves: the definition's requests, need and whether a request changed
pub record DonePass (s : Settings) (m : ℤ) (f : Fleet) (before after : List ℤ) (p : Passed) : Type 0 where
  pub requests : after ≡ pass_of s m f before
  pub need : p.need ≡ need_of s m before
  pub changed : p.changed ≡ changed_of before after
