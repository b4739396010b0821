-- What holds of a file that is cut in two (the ground of rules E3 and E8): what is read at a place depends on the bytes there alone. `cut-law` proves it.
use Rattle.std.specs.Prelude.{ℕ, ◌+◌, List, ◌++◌, ◌≡◌, length}
use Rattle.site.specs.declared.Due.{Due}
use Rattle.fields.specs.declared.State.{State}
use Rattle.stick.specs.declared.Reached.{Reached}
use Rattle.stick.specs.Check.{reached, reach_of}
use Rattle.stick.specs.Site.{steps_from, due_from}

-- the same, with so many bytes before
abbrev pub moved : ℕ → Reached → Reached
moved n r = reached r.number (n + r.at) r.state

pub record CutLaw (a b : List ℕ) : Type 0 where
  -- bytes in front move the places and nothing else
  pub behind : (k : ℕ) (st : State) (i : ℕ) → reach_of k st (a ++ b) (length a + i) ≡ moved (length a) (reach_of k st b i)
  -- where a is whole fields that lead to a state, the fields of both go as those of b go from there
  pub walks_on : (st m : State) → reach_of (length a) st a 0 ≡ reached 0 (length a) m
      → reach_of (length (a ++ b)) st (a ++ b) 0 ≡ moved (length a) (reach_of (length b) m b 0)
  -- and the steps of both are those of a, and then those of b with what a left waiting
  pub steps_on_is : (st m : State) → reach_of (length a) st a 0 ≡ reached 0 (length a) m
      → (d : Due) → steps_from (a ++ b) d 0 ≡ steps_from a d 0 ++ steps_from b (due_from a d 0) 0
