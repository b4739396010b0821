-- A fleet as the controller sees it, and what its values, its lists and its requests must be.
use Rattle.std.specs.Prelude.{ℕ, Bool, not, ◌&&◌, List, map, leb, eqb, ℤ, pos, nat_abs, length, get_or, replicate}
use Rattle.std.specs.Int.Signed.{lt_z}
use Rattle.whole.specs.Interval.{between}
use Rattle.whole.specs.Over.{all_of, some_of, each}
use Rattle.unit.specs.declared.Unit.{Unit}
use Rattle.unit.specs.Ranges.{member_in, link_of, connection_in}

-- the lists that are lent for a fleet, an element for each unit
pub record Fleet : Type 0 where
  pub rated : List ℕ
  pub reserve : List ℕ
  pub stored : List ℕ
  pub rating : List ℕ
  pub weight : List ℕ
  pub link : List ℕ

abbrev pub fleet_linked : List ℕ → List ℕ → List ℕ → List ℕ → List ℕ → List ℕ → Fleet
fleet_linked a b c d e l = record { rated = a; reserve = b; stored = c; rating = d; weight = e; link = l }

-- without connections
abbrev pub fleet_of : List ℕ → List ℕ → List ℕ → List ℕ → List ℕ → Fleet
fleet_of a b c d e = fleet_linked a b c d e (replicate (length a) 0)

-- what an ampere is in watts, for each unit, by its phases and its volts
unfoldable pub links_of : List ℕ → List ℕ → List ℕ
unfolding each
links_of phases volts = each (λ (i p : ℕ). link_of p (get_or volts i 0)) phases

-- every connection is in its ranges
unfoldable pub connection_at : List ℕ → List ℕ → ℕ → Bool
unfolding connection_in
connection_at phases volts i = connection_in (get_or phases i 0) (get_or volts i 0)

-- the fleet of these units, with so much stored in each
abbrev pub fleet_for : List Unit → List ℕ → Fleet
fleet_for units stored =
    fleet_linked (map (λ (u : Unit). u.rated) units) (map (λ (u : Unit). u.reserve) units) stored (map (λ (u : Unit). u.rating) units)
    (map (λ (u : Unit). u.weight) units) (map (λ (u : Unit). u.link) units)

-- unit i's values
unfoldable pub member_at : Fleet → ℕ → Bool
unfolding member_in
member_at f i = member_in (get_or f.rated i 0) (get_or f.reserve i 0) (get_or f.stored i 0) (get_or f.rating i 0) (get_or f.weight i 0)

-- lent lists of equal length, 1 to 64
unfoldable pub lengths_ok : ℕ → ℕ → ℕ → ℕ → ℕ → ℕ → Bool
lengths_ok rated reserve stored rating weight n =
    between 1 64 n && eqb rated n && eqb reserve n && eqb stored n && eqb rating n && eqb weight n

abbrev pub lengths_in : Fleet → ℕ → Bool
lengths_in f n = lengths_ok (length f.rated) (length f.reserve) (length f.stored) (length f.rating) (length f.weight) n

-- some request is above 0; some is below 0
unfoldable pub some_above : List ℤ → Bool
unfolding some_of
some_above rs = some_of (length rs) (λ (i : ℕ). lt_z (pos 0) (get_or rs i (pos 0)))

unfoldable pub some_below : List ℤ → Bool
unfolding some_of
some_below rs = some_of (length rs) (λ (i : ℕ). lt_z (get_or rs i (pos 0)) (pos 0))

-- no request beyond its rating in size, and not requests of both signs
unfoldable pub within_ratings : List ℕ → List ℤ → Bool
unfolding all_of
within_ratings rating rs = all_of (length rs) (λ (i : ℕ). leb (nat_abs (get_or rs i (pos 0))) (get_or rating i 0))

unfoldable pub requests_ok : List ℕ → List ℤ → Bool
unfolding within_ratings some_above some_below
requests_ok rating rs = within_ratings rating rs && not (some_above rs && some_below rs)

abbrev pub requests_in : Fleet → List ℤ → Bool
requests_in f rs = requests_ok f.rating rs
