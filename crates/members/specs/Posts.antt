-- Nobody has to believe this file: the parts of contracts by name, what a fleet's requests say, and what sums and shares may count on.
use Rattle.std.specs.Prelude.{ℕ, ◌≤◌, Bool, true, cond, ◌||◌, List, map, ◌≡◌, ℤ, pos, nat_abs, ◌+ℤ◌, length, get_or}
use Rattle.std.specs.Int.Signed.{lt_z}
use Rattle.whole.specs.Over.{sum_of, all_of}
use Rattle.whole.specs.Signed.{signed}
use Rattle.unit.specs.declared.Unit.{Unit}
use Rattle.rows.specs.declared.Row.{Row}
use Rattle.rows.specs.Rows.{unit_by, units_by}
use Rattle.rules.specs.declared.Asked.{Asked}
use Rattle.rules.specs.declared.Wanted.{Wanted}
use Rattle.members.specs.declared.Totals.{Totals}
use Rattle.members.specs.Ranges.{Fleet, fleet_for, some_above, some_below}
use Rattle.rules.specs.Rules.{in_watts, unable, unit_after, no_call, in_band, band_in_watts}
use Rattle.rules.specs.Posts.{need_by, Modest}
use Rattle.members.specs.Sums.{total, sum_of_all, unable_at}

-- ---- the fleet as the code has it: rows of units, and what each holds now
abbrev pub fleet_by : List Row → List ℕ → Fleet
fleet_by rows stored = fleet_for (units_by rows) stored

-- one value of each row's unit
abbrev pub column_by : (Unit → ℕ) → List Row → List ℕ
column_by value rows = map value (units_by rows)

-- the sums over the fleet that no step changes
pub record TotalsOf (rows : List Row) (t : Totals) : Type 0 where
  pub rated : t.rated ≡ total (length rows) (column_by (λ (u : Unit). u.rated) rows)
  pub reserve : t.reserve ≡ total (length rows) (column_by (λ (u : Unit). u.reserve) rows)
  pub weight : t.weight ≡ total (length rows) (column_by (λ (u : Unit). u.weight) rows)

-- ---- what the requests ask

-- b is what is asked by a and one request more
pub record WithRequest (a : Asked) (r : ℤ) (b : Asked) : Type 0 where
  pub sum : b.sum ≡ a.sum +ℤ r
  pub above : b.above ≡ (a.above || lt_z (pos 0) r)
  pub below : b.below ≡ (a.below || lt_z r (pos 0))

-- a is what the requests ask
pub record AskedOf (rs : List ℤ) (a : Asked) : Type 0 where
  pub sum : a.sum ≡ sum_of_all rs
  pub above : a.above ≡ some_above rs
  pub below : a.below ≡ some_below rs
  -- 64 numbers of 32 bits
  pub bounded : nat_abs a.sum ≤ 137438953472

-- a says the requests' signs, and nothing of what they come to
pub record SignsOf (rs : List ℤ) (a : Asked) : Type 0 where
  pub sum : a.sum ≡ pos 0
  pub above : a.above ≡ some_above rs
  pub below : a.below ≡ some_below rs

-- the lists of a fleet have one length
pub record SameLengths (f : Fleet) (n : ℕ) : Type 0 where
  pub rated : length f.rated ≡ n
  pub reserve : length f.reserve ≡ n
  pub stored : length f.stored ≡ n
  pub rating : length f.rating ≡ n
  pub weight : length f.weight ≡ n
  pub link : length f.link ≡ n

-- a row whose unit has these values of a fleet's member
pub record MemberRow (rated reserve rating weight link : ℕ) (row : Row) : Type 0 where
  pub rated_is : (unit_by row).rated ≡ rated
  pub reserve_is : (unit_by row).reserve ≡ reserve
  pub rating_is : (unit_by row).rating ≡ rating
  pub weight_is : (unit_by row).weight ≡ weight
  pub link_is : (unit_by row).link ≡ link

-- ---- the rules over the sums, as the code has it

-- P4
unfoldable pub spent_by : Bool → ℕ → ℕ → List ℕ → Bool
unfolding sum_of unable
spent_by charging rated reserve stored = unable charging rated reserve (total (length stored) stored)

-- energies that can be added up: at most 64, each at most 10^13 J
pub record Addable (xs : List ℕ) : Type 0 where
  pub few : length xs ≤ 64
  pub small : (i : ℕ) → get_or xs i 0 ≤ 10000000000000

-- P6 of a unit that holds so much, with the sum of all weights
unfoldable pub next_by : Bool → ℕ → ℤ → ℕ → Unit → ℕ → ℤ → ℤ
unfolding unable unit_after
next_by charging factor need weights u held r =
    cond (unable charging u.rated u.reserve held) (pos 0) (unit_after charging factor need weights u.rating u.weight r)

-- by current, with the sign and the size of the plain need
unfoldable pub sized_by : Bool → Bool → ℕ → ℕ → ℕ → Unit → ℕ → ℤ → ℤ
unfolding in_watts next_by
sized_by charging below factor size weights u held r = next_by charging factor (in_watts true u.link (signed below size)) weights u held r

-- at unit i of a fleet, by its own need
unfoldable pub own_by : Wanted → Fleet → ℕ → ℤ
unfolding need_by
own_by w f i = need_by w (get_or f.link i 0)

unfoldable pub shared_by : Bool → ℕ → Wanted → ℕ → Fleet → ℕ → ℤ → ℤ
unfolding own_by unable unit_after
shared_by charging factor w weights f i r =
    cond (unable_at charging f i) (pos 0) (unit_after charging factor (own_by w f i) weights (get_or f.rating i 0) (get_or f.weight i 0) r)

-- P3 and P5 of a fleet of n units
unfoldable pub none_calls_by : Bool → Wanted → Fleet → ℕ → Bool
unfolding own_by all_of
none_calls_by charging w f n = all_of n (λ (i : ℕ). no_call charging (own_by w f i))

unfoldable pub all_in_band_by : ℕ → Wanted → Fleet → ℕ → Bool
unfolding own_by band_in_watts in_band all_of
all_in_band_by band w f n = all_of n (λ (i : ℕ). in_band (band_in_watts w.current (get_or f.link i 0) band) (own_by w f i))

-- what P3, P5 and P6 may count on: needs in bounds, and connections in their ranges
pub record Linked (w : Wanted) (f : Fleet) : Type 0 where
  pub modest : Modest w
  pub link_small : (i : ℕ) → get_or f.link i 0 ≤ 120000

-- what P6 may count on: needs, a factor, a sum of weights, ratings and weights in bounds, and lists of one length, at most 64
pub record Sharing (factor : ℕ) (w : Wanted) (weights : ℕ) (f : Fleet) (n : ℕ) : Type 0 where
  pub linked : Linked w f
  pub factor_small : factor ≤ 1000
  pub weights_small : weights ≤ 640000
  pub lengths : SameLengths f n
  pub few : n ≤ 64
  pub rating_small : (i : ℕ) → get_or f.rating i 0 ≤ 100000000
  pub weight_small : (i : ℕ) → get_or f.weight i 0 ≤ 10000

-- and of one unit
pub record Sharable (factor : ℕ) (need : ℤ) (weights : ℕ) (u : Unit) : Type 0 where
  pub need_small : nat_abs need ≤ 400000000000
  pub factor_small : factor ≤ 1000
  pub weights_small : weights ≤ 640000
  pub rating_small : u.rating ≤ 100000000
  pub weight_small : u.weight ≤ 10000

-- and by current, with the size of the plain need and some weight in all
pub record SharableBySize (factor size weights : ℕ) (u : Unit) : Type 0 where
  pub size_small : size ≤ 400000000
  pub link_small : u.link ≤ 120000
  pub weights_some : 1 ≤ weights
  pub unit : Sharable factor (pos size) weights u
