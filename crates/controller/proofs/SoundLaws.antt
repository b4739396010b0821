-- From the tests of ranges to the bounds that a pass counts on. Assumes nothing.
use mathlib.Core.Path.{◌≡◌, refl, sym, ap, ◌∙◌, subst⁻¹}
use mathlib.Core.Bool.{Bool, true, false, not, ◌&&◌}
use mathlib.Core.List.{List, [], ◌∷◌, ◌++◌}
use Prim.Native.Nat.{ℕ, zero, suc, ◌-◌, ◌^◌, ◌≤◌, ◌<◌, zero-le}
use native.Mathlib.Nat.{le_trans, le_of_eq, not-suc-le-zero, le_of_suc-le-suc}
use native.Mathlib.Omega.{arith}
use lib.Dec.{leb, ltb, eqb, lit≤}
use lib.IntN.{ℤ, pos, negsuc, nat_abs}
use lib.ListN.{length, get_or, take, replicate, length-append, get_or-eq_default}
use lib.Seq.{take-append_seam}
use lib.Signed.{mag}
use borrow.Author.Tests.{leb-true, leb-false, le-leb, lt-leb, eqb-true, ltb-true, ltb-false}
use mir.Syntax.{w64}
use mir.Val.{to_z, of_z}
use Rattle.whole.proofs.Choice.{passed_failed}
use Rattle.whole.proofs.SignLaws.{read}
use Rattle.whole.specs.Over.{all_of}
use Rattle.whole.proofs.OverLaws.{and_parts, all_at, each_length, each_at}
use Rattle.unit.specs.declared.Unit.{Unit}
use Rattle.unit.specs.Ranges.{member_in, unit_in, link_of}
use Rattle.rows.specs.declared.Row.{Row}
use Rattle.rows.specs.Rows.{no_row, unit_by}
use Rattle.unit.proofs.RangeLaws.{Bounds, bounds, link_most}
use Rattle.rows.proofs.RowLaws.{column_count}
use Rattle.rules.specs.declared.Settings.{Settings}
use Rattle.whole.specs.Interval.{between}
use Rattle.rules.specs.Rules.{by_current}
use Rattle.rules.specs.Ranges.{settings_in, measure_in, current_in}
use Rattle.members.specs.Ranges.{Fleet, fleet_linked, fleet_of, links_of, member_at, connection_at, lengths_ok, lengths_in}
use Rattle.members.proofs.ColumnLaws.{column_is}
use Rattle.members.specs.Posts.{SameLengths, Addable, fleet_by, column_by}
use Rattle.controller.specs.Ranges.{pass_in, current_pass_in}
use Rattle.controller.specs.Posts.{Sound}

-- ---- lengths
record Lengths (a b c d e n : ℕ) : Type 0 where
  first : a ≡ n
  second : b ≡ n
  third : c ≡ n
  fourth : d ≡ n
  fifth : e ≡ n
  some : 1 ≤ n
  few : n ≤ 64

lengths_are : (a b c d e n : ℕ) → lengths_ok a b c d e n ≡ true → Lengths a b c d e n
unfolding lengths_ok
lengths_are a b c d e n t =
    let t₅ = and_parts (between 1 64 n && eqb a n && eqb b n && eqb c n && eqb d n) (eqb e n) t in
    let t₄ = and_parts (between 1 64 n && eqb a n && eqb b n && eqb c n) (eqb d n) t₅.0 in
    let t₃ = and_parts (between 1 64 n && eqb a n && eqb b n) (eqb c n) t₄.0 in
    let t₂ = and_parts (between 1 64 n && eqb a n) (eqb b n) t₃.0 in
    let t₁ = and_parts (between 1 64 n) (eqb a n) t₂.0 in
    let t₀ = and_parts (leb 1 n) (leb n 64) t₁.0 in
    record {
      first = eqb-true a n t₁.1;
      second = eqb-true b n t₂.1;
      third = eqb-true c n t₃.1;
      fourth = eqb-true d n t₄.1;
      fifth = eqb-true e n t₅.1;
      some = leb-true 1 n t₀.0;
      few = leb-true n 64 t₀.1;
    }

module _ (f : Fleet) (n : ℕ) (t : lengths_in f n ≡ true) where
  found : Lengths (length f.rated) (length f.reserve) (length f.stored) (length f.rating) (length f.weight) n
  found = lengths_are (length f.rated) (length f.reserve) (length f.stored) (length f.rating) (length f.weight) n t

  pub same_lengths : length f.link ≡ length f.rated → SameLengths f n
  same_lengths e = record { rated = found.first; reserve = found.second; stored = found.third; rating = found.fourth; weight = found.fifth; link = e ∙ found.first }

  pub some_units : 1 ≤ n
  some_units = found.some

  pub few_units : n ≤ 64
  few_units = found.few

-- ---- settings
pub settings_small : (s : Settings) → settings_in s ≡ true → (nat_abs s.target ≤ 100000000) × (s.factor ≤ 1000)
unfolding settings_in
settings_small s t =
    let t₃ = and_parts (between 1 5 s.mode && leb (nat_abs s.target) 100000000 && leb s.band 200000000) (between 1 1000 s.factor) t in
    let t₂ = and_parts (between 1 5 s.mode && leb (nat_abs s.target) 100000000) (leb s.band 200000000) t₃.0 in
    let t₁ = and_parts (between 1 5 s.mode) (leb (nat_abs s.target) 100000000) t₂.0 in
    let f = and_parts (leb 1 s.factor) (leb s.factor 1000) t₃.1 in
    (leb-true (nat_abs s.target) 100000000 t₁.1, leb-true s.factor 1000 f.1)

-- ---- a measure by current
pub current_small : (m : ℤ) → current_in m ≡ true → nat_abs m ≤ 300000000
unfolding current_in
current_small (pos n) e = leb-true n 300000000 (and_parts (leb 0 n) (leb n 300000000) e).1
current_small (negsuc n) e = absurd (passed_failed e refl)

-- ---- units
record MemberSmall (rated reserve stored rating weight : ℕ) : Type 0 where
  rated_small : rated ≤ 10000000000000
  reserve_small : reserve ≤ 10000000000000
  stored_small : stored ≤ 10000000000000
  rating_small : rating ≤ 100000000
  weight_small : weight ≤ 10000

member_small : (a b c d e : ℕ) → member_in a b c d e ≡ true → MemberSmall a b c d e
unfolding member_in
member_small a b c d e t =
    let t₄ = and_parts (between 1 10000000000000 a && leb b a && leb c a && between 1 100000000 d) (between 1 10000 e) t in
    let t₃ = and_parts (between 1 10000000000000 a && leb b a && leb c a) (between 1 100000000 d) t₄.0 in
    let t₂ = and_parts (between 1 10000000000000 a && leb b a) (leb c a) t₃.0 in
    let t₁ = and_parts (between 1 10000000000000 a) (leb b a) t₂.0 in
    let ha = leb-true a 10000000000000 (and_parts (leb 1 a) (leb a 10000000000000) t₁.0).1 in
    record {
      rated_small = ha;
      reserve_small = le_trans (leb-true b a t₁.1) ha;
      stored_small = le_trans (leb-true c a t₂.1) ha;
      rating_small = leb-true d 100000000 (and_parts (leb 1 d) (leb d 100000000) t₃.1).1;
      weight_small = leb-true e 10000 (and_parts (leb 1 e) (leb e 10000) t₄.1).1;
    }

-- a list whose elements are bounded below its length is bounded everywhere: past the end `get_or` gives 0
pub everywhere : (xs : List ℕ) (n b : ℕ) → length xs ≡ n → ((i : ℕ) → i < n → get_or xs i 0 ≤ b) → (i : ℕ) → get_or xs i 0 ≤ b
everywhere xs n b e h i = go (ltb i n) refl
  where
    go : (t : Bool) → ltb i n ≡ t → get_or xs i 0 ≤ b
    go true p = h i (ltb-true i n p)
    go false p = le_trans (le_of_eq (get_or-eq_default xs 0 (le_trans (le_of_eq e) (ltb-false i n p)))) zero-le

-- ---- all together
abbrev UnitsSmall : Fleet → ℕ → Type 0
UnitsSmall f n = (i : ℕ) → i < n → MemberSmall (get_or f.rated i 0) (get_or f.reserve i 0) (get_or f.stored i 0) (get_or f.rating i 0) (get_or f.weight i 0)

made_sound : (s : Settings) (m : ℤ) (f : Fleet) (n : ℕ) → SameLengths f n → 1 ≤ n → n ≤ 64 → settings_in s ≡ true → nat_abs m ≤ 200000000000
    → (by_current s.mode ≡ true → nat_abs m ≤ 300000000) → UnitsSmall f n → ((i : ℕ) → i < n → get_or f.link i 0 ≤ 120000) → Sound s m f n
made_sound s m f n same some few ts hm hc unit link =
    let small = settings_small s ts in
    record {
      lengths = same;
      some = some;
      few = few;
      measure_small = hm;
      target_small = small.0;
      factor_small = small.1;
      energies = record {
        rated = record { few = le_trans (le_of_eq same.rated) few; small = everywhere f.rated n 10000000000000 same.rated (λ i h. (unit i h).rated_small) };
        reserve = record { few = le_trans (le_of_eq same.reserve) few; small = everywhere f.reserve n 10000000000000 same.reserve (λ i h. (unit i h).reserve_small) };
        stored = record { few = le_trans (le_of_eq same.stored) few; small = everywhere f.stored n 10000000000000 same.stored (λ i h. (unit i h).stored_small) };
      };
      rating_small = everywhere f.rating n 100000000 same.rating (λ i h. (unit i h).rating_small);
      weight_small = everywhere f.weight n 10000 same.weight (λ i h. (unit i h).weight_small);
      current_small = hc;
      link_small = everywhere f.link n 120000 same.link link;
    }

pub sound : (s : Settings) (m : ℤ) (f : Fleet) (n : ℕ) → lengths_in f n ≡ true → length f.link ≡ length f.rated → settings_in s ≡ true → nat_abs m ≤ 200000000000
    → (by_current s.mode ≡ true → nat_abs m ≤ 300000000) → all_of n (member_at f) ≡ true → ((i : ℕ) → i < n → get_or f.link i 0 ≤ 120000) → Sound s m f n
unfolding member_at
sound s m f n tl el ts hm hc tu link =
    made_sound s m f n (same_lengths f n tl el) (some_units f n tl) (few_units f n tl) ts hm hc
    (λ i h. member_small (get_or f.rated i 0) (get_or f.reserve i 0) (get_or f.stored i 0) (get_or f.rating i 0) (get_or f.weight i 0) (all_at n (member_at f) tu i h))
    link

-- ---- rows of units in their ranges
module _ (rows : List Row) (units : (i : ℕ) → i < length rows → unit_in (unit_by (get_or rows i no_row)) ≡ true) (few : length rows ≤ 64) where
  bounded : (i : ℕ) → i < length rows → Bounds (unit_by (get_or rows i no_row)) 1
  bounded i h = bounds {u = unit_by (get_or rows i no_row)} {seconds = 1} (record { unit = units i h; seconds_in_is = refl })

  -- a column whose values are bounded can be added up
  column_addable : (value : Unit → ℕ) → value (unit_by no_row) ≡ 0 → ((i : ℕ) → i < length rows → value (unit_by (get_or rows i no_row)) ≤ 10000000000000) → Addable (column_by value rows)
  column_addable value none h = record {
    few = le_trans (le_of_eq (column_count value rows)) few;
    small = everywhere (column_by value rows) (length rows) 10000000000000 (column_count value rows) (λ i l. le_trans (le_of_eq (column_is value none rows i)) (h i l));
  }

  pub rows_addable : Addable (column_by (λ (u : Unit). u.rated) rows) × Addable (column_by (λ (u : Unit). u.reserve) rows)
  rows_addable = (
    column_addable (λ (u : Unit). u.rated) refl (λ i l. (bounded i l).rated_most),
    column_addable (λ (u : Unit). u.reserve) refl (λ i l. le_trans (bounded i l).reserve_most (bounded i l).rated_most),
  )

  pub rows_sound : 1 ≤ length rows → (s : Settings) → settings_in s ≡ true → (stored : List ℕ) → length stored ≡ length rows
      → ((i : ℕ) → i < length rows → get_or stored i 0 ≤ (unit_by (get_or rows i no_row)).rated) → ((i : ℕ) → i < length rows → (unit_by (get_or rows i no_row)).link ≤ 120000) → (m : ℤ) → nat_abs m ≤ 300000000
      → Sound s m (fleet_by rows stored) (length rows)
  rows_sound some s ts stored e held links m hm =
      made_sound s m (fleet_by rows stored) (length rows)
      (record {
        rated = column_count (λ (u : Unit). u.rated) rows;
        reserve = column_count (λ (u : Unit). u.reserve) rows;
        stored = e;
        rating = column_count (λ (u : Unit). u.rating) rows;
        weight = column_count (λ (u : Unit). u.weight) rows;
        link = column_count (λ (u : Unit). u.link) rows;
      })
      some few ts (le_trans hm (lit≤ tt)) (λ t. hm)
      (λ i l.
      let b = bounded i l in
      record {
        rated_small = le_trans (le_of_eq (column_is (λ (u : Unit). u.rated) refl rows i)) b.rated_most;
        reserve_small = le_trans (le_of_eq (column_is (λ (u : Unit). u.reserve) refl rows i)) (le_trans b.reserve_most b.rated_most);
        stored_small = le_trans (held i l) b.rated_most;
        rating_small = le_trans (le_of_eq (column_is (λ (u : Unit). u.rating) refl rows i)) b.rating_most;
        weight_small = le_trans (le_of_eq (column_is (λ (u : Unit). u.weight) refl rows i)) b.weight_most;
      })
      (λ i l. le_trans (le_of_eq (column_is (λ (u : Unit). u.link) refl rows i)) (links i l))

-- the same fleet at another measure
pub at_measure : (s : Settings) (m k : ℤ) (f : Fleet) (n : ℕ) → Sound s m f n → nat_abs k ≤ 200000000000 → (by_current s.mode ≡ true → nat_abs k ≤ 300000000) → Sound s k f n
at_measure s m k f n h small current = record {
  lengths = h.lengths;
  some = h.some;
  few = h.few;
  measure_small = small;
  target_small = h.target_small;
  factor_small = h.factor_small;
  energies = h.energies;
  rating_small = h.rating_small;
  weight_small = h.weight_small;
  current_small = current;
  link_small = h.link_small;
}

-- lengths counted by the first list
pub by_first : (f : Fleet) (n : ℕ) → SameLengths f n → SameLengths f (length f.rated)
by_first f n h = record {
  rated = refl;
  reserve = h.reserve ∙ sym h.rated;
  stored = h.stored ∙ sym h.rated;
  rating = h.rating ∙ sym h.rated;
  weight = h.weight ∙ sym h.rated;
  link = h.link ∙ sym h.rated;
}

-- ---- the values of a pass, from what the code's tests gave

-- a mode up to 3 is not by current
pub by_watts_lem : (mode : ℕ) → leb mode 3 ≡ not (by_current mode)
by_watts_lem mode = go (leb 4 mode) refl
  where
    go : (t : Bool) → leb 4 mode ≡ t → leb mode 3 ≡ not t
    go true e = lt-leb mode 3 (leb-true 4 mode e)
    go false e = le-leb mode 3 (let h = leb-false 4 mode e in omega arith)

-- all units, by the length of any of their lists
pub all_members : (f : Fleet) (n : ℕ) → lengths_in f n ≡ true → (c : Bool) → c ≡ all_of (length f.rated) (member_at f) → c ≡ all_of n (member_at f)
all_members f n tl c e = e ∙ ap (λ (k : ℕ). all_of k (member_at f)) (found f n tl).first

pub values_are : (s : Settings) (m : ℤ) → mag m < 2 ^ 63 → (f : Fleet) (n : ℕ) → lengths_in f n ≡ true
    → (a b c : Bool) → a ≡ settings_in s → b ≡ measure_in (to_z w64 (of_z w64 m)) → c ≡ all_of (length f.rated) (member_at f)
    → (a && leb s.mode 3 && b && c) ≡ pass_in s m f n
unfolding pass_in
values_are s m hm f n tl a b c ea eb ec =
    let em = eb ∙ ap measure_in (read w64 m hm) in
    let eu = all_members f n tl c ec in
    λ j. ea j && by_watts_lem s.mode j && em j && eu j

-- they are enough for a pass
pub pass_sound : (s : Settings) (m : ℤ) (f : Fleet) (n : ℕ) → lengths_in f n ≡ true → length f.link ≡ length f.rated → ((i : ℕ) → get_or f.link i 0 ≤ 120000)
    → pass_in s m f n ≡ true → Sound s m f n
unfolding pass_in measure_in
pass_sound s m f n tl el links t =
    let u = and_parts (settings_in s && not (by_current s.mode) && measure_in m) (all_of n (member_at f)) t in
    let v = and_parts (settings_in s && not (by_current s.mode)) (measure_in m) u.0 in
    let small = leb-true (nat_abs m) 300000000 v.1 in
    sound s m f n tl el (and_parts (settings_in s) (not (by_current s.mode)) v.0).0 (le_trans small (lit≤ tt)) (λ c. small) u.1 (λ i h. links i)

-- and by current
pub current_values_are : (s : Settings) (m : ℤ) → mag m < 2 ^ 63 → (f : Fleet) (phases volts : List ℕ) (n : ℕ) → lengths_in f n ≡ true → length phases ≡ n
    → (a b c d : Bool) → a ≡ settings_in s → b ≡ current_in (to_z w64 (of_z w64 m)) → c ≡ all_of (length f.rated) (member_at f) → d ≡ all_of (length phases) (connection_at phases volts)
    → (a && by_current s.mode && b && c && d) ≡ current_pass_in s m f phases volts n
unfolding current_pass_in
current_values_are s m hm f phases volts n tl ep a b c d ea eb ec ed =
    let em = eb ∙ ap current_in (read w64 m hm) in
    let eu = all_members f n tl c ec in
    let el = ed ∙ ap (λ (k : ℕ). all_of k (connection_at phases volts)) ep in
    λ j. ea j && by_current s.mode && em j && eu j && el j

pub current_sound : (s : Settings) (m : ℤ) (f : Fleet) (phases volts : List ℕ) (n : ℕ) → lengths_in f n ≡ true → length phases ≡ n → f.link ≡ links_of phases volts
    → current_pass_in s m f phases volts n ≡ true → Sound s m f n
unfolding current_pass_in connection_at links_of
current_sound s m f phases volts n tl ep el t =
    let link : ℕ → ℕ → ℕ = λ (i p : ℕ). link_of p (get_or volts i 0) in
    let u = and_parts (settings_in s && by_current s.mode && current_in m && all_of n (member_at f)) (all_of n (connection_at phases volts)) t in
    let v = and_parts (settings_in s && by_current s.mode && current_in m) (all_of n (member_at f)) u.0 in
    let w = and_parts (settings_in s && by_current s.mode) (current_in m) v.0 in
    let small = current_small m w.1 in
    sound s m f n tl (ap length el ∙ each_length link phases ∙ ep ∙ sym (found f n tl).first) (and_parts (settings_in s) (by_current s.mode) w.0).0
    (le_trans small (lit≤ tt)) (λ c. small) v.1
    (λ i h.
    le_trans (le_of_eq (ap (λ (l : List ℕ). get_or l i 0) el ∙ each_at link phases i 0 (le_trans h (le_of_eq (sym ep)))))
    (link_most (get_or phases i 0) (get_or volts i 0) (all_at n (connection_at phases volts) u.1 i h)))

-- ---- lists of links that are lent in part

-- no unit has one
pub no_link : (n i : ℕ) → get_or {A = ℕ} (replicate n 0) i 0 ≤ 120000
no_link zero i = zero-le
no_link (suc n) zero = zero-le
no_link (suc n) (suc i) = no_link n i

take_zeros : (n k : ℕ) → n ≤ k → take {A = ℕ} n (replicate k 0) ≡ replicate n 0
take_zeros zero k h = refl
take_zeros (suc n) zero h = absurd (not-suc-le-zero h)
take_zeros (suc n) (suc k) h = ap (λ (l : List ℕ). 0 ∷ l) (take_zeros n k (le_of_suc-le-suc h))

module _ (a b c d e : List ℕ) (n : ℕ) where
  pub none_linked : length a ≡ n → n ≤ 64 → fleet_linked a b c d e (take (n - 0) (replicate 64 0)) ≡ fleet_of a b c d e
  none_linked ea h =
      ap (fleet_linked a b c d e)
      (ap (λ (k : ℕ). take {A = ℕ} k (replicate 64 0)) (let z : n - 0 ≡ n = omega arith in z) ∙ take_zeros n 64 h ∙ ap (λ (k : ℕ). replicate {A = ℕ} k 0) (sym ea))

  -- the filled part of a list
  pub front_linked : (xs ys links : List ℕ) → xs ≡ links → length xs ≡ n → fleet_linked a b c d e (take (n - 0) (xs ++ ys)) ≡ fleet_linked a b c d e links
  front_linked xs ys links el ex =
      ap (fleet_linked a b c d e)
      (ap (λ (k : ℕ). take k (xs ++ ys)) (let z : n - 0 ≡ length xs = omega arith in z) ∙ take-append_seam xs ys ∙ el)

pub front_fits : (xs ys : List ℕ) (n : ℕ) → length xs ≡ n → n ≤ length (xs ++ ys)
front_fits xs ys n e = omega (arith, length-append xs ys)

-- as many requests as were lent
pub units_as_lent : (s : Settings) (m : ℤ) (f : Fleet) (n k : ℕ) → k ≡ n → Sound s m f n → Sound s m f k
units_as_lent s m f n k e h = subst⁻¹ (Sound s m f) e h
