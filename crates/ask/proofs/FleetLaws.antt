-- The fleet that an accepted file says: a value for each unit in every list, 1 to 64 of them and each in its range, their connections with them; and rows
-- that hold the units are that fleet. Assumes nothing.
use mathlib.Core.Path.{◌≡◌, refl, sym, ap, ap₂, ◌∙◌}
use mathlib.Core.Bool.{Bool, true, false, ◌&&◌}
use mathlib.Core.List.{List, map}
use Prim.Native.Nat.{ℕ, zero, suc, ◌≤◌, ◌<◌}
use native.Mathlib.Nat.{le_refl, le_step, le_trans, le_of_eq}
use lib.ListN.{length, get_or, length-map, get_or-map}
use borrow.Author.Tests.{le-leb, eq-eqb}
use Rattle.whole.specs.Over.{all_of}
use Rattle.whole.proofs.OverLaws.{and_parts}
use Rattle.unit.specs.declared.Unit.{Unit}
use Rattle.unit.specs.Ranges.{member_in, unit_in}
use Rattle.rows.specs.declared.Row.{Row}
use Rattle.rows.specs.Rows.{units_by, stores_by}
use Rattle.members.specs.Ranges.{fleet_for, member_at, lengths_ok, lengths_in}
use Rattle.members.specs.Posts.{fleet_by}
use Rattle.controller.proofs.SoundLaws.{same_lengths, everywhere}
use Rattle.site.specs.Site.{no_unit, count, unit_of}
use Rattle.stick.specs.Site.{site_of}
use Rattle.stick.specs.Check.{Accepted}
use Rattle.stick.proofs.SiteProved.{sited}
use Rattle.ask.specs.Says.{fleet_said}

-- ---- lists of one length, 1 to 64
one_length : (n : ℕ) → 1 ≤ n → n ≤ 64 → lengths_ok n n n n n n ≡ true
unfolding lengths_ok
one_length n some few =
    let e = eq-eqb n n refl in
    ap₂ ◌&&◌ (ap₂ ◌&&◌ (ap₂ ◌&&◌ (ap₂ ◌&&◌ (ap₂ ◌&&◌ (ap₂ ◌&&◌ (le-leb 1 n some) (le-leb n 64 few)) e) e) e) e) e

-- ---- a unit in its ranges has the five values of a pass in theirs
member_in_lem : (u : Unit) → unit_in u ≡ true → member_in u.rated u.reserve u.stored u.rating u.weight ≡ true
unfolding unit_in
member_in_lem u e =
    let absorb = and_parts _ _ e in
    let provide = and_parts _ _ absorb.0 in
    let draw = and_parts _ _ provide.0 in
    let priority = and_parts _ _ draw.0 in
    let discharge = and_parts _ _ priority.0 in
    let charge = and_parts _ _ discharge.0 in
    let inverter = and_parts _ _ charge.0 in
    let vars = and_parts _ _ inverter.0 in
    let grid = and_parts _ _ vars.0 in
    let idle = and_parts _ _ grid.0 in
    let kva = and_parts _ _ idle.0 in
    kva.0

-- what holds at each number below n holds for all
pub all_of_lem : (n : ℕ) (ok : ℕ → Bool) → ((i : ℕ) → i < n → ok i ≡ true) → all_of n ok ≡ true
unfolding all_of
all_of_lem zero ok h = refl
all_of_lem (suc n) ok h = ap₂ ◌&&◌ (all_of_lem n ok (λ i l. h i (le_step l))) (h n (le_refl (suc n)))

module _ (file : List ℕ) where
  -- a value of every unit
  value_at : (value : Unit → ℕ) → value no_unit ≡ 0 → (i : ℕ) → get_or (map value (site_of file).units) i 0 ≡ value (unit_of (site_of file) i)
  value_at value none i = ap (get_or (map value (site_of file).units) i) (sym none) ∙ get_or-map value (site_of file).units i no_unit

  member_is : (i : ℕ) → member_at (fleet_said file) i ≡ (let u = unit_of (site_of file) i in member_in u.rated u.reserve u.stored u.rating u.weight)
  unfolding member_at
  member_is i =
      let rated = value_at (λ (u : Unit). u.rated) refl i in
      let reserve = value_at (λ (u : Unit). u.reserve) refl i in
      let stored = value_at (λ (u : Unit). u.stored) refl i in
      let rating = value_at (λ (u : Unit). u.rating) refl i in
      let weight = value_at (λ (u : Unit). u.weight) refl i in
      λ k. member_in (rated k) (reserve k) (stored k) (rating k) (weight k)

  long : (value : Unit → ℕ) → length (map value (site_of file).units) ≡ count (site_of file)
  long value = length-map (site_of file).units value

  pub links_long : length (fleet_said file).link ≡ length (fleet_said file).rated
  links_long = long (λ (u : Unit). u.link) ∙ sym (long (λ (u : Unit). u.rated))

  lists_long : (n : ℕ) → n ≡ count (site_of file) → lengths_in (fleet_said file) n ≡ lengths_ok n n n n n n
  lists_long n e =
      let rated = long (λ (u : Unit). u.rated) ∙ sym e in
      let reserve = long (λ (u : Unit). u.reserve) ∙ sym e in
      let stored = long (λ (u : Unit). u.stored) ∙ sym e in
      let rating = long (λ (u : Unit). u.rating) ∙ sym e in
      let weight = long (λ (u : Unit). u.weight) ∙ sym e in
      λ k. lengths_ok (rated k) (reserve k) (stored k) (rating k) (weight k) n

  -- any other number of requests is none of this fleet's
  pub other_length : (n : ℕ) → (n ≡ count (site_of file) → ⊥) → lengths_in (fleet_said file) n ≡ false
  other_length n other = go (lengths_in (fleet_said file) n) refl
    where
      go : (b : Bool) → lengths_in (fleet_said file) n ≡ b → b ≡ false
      go true e = absurd (other (sym (same_lengths (fleet_said file) n e links_long).rated ∙ long (λ (u : Unit). u.rated)))
      go false e = refl

  -- ---- rows with the file's units, and a list of what they hold
  pub rows_fleet : (rows : List Row) (stored : List ℕ) → units_by rows ≡ (site_of file).units → stored ≡ stores_by rows → fleet_by rows stored ≡ fleet_said file
  unfolding stores_by
  rows_fleet rows stored e held = ap₂ fleet_for e (held ∙ ap (map (λ (u : Unit). u.stored)) e)

  module _ (z : Accepted file) where
    pub own_length : (n : ℕ) → n ≡ count (site_of file) → lengths_in (fleet_said file) n ≡ true
    own_length n e =
        let s = sited file z in
        lists_long n e ∙ ap (λ (k : ℕ). lengths_ok k k k k k k) e ∙ one_length (count (site_of file)) s.some s.few

    pub members_in : (n : ℕ) → n ≡ count (site_of file) → all_of n (member_at (fleet_said file)) ≡ true
    members_in n e =
        ap (λ (k : ℕ). all_of k (member_at (fleet_said file))) e
        ∙ all_of_lem (count (site_of file)) (member_at (fleet_said file)) (λ i l. member_is i ∙ member_in_lem (unit_of (site_of file) i) ((sited file z).units i l))

    pub links_small : (i : ℕ) → get_or (fleet_said file).link i 0 ≤ 120000
    links_small =
        let link : Unit → ℕ = λ (u : Unit). u.link in
        everywhere (map link (site_of file).units) (count (site_of file)) 120000 (long link) (λ i l. le_trans (le_of_eq (value_at link refl i)) ((sited file z).links i l))
