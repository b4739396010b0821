-- What stands before whole fields, as the code fills the lists: what is kept, where the steps have begun, and else what stands at first. Assumes nothing.
use mathlib.Core.Path.{◌≡◌, sym, ap, ap₂, ◌∙◌, subst⁻¹}
use mathlib.Core.Bool.{Bool, true, false, cond}
use mathlib.Core.List.{List, ◌++◌}
use Prim.Native.Nat.{ℕ, ◌+◌}
use lib.IntN.{ℤ}
use lib.ListN.{length, take, drop, replicate}
use Rattle.rows.specs.declared.Row.{Row}
use Rattle.rows.specs.Rows.{units_by}
use Rattle.site.specs.Site.{count}
use Rattle.stick.specs.Site.{site_of, roofs_of, plant_of}
use Rattle.stick.specs.Check.{Accepted}
use Rattle.stick.specs.Posts.{roof_place}
use Rattle.roofs.specs.Roofs.{own_vars}
use Rattle.roofs.specs.Posts.{RoofsThere, roofs_here}
use Rattle.fleet.specs.Step.{Standing, Stands, standing, at_first}
use Rattle.stretch.specs.Stretch.{stands_first}
use Rattle.stretch.specs.Posts.{stands_by}
use Rattle.stretch.proofs.RoofLaws.{roofs_there, roofs_read}
use Rattle.stretch.proofs.HoldLaws.{two_stand}
use Rattle.kept.specs.declared.Mark.{Mark}
use Rattle.kept.specs.Kept.{begun}
use Rattle.kept.specs.Layout.{store_at, request_at, flag_at, var_at, up_to, stands_in}
use Rattle.kept.proofs.StandLaws.{up_to_length}
use Rattle.kept.proofs.ReadLaws.{up_to_both}
use Rattle.intake.specs.Posts.{first_by}

abbrev all : Standing → List Bool → List ℤ → Stands
all units on vars = record { units = units; on = on; vars = vars }

-- ---- over the part of the state's bytes that is the site
pub part_accepted : (part site : List ℕ) → part ≡ site → Accepted site → Accepted part
part_accepted part site ep ok = subst⁻¹ Accepted ep ok

pub roofs_lent : (site : List ℕ) (n : ℕ) → n ≡ length (roofs_of site) → (part : List ℕ) → part ≡ site → Accepted site → (first : ℕ) → first ≡ roof_place part 0
    → RoofsThere part first n
roofs_lent site n en part ep ok first ef = roofs_there part (part_accepted part site ep ok) n first (en ∙ ap (λ (b : List ℕ). length (roofs_of b)) (sym ep)) ef

module _ (m : Mark) (s site : List ℕ) (n : ℕ) (en : n ≡ length (roofs_of site)) (stored : List ℕ) (rs vs : List ℤ) (on : List Bool) where
  first_by_lem : (b : Bool) → begun m.state ≡ b → cond b (stands_in s (count (site_of site)) (length (roofs_of site))) (stands_first (plant_of site)) ≡ first_by m s site
  unfolding first_by
  first_by_lem b e = sym (ap (λ (t : Bool). cond t (stands_in s (count (site_of site)) (length (roofs_of site))) (stands_first (plant_of site))) e)

  -- what is kept, of as many units and inverters as the site has: one list has the vars of both
  pub stands_kept : (k v : ℕ) → begun m.state ≡ true → k ≡ count (site_of site) → v ≡ k + n
      → stored ≡ up_to k (store_at s) → rs ≡ up_to k (request_at s) → on ≡ up_to n (flag_at s) → vs ≡ up_to v (var_at s) → stands_by stored rs vs on ≡ first_by m s site
  unfolding stands_in
  stands_kept k v e ek el es er eo ev =
      let units = up_to k (var_at s) in
      let roofs = up_to n (λ (i : ℕ). var_at s (k + i)) in
      let is : vs ≡ units ++ roofs = ev ∙ ap (λ (j : ℕ). up_to j (var_at s)) el ∙ sym (up_to_both k n (var_at s)) in
      let long : length units ≡ length rs = up_to_length k (var_at s) ∙ sym (ap length er ∙ up_to_length k (request_at s)) in
      two_stand (site_of site) stored rs vs units roofs on is long
      ∙ ap₂ (λ (a : List ℕ) (b : List ℤ). all (standing a b units) on roofs) es er
      ∙ ap (λ (o : List Bool). all (standing (up_to k (store_at s)) (up_to k (request_at s)) units) o roofs) eo
      ∙ ap₂ (stands_in s) ek en
      ∙ first_by_lem true e

  -- what stands at first
  module _ (part : List ℕ) (ep : part ≡ site) (ok : Accepted site) (first : ℕ) (ef : first ≡ roof_place part 0) where
    pub stands_first_lem : (rows : List Row) → begun m.state ≡ false → units_by rows ≡ (site_of site).units
        → standing stored rs (take (length rs) vs) ≡ at_first (units_by rows) → drop (length rs) vs ≡ own_vars (roofs_here part first n) → on ≡ replicate n false
        → stands_by stored rs vs on ≡ first_by m s site
    unfolding stands_first plant_of
    stands_first_lem rows e eu es ev eo =
        let here : roofs_here part first n ≡ roofs_of site =
        roofs_read part (part_accepted part site ep ok) n first (en ∙ ap (λ (b : List ℕ). length (roofs_of b)) (sym ep)) ef ∙ ap roofs_of ep in
        ap₂ (λ (u : Standing) (v : List ℤ). all u on v) (es ∙ ap at_first eu) (ev ∙ ap own_vars here)
        ∙ ap (λ (o : List Bool). all (at_first (site_of site).units) o (own_vars (roofs_of site))) (eo ∙ ap (λ (k : ℕ). replicate k false) en)
        ∙ first_by_lem false e
