-- Rows that hold a site's units, beside its head, are the site; and how few units, inverters and bytes of records an accepted site has. Assumes nothing.
use mathlib.Core.Path.{◌≡◌, sym, ap, ap₂, ◌∙◌, subst⁻¹}
use mathlib.Core.List.{List}
use Prim.Native.Nat.{ℕ, ◌+◌, ◌*◌, ◌≤◌}
use native.Mathlib.Nat.{add-le-add, mul-le-mul_left, mul-le-mul, le_trans, le_of_eq}
use lib.ListN.{length}
use Rattle.unit.specs.declared.Unit.{Unit}
use Rattle.rows.specs.declared.Row.{Row}
use Rattle.rows.specs.Rows.{units_by}
use Rattle.rows.proofs.RowLaws.{units_count}
use Rattle.site.specs.declared.Head.{Head}
use Rattle.site.specs.Site.{Site, count}
use Rattle.site.specs.Ranges.{Sited}
use Rattle.stick.specs.Site.{site_of, roofs_of}
use Rattle.stick.specs.Check.{Accepted}
use Rattle.stick.proofs.SiteProved.{sited, roofed}
use Rattle.fleet.specs.declared.Frame.{Frame}
use Rattle.fleet.specs.Posts.{site_by, site_in}

abbrev site_with : Head → List Unit → Site
site_with head units = record { head = head; units = units }

module _ (file : List ℕ) (rows : List Row) (eu : units_by rows ≡ (site_of file).units) where
  -- a row for each unit
  pub rows_there : length rows ≡ count (site_of file)
  rows_there = sym (units_count rows) ∙ ap length eu

  module _ (head : Head) (eh : head ≡ (site_of file).head) where
    same_site : site_by head rows ≡ site_of file
    same_site = ap₂ site_with eh eu

    pub loaded_sited : Accepted file → Sited (site_by head rows)
    loaded_sited a = subst⁻¹ Sited same_site (sited file a)

    pub frame_site : (f : Frame) → f.head ≡ head → site_in f rows ≡ site_of file
    frame_site f ef = ap (λ (h : Head). site_by h rows) ef ∙ same_site

module _ (file : List ℕ) (a : Accepted file) where
  pub few_units : count (site_of file) ≤ 64
  few_units = (sited file a).few

  pub few_roofs : length (roofs_of file) ≤ 64
  few_roofs = (roofed file a).few

  pub few_bytes : (n m steps : ℕ) → n ≡ count (site_of file) → m ≡ length (roofs_of file) → steps ≤ 65535 → (40 * n + 29 * m) * steps ≤ (40 * 64 + 29 * 64) * 65535
  few_bytes n m steps e d h =
      mul-le-mul (add-le-add (mul-le-mul_left 40 (le_trans (le_of_eq e) few_units)) (mul-le-mul_left 29 (le_trans (le_of_eq d) few_roofs))) h
