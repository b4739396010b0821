-- The plant of an accepted file lies where the code finds it, in its ranges: its roofs and its function are those that the file says. Assumes nothing.
use mathlib.Core.Path.{◌≡◌, sym, ap, ap₂, ◌∙◌, subst⁻¹}
use mathlib.Core.Bool.{Bool}
use mathlib.Core.List.{List}
use Prim.Native.Nat.{ℕ, ◌+◌, ◌*◌, ◌<◌}
use native.Mathlib.Nat.{le_trans, le_of_eq}
use native.Mathlib.Omega.{arith}
use lib.ListN.{length}
use lib.Seq.{ext_get_or}
use Rattle.rows.specs.declared.Row.{Row}
use Rattle.parts.specs.Header.{header}
use Rattle.solar.specs.Roof.{Roof, roof_in}
use Rattle.solar.specs.Posts.{Roofed}
use Rattle.lead.specs.Lead.{Leading}
use Rattle.lead.specs.Posts.{leading_here, LeadingThere}
use Rattle.site.specs.Site.{Site, no_roof, roof_of}
use Rattle.fields.specs.Fields.{inverter_at}
use Rattle.stick.specs.Site.{site_of, roofs_of, leading_of, plant_of}
use Rattle.stick.specs.Check.{Accepted}
use Rattle.stick.specs.Posts.{roof_bytes, roof_place, function_place, guided, steps_place}
use Rattle.stick.proofs.SiteProved.{accepted, roofed, roof_is, leading_is, leading_there}
use Rattle.roofs.specs.Posts.{roof_here, roofs_here, RoofsThere}
use Rattle.roofs.proofs.LoopLaws.{here_count, here_at}
use Rattle.fleet.specs.Posts.{Ready, site_in}
use Rattle.stretch.specs.declared.Track.{Track}
use Rattle.stretch.specs.Posts.{plant_by, Planted}

place_of : (file : List ℕ) (i : ℕ) → roof_place file 0 + roof_bytes * i ≡ roof_place file i
place_of file i = omega arith

module _ (file : List ℕ) (z : Accepted file) where
  -- roof i, as the code has it
  here_is : (i : ℕ) → i < length (roofs_of file) → roof_here file (roof_place file i) ≡ roof_of (roofs_of file) i
  unfolding roof_here
  here_is i l = sym (roof_is file z i l)

  pub roofs_are : roofs_here file (roof_place file 0) (length (roofs_of file)) ≡ roofs_of file
  roofs_are =
      ext_get_or no_roof (roofs_here file (roof_place file 0) (length (roofs_of file))) (roofs_of file) (here_count (length (roofs_of file)) file (roof_place file 0))
      (λ i l.
      let k : i < length (roofs_of file) = le_trans l (le_of_eq (here_count (length (roofs_of file)) file (roof_place file 0))) in
      here_at (length (roofs_of file)) file (roof_place file 0) i k ∙ ap (roof_here file) (place_of file i) ∙ here_is i k)

  pub roofs_there : (n first : ℕ) → n ≡ length (roofs_of file) → first ≡ roof_place file 0 → RoofsThere file first n
  unfolding function_place steps_place roof_here
  roofs_there n first en ef =
      let far : roof_place file (length (roofs_of file)) < length file = omega (arith, (accepted file z).further) in
      record {
        few = le_trans (le_of_eq en) (roofed file z).few;
        within = omega (arith, en, ef, far);
        there = λ i l.
            let k : i < length (roofs_of file) = le_trans l (le_of_eq en) in
            let e : first + roof_bytes * i ≡ roof_place file i = omega (arith, ef) in
            let t = (accepted file z).roofs i k in
            subst⁻¹ (λ (p : ℕ). Roofed (inverter_at file (p + header)) file (p + 25) (p + 157)) e
            (record {
              roof_in_is = ap roof_in (here_is i k) ∙ (roofed file z).each i k;
              warm_there = let b = t.bytes in omega arith;
              efficiency_there = let b = t.bytes in omega arith;
            });
      }

-- ---- by what the code has read
pub roofs_read : (file : List ℕ) → Accepted file → (n first : ℕ) → n ≡ length (roofs_of file) → first ≡ roof_place file 0 → roofs_here file first n ≡ roofs_of file
roofs_read file z n first en ef = ap₂ (λ (p m : ℕ). roofs_here file p m) ef en ∙ roofs_are file z

-- ---- the whole plant, by a track over rows that hold the site
module _ (file : List ℕ) (z : Accepted file) (t : Track) (rows : List Row) (n : ℕ) (en : n ≡ length (roofs_of file)) (ef : t.first ≡ roof_place file 0) (el : t.led ≡ guided file)
    (ep : t.function ≡ function_place file) where
  leading_read : leading_here file t.led t.function ≡ leading_of file
  leading_read = ap₂ (λ (b : Bool) (p : ℕ). leading_here file b p) el ep ∙ sym (leading_is file z)

  pub plant_read : site_in t.frame rows ≡ site_of file → plant_by t rows file n ≡ plant_of file
  unfolding plant_of
  plant_read es =
      ap (λ (s : Site). record { site = s; roofs = roofs_here file t.first n; leading = leading_here file t.led t.function }) es
      ∙ ap₂ (λ (r : List Roof) (l : Leading). record { site = site_of file; roofs = r; leading = l }) (roofs_read file z n t.first en ef) leading_read

  pub planted : Ready t.frame rows → Planted t rows file n
  planted rd = record {
    ready = rd;
    roofs = roofs_there file z n t.first en ef;
    leading = subst⁻¹ (λ (b : Bool). LeadingThere file b t.function) el (subst⁻¹ (LeadingThere file (guided file)) ep (leading_there file z));
  }
