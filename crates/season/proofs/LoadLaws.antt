-- Rows that hold a file's units, and a track whose frame and places are read from the file: the plant in them is the file's, and what stands is what it has
-- at first. Assumes nothing.
use mathlib.Core.Path.{◌≡◌, refl, ap, ap₂, ◌∙◌, subst⁻¹}
use mathlib.Core.Bool.{Bool, false}
use mathlib.Core.List.{List}
use Prim.Native.Nat.{ℕ}
use lib.IntN.{ℤ}
use lib.ListN.{length, take, drop, replicate, length-replicate}
use Rattle.rows.specs.declared.Row.{Row}
use Rattle.rows.specs.Rows.{units_by}
use Rattle.site.specs.Site.{none_yet}
use Rattle.stick.specs.Site.{site_of, roofs_of, plant_of}
use Rattle.stick.specs.Check.{Accepted}
use Rattle.stick.specs.Posts.{roof_place, function_place, guided, steps_place}
use Rattle.roofs.specs.Roofs.{all_off, own_vars}
use Rattle.roofs.specs.Posts.{VarsHeld, roofs_here}
use Rattle.fleet.specs.declared.Frame.{Frame}
use Rattle.fleet.specs.Step.{Standing, standing, at_first}
use Rattle.fleet.specs.Posts.{Ready}
use Rattle.fleet.proofs.SiteLaws.{first_held}
use Rattle.stretch.specs.declared.Track.{Track}
use Rattle.stretch.specs.Stretch.{stands_first}
use Rattle.stretch.specs.Posts.{stands_by}
use Rattle.stretch.proofs.RoofLaws.{roofs_read, plant_read, planted}
use Rattle.stretch.proofs.SiteLaws.{frame_site}
use Rattle.season.specs.Posts.{SetOut}

-- the track of a run that has not gone yet
abbrev pub track : Frame → ℕ → Bool → ℕ → ℕ → Track
track frame first led function at =
    record { frame = frame; first = first; led = led; function = function; at = at; out = 0; way = record { step = 0; due = none_yet } }

-- what is read of a file, and stands when a run begins, over rows, with n inverters
pub record Begun (file : List ℕ) (t : Track) (rows : List Row) (n : ℕ) (stored : List ℕ) (rs vars : List ℤ) (on : List Bool) : Type 0 where
  pub ready : Ready t.frame rows
  pub rows_are : units_by rows ≡ (site_of file).units
  pub head_is : t.frame.head ≡ (site_of file).head
  pub count : n ≡ length (roofs_of file)
  pub first_is : t.first ≡ roof_place file 0
  pub led_is : t.led ≡ guided file
  pub function_is : t.function ≡ function_place file
  pub at_is : t.at ≡ steps_place file
  pub units : standing stored rs (take (length rs) vars) ≡ at_first (units_by rows)
  pub own : drop (length rs) vars ≡ own_vars (roofs_here file t.first n)
  pub held : VarsHeld n (drop (length rs) vars)
  pub off : on ≡ replicate n false

module _ {file : List ℕ} (z : Accepted file) {frame : Frame} {first : ℕ} {led : Bool} {function at : ℕ} {rows : List Row} (n : ℕ) {stored : List ℕ} {rs vars : List ℤ} {on : List Bool}
    (b : Begun file (track frame first led function at) rows n stored rs vars on) where
  flags : length on ≡ n
  flags = ap length b.off ∙ length-replicate n false

  stands : stands_by stored rs vars on ≡ stands_first (plant_of file)
  unfolding stands_first plant_of
  stands =
      let own : drop (length rs) vars ≡ own_vars (roofs_of file) = b.own ∙ ap own_vars (roofs_read file z n first b.count b.first_is) in
      ap₂ (λ (u : Standing) (o : List Bool). record { units = u; on = o; vars = drop (length rs) vars }) (b.units ∙ ap at_first b.rows_are)
      (b.off ∙ ap (λ (k : ℕ). replicate k false) b.count)
      ∙ ap (λ (vs : List ℤ). record { units = at_first (site_of file).units; on = all_off (roofs_of file); vars = vs }) own

  pub all_set : SetOut file (track frame first led function at) rows stored rs vars on
  all_set =
      let t = track frame first led function at in
      let many : length on ≡ length (roofs_of file) = flags ∙ b.count in
      record {
        planted = planted file z t rows (length on) many b.first_is b.led_is b.function_is b.ready;
        plant_is = plant_read file z t rows (length on) many b.first_is b.led_is b.function_is (frame_site file rows b.rows_are (site_of file).head refl frame b.head_is);
        held = record {
          units = first_held frame.head rows stored rs (take (length rs) vars) b.ready.sited b.units;
          roofs = subst⁻¹ (λ (k : ℕ). VarsHeld k (drop (length rs) vars)) flags b.held;
        };
        stands = stands;
        place_is = b.at_is;
        none_out = refl;
        none_yet_is = refl;
        none_done = refl;
      }
