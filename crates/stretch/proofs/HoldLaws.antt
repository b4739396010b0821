-- The vars of units and inverters in one list: as many as there are of both; two lists, one behind the other, are the two parts of the whole. Assumes nothing.
use mathlib.Core.Path.{◌≡◌, sym, ap, ap₂, ◌∙◌, subst⁻¹}
use mathlib.Core.Bool.{Bool}
use mathlib.Core.List.{List, ◌++◌}
use Prim.Native.Nat.{ℕ, ◌+◌}
use lib.IntN.{ℤ}
use lib.ListN.{length, take, drop, length-append, take-append-drop}
use lib.Seq.{take_at, drop_at}
use Rattle.site.specs.Site.{Site, count}
use Rattle.roofs.specs.Posts.{VarsHeld}
use Rattle.fleet.specs.Step.{Stands, Standing, standing}
use Rattle.fleet.specs.Posts.{Held}
use Rattle.stretch.specs.Posts.{stands_by, Holding}

pub vars_long : {site : Site} {stored : List ℕ} {requests vars : List ℤ} {on : List Bool} → Holding site stored requests vars on → length vars ≡ count site + length on
vars_long {site} {stored} {requests} {vars} {on} h =
    let n = length requests in
    sym (ap length (take-append-drop n vars)) ∙ length-append (take n vars) (drop n vars) ∙ ap₂ (λ (a b : ℕ). a + b) h.units.leads h.roofs.count

module _ (site : Site) (stored : List ℕ) (requests vars units roofs : List ℤ) (on : List Bool) (is : vars ≡ units ++ roofs) (long : length units ≡ length requests) where
  units_part : take (length requests) vars ≡ units
  units_part = ap (take (length requests)) is ∙ take_at units roofs (length requests) long

  roofs_part : drop (length requests) vars ≡ roofs
  roofs_part = ap (drop (length requests)) is ∙ drop_at units roofs (length requests) long

  pub two_held : Held site stored requests units → VarsHeld (length on) roofs → Holding site stored requests vars on
  two_held hu hr = record { units = subst⁻¹ (Held site stored requests) units_part hu; roofs = subst⁻¹ (VarsHeld (length on)) roofs_part hr }

  pub two_stand : stands_by stored requests vars on ≡ record { units = standing stored requests units; on = on; vars = roofs }
  two_stand = ap₂ (λ (u r : List ℤ). record { units = standing stored requests u; on = on; vars = r }) units_part roofs_part
