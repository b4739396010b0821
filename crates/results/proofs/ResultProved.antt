-- The records of a result stand one behind the other, each as long as its kind, and every number fits its width, so that it is read back where it stands. Two results that are
-- the same have their end at one place, and so as many steps; and the tag behind the units of the first step tells how many units there are. Assumes nothing.
use Prim.Native.Nat.{ℕ, ◌+◌, ◌*◌, ◌≤◌, ◌<◌, ◌^◌}
use mathlib.Core.Bool.{Bool, true, false, cond}
use mathlib.Core.List.{List}
use mathlib.Core.Path.{◌≡◌, refl, sym, ap, ap₂, ◌∙◌, subst}
use native.Mathlib.Nat.{le_trans, le_of_eq, le_of_mul-le-mul_right}
use native.Mathlib.Omega.{arith}
use lib.Ieee.{binary64, of_bits}
use lib.ListN.{length}
use mir.Syntax.{w32}
use mir.Val.{to_z}
use Rattle.octets.specs.BigEndian.{be}
use Rattle.site.specs.declared.Step.{Step}
use Rattle.site.specs.Site.{Plant, count}
use Rattle.stick.specs.Check.{Accepted}
use Rattle.stick.specs.Site.{plant_of, steps_of}
use Rattle.stick.proofs.SiteProved.{steps_count, steps_most}
use Rattle.stretch.specs.Stretch.{stands_first, all_bytes}
use Rattle.season.specs.Run.{result_by, result_of}
use Rattle.season.proofs.RunLaws.{by_length}
use Rattle.results.specs.Says.{AlikeUnit, AlikeInverter, UnitSays, InverterSays, EndSays, before, step_at, request_at, outcome_at, given_at, unit_place, inverter_place, ResultLaw, ResultTheorem, SameLaw, SameTheorem}
use Rattle.results.proofs.RecordLaws.{UnitFits, unit_says, RoofFits, roof_says, end_says}
use Rattle.results.proofs.FitLaws.{small_mag, OutcomeFits, GivenFits}
use Rattle.results.proofs.StandLaws.{Sound, Holds, plant_sound, first_holds, after_holds, request_small, outcome_fits, given_fits, sun_shines}
use Rattle.results.proofs.PlaceLaws.{Placed, unit_placed, inverter_placed, end_front}

result_by_lem : (file : List ℕ) → result_of file ≡ result_by (plant_of file) (steps_of file)
unfolding result_of
result_by_lem file = refl

-- ---- what a result says
module _ (file : List ℕ) (ok : Accepted file) where
  abbrev p : Plant
  p = plant_of file

  abbrev ss : List Step
  ss = steps_of file

  sound : Sound p
  sound = plant_sound file ok

  few_steps : length ss ≤ 65535
  few_steps = le_trans (le_of_eq (steps_count file ok)) (steps_most file)

  module _ (k : ℕ) (h : k < length ss) where
    stands : Holds p (before p ss k)
    stands = after_holds p sound (stands_first p) (first_holds p sound) _

    few : k < 256 ^ 4
    few = let s = few_steps in omega arith

    unit_fits_is : (i : ℕ) → i < count p.site → UnitFits k i (request_at p ss k i) (outcome_at p ss k i)
    unit_fits_is i l =
        let n = sound.sited.few in
        let o : OutcomeFits (outcome_at p ss k i) = outcome_fits p sound (before p ss k) stands (step_at p ss k) i l in
        record {
          step_fits = few;
          unit_fits_is = omega arith;
          request_fits = small_mag (request_at p ss k i) (request_small p sound (before p ss k) stands (step_at p ss k) i l);
          vars_fits = small_mag (outcome_at p ss k i).vars o.vars_small;
          stored_fits = o.stored_small;
          loss_fits = o.loss_small;
        }

    roof_fits : (i : ℕ) → i < length p.roofs → RoofFits k i (given_at p ss k i)
    roof_fits i l =
        let n = sound.roofed.few in
        let g : GivenFits (given_at p ss k i) = given_fits p sound (before p ss k) stands (step_at p ss k) (sun_shines file k) i l in
        record {
          step_fits = few;
          inverter_fits = omega arith;
          vars_fits = small_mag (given_at p ss k i).vars g.vars_small;
          dc_fits = g.dc_small;
        }

    unit_at_lem : (i : ℕ) → i < count p.site → UnitSays (result_of file) (unit_place p k i) k i (request_at p ss k i) (outcome_at p ss k i)
    unit_at_lem i l =
        let a : Placed (result_by p ss) _ (unit_place p k i) = unit_placed p ss k h i l in
        unit_says a.front a.behind (result_of file) (unit_place p k i) k i (request_at p ss k i) (outcome_at p ss k i) (unit_fits_is i l) (result_by_lem file ∙ a.is) a.long

    inverter_at_lem : (i : ℕ) → i < length p.roofs → InverterSays (result_of file) (inverter_place p k i) k i (given_at p ss k i)
    inverter_at_lem i l =
        let a : Placed (result_by p ss) _ (inverter_place p k i) = inverter_placed p ss k h i l in
        roof_says a.front a.behind (result_of file) (inverter_place p k i) k i (given_at p ss k i) (roof_fits i l) (result_by_lem file ∙ a.is) a.long

  end_at : EndSays (result_of file) (all_bytes p * length ss) (length ss)
  end_at =
      let a = end_front p ss in
      let n = few_steps in
      end_says a.0 (result_of file) (all_bytes p * length ss) (length ss) (omega arith) (result_by_lem file ∙ a.1) a.2 (sym (ap length (result_by_lem file) ∙ by_length p ss))

pub result_law : ResultTheorem
result_law file ok = record { units = unit_at_lem file ok; inverters = inverter_at_lem file ok; ends = end_at file ok }

-- ---- two results that are the same
-- no fewer units before the same bytes: the tag behind them is an inverter's on one side and a unit's on the other
no_fewer : (F G : List ℕ) → F ≡ G → (n m n' m' : ℕ) → 40 * n + 29 * m ≡ 40 * n' + 29 * m' → (0 < m → be 1 F (40 * n) ≡ 0x12) → (n < n' → be 1 G (40 * n) ≡ 0x11) → n' ≤ n
no_fewer F G e n m n' m' size inverter unit =
    let under : n < n' → ⊥ = λ l.
    let a : be 1 F (40 * n) ≡ 0x12 = inverter (omega arith) in
    let b : be 1 G (40 * n) ≡ 0x11 = unit l in
    let c : be 1 F (40 * n) ≡ be 1 G (40 * n) = ap (λ (X : List ℕ). be 1 X (40 * n)) e in
    omega arith in
    omega arith

module _ (file : List ℕ) (law : ResultLaw file) (some : 0 < length (steps_of file)) where
  abbrev n : ℕ
  n = count (plant_of file).site

  abbrev m : ℕ
  m = length (plant_of file).roofs

  first_inverter : 0 < m → be 1 (result_of file) (40 * n) ≡ 0x12
  first_inverter l =
      let e : inverter_place (plant_of file) 0 0 ≡ 40 * n = omega arith in
      subst (λ (a : ℕ). be 1 (result_of file) a ≡ 0x12) e (law.inverters 0 some 0 l).tag_is

  first_unit : (i : ℕ) → i < n → be 1 (result_of file) (40 * i) ≡ 0x11
  first_unit i l =
      let e : unit_place (plant_of file) 0 i ≡ 40 * i = omega arith in
      subst (λ (a : ℕ). be 1 (result_of file) a ≡ 0x11) e (law.units 0 some i l).tag_is

cancel : (x y z : ℕ) → 0 < z → x * z ≡ y * z → x ≡ y
cancel x y z h e =
    let u : x ≤ y = le_of_mul-le-mul_right (le_of_eq e) h in
    let v : y ≤ x = le_of_mul-le-mul_right (le_of_eq (sym e)) h in
    omega arith

-- a flag is read back
flag_same : (x y : Bool) → ◌≡◌ {A = ℕ} (cond x 1 0) (cond y 1 0) → x ≡ y
flag_same true true e = refl
flag_same true false e = absurd (omega (arith, e))
flag_same false true e = absurd (omega (arith, e))
flag_same false false e = refl

module _ (file other : List ℕ) (a : ResultLaw file) (b : ResultLaw other) (e : result_of file ≡ result_of other) where
  abbrev pf : Plant
  pf = plant_of file

  abbrev po : Plant
  po = plant_of other

  same_end : all_bytes pf * length (steps_of file) ≡ all_bytes po * length (steps_of other)
  same_end =
      let x = a.ends.last in
      let y = b.ends.last in
      let z = ap length e in
      omega arith

  same_steps : length (steps_of file) ≡ length (steps_of other)
  same_steps = sym a.ends.steps_is ∙ ap₂ (λ (X : List ℕ) (at : ℕ). be 4 X (at + 3)) e same_end ∙ b.ends.steps_is

  module _ (some : 0 < length (steps_of file)) where
    same_bytes : all_bytes pf ≡ all_bytes po
    same_bytes = cancel (all_bytes pf) (all_bytes po) (length (steps_of file)) some (same_end ∙ ap (λ (n : ℕ). all_bytes po * n) (sym same_steps))

    some_too : 0 < length (steps_of other)
    some_too = le_trans some (le_of_eq same_steps)

    same_counts : (count pf.site ≡ count po.site) × (length pf.roofs ≡ length po.roofs)
    same_counts =
        let n = count pf.site in
        let m = length pf.roofs in
        let n' = count po.site in
        let m' = length po.roofs in
        let s : 40 * n + 29 * m ≡ 40 * n' + 29 * m' = same_bytes in
        let x : n' ≤ n = no_fewer (result_of file) (result_of other) e n m n' m' s (first_inverter file a some) (first_unit other b some_too n) in
        let y : n ≤ n' = no_fewer (result_of other) (result_of file) (sym e) n' m' n m (sym s) (first_inverter other b some_too) (first_unit file a some n') in
        (omega arith, omega arith)

  -- each part
  module _ (k : ℕ) (h : k < length (steps_of file)) where
    some : 0 < length (steps_of file)
    some = omega arith

    h' : k < length (steps_of other)
    h' = le_trans h (le_of_eq same_steps)

    same_at : (at at' : ℕ) → at ≡ at' → (w n : ℕ) → be w (result_of file) (at + n) ≡ be w (result_of other) (at' + n)
    same_at at at' p w n = ap₂ (λ (X : List ℕ) (q : ℕ). be w X (q + n)) e p

    same_units : (i : ℕ) → i < count pf.site
        → AlikeUnit (request_at pf (steps_of file) k i) (outcome_at pf (steps_of file) k i) (request_at po (steps_of other) k i) (outcome_at po (steps_of other) k i)
    same_units i l =
        let ours = a.units k h i l in
        let theirs = b.units k h' i (le_trans l (le_of_eq (same_counts some).0)) in
        let at = same_at (unit_place pf k i) (unit_place po k i) (ap (λ (n : ℕ). n * k + 40 * i) (same_bytes some)) in
        record {
          same_request = sym ours.request_is ∙ ap (to_z w32) (at 4 8) ∙ theirs.request_is;
          same_power = sym ours.power_is ∙ ap (of_bits binary64) (at 8 12) ∙ theirs.power_is;
          same_vars = sym ours.vars_is ∙ ap (to_z w32) (at 4 20) ∙ theirs.vars_is;
          same_stored = sym ours.stored_is ∙ at 8 24 ∙ theirs.stored_is;
          same_loss = sym ours.loss_is ∙ at 8 32 ∙ theirs.loss_is;
        }

    same_inverters : (i : ℕ) → i < length pf.roofs → AlikeInverter (given_at pf (steps_of file) k i) (given_at po (steps_of other) k i)
    same_inverters i l =
        let ours = a.inverters k h i l in
        let theirs = b.inverters k h' i (le_trans l (le_of_eq (same_counts some).1)) in
        let at = same_at (inverter_place pf k i) (inverter_place po k i)
        (ap₂ (λ (n m : ℕ). n * k + 40 * m + 29 * i) (same_bytes some) (same_counts some).0) in
        record {
          same_on = flag_same (given_at pf (steps_of file) k i).on (given_at po (steps_of other) k i).on (sym ours.on_is ∙ at 1 8 ∙ theirs.on_is);
          same_power = sym ours.power_is ∙ ap (of_bits binary64) (at 8 9) ∙ theirs.power_is;
          same_vars = sym ours.vars_is ∙ ap (to_z w32) (at 4 17) ∙ theirs.vars_is;
          same_dc = sym ours.dc_is ∙ at 8 21 ∙ theirs.dc_is;
        }

  all_same : SameLaw file other
  all_same = record {
    steps = same_steps;
    counts = same_counts;
    units = same_units;
    inverters = same_inverters;
  }

pub same_law : SameTheorem
same_law file other a b e = all_same file other (result_law file a) (result_law other b) e
