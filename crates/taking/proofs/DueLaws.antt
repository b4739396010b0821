-- What the step under way has after whole fields: the sun of a weather in its ranges where its reading is waited for, a voltage in its range behind a voltage
-- field, and neither elsewhere. Assumes nothing.
use mathlib.Core.Path.{◌≡◌, refl, sym, ap, ap₂, ◌∙◌, subst, subst⁻¹}
use mathlib.Core.Bool.{Bool, true, false, cond, ◌&&◌, ◌||◌}
use mathlib.Core.List.{List}
use Prim.Native.Nat.{ℕ, ◌+◌}
use native.Mathlib.Omega.{arith}
use lib.Dec.{leb, eqb}
use lib.IntN.{nat_abs}
use borrow.Author.Tests.{le-leb}
use Rattle.whole.proofs.Choice.{passed_failed}
use Rattle.octets.specs.BigEndian.{be}
use Rattle.parts.specs.Header.{header, past}
use Rattle.solar.specs.declared.Sun.{Sun}
use Rattle.solar.specs.Posts.{Shining}
use Rattle.lead.specs.Lead.{voltage_in}
use Rattle.site.specs.declared.Due.{Due}
use Rattle.site.specs.Site.{due, none_yet}
use Rattle.fields.specs.declared.State.{State}
use Rattle.fields.specs.Fields.{at_end, at_steps, at_reading, at_voltage, begins}
use Rattle.stick.specs.Site.{sun_at, voltage_at, due_from}
use Rattle.stick.proofs.PlaceLaws.{due_over, due_first_lem}
use Rattle.stretch.proofs.FieldLaws.{reading_clears, weather_lights, voltage_says, end_leaves_is, dark_shines, after_shines}
use Rattle.kept.specs.Kept.{Kept, begun_at, begun}
use Rattle.kept.specs.Layout.{volts_of}
use Rattle.kept.specs.Formed.{sun_fits, volt_fits}
use Rattle.kept.specs.Posts.{WellKept}
use Rattle.kept.proofs.KeptLaws.{fits_shining}
use Rattle.taking.specs.Chunk.{head_in}
use Rattle.taking.specs.Posts.{Leads}
use Rattle.taking.proofs.TookLaws.{by_begins}
use Rattle.taking.proofs.LeadLaws.{parts}
use Rattle.taking.proofs.ChainLaws.{Chain, done, read, lit, said, ended, chained}
use Rattle.std.proofs.Common.{None, Option, Some}

-- ---- what fits a stage
pub record DueWell (stage : ℕ) (d : Due) : Type 0 where
  pub sunny : sun_fits stage d.sun ≡ true
  pub volted : volt_fits stage (volts_of d.voltage) ≡ true
  pub said : d.voltage ≡ cond (eqb stage at_voltage) (Some (volts_of d.voltage)) None

-- a sun in its ranges fits where a reading is waited for
shining_tests : (s : Sun) → Shining s → (leb s.irradiance 100000000 && leb (nat_abs s.temperature) 100000000) ≡ true
shining_tests s h = ap₂ ◌&&◌ (le-leb s.irradiance 100000000 h.irradiance_small) (le-leb (nat_abs s.temperature) 100000000 h.temperature_small)

-- ---- the stages where a reading is waited for, behind a weather or a voltage: not where a step may begin, nor before the steps
abbrev waits : ℕ → Bool
waits n = eqb n at_reading || eqb n at_voltage

begins_quiet : (st : State) → begins st ≡ true → waits st.stage ≡ false
begins_quiet st b = by_begins (λ (n : ℕ) (c : Bool). waits n ≡ false) st b (λ c. refl) (λ c. refl) refl (λ c. refl)

before_quiet : (n : ℕ) → begun_at n ≡ false → waits n ≡ false
before_quiet n = go (eqb n 0) (eqb n 4) (eqb n 8) (eqb n 11)
  where
    go : (x y z u : Bool) → (x || y || z || u) ≡ false → (z || u) ≡ false
    go true y z u b = absurd (passed_failed refl b)
    go false true z u b = absurd (passed_failed refl b)
    go false false z u b = b

no_voltage : (n : ℕ) → waits n ≡ false → eqb n at_voltage ≡ false
no_voltage n = go (eqb n at_reading)
  where
    go : (x : Bool) → (x || eqb n at_voltage) ≡ false → eqb n at_voltage ≡ false
    go true e = absurd (passed_failed refl e)
    go false e = e

-- ---- no voltage is said but behind a voltage field
module _ (n : ℕ) (d : Due) (e : waits n ≡ false) (w : DueWell n d) where
  unsaid : d.voltage ≡ None
  unsaid = w.said ∙ ap (λ (b : Bool). cond b (Some (volts_of d.voltage)) None) (no_voltage n e)

  -- so with it a sun fits another such stage, and a weather's that of its reading
  other_sun : (m : ℕ) (s : Sun) → eqb m at_voltage ≡ false → sun_fits m s ≡ true → DueWell m (due s d.voltage)
  unfolding volt_fits
  other_sun m s f t = record {
    sunny = t;
    volted = ap (λ (b : Bool). cond b (voltage_in (volts_of d.voltage)) (eqb (volts_of d.voltage) 0)) f ∙ ap (λ (v : Option ℕ). eqb (volts_of v) 0) unsaid;
    said = unsaid ∙ sym (ap (λ (b : Bool). cond b (Some (volts_of d.voltage)) None) f);
  }

  quiet_alike : (m : ℕ) → waits m ≡ false → DueWell m d
  unfolding sun_fits
  quiet_alike m f =
      let test : Bool → Bool = λ b.
      cond b (leb d.sun.irradiance 100000000 && leb (nat_abs d.sun.temperature) 100000000) (eqb d.sun.irradiance 0 && eqb (nat_abs d.sun.temperature) 0) in
      other_sun m d.sun (no_voltage m f) (ap test f ∙ sym (ap test e) ∙ w.sunny)

-- ---- what a field leaves
cleared : DueWell at_steps none_yet
unfolding sun_fits volt_fits
cleared = record { sunny = refl; volted = refl; said = refl }

lit_well : (n : ℕ) (d : Due) → waits n ≡ false → DueWell n d → (s : Sun) → Shining s → DueWell at_reading (due s d.voltage)
unfolding sun_fits
lit_well n d e w s h = other_sun n d e w at_reading s refl (shining_tests s h)

said_well : (file : List ℕ) (i n : ℕ) (d : Due) → DueWell n d → voltage_in (be 2 file (i + header)) ≡ true → DueWell at_voltage (due d.sun (voltage_at file i))
unfolding sun_fits volt_fits voltage_at
said_well file i n d w v = record { sunny = shining_tests d.sun (fits_shining n d.sun w.sunny); volted = v; said = refl }

-- ---- fields of the steps
module _ (file : List ℕ) {next : State} where
  due_along : {st : State} {i : ℕ} → Chain file next st i → (d : Due) → DueWell st.stage d → DueWell next.stage (due_from file d i)
  due_along {st} {i} (done e f) d w =
      subst⁻¹ (DueWell next.stage) (due_over file i (omega arith) d) (subst (λ (x : State). DueWell x.stage d) e w)
  due_along {st} {i} (read m l r c lo hi is more) d w =
      subst⁻¹ (DueWell next.stage) (due_first_lem file i l d ∙ ap (λ (x : Due). due_from file x (past file i)) (reading_clears file d i r))
      (due_along more none_yet (subst⁻¹ (λ (x : State). DueWell x.stage none_yet) is cleared))
  due_along {st} {i} (lit m l e c p is more) d w =
      let shines : Shining (sun_at file i) = subst (λ (x : Due). Shining x.sun) (weather_lights file none_yet i e) (after_shines file none_yet i dark_shines) in
      subst⁻¹ (DueWell next.stage) (due_first_lem file i l d ∙ ap (λ (x : Due). due_from file x (past file i)) (weather_lights file d i e))
      (due_along more (due (sun_at file i) d.voltage)
      (subst⁻¹ (λ (x : State). DueWell x.stage (due (sun_at file i) d.voltage)) is (lit_well st.stage d (begins_quiet st c) w (sun_at file i) shines)))
  due_along {st} {i} (said m l e c p v is more) d w =
      subst⁻¹ (DueWell next.stage) (due_first_lem file i l d ∙ ap (λ (x : Due). due_from file x (past file i)) (voltage_says file d i e))
      (due_along more (due d.sun (voltage_at file i))
      (subst⁻¹ (λ (x : State). DueWell x.stage (due d.sun (voltage_at file i))) is (said_well file i st.stage d w v)))
  due_along {st} {i} (ended m l e c p is more) d w =
      subst⁻¹ (DueWell next.stage) (due_first_lem file i l d ∙ ap (λ (x : Due). due_from file x (past file i)) (end_leaves_is file d i e))
      (due_along more d (subst⁻¹ (λ (x : State). DueWell x.stage d) is (quiet_alike st.stage d (begins_quiet st c) w at_end refl)))

-- ---- whole fields
pub due_after_lem : (k : Kept) → WellKept k → (w : List ℕ) (next : State) → Leads k.state w next → DueWell next.stage (due_from w k.due (head_in w))
due_after_lem k well w next l = due_along w (chained w l) k.due (go (begun k.state) refl)
  where
    was : DueWell k.state.stage k.due
    was = record { sunny = well.sunny; volted = well.volted; said = well.said }

    go : (b : Bool) → begun k.state ≡ b → DueWell (parts w l).mid.stage k.due
    go true e = subst⁻¹ (λ (s : State). DueWell s.stage k.due) ((parts w l).same e) was
    go false e =
        quiet_alike k.state.stage k.due (before_quiet k.state.stage e) was (parts w l).mid.stage (before_quiet (parts w l).mid.stage ((parts w l).still e))
