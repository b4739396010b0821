-- What the test of a state's bytes says of what they keep. Assumes nothing.
use mathlib.Core.Path.{◌≡◌, refl, sym, ap, ap₂, ◌∙◌, subst, subst⁻¹}
use mathlib.Core.Bool.{Bool, true, false, cond, ◌&&◌}
use mathlib.Core.List.{List}
use Prim.Native.Nat.{ℕ, ◌+◌, ◌-◌, ◌≤◌, ◌<◌}
use native.Mathlib.Omega.{arith}
use lib.Dec.{leb, eqb}
use lib.IntN.{ℤ, pos, nat_abs}
use lib.ListN.{length, get_or}
use lib.Seq.{length-slice}
use borrow.Author.Tests.{leb-true, eqb-true, eq-eqb}
use Rattle.whole.specs.Over.{all_of}
use Rattle.whole.proofs.OverLaws.{and_parts, all_at}
use Rattle.octets.specs.BigEndian.{be}
use Rattle.lead.specs.Lead.{voltage_in}
use Rattle.site.specs.Site.{count}
use Rattle.fields.specs.Fields.{at_voltage}
use Rattle.stick.specs.declared.Reached.{Reached}
use Rattle.stick.specs.Check.{reached, reach_of, start}
use Rattle.stick.specs.Site.{site_of, roofs_of}
use Rattle.chunks.proofs.ReachChunks.{far_all}
use Rattle.kept.specs.Kept.{begun_at, begun, no_standing}
use Rattle.kept.specs.Layout.{tail_most, site_most, volts_of, all_vars, state_size, site_place, tail_place, number_in, place_in, steps_kept, stage_in, site_bytes, tail_bytes, site_part, tail_part, sun_kept, due_kept, state_in, known_by, store_at, request_at, flag_at, var_at, up_to, units_kept, roofs_kept, stands_in, kept_in}
use Rattle.kept.specs.Formed.{site_fits, place_fits, sun_fits, volt_fits, tail_fits, held_fits, flag_fits, var_fits, lists_fit, stands_fit, mark_fits, rest_clear, going, stopped, well_formed}
use Rattle.kept.specs.Posts.{Sized, WellKept}
use Rattle.kept.proofs.StandLaws.{up_to_length}
use Rattle.kept.proofs.ReadLaws.{up_to_at, up_to_both}
use Rattle.std.proofs.Common.{None, Option, Some}

-- ---- a voltage as it is kept, and what its number says of it
abbrev voltage : Bool → ℕ → Option ℕ
voltage b x = cond b (Some x) None

kept_volts : (stage x : ℕ) → volt_fits stage x ≡ true → volt_fits stage (volts_of (voltage (eqb stage at_voltage) x)) ≡ true
unfolding volt_fits
kept_volts stage x = go (eqb stage at_voltage)
  where
    go : (b : Bool) → cond b (voltage_in x) (eqb x 0) ≡ true → cond b (voltage_in (volts_of (voltage b x))) (eqb (volts_of (voltage b x)) 0) ≡ true
    go true e = e
    go false e = refl

kept_said : (b : Bool) (x : ℕ) → voltage b x ≡ voltage b (volts_of (voltage b x))
kept_said true x = refl
kept_said false x = refl

-- ---- the vars that are kept, of the units and behind them of the inverters
pub vars_kept_lem : (s : List ℕ) → all_vars (kept_in s).stands ≡ up_to (units_kept s + roofs_kept s) (var_at s)
unfolding kept_in stands_in
vars_kept_lem s = up_to_both (units_kept s) (roofs_kept s) (var_at s)

-- ---- a state, and what one of a run that goes on keeps
module _ (s : List ℕ) (formed : well_formed s ≡ true) where
  pub state_long : length s ≡ state_size
  unfolding well_formed
  state_long = eqb-true (length s) state_size (and_parts (eqb (length s) state_size) (cond (eqb (number_in s) 0) (going s) (stopped s)) formed).0

  module _ (zero_number : number_in s ≡ 0) where
    is_going : going s ≡ true
    unfolding well_formed
    is_going =
        sym (ap (λ (b : Bool). cond b (going s) (stopped s)) (eq-eqb (number_in s) 0 zero_number))
        ∙ (and_parts (eqb (length s) state_size) (cond (eqb (number_in s) 0) (going s) (stopped s)) formed).1

    abbrev R : Reached
    R = reach_of (length (site_part s)) start (site_part s) 0

    -- the tests, in four groups
    abbrev a₁ : Bool
    a₁ = leb (site_bytes s) site_most

    abbrev a₂ : Bool
    a₂ = leb (tail_bytes s) tail_most

    abbrev a₃ : Bool
    a₃ = leb (steps_kept s) 65535

    abbrev b₁ : Bool
    b₁ = site_fits R (stage_in s) (steps_kept s)

    abbrev c₀ : Bool
    c₀ = mark_fits s

    abbrev c₁ : Bool
    c₁ = place_fits (place_in s) (stage_in s) (steps_kept s) (site_bytes s) (tail_bytes s)

    abbrev c₂ : Bool
    c₂ = sun_fits (stage_in s) (sun_kept s)

    abbrev c₃ : Bool
    c₃ = volt_fits (stage_in s) (be 2 s 25)

    abbrev c₄ : Bool
    c₄ = tail_fits (state_in s) (tail_part s)

    abbrev d₁ : Bool
    d₁ = stands_fit s

    abbrev d₂ : Bool
    d₂ = rest_clear s (units_kept s) (roofs_kept s)

    groups : (((a₁ && a₂ && a₃) ≡ true) × (b₁ ≡ true)) × ((c₀ ≡ true) × ((d₁ && d₂) ≡ true))
    unfolding going
    groups =
        let c = and_parts ((a₁ && a₂ && a₃) && b₁ && c₀) (d₁ && d₂) is_going in
        let b = and_parts ((a₁ && a₂ && a₃) && b₁) c₀ c.0 in
        let a = and_parts (a₁ && a₂ && a₃) b₁ b.0 in
        (a, (b.1, c.1))

    numbers : ((site_bytes s ≤ site_most) × (tail_bytes s ≤ tail_most)) × (steps_kept s ≤ 65535)
    numbers =
        let b = and_parts (a₁ && a₂) a₃ groups.0.0 in
        let a = and_parts a₁ a₂ b.0 in
        ((leb-true (site_bytes s) site_most a.0, leb-true (tail_bytes s) tail_most a.1), leb-true (steps_kept s) 65535 b.1)

    pub state_sized : Sized s
    state_sized = record { long = state_long; site_fits_is = numbers.0.0; tail_fits_is = numbers.0.1 }

    pub site_long : length (site_part s) ≡ site_bytes s
    unfolding site_part
    site_long = length-slice site_place (site_place + site_bytes s) s (let l = state_long in let n = numbers.0.0 in omega arith) ∙ (let n = numbers.0.0 in omega arith)

    pub tail_long : length (tail_part s) ≡ tail_bytes s
    unfolding tail_part
    tail_long = length-slice tail_place (tail_place + tail_bytes s) s (let l = state_long in let n = numbers.0.1 in omega arith) ∙ (let n = numbers.0.1 in omega arith)

    site_tests : ((R.number ≡ 0) × (R.state.steps ≡ 0)) × (cond (begun_at (stage_in s)) (eqb R.state.stage 0) (eqb R.state.stage (stage_in s) && eqb (steps_kept s) 0) ≡ true)
    unfolding site_fits
    site_tests =
        let c = cond (begun_at (stage_in s)) (eqb R.state.stage 0) (eqb R.state.stage (stage_in s) && eqb (steps_kept s) 0) in
        let b = and_parts (eqb R.number 0 && eqb R.state.steps 0) c groups.0.1 in
        let a = and_parts (eqb R.number 0) (eqb R.state.steps 0) b.0 in
        ((eqb-true R.number 0 a.0, eqb-true R.state.steps 0 a.1), b.1)

    site_known : R ≡ reached 0 (length (site_part s)) (known_by (site_part s))
    unfolding known_by
    site_known =
        ap₂ (λ (n p : ℕ). reached n p (known_by (site_part s))) site_tests.0.0 (far_all (site_part s) start 0 (omega arith) site_tests.0.0)

    by_stage : (b : Bool) → begun_at (stage_in s) ≡ b → cond b (eqb R.state.stage 0) (eqb R.state.stage (stage_in s) && eqb (steps_kept s) 0) ≡ true
    by_stage b e = sym (ap (λ (t : Bool). cond t (eqb R.state.stage 0) (eqb R.state.stage (stage_in s) && eqb (steps_kept s) 0)) e) ∙ site_tests.1

    mark_tests : ((c₁ ≡ true) × (c₂ ≡ true)) × ((c₃ ≡ true) × (c₄ ≡ true))
    unfolding mark_fits
    mark_tests =
        let b = and_parts (c₁ && c₂ && c₃) c₄ groups.1.0 in
        let a = and_parts (c₁ && c₂) c₃ b.0 in
        (and_parts c₁ c₂ a.0, (a.1, b.1))

    abbrev e₁ : Bool
    e₁ = held_fits (site_of (site_part s)) (up_to (units_kept s) (store_at s)) (up_to (units_kept s) (request_at s))

    abbrev e₂ : Bool
    e₂ = all_of (roofs_kept s) (flag_fits s)

    abbrev e₃ : Bool
    e₃ = all_of (units_kept s + roofs_kept s) (var_fits s)

    stand_tests : ((e₁ ≡ true) × (e₂ ≡ true)) × (e₃ ≡ true)
    unfolding stands_fit lists_fit
    stand_tests = let b = and_parts (e₁ && e₂) e₃ (and_parts d₁ d₂ groups.1.1).0 in (and_parts e₁ e₂ b.0, b.1)

    pub rest_clear_lem : rest_clear s (units_kept s) (roofs_kept s) ≡ true
    rest_clear_lem = (and_parts d₁ d₂ groups.1.1).1

    pub flags_fit : all_of (roofs_kept s) (flag_fits s) ≡ true
    flags_fit = stand_tests.0.1

    pub vars_fit : (i : ℕ) → i < units_kept s + roofs_kept s → nat_abs (var_at s i) ≤ 100000000
    unfolding var_fits
    vars_fit i l = leb-true (nat_abs (var_at s i)) 100000000 (all_at (units_kept s + roofs_kept s) (var_fits s) stand_tests.1 i l)

    vars_small : (i : ℕ) → i < length (all_vars (kept_in s).stands) → nat_abs (get_or (all_vars (kept_in s).stands) i (pos 0)) ≤ 100000000
    vars_small i h =
        let n = units_kept s + roofs_kept s in
        let l : i < n = subst (λ (m : ℕ). i < m) (ap length (vars_kept_lem s) ∙ up_to_length n (var_at s)) h in
        subst⁻¹ (λ (z : ℤ). nat_abs z ≤ 100000000) (ap (λ (l : List ℤ). get_or l i (pos 0)) (vars_kept_lem s) ∙ up_to_at n (var_at s) (pos 0) i l) (vars_fit i l)

    counted : (b : Bool) → begun (state_in s) ≡ b → (units_kept s ≡ cond b (count (site_of (site_part s))) 0) × (roofs_kept s ≡ cond b (length (roofs_of (site_part s))) 0)
    unfolding units_kept roofs_kept
    counted b e = (ap (λ (t : Bool). cond t (count (site_of (site_part s))) 0) e, ap (λ (t : Bool). cond t (length (roofs_of (site_part s))) 0) e)

    none_stand : (n m : ℕ) → n ≡ 0 → m ≡ 0 → stands_in s n m ≡ no_standing
    unfolding stands_in up_to
    none_stand n m e f = ap₂ (stands_in s) e f

    pub kept_well : WellKept (kept_in s)
    unfolding kept_in state_in known_by due_kept stands_in
    kept_well = record {
      known = site_known;
      no_steps_is = site_tests.0.1;
      state_is = refl;
      closed = λ e. eqb-true R.state.stage 0 (by_stage true e);
      waiting = λ e. let b = and_parts (eqb R.state.stage (stage_in s)) (eqb (steps_kept s) 0) (by_stage false e) in (eqb-true R.state.stage (stage_in s) b.0, eqb-true (steps_kept s) 0 b.1);
      site_short = let l = site_long in let n = numbers.0.0 in omega arith;
      few = numbers.1;
      placed =
          ap₂ (place_fits (place_in s) (stage_in s) (steps_kept s)) site_long tail_long ∙ mark_tests.0.0;
      sunny = mark_tests.0.1;
      volted = kept_volts (stage_in s) (be 2 s 25) mark_tests.1.0;
      said = kept_said (eqb (stage_in s) at_voltage) (be 2 s 25);
      tailed = mark_tests.1.1;
      tail_short = let l = tail_long in let n = numbers.0.1 in omega arith;
      stores = λ e. up_to_length (units_kept s) (store_at s) ∙ (counted true e).0;
      asks = up_to_length (units_kept s) (request_at s) ∙ sym (up_to_length (units_kept s) (store_at s));
      leads = up_to_length (units_kept s) (var_at s) ∙ sym (up_to_length (units_kept s) (store_at s));
      held = stand_tests.0.0;
      flags = λ e. up_to_length (roofs_kept s) (flag_at s) ∙ (counted true e).1;
      shines = up_to_length (roofs_kept s) (λ (i : ℕ). var_at s (units_kept s + i)) ∙ sym (up_to_length (roofs_kept s) (flag_at s));
      small = vars_small;
      none_stands = λ e. none_stand (units_kept s) (roofs_kept s) (counted false e).0 (counted false e).1;
    }
