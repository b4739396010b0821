-- What a step asks and gives fits its record: a request stays within the rating, vars and watts lie in the circle, a store is at most rated, and a loss is what the store and
-- the grid leave. Assumes nothing.
use mathlib.Core.Path.{◌≡◌, refl, ap, subst⁻¹}
use mathlib.Core.Bool.{Bool, true, false, cond}
use mathlib.Core.List.{List}
use Prim.Native.Nat.{ℕ, suc, ◌+◌, ◌-◌, ◌*◌, ◌≤◌, ◌<◌, ◌^◌, min, zero-le}
use native.Mathlib.Nat.{le_trans, le_of_eq, mul-le-mul, lt_of_le_of_lt}
use native.Mathlib.Omega.{arith}
use lib.Dec.{ltb, lit<}
use lib.IntN.{ℤ, pos, negsuc, nat_abs, ◌+ℤ◌}
use lib.ListN.{length, get_or}
use lib.Signed.{mag, lt_z}
use borrow.Author.Tests.{ltb-true, ltb-false}
use mir.Syntax.{w32}
use Rattle.whole.specs.Over.{each}
use Rattle.whole.specs.Signed.{negative, signed}
use Rattle.whole.proofs.Choice.{by_test}
use Rattle.whole.proofs.LargestLaws.{leg_tops, leg_le}
use Rattle.whole.proofs.OverLaws.{each_length, each_at}
use Rattle.whole.proofs.SignLaws.{size_signed, size_fits}
use Rattle.curve.specs.Curve.{curve_at}
use Rattle.unit.specs.declared.Unit.{Unit}
use Rattle.unit.specs.Ranges.{Ranged}
use Rattle.unit.proofs.RangeLaws.{Bounds, bounds}
use Rattle.rules.specs.declared.Settings.{Settings}
use Rattle.rules.specs.Rules.{charges, limited, with_mode, unit_after, share_of}
use Rattle.members.specs.Ranges.{Fleet}
use Rattle.members.specs.Sums.{total, unable_at}
use Rattle.controller.specs.Pass.{own_need, own_band, rests, spent, all_in_band, request_after, pass_by, pass_of}
use Rattle.lead.specs.declared.Lead.{Lead}
use Rattle.lead.specs.Lead.{Leading, unled, led, lead_of, Modest}
use Rattle.lead.proofs.FunctionLaws.{curve_small}
use Rattle.storage.specs.declared.Outcome.{Outcome}
use Rattle.storage.specs.Relied.{Balanced, Relied}
use Rattle.storage.specs.Step.{step_of}
use Rattle.solar.specs.declared.Sun.{Sun}
use Rattle.solar.specs.declared.Given.{Given}
use Rattle.solar.specs.Roof.{Roof, roof_in}
use Rattle.solar.specs.Posts.{Shining}
use Rattle.solar.specs.Step.{dc_of, on_after, watts_of, vars_of, given_by, step_of as sunStep, given as gives}
use Rattle.solar.proofs.RoofLaws.{ranged, Ranged as RoofRanged}
use Rattle.solar.proofs.PowerLaws.{dc_most}
use Rattle.guided.specs.Units.{led_unit, led_step, requested_of, Guiding}
use Rattle.guided.proofs.LedProved.{led_law}
use Rattle.guided.specs.Roofs.{led_roof, lit_step, requested_of as roofRequested}
use Rattle.guided.proofs.LitProved.{lit_law}
use Rattle.site.specs.Ranges.{Guided}
use Rattle.std.proofs.Common.{None, Option, Some}

-- ---- a size of at most 10^8 fits 32 bits
pub small_mag : (z : ℤ) → nat_abs z ≤ 100000000 → mag z < 2 ^ 31
small_mag z h = (size_fits w32 z (lt_of_le_of_lt h (lit< tt))).sfits

-- ---- what leads is modest
pub lead_modest : (l : Leading) → Guided l → (v : Option ℕ) → Modest (lead_of l v)
unfolding lead_of
lead_modest unled g v = record { y_small = zero-le }
lead_modest (led f) g None = record { y_small = zero-le }
lead_modest (led f) g (Some x) = record { y_small = curve_small f g (pos x) }

-- ---- requests
abbrev pub SmallAsked : List ℤ → Type 0
SmallAsked rs = (i : ℕ) → i < length rs → nat_abs (get_or rs i (pos 0)) ≤ 100000000

mode_most : (charging : Bool) (z : ℤ) (n : ℕ) → nat_abs z ≤ n → nat_abs (with_mode charging z) ≤ n
unfolding with_mode
mode_most charging z n h = by_test (λ (x : ℤ). nat_abs x ≤ n) (cond charging (lt_z (pos 0) z) (lt_z z (pos 0))) (pos 0) z (λ t. zero-le) (λ t. h)

limited_most : (R : ℕ) (z : ℤ) → nat_abs (limited R z) ≤ R
unfolding limited
limited_most R z = let e : nat_abs (signed (negative z) (min (nat_abs z) R)) ≡ min (nat_abs z) R = size_signed (negative z) (min (nat_abs z) R) in omega arith

request_most : (s : Settings) (n : ℕ) (f : Fleet) (needs : ℕ → ℤ) (i : ℕ) (r : ℤ) → nat_abs (request_after s n f needs i r) ≤ get_or f.rating i 0
unfolding request_after unit_after
request_most s n f needs i r =
    let weights = total n f.weight in
    let share = share_of s.factor (needs i) (get_or f.weight i 0) weights in
    let z = limited (get_or f.rating i 0) (r +ℤ share) in
    by_test (λ (x : ℤ). nat_abs x ≤ get_or f.rating i 0) (unable_at (charges s.mode) f i) (pos 0) (with_mode (charges s.mode) z)
    (λ t. zero-le) (λ t. mode_most (charges s.mode) z (get_or f.rating i 0) (limited_most (get_or f.rating i 0) (r +ℤ share)))

module _ (rs : List ℤ) (g : ℕ → ℤ → ℤ) (h : (i : ℕ) → i < length rs → nat_abs (g i (get_or rs i (pos 0))) ≤ 100000000) where
  each_small : SmallAsked (each g rs)
  each_small i l =
      let b : i < length rs = le_trans l (le_of_eq (each_length g rs)) in
      le_trans (le_of_eq (ap nat_abs (each_at g rs i (pos 0) b))) (h i b)

pub pass_small : (s : Settings) (m : ℤ) (f : Fleet) (rs : List ℤ) → ((i : ℕ) → i < length rs → get_or f.rating i 0 ≤ 100000000) → SmallAsked rs → SmallAsked (pass_of s m f rs)
unfolding pass_of pass_by
pass_small s m f rs hr h =
    let needs = own_need s m f rs in
    let some = each (request_after s (length rs) f needs) rs in
    let none = each (λ (i : ℕ) (r : ℤ). pos 0) rs in
    let rest = cond (all_in_band (length rs) (own_band s f) needs) rs some in
    by_test SmallAsked (rests s needs rs) rs (cond (spent (charges s.mode) (length rs) f) none rest) (λ t. h)
    (λ t. by_test SmallAsked (spent (charges s.mode) (length rs) f) none rest (λ u. each_small rs (λ (i : ℕ) (r : ℤ). pos 0) (λ i l. zero-le))
    (λ u. by_test SmallAsked (all_in_band (length rs) (own_band s f) needs) rs some (λ v. h)
    (λ v. each_small rs (request_after s (length rs) f needs) (λ i l. le_trans (request_most s (length rs) f needs i (get_or rs i (pos 0))) (hr i l)))))

-- ---- what a unit gives
circle_most : (S x y : ℕ) → x * x + y * y ≤ S * S → (x ≤ S) × (y ≤ S)
circle_most S x y h =
    let k : y * y + x * x ≤ S * S = omega arith in
    (le_trans (leg_tops S y x h) (leg_le S y), le_trans (leg_tops S x y k) (leg_le S x))

drawn_most : (x g k : ℕ) → nat_abs (negsuc x +ℤ pos g) ≤ k → suc x ≤ k + g
drawn_most x g k = by_test (λ (z : ℤ). nat_abs z ≤ k → suc x ≤ k + g) (ltb g (suc x)) (negsuc (suc x - suc g)) (pos (g - suc x))
    (λ t h. let l : g < suc x = ltb-true g (suc x) t in omega arith)
    (λ t h. let l : suc x ≤ g = ltb-false g (suc x) t in omega arith)

loss_most : (seconds before after loss g : ℕ) (w : ℤ) → seconds ≤ 86400 → before ≤ 10000000000000 → g ≤ 10000000 → nat_abs (w +ℤ pos g) ≤ 100000000 → Balanced seconds before w after loss
    → loss < 256 ^ 8
loss_most seconds before after loss g (pos x) hs hb hg hw e = omega arith
loss_most seconds before after loss g (negsuc x) hs hb hg hw e =
    let d : suc x ≤ 100000000 + g = drawn_most x g 100000000 hw in
    let k : suc x ≤ 110000000 = omega arith in
    let m : suc x * seconds ≤ 110000000 * 86400 = mul-le-mul k hs in
    omega arith

-- its vars, its store and its loss
pub record OutcomeFits (o : Outcome) : Type 0 where
  pub vars_small : nat_abs o.vars ≤ 100000000
  pub stored_small : o.stored < 256 ^ 8
  pub loss_small : o.loss < 256 ^ 8

step_fits : (u : Unit) (seconds : ℕ) (request : ℤ) → u.rated ≤ 10000000000000 → u.stored ≤ 10000000000000 → u.kva ≤ 100000000 → u.grid_loss ≤ 10000000 → seconds ≤ 86400
    → Relied u seconds request → OutcomeFits (step_of u seconds request)
step_fits u seconds request hr hh hk hg hs r =
    let o = step_of u seconds request in
    let c = circle_most u.kva (nat_abs (o.watts +ℤ pos u.grid_loss)) (nat_abs o.vars) r.in_circle in
    let never = r.never_above_rated in
    record {
      vars_small = le_trans c.1 hk;
      stored_small = lt_of_le_of_lt (le_trans never hr) (lit< tt);
      loss_small = loss_most seconds u.stored o.stored o.loss u.grid_loss o.watts hs hh hg (le_trans c.0 hk) r.conserved;
    }

pub led_fits : (l : Lead) (u : Unit) (last : ℤ) (seconds : ℕ) (request : ℤ) → Ranged u seconds → Guiding l last → OutcomeFits (led_step l u last seconds request)
unfolding led_step
led_fits l u last seconds request r g =
    let b : Bounds u seconds = bounds r in
    step_fits (led_unit l u (requested_of l u last seconds request)) seconds request b.rated_most (le_trans b.stored_most b.rated_most) b.kva_most b.grid_most b.seconds_most
    (led_law l u last seconds request r g).relied

-- ---- what an inverter gives
pub record GivenFits (g : Given) : Type 0 where
  pub vars_small : nat_abs g.vars ≤ 100000000
  pub dc_small : g.dc < 256 ^ 8

step_dc : (r : Roof) (on : Bool) (s : Sun) → (sunStep r on s).dc ≡ dc_of r s
unfolding sunStep given_by
step_dc r on s =
    let dc = dc_of r s in
    by_test (λ (g : Given). g.dc ≡ dc) (on_after r.inverter on dc) (gives true (pos (watts_of r dc)) (vars_of r.inverter (watts_of r dc)) dc) (gives false (pos 0) (pos 0) dc) (λ t. refl) (λ t. refl)

dc_fits : (r : Roof) (s : Sun) → r.inverter.array ≤ 100000000 → nat_abs (curve_at r.warm s.temperature) ≤ 20000 → Shining s → dc_of r s < 256 ^ 8
unfolding dc_of
dc_fits r s ha hf h = lt_of_le_of_lt (dc_most r.inverter.array s.irradiance (nat_abs (curve_at r.warm s.temperature)) ha h.irradiance_small hf) (lit< tt)

pub lit_fits : (l : Lead) (r : Roof) (last : ℤ) (on : Bool) (s : Sun) → roof_in r ≡ true → Guiding l last → Shining s → GivenFits (lit_step l r last on s)
unfolding lit_step
lit_fits l r last on s h g sh =
    let b : RoofRanged r = ranged r h in
    let v = led_roof l r (roofRequested l r last on s) in
    let o = sunStep v on s in
    record {
      vars_small = le_trans (circle_most r.inverter.kva (nat_abs o.watts) (nat_abs o.vars) (lit_law l r last on s h g).relied.in_circle).1 b.kva_most;
      dc_small = subst⁻¹ (λ (n : ℕ). n < 256 ^ 8) (step_dc v on s) (dc_fits v s b.array_most (b.factor_most s.temperature) sh);
    }
