-- A charging mode is 3 or 5, and its mirror image, 1 or 4, goes by the same reading and takes the target off as it does; so every need becomes
-- its negative, the tests of rules 3 and 5 stay, and strictly between reserve and rated no unit is unable in either mode, nor is a fleet of one
-- or more. Assumes nothing.
use mathlib.Core.Path.{◌≡◌, refl, sym, ap, ap₂, ◌∙◌, subst⁻¹}
use mathlib.Core.Bool.{Bool, true, false, not, cond, ◌&&◌, ◌||◌}
use mathlib.Core.List.{List}
use Prim.Native.Nat.{ℕ, zero, suc, ◌<◌}
use native.Mathlib.Omega.{arith}
use lib.Dec.{eqb}
use lib.IntN.{ℤ, pos, neg_ℤ, ◌+ℤ◌, neg_ℤ-neg_ℤ, neg_ℤ-+ℤ}
use lib.ListN.{length, get_or}
use borrow.Author.Tests.{lt-leb, ne_eqb, eqb-true}
use Rattle.whole.specs.Over.{sum_of, all_of, each}
use Rattle.whole.proofs.Choice.{by_test, passed_failed}
use Rattle.rules.specs.declared.Settings.{Settings}
use Rattle.rules.specs.Rules.{charges, by_current, plain_need, in_watts, band_in_watts, unable}
use Rattle.members.specs.Ranges.{Fleet, some_above}
use Rattle.members.specs.Sums.{total, sum_of_all, unable_at, changed_of}
use Rattle.controller.specs.Pass.{with_sum, own_need, own_band, need_of, rests, spent, all_in_band, request_after, pass_by, pass_of}
use Rattle.mirror.specs.Mirror.{mirror_mode, negatives, mirror_settings, Between, Mirrored, MirroredTwice}
use Rattle.mirror.proofs.NegativeLaws.{of_choice, call_turned, band_same, watts_negative, unit_turned, sum_over}
use Rattle.mirror.proofs.NegativeLaws.{negatives_back, count_same, sum_negative, above_turned, below_turned, changed_same, each_negative}

-- ---- a charging mode and its mirror image
record Turned (mode : ℕ) : Type 0 where
  charging : charges mode ≡ true
  discharging : charges (mirror_mode mode) ≡ false
  current : by_current (mirror_mode mode) ≡ by_current mode
  taken : eqb mode 2 ≡ false
  taken_too : eqb (mirror_mode mode) 2 ≡ false

turned : (mode : ℕ) → charges mode ≡ true → Turned mode
turned mode = go (eqb mode 3) (eqb mode 5) refl refl
  where
    go : (a b : Bool) → eqb mode 3 ≡ a → eqb mode 5 ≡ b → (a || b) ≡ true → Turned mode
    go true b p q e = subst⁻¹ Turned (eqb-true mode 3 p) (record { charging = refl; discharging = refl; current = refl; taken = refl; taken_too = refl })
    go false true p q e = subst⁻¹ Turned (eqb-true mode 5 q) (record { charging = refl; discharging = refl; current = refl; taken = refl; taken_too = refl })
    go false false p q e = absurd (passed_failed e refl)

-- ---- units strictly between reserve and rated
module _ (f : Fleet) where
  not_full : (n : ℕ) → Between f n → (i : ℕ) → i < n → unable_at true f i ≡ false
  unfolding unable
  not_full n b i l = ne_eqb (get_or f.stored i 0) (get_or f.rated i 0) (λ e. omega (arith, b i l))

  not_empty : (n : ℕ) → Between f n → (i : ℕ) → i < n → unable_at false f i ≡ false
  unfolding unable
  not_empty n b i l = lt-leb (get_or f.stored i 0) (get_or f.reserve i 0) (b i l).0

  -- of no units all sums are 0; of one or more they are strictly in order
  spent_same : (n : ℕ) → Between f n → spent false n f ≡ spent true n f
  unfolding spent unable sum_of
  spent_same zero b = refl
  spent_same (suc n) b =
      let low = sum_over (suc n) (λ (i : ℕ). get_or f.reserve i 0) (λ (i : ℕ). get_or f.stored i 0) (λ i l. (b i l).0) in
      let high = sum_over (suc n) (λ (i : ℕ). get_or f.stored i 0) (λ (i : ℕ). get_or f.rated i 0) (λ i l. (b i l).1) in
      lt-leb (total (suc n) f.stored) (total (suc n) f.reserve) (omega arith)
      ∙ sym (ne_eqb (total (suc n) f.stored) (total (suc n) f.rated) (λ e. omega arith))

abbrev opposite : (ℕ → ℤ) → ℕ → ℤ
opposite needs i = neg_ℤ (needs i)

module _ (s : Settings) (f : Fleet) (rs : List ℤ) (t : Turned s.mode) where
  -- ---- the needs
  with_negative : (need : ℤ) → with_sum (mirror_settings s) (negatives rs) (neg_ℤ need) ≡ neg_ℤ (with_sum s rs need)
  unfolding with_sum mirror_settings
  with_negative need =
      rw (t.charging, t.discharging, below_turned rs, sum_negative rs, ← neg_ℤ-+ℤ need (sum_of_all rs))
      (sym (of_choice neg_ℤ (some_above rs) (need +ℤ sum_of_all rs) need))

  module _ (m : ℤ) where
    plain_negative : plain_need (mirror_settings s) (neg_ℤ m) ≡ neg_ℤ (plain_need s m)
    unfolding plain_need mirror_settings
    plain_negative = rw (t.taken, t.taken_too) (sym (neg_ℤ-+ℤ m (neg_ℤ s.target)))

    own_negative : (i : ℕ) → own_need (mirror_settings s) (neg_ℤ m) f (negatives rs) i ≡ neg_ℤ (own_need s m f rs i)
    unfolding own_need mirror_settings
    own_negative i =
        let link : ℕ = get_or f.link i 0 in
        ap₂ (λ (c : Bool) (z : ℤ). with_sum (mirror_settings s) (negatives rs) (in_watts c link z)) t.current plain_negative
        ∙ ap (with_sum (mirror_settings s) (negatives rs)) (watts_negative (by_current s.mode) link (plain_need s m))
        ∙ with_negative (in_watts (by_current s.mode) link (plain_need s m))

    need_negative : need_of (mirror_settings s) (neg_ℤ m) (negatives rs) ≡ neg_ℤ (need_of s m rs)
    unfolding need_of mirror_settings
    need_negative =
        ap₂ (λ (c : Bool) (z : ℤ). cond c z (with_sum (mirror_settings s) (negatives rs) z)) t.current plain_negative
        ∙ ap (cond (by_current s.mode) (neg_ℤ (plain_need s m))) (with_negative (plain_need s m))
        ∙ sym (of_choice neg_ℤ (by_current s.mode) (plain_need s m) (with_sum s rs (plain_need s m)))

  bands_same : own_band (mirror_settings s) f ≡ own_band s f
  unfolding own_band mirror_settings
  bands_same = λ j i. band_in_watts (t.current j) (get_or f.link i 0) s.band

  -- ---- the pass, by any bands and needs
  module _ (bands : ℕ → ℕ) (needs : ℕ → ℤ) (b : Between f (length rs)) where
    rests_same : rests (mirror_settings s) (opposite needs) (negatives rs) ≡ rests s needs rs
    unfolding rests mirror_settings
    rests_same =
        rw (t.charging, t.discharging)
        (ap₂ (λ (a c : Bool). not a && c) (above_turned rs) (ap₂ all_of (count_same rs) (λ j i. call_turned (needs i) j)))

    in_band_same : all_in_band (length (negatives rs)) bands (opposite needs) ≡ all_in_band (length rs) bands needs
    unfolding all_in_band
    in_band_same = ap₂ all_of (count_same rs) (λ j i. band_same (bands i) (needs i) j)

    fleet_same : spent (charges (mirror_settings s).mode) (length (negatives rs)) f ≡ spent (charges s.mode) (length rs) f
    unfolding mirror_settings
    fleet_same = rw (t.charging, t.discharging, count_same rs) (spent_same f (length rs) b)

    after_negative : (i : ℕ) → i < length rs → (r : ℤ)
        → request_after (mirror_settings s) (length (negatives rs)) f (opposite needs) i (neg_ℤ r) ≡ neg_ℤ (request_after s (length rs) f needs i r)
    unfolding request_after mirror_settings
    after_negative i l r =
        rw (t.charging, t.discharging, not_full f (length rs) b i l, not_empty f (length rs) b i l, count_same rs)
        (unit_turned s.factor (needs i) (total (length rs) f.weight) (get_or f.rating i 0) (get_or f.weight i 0) r)

    pass_by_negative : pass_by (mirror_settings s) f bands (opposite needs) (negatives rs) ≡ negatives (pass_by s f bands needs rs)
    unfolding pass_by
    pass_by_negative =
        let none : ℕ → ℤ → ℤ = λ i r. pos 0 in
        let after : ℕ → ℤ → ℤ = request_after s (length rs) f needs in
        let inside : List ℤ = cond (all_in_band (length rs) bands needs) rs (each after rs) in
        let empty : Bool = spent (charges s.mode) (length rs) f in
        cc (
          rests_same,
          fleet_same,
          in_band_same,
          each_negative none none rs (λ i l r. refl),
          each_negative (request_after (mirror_settings s) (length (negatives rs)) f (opposite needs)) after rs after_negative,
          of_choice negatives (rests s needs rs) rs (cond empty (each none rs) inside),
          of_choice negatives empty (each none rs) inside,
          of_choice negatives (all_in_band (length rs) bands needs) rs (each after rs),
        )

  pass_negative : (m : ℤ) → Between f (length rs) → pass_of (mirror_settings s) (neg_ℤ m) f (negatives rs) ≡ negatives (pass_of s m f rs)
  unfolding pass_of
  pass_negative m b =
      ap₂ (λ (bands : ℕ → ℕ) (needs : ℕ → ℤ). pass_by (mirror_settings s) f bands needs (negatives rs)) bands_same (λ j i. own_negative m i j)
      ∙ pass_by_negative (own_band s f) (own_need s m f rs) b

pub mirrored : Mirrored
mirrored f v h b =
    let s = v.settings in
    let m = v.measure in
    let rs = v.requests in
    let t = turned s.mode h in
    let pass = pass_negative s f rs t m b in
    record {
      requests = sym (ap negatives pass ∙ negatives_back (pass_of s m f rs));
      need = sym (ap neg_ℤ (need_negative s f rs t m) ∙ neg_ℤ-neg_ℤ (need_of s m rs));
      changed = sym (ap (changed_of (negatives rs)) pass ∙ changed_same rs (pass_of s m f rs));
      own = λ i. sym (ap neg_ℤ (own_negative s f rs t m i) ∙ neg_ℤ-neg_ℤ (own_need s m f rs i));
    }

-- ---- twice
mode_back : (mode : ℕ) → mirror_mode (mirror_mode mode) ≡ mode
mode_back mode =
    let back : ℕ → Type 0 = λ k. mirror_mode k ≡ mode in
    let second : ℕ = cond (eqb mode 4) 5 (cond (eqb mode 5) 4 mode) in
    by_test back (eqb mode 1) 3 (cond (eqb mode 3) 1 second) (λ e. sym (eqb-true mode 1 e))
    (λ a.
    by_test back (eqb mode 3) 1 second (λ e. sym (eqb-true mode 3 e))
    (λ b.
    by_test back (eqb mode 4) 5 (cond (eqb mode 5) 4 mode) (λ e. sym (eqb-true mode 4 e))
    (λ c. by_test back (eqb mode 5) 4 mode (λ e. sym (eqb-true mode 5 e)) (λ d. simp (a, b, c, d)))))

pub mirrored_twice : MirroredTwice
unfolding mirror_settings
mirrored_twice v = λ j. record {
  settings = record {
    mode = mode_back v.settings.mode j;
    target = neg_ℤ-neg_ℤ v.settings.target j;
    band = v.settings.band;
    factor = v.settings.factor;
  };
  measure = neg_ℤ-neg_ℤ v.measure j;
  requests = negatives_back v.requests j;
}
