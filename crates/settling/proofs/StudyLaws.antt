-- A study as the code goes through it: what each turn of its loop keeps, and how it ends. Assumes nothing.
use mathlib.Core.Path.{◌≡◌, refl, sym, ap, ap₂, ◌∙◌, subst, subst⁻¹, subst₂}
use mathlib.Core.Bool.{Bool, true, false, not, cond}
use mathlib.Core.List.{List, [], ◌∷◌}
use Prim.Native.Nat.{ℕ, suc, ◌+◌, ◌-◌, ◌≤◌, ◌<◌}
use native.Mathlib.Nat.{le_trans, lt_of_le_of_lt, add-le-add}
use native.Mathlib.Omega.{arith}
use lib.Dec.{lit<, lit≤}
use lib.IntN.{ℤ, pos, neg_ℤ, nat_abs, ◌-ℤ◌}
use lib.ListN.{length, replicate}
use borrow.Author.Tests.{not-true, not-false}
use mir.Syntax.{w64}
use mir.Val.{SFits}
use Rattle.whole.specs.Over.{each, each_from}
use Rattle.whole.proofs.SignLaws.{size_sum, size_neg, minus_fits, minus_is}
use Rattle.rules.specs.declared.Settings.{Settings}
use Rattle.rules.specs.declared.Asked.{Asked}
use Rattle.controller.specs.declared.Passed.{Passed}
use Rattle.settling.specs.declared.Studied.{Studied}
use Rattle.members.specs.Ranges.{Fleet}
use Rattle.members.specs.Sums.{changed_of}
use Rattle.controller.specs.Pass.{pass_of}
use Rattle.settling.specs.declared.Trial.{Trial}
use Rattle.settling.specs.Study.{shaving, Study, study_pass, study_from, study_of}
use Rattle.settling.specs.Posts.{DoneStudy, Measured, Trying}
use Rattle.members.specs.Posts.{AskedOf}
use Rattle.whole.proofs.Choice.{passed_failed}
use Rattle.controller.specs.Posts.{Sound, DonePass}
use Rattle.rules.proofs.RuleLaws.{back64, read_sized}
use Rattle.members.proofs.DifferLaws.{unchanged}
use Rattle.controller.proofs.SoundLaws.{at_measure, units_as_lent}
use Rattle.controller.proofs.StandsLaws.{pass_length}

-- ---- the measure
module _ (load : ℤ) (hl : nat_abs load ≤ 100000000) (rs : List ℤ) (a : Asked) (ea : AskedOf rs a) where
  el : back64 load ≡ load
  el = read_sized load (lt_of_le_of_lt hl (lit< tt))

  es : back64 a.sum ≡ a.sum
  es = read_sized a.sum (lt_of_le_of_lt ea.bounded (lit< tt))

  room : nat_abs load + nat_abs a.sum ≤ 100000000 + 137438953472
  room = add-le-add hl ea.bounded

  pub measure_fits : SFits w64 (back64 load -ℤ back64 a.sum)
  measure_fits = minus_fits w64 load a.sum (back64 load) (back64 a.sum) el es (lt_of_le_of_lt room (lit< tt))

  pub measure_is : Measured load rs (back64 (back64 load -ℤ back64 a.sum))
  measure_is =
      let e = minus_is w64 load a.sum (back64 load) (back64 a.sum) el es (lt_of_le_of_lt room (lit< tt)) in
      record {
        is = e ∙ ap (λ (z : ℤ). load -ℤ z) ea.sum;
        small =
            subst⁻¹ (λ (z : ℤ). nat_abs z ≤ 200000000000) e
            (le_trans (size_sum load (neg_ℤ a.sum)) (le_trans (subst⁻¹ (λ (k : ℕ). nat_abs load + k ≤ 100000000 + 137438953472) (size_neg a.sum) room) (lit≤ tt)));
      }

-- ---- requests of zero
zeros : (k : ℕ) (rs : List ℤ) → each_from k (λ (i : ℕ) (r : ℤ). pos 0) rs ≡ replicate (length rs) (pos 0)
unfolding each_from
zeros k [] = refl
zeros k (r ∷ rs) = ap (λ (t : List ℤ). pos 0 ∷ t) (zeros (suc k) rs)

pub cleared : (rs : List ℤ) → each (λ (i : ℕ) (r : ℤ). pos 0) rs ≡ replicate (length rs) (pos 0)
unfolding each
cleared rs = zeros 0 rs

-- ---- what a study hands on to its passes, and what it has done
module _ (q : Trial) (f : Fleet) (n : ℕ) (h : Trying q f n) where
  pub load_read : back64 q.load ≡ q.load
  load_read = read_sized q.load (lt_of_le_of_lt h.load_small (lit< tt))

  module _ (s : Settings) (es : s ≡ shaving q.settings) (k : ℕ) (ek : k ≡ n) where
    -- a pass on any small measure
    pub pass_sound : (m : ℤ) → nat_abs m ≤ 200000000000 → Sound s (back64 m) f k
    pass_sound m small =
        let em : back64 m ≡ m = read_sized m (lt_of_le_of_lt small (lit< tt)) in
        subst⁻¹ (λ (t : Settings). Sound t (back64 m) f k) es
        (at_measure (shaving q.settings) q.load (back64 m) f k (units_as_lent (shaving q.settings) q.load f n k ek h.sound) (subst⁻¹ (λ (z : ℤ). nat_abs z ≤ 200000000000) em small) (λ c. absurd (passed_failed c refl)))

    -- what is done of the study as the code has it is done of the study that was asked for
    pub asked_for : (after : List ℤ) (r : Studied) → DoneStudy s (back64 q.load) f q.budget k after r → DoneStudy (shaving q.settings) q.load f q.budget n after r
    asked_for after r d =
        subst (λ (t : Settings). DoneStudy t q.load f q.budget n after r) es
        (subst₂ (λ (z : ℤ) (c : ℕ). DoneStudy s z f q.budget c after r) load_read ek d)

-- ---- the loop
module _ (s : Settings) (load : ℤ) (f : Fleet) (budget n : ℕ) where
  -- after `passes` changing passes: what is left of the study gives the whole study's answer
  pub record OnTheWay (rs : List ℤ) (passes : ℕ) : Type 0 where
    pub upto : passes ≤ budget
    pub units : length rs ≡ n
    pub rest : study_from s load f (budget - passes) passes rs ≡ study_of s load f budget n

  pub way_starts : (rs : List ℤ) → rs ≡ replicate n (pos 0) → length rs ≡ n → OnTheWay rs 0
  unfolding study_of
  way_starts rs e h = record {
    upto = omega arith;
    units = h;
    rest = ap₂ (λ (k : ℕ) (l : List ℤ). study_from s load f k 0 l) (no_less budget) e;
  }
    where
      no_less : (k : ℕ) → k - 0 ≡ k
      no_less k = omega arith

  -- the budget is used up
  pub way_ends : (rs : List ℤ) (passes : ℕ) → OnTheWay rs passes → budget ≤ passes → DoneStudy s load f budget n rs (record { settled = false; passes = budget })
  unfolding study_from
  way_ends rs passes w h =
      let none : budget - passes ≡ 0 = omega (arith, w.upto) in
      let is : record { requests = rs; settled = false; changing = passes } ≡ study_of s load f budget n = sym (ap (λ (k : ℕ). study_from s load f k passes rs) none) ∙ w.rest in
      let all : budget ≡ passes = omega (arith, w.upto) in
      record { requests = ap (λ (r : Study). r.requests) is; settled = ap (λ (r : Study). r.settled) is; passes = all ∙ ap (λ (r : Study). r.changing) is }

  module _ (rs : List ℤ) (passes : ℕ) (w : OnTheWay rs passes) (below : passes < budget) (m : ℤ) (em : Measured load rs m) (after : List ℤ) (p : Passed)
      (d : DonePass s m f rs after p) where
    is_study : after ≡ study_pass s load f rs
    unfolding study_pass
    is_study = d.requests ∙ ap (λ (z : ℤ). pass_of s z f rs) em.is

    turn : study_from s load f (suc (budget - suc passes)) passes rs ≡ study_of s load f budget n
    turn = ap (λ (k : ℕ). study_from s load f k passes rs) one_less ∙ w.rest
      where
        one_less : suc (budget - suc passes) ≡ budget - passes
        one_less = omega arith

    flag : p.changed ≡ changed_of rs (study_pass s load f rs)
    flag = d.changed ∙ ap (changed_of rs) is_study

    -- a pass that changes nothing: the study has settled, on the same requests
    pub way_settles : not p.changed ≡ true → DoneStudy s load f budget n after (record { settled = true; passes = passes })
    unfolding study_from
    way_settles t =
        let no : p.changed ≡ false = not-true p.changed t in
        let is : record { requests = rs; settled = true; changing = passes } ≡ study_of s load f budget n =
        sym (ap (λ (b : Bool). cond b (study_from s load f (budget - suc passes) (passes + 1) (study_pass s load f rs)) (record { requests = rs; settled = true; changing = passes })) (sym flag ∙ no)) ∙ turn in
        let same : rs ≡ after = unchanged rs after (ap length d.requests ∙ pass_length s m f rs) (sym d.changed ∙ no) in
        record { requests = sym same ∙ ap (λ (r : Study). r.requests) is; settled = ap (λ (r : Study). r.settled) is; passes = ap (λ (r : Study). r.changing) is }

    -- a pass that changes a request: one more is counted
    pub way_goes_on : not p.changed ≡ false → OnTheWay after (passes + 1)
    unfolding study_from
    way_goes_on t = record {
      upto = omega arith;
      units = ap length d.requests ∙ pass_length s m f rs ∙ w.units;
      rest =
          ap₂ (λ (k : ℕ) (l : List ℤ). study_from s load f k (passes + 1) l) fewer is_study
          ∙ sym (ap (λ (b : Bool). cond b (study_from s load f (budget - suc passes) (passes + 1) (study_pass s load f rs)) (record { requests = rs; settled = true; changing = passes })) (sym flag ∙ not-false p.changed t))
          ∙ turn;
    }
      where
        fewer : budget - (passes + 1) ≡ budget - suc passes
        fewer = omega arith
