-- From the tests of a study's values to what a study counts on. Assumes nothing.
use mathlib.Core.Path.{◌≡◌, refl, sym, ap, ap₂, ◌∙◌}
use mathlib.Core.Bool.{Bool, true, false, not, ◌&&◌}
use mathlib.Core.List.{List}
use Prim.Native.Nat.{ℕ, ◌^◌, ◌≤◌, ◌<◌}
use native.Mathlib.Nat.{le_trans}
use lib.Dec.{leb, lit≤}
use lib.IntN.{ℤ, pos, negsuc, nat_abs}
use lib.ListN.{length, get_or}
use lib.Signed.{mag, le_z}
use borrow.Author.Tests.{leb-true, not-false}
use mir.Syntax.{w64}
use Rattle.whole.specs.Interval.{between}
use Rattle.whole.specs.Over.{all_of}
use Rattle.whole.proofs.Choice.{passed_failed}
use Rattle.whole.proofs.OverLaws.{and_parts}
use Rattle.whole.proofs.SignLaws.{read}
use Rattle.rules.specs.declared.Settings.{Settings}
use Rattle.rules.specs.Ranges.{settings_in}
use Rattle.members.specs.Ranges.{Fleet, member_at, lengths_in}
use Rattle.rules.proofs.RuleLaws.{back64}
use Rattle.controller.proofs.SoundLaws.{all_members, sound}
use Rattle.settling.specs.declared.Trial.{Trial}
use Rattle.settling.specs.Study.{shaving, trial_in}
use Rattle.settling.specs.Posts.{Trying}

load_small : (z : ℤ) → (le_z (pos 0) z && le_z z (pos 100000000)) ≡ true → nat_abs z ≤ 100000000
load_small (pos n) t = leb-true n 100000000 (and_parts (leb 0 n) (leb n 100000000) t).1
load_small (negsuc n) t = absurd (passed_failed t refl)

-- the code's test of a study's values is the definition's
pub trial_is : (q : Trial) (s : Settings) (a : Bool) → s ≡ shaving q.settings → a ≡ settings_in s → mag q.load < 2 ^ 63
    → (a && (le_z (pos 0) (back64 q.load) && le_z (back64 q.load) (pos 100000000)) && between 1 10000 q.budget) ≡ trial_in q
unfolding trial_in
trial_is q s a es ea h =
    ap₂ (λ (x : Bool) (z : ℤ). x && (le_z (pos 0) z && le_z z (pos 100000000)) && between 1 10000 q.budget) (ea ∙ ap settings_in es) (read w64 q.load h)

-- the values of a study, from what the code's tests gave
module _ (q : Trial) (f : Fleet) where
  pub values_are : (rs : List ℤ) → lengths_in f (length rs) ≡ true → (a c : Bool) → a ≡ trial_in q → c ≡ all_of (length f.rated) (member_at f)
      → (a && c) ≡ (trial_in q && all_of (length rs) (member_at f))
  values_are rs tl a c ea ec = ap₂ ◌&&◌ ea (all_members f (length rs) tl c ec)

  -- they are enough for a study
  pub trying : length f.link ≡ length f.rated → ((i : ℕ) → get_or f.link i 0 ≤ 120000) → (n : ℕ) → lengths_in f n ≡ true
      → (fine : Bool) → fine ≡ (trial_in q && all_of n (member_at f)) → not fine ≡ false → Trying q f n
  unfolding trial_in
  trying el links n tl fine ef t =
      let u = and_parts (trial_in q) (all_of n (member_at f)) (sym ef ∙ not-false fine t) in
      let v = and_parts (settings_in (shaving q.settings) && (le_z (pos 0) q.load && le_z q.load (pos 100000000))) (between 1 10000 q.budget) u.0 in
      let w = and_parts (settings_in (shaving q.settings)) (le_z (pos 0) q.load && le_z q.load (pos 100000000)) v.0 in
      let small = load_small q.load w.1 in
      record { sound = sound (shaving q.settings) q.load f n tl el w.0 (le_trans small (lit≤ tt)) (λ c. le_trans small (lit≤ tt)) u.1 (λ i h. links i); load_small = small }
