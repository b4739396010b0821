-- The number with which the fields of a chunk stop is at most 9, or 12. Assumes nothing.
use mathlib.Core.Path.{◌≡◌, refl, sym, ◌∙◌, subst}
use mathlib.Core.Logic.{◌⊎◌, inl, inr}
use mathlib.Core.Bool.{Bool, true, false, not, ◌&&◌}
use mathlib.Core.List.{List, ◌++◌}
use Prim.Native.Nat.{ℕ, ◌+◌, ◌-◌, ◌≤◌}
use native.Mathlib.Omega.{arith}
use lib.Dec.{leb, ltb, eqb}
use lib.ListN.{length}
use borrow.Author.Tests.{eqb-true, eqb-false}
use Rattle.whole.proofs.Choice.{by_test}
use Rattle.octets.specs.BigEndian.{be}
use Rattle.reading.specs.Choice.{usable_of, refusal_of}
use Rattle.reading.specs.Conversion.{watts_of, milli_of}
use Rattle.curve.specs.Layout.{curve_in}
use Rattle.lead.specs.Lead.{voltage_in}
use Rattle.rules.specs.Ranges.{settings_in}
use Rattle.unit.specs.Ranges.{unit_in}
use Rattle.solar.specs.Roof.{inverter_in}
use Rattle.solar.specs.Weather.{sky_of}
use Rattle.parts.specs.Header.{header, tag_at, length_at}
use Rattle.fields.specs.declared.State.{State}
use Rattle.fields.specs.Fields.{size_of, head_of, allowed, fleet_in, unit_at, settings_at, phase_at, phases_at, inverter_at, bounds_at, weather_at, six_unless, five_unless, connections_in, base_in, value_of, too_many, refused_by, state_after, taken_by}
use Rattle.fields.proofs.TakenLaws.{stops, goes_on}
use Rattle.stick.specs.declared.Reached.{Reached}
use Rattle.stick.specs.Check.{field_at}
use Rattle.stick.proofs.WalkLaws.{field_stops, field_goes}
use Rattle.chunks.proofs.ReachChunks.{Ending, all_gone, after_end, refused, far_gone}
use Rattle.kept.specs.Kept.{Kept}
use Rattle.taking.specs.Chunk.{gone_by}
use Rattle.std.proofs.Common.{Err, None, Option, Result, Some, ℤ}
use Rattle.solar.specs.declared.Sun.{Sun}

-- ---- the number of a refusal, or none
abbrev pub Numbered : ℕ → Type 0
Numbered n = (n ≤ 9) ⊎ (n ≡ 12)

abbrev Few : ℕ → Type 0
Few n = n ≤ 7

five_few : (b : Bool) → Few (five_unless b)
five_few true = omega arith
five_few false = omega arith

six_few : (s : Option Sun) → Few (six_unless s)
six_few (Some s) = omega arith
six_few None = omega arith

usable_few : (a b c : Option ℤ) → Few (usable_of a b c)
usable_few None b c = omega arith
usable_few (Some a) None c = omega arith
usable_few (Some a) (Some b) None = omega arith
usable_few (Some a) (Some b) (Some c) = omega arith

module _ (st : State) (tag : ℕ) (file : List ℕ) (at : ℕ) where
  value_few : Few (value_of st tag file at)
  unfolding value_of refusal_of
  value_few =
      by_test Few (eqb tag 1) _ _ (λ t. five_few (fleet_in file at))
      (λ t. by_test Few (eqb tag 2) _ _ (λ t. five_few (unit_in (unit_at st.edition file at)))
      (λ t. by_test Few (eqb tag 3) _ _ (λ t. five_few (settings_in (settings_at file at) && leb (phase_at file at) 5))
      (λ t. by_test Few (eqb tag 4) _ _
      (λ t. by_test Few st.current _ _ (λ t. omega arith) (λ t. usable_few (watts_of (phases_at file at).first) (watts_of (phases_at file at).second) (watts_of (phases_at file at).third)))
      (λ t. by_test Few (eqb tag 5) _ _ (λ t. omega arith)
      (λ t. by_test Few (eqb tag 6) _ _ (λ t. five_few (inverter_in (inverter_at file at)))
      (λ t. by_test Few (eqb tag 7) _ _ (λ t. five_few (curve_in (bounds_at st.stage) file at))
      (λ t. by_test Few (eqb tag 8) _ _ (λ t. six_few (sky_of (weather_at file at)))
      (λ t. by_test Few (eqb tag 9) _ _
      (λ t. by_test Few st.current _ _ (λ t. usable_few (milli_of (phases_at file at).first) (milli_of (phases_at file at).second) (milli_of (phases_at file at).third)) (λ t. omega arith))
      (λ t. by_test Few (eqb tag 10) _ _ (λ t. five_few (connections_in st.units file at))
      (λ t. by_test Few (eqb tag 11) _ _ (λ t. five_few (base_in (be 1 file at)))
      (λ t. by_test Few (eqb tag 12) _ _ (λ t. five_few (voltage_in (be 2 file at)))
      (λ t. by_test Few (eqb (be 4 file at) st.steps) 0 7 (λ t. omega arith) (λ t. omega arith)))))))))))))

  refused_numbered : Numbered (refused_by st tag file at)
  unfolding refused_by
  refused_numbered =
      by_test Numbered (not (allowed st tag)) _ _ (λ t. inl (omega arith))
      (λ t. by_test Numbered (too_many st tag) _ _ (λ t. inr refl) (λ t. let few = value_few in inl (omega arith)))

head_few : (st : State) (file : List ℕ) (at : ℕ) → head_of st file at ≤ 9
unfolding head_of
head_few st file at =
    let P : ℕ → Type 0 = λ n. n ≤ 9 in
    by_test P (ltb (length file - at) header) _ _ (λ t. omega arith)
    (λ t. by_test P (eqb (size_of st (tag_at file at)) 65536) _ _ (λ t. omega arith)
    (λ t. by_test P (not (eqb (length_at file at) (size_of st (tag_at file at)))) _ _ (λ t. omega arith)
    (λ t. by_test P (ltb (length file - at - header) (length_at file at)) 1 0 (λ t. omega arith) (λ t. omega arith))))

-- ---- a field that stops
same_number : {t : Result State ℕ} {m n : ℕ} → t ≡ Err m → t ≡ Err n → m ≡ n
same_number {t} {m} {n} a b = cc

stop_numbered : (st : State) (file : List ℕ) (at n : ℕ) → field_at st file at ≡ Err n → Numbered n
stop_numbered st file at n e = go (eqb (head_of st file at) 0) refl
  where
    N : ℕ
    N = refused_by st (tag_at file at) file (at + header)

    value : (b : Bool) → eqb N 0 ≡ b → taken_by st (tag_at file at) file (at + header) ≡ Err n → Numbered n
    value true z f =
        let g = goes_on st (tag_at file at) file (at + header) N refl (eqb-true N 0 z) (state_after st (tag_at file at) file (at + header)) refl in
        let q : ◌≡◌ {A = ℕ} 0 1 = cc in
        absurd (omega arith)
    value false z f =
        subst Numbered (same_number (sym (stops st (tag_at file at) file (at + header) N refl (eqb-false N 0 z))) f) (refused_numbered st (tag_at file at) file (at + header))

    go : (b : Bool) → eqb (head_of st file at) 0 ≡ b → Numbered n
    go true z = value (eqb N 0) refl (field_goes st file at (head_of st file at) refl z ∙ e)
    go false z = subst Numbered (same_number (sym (field_stops st file at (head_of st file at) refl z)) e) (inl (head_few st file at))

-- ---- a chunk
pub stop_number : (k : Kept) (c : List ℕ) → ((gone_by k c).number ≤ 9) ⊎ ((gone_by k c).number ≡ 12)
unfolding gone_by
stop_number k c = go (gone_by k c) (far_gone (k.tail ++ c) k.state 0 (omega arith)).ending
  where
    go : (r : Reached) → Ending (k.tail ++ c) r → Numbered r.number
    go r (all_gone n e) = inl (omega arith)
    go r (after_end n l b) = inl (omega arith)
    go r (refused l b f) = stop_numbered r.state (k.tail ++ c) r.at r.number f
