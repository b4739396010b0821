-- A reading that a rescue makes missing cannot be used: its field's bytes are there, so the number 6 is its value's, and that of a reading's field that
-- fits the mode is the reading's own. Assumes nothing.
use mathlib.Core.Path.{◌≡◌, refl, sym, ◌∙◌}
use mathlib.Core.Bool.{Bool, true, false, not, cond}
use mathlib.Core.List.{List}
use Prim.Native.Nat.{ℕ, ◌+◌}
use native.Mathlib.Omega.{arith}
use lib.Dec.{leb, eqb}
use borrow.Author.Tests.{eqb-true, eqb-false}
use Rattle.parts.specs.Header.{header, tag_at, length_at}
use Rattle.reading.specs.declared.Reading.{Reading}
use Rattle.reading.specs.declared.Reading.TheVariants.{Missing, Power, Current}
use Rattle.reading.specs.Choice.{refusal_of}
use Rattle.fields.specs.declared.State.{State}
use Rattle.fields.specs.Fields.{closes, kinds, size_in, size_of, stands_in, allowed, head_of, phases_at, value_of, refused_by, state_after, taken_by}
use Rattle.fields.proofs.FieldLaws.{head_held}
use Rattle.fields.proofs.TakenLaws.{stops, goes_on}
use Rattle.stick.specs.Check.{field_at}
use Rattle.stick.specs.Site.{reading_at}
use Rattle.stick.proofs.WalkLaws.{field_goes}
use Rattle.chunks.proofs.ReachChunks.{apart}
use Rattle.rescue.proofs.SaveLaws.{Measured, by_measure, Unread}
use Rattle.std.proofs.Common.{Err}

-- ---- the number of a value whose field may stand and is no step too many
value_six : (late many : Bool) (v : ℕ) → cond late 4 (cond many 12 v) ≡ 6 → v ≡ 6
value_six true many v e = absurd (omega arith)
value_six false true v e = absurd (omega arith)
value_six false false v e = e

-- and of a reading's, where it fits the mode
power_six : (current : Bool) (v : ℕ) → cond current 5 v ≡ 6 → v ≡ 6
power_six true v e = absurd (omega arith)
power_six false v e = e

current_six : (current : Bool) (v : ℕ) → cond current v 5 ≡ 6 → v ≡ 6
current_six true v e = e
current_six false v e = absurd (omega arith)

-- ---- the reading of a field, by its tag
abbrev read_by : List ℕ → ℕ → ℕ → Reading
read_by file at tag = cond (eqb tag 4) (Power (phases_at file (at + header))) (cond (eqb tag 9) (Current (phases_at file (at + header))) Missing)

module _ (st : State) (file : List ℕ) (at : ℕ) where
  abbrev RefusedSo : ℕ → Type 0
  RefusedSo tag = refused_by st tag file (at + header) ≡ 6 → refusal_of (read_by file at tag) ≡ 6

  refused_so : {tag : ℕ} → Measured tag → RefusedSo tag
  unfolding refused_by allowed kinds stands_in value_of
  refused_so m =
      by_measure RefusedSo m
      (λ e. power_six st.current (refusal_of (read_by file at 4)) (value_six (not (closes st)) (leb 65535 st.steps) _ e))
      (λ e. current_six st.current (refusal_of (read_by file at 9)) (value_six (not (closes st)) (leb 65535 st.steps) _ e))

  -- ---- a field whose bytes are there is refused by what its value is
  module _ (f : field_at st file at ≡ Err 6) (u : Unread st file at) where
    abbrev N : ℕ
    N = refused_by st (tag_at file at) file (at + header)

    sized : size_of st (tag_at file at) ≡ 24
    unfolding size_of kinds size_in
    sized = by_measure (λ (t : ℕ). size_of st t ≡ 24) u.tag refl refl

    good_head : 0 ≡ head_of st file at
    good_head =
        let size = u.size in
        let all = u.all in
        let s = sized in
        head_held st file at (omega arith) (tag_at file at) (size_of st (tag_at file at)) refl refl (λ z. omega arith) (length_at file at) refl (omega arith) (omega arith)

    taken : taken_by st (tag_at file at) file (at + header) ≡ Err 6
    taken = field_goes st file at 0 good_head refl ∙ f

    six : (b : Bool) → eqb N 0 ≡ b → N ≡ 6
    six true z =
        absurd (apart (sym (goes_on st (tag_at file at) file (at + header) N refl (eqb-true N 0 z) (state_after st (tag_at file at) file (at + header)) refl)) taken)
    six false z = let e : Err N ≡ Err 6 = stops st (tag_at file at) file (at + header) N refl (eqb-false N 0 z) ∙ taken in cc

    pub lost_six : refusal_of (reading_at file at) ≡ 6
    unfolding reading_at
    lost_six = refused_so u.tag (six (eqb N 0) refl)
