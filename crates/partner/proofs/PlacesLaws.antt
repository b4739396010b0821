-- The field in which a byte of a step's records lies, what is shown for a field of ours, and what is said at the end record: each by the test that the definition
-- makes. Assumes nothing.
use mathlib.Core.Path.{◌≡◌, sym, ap, ◌∙◌}
use mathlib.Core.Bool.{Bool, true, false, cond}
use mathlib.Core.List.{List, [], ◌∷◌, ◌++◌, append-nil}
use Prim.Native.Nat.{ℕ, ◌+◌, ◌-◌, ◌*◌, ◌/◌, ◌≤◌, ◌<◌, min}
use native.Mathlib.Omega.{arith}
use lib.Dec.{eqb}
use lib.ListN.{length, take, drop, length-take, length-drop, drop_of_length-le}
use lib.Seq.{take_all, drop-drop}
use borrow.Author.Tests.{lt-ltb, le-ltb, eq-eqb, ne_eqb}
use Rattle.octets.specs.BigEndian.{be, laid}
use Rattle.records.specs.Records.{end_of}
use Rattle.records.proofs.LayLaws.{end_length}
use Rattle.partner.specs.declared.Verdict.{Verdict}
use Rattle.partner.specs.Verdict.{Field, asked_by, verdict, right, their_bytes, our_field, same, verdict_from}
use Rattle.partner.specs.Posts.{alike_of, field_start, field_size, wrong_at}
use Rattle.partner.proofs.AlikeLaws.{alike_few, alike_full, alike_less}

-- ---- the field in which byte d lies
module _ (units d : ℕ) where
  -- among those of the units
  module _ (h : d < 40 * units) where
    pub unit_start : d / 40 * 40 ≡ field_start units d
    unfolding field_start
    unit_start = sym (ap (λ (b : Bool). cond b (d / 40 * 40) (40 * units + (d - 40 * units) / 29 * 29)) (lt-ltb d (40 * units) h))

    pub unit_size_lem : 40 ≡ field_size units d
    unfolding field_size
    unit_size_lem = sym (ap (λ (b : Bool). cond b 40 29) (lt-ltb d (40 * units) h))

  -- among those of the inverters
  module _ (h : 40 * units ≤ d) where
    pub roof_start : 40 * units + (d - 40 * units) / 29 * 29 ≡ field_start units d
    unfolding field_start
    roof_start = sym (ap (λ (b : Bool). cond b (d / 40 * 40) (40 * units + (d - 40 * units) / 29 * 29)) (le-ltb d (40 * units) h))

    pub roof_size : 29 ≡ field_size units d
    unfolding field_size
    roof_size = sym (ap (λ (b : Bool). cond b 40 29) (le-ltb d (40 * units) h))

-- ---- what is shown for a field of ours, with so many bytes in its place
module _ (run : List ℕ) (place len start size there : ℕ) (e : there ≡ min size (len - start)) where
  shown : Bool → Verdict
  shown b = cond b (our_field run place) (their_bytes start (min size (len - start)))

  pub none_there : there ≡ 0 → (length : ℕ) → length ≡ be 2 run (place + 1) → verdict 2 place (3 + length) ≡ wrong_at run place len start size
  unfolding wrong_at our_field shown
  none_there z l d = ap (λ (n : ℕ). verdict 2 place (3 + n)) d ∙ sym (ap shown (eq-eqb (min size (len - start)) 0 (sym e ∙ z)))

  pub some_there : (there ≡ 0 → ⊥) → verdict 1 start there ≡ wrong_at run place len start size
  unfolding wrong_at our_field shown
  some_there n = ap (verdict 1 start) e ∙ sym (ap shown (ne_eqb (min size (len - start)) 0 (λ z. n (e ∙ z))))

-- ---- one field of ours, by whether it stands there
module _ (run : List ℕ) (w : Field) (ws : List Field) (ours theirs : List ℕ) (at : ℕ) where
  abbrev chosen : Bool → Verdict
  chosen b =
      let there = take w.size theirs in
      let further = verdict_from run ws (drop w.size ours) (drop w.size theirs) (at + w.size) in
      cond b further (cond (eqb (length there) 0) (our_field run w.place) (their_bytes at (length there)))

  by_test : (b : Bool) → same (take w.size ours) (take w.size theirs) ≡ b → verdict_from run (w ∷ ws) ours theirs at ≡ chosen b
  unfolding verdict_from
  by_test b t = ap chosen t

-- other bytes, or none
pub verdict_wrong : (run : List ℕ) (w : Field) (ws : List Field) (ours result : List ℕ) (at : ℕ) → same (take w.size ours) (take w.size (drop at result)) ≡ false
    → verdict_from run (w ∷ ws) ours (drop at result) at ≡ wrong_at run w.place (length result) at w.size
unfolding wrong_at
verdict_wrong run w ws ours result at f =
    let long : length (take w.size (drop at result)) ≡ min w.size (length result - at) = length-take w.size (drop at result) ∙ ap (min w.size) (length-drop at result) in
    by_test run w ws ours (drop at result) at false f ∙ ap (λ (n : ℕ). cond (eqb n 0) (our_field run w.place) (their_bytes at n)) long

-- the same bytes
pub verdict_next : (run : List ℕ) (w : Field) (ws : List Field) (ours theirs : List ℕ) (at : ℕ) → same (take w.size ours) (take w.size theirs) ≡ true
    → verdict_from run (w ∷ ws) ours theirs at ≡ verdict_from run ws (drop w.size ours) (drop w.size theirs) (at + w.size)
verdict_next run w ws ours theirs at t = by_test run w ws ours theirs at true t

-- behind all fields of ours
pub verdict_over : (run ours result : List ℕ) (at : ℕ)
    → verdict_from run [] ours (drop at result) at ≡ cond (eqb (length result - at) 0) right (their_bytes at (length result - at))
unfolding verdict_from
verdict_over run ours result at = ap (λ (n : ℕ). cond (eqb n 0) right (their_bytes at n)) (length-drop at result)

-- ---- the end record, laid in a room of its own
module _ (steps : ℕ) where
  end_full : take 7 (end_of steps) ≡ end_of steps
  end_full = take_all 7 (end_of steps) (omega (arith, end_length steps))

  pub room_is : (room last : List ℕ) → length room ≡ 7 → last ≡ laid room 0 (end_of steps) → last ++ [] ≡ end_of steps
  unfolding laid
  room_is room last l e =
      let d : drop (0 + length (end_of steps)) room ≡ [] = drop_of_length-le room {i = 0 + length (end_of steps)} (omega (arith, end_length steps)) in
      append-nil last ∙ e ∙ ap (λ (xs : List ℕ). end_of steps ++ xs) d ∙ append-nil (end_of steps)

  pub room_long : (room : List ℕ) → room ≡ end_of steps → 7 ≤ length room
  room_long room e = omega (arith, ap length e, end_length steps)

  pub room_alike : (room ys : List ℕ) (d : ℕ) → room ≡ end_of steps → d ≡ alike_of (take 7 (take 7 room)) ys → d ≡ alike_of (take 7 (end_of steps)) ys
  room_alike room ys d e q = q ∙ ap (λ (xs : List ℕ). alike_of (take 7 xs) ys) (ap (take 7) e ∙ end_full)

-- ---- and so many bytes of it stand there
module _ (run : List ℕ) (place : ℕ) (result : List ℕ) (out steps d : ℕ) (e : d ≡ alike_of (take 7 (end_of steps)) (drop out result)) where
  abbrev said : Verdict
  said = verdict_from run (asked_by place 7 ∷ []) (end_of steps) (drop out result) out

  long : length (take 7 (end_of steps)) ≡ 7
  long = ap length (end_full steps) ∙ end_length steps

  pub end_wrong : d < 7 → wrong_at run place (length result) out 7 ≡ said
  end_wrong l = sym (verdict_wrong run (asked_by place 7) [] (end_of steps) result out (alike_less (take 7 (end_of steps)) (drop out result) 7 long (omega arith)))

  module _ (l : 7 ≤ d) where
    pub end_there : out + 7 ≤ length result
    end_there = let f = alike_few (take 7 (end_of steps)) (drop out result) in let n = length-drop out result in omega arith

    behind : said ≡ cond (eqb (length result - (out + 7)) 0) right (their_bytes (out + 7) (length result - (out + 7)))
    behind =
        verdict_next run (asked_by place 7) [] (end_of steps) (drop out result) out (alike_full (take 7 (end_of steps)) (drop out result) 7 long (omega arith))
        ∙ ap (λ (ys : List ℕ). verdict_from run [] (drop 7 (end_of steps)) ys (out + 7)) (drop-drop 7 out result)
        ∙ verdict_over run (drop 7 (end_of steps)) result (out + 7)

    pub end_last : length result ≡ out + 7 → right ≡ said
    end_last z =
        sym (behind ∙ ap (λ (b : Bool). cond b right (their_bytes (out + 7) (length result - (out + 7)))) (eq-eqb (length result - (out + 7)) 0 (omega arith)))

    pub end_more : (length result ≡ out + 7 → ⊥) → their_bytes (out + 7) (length result - (out + 7)) ≡ said
    end_more n =
        let t = end_there in
        sym (behind ∙ ap (λ (b : Bool). cond b right (their_bytes (out + 7) (length result - (out + 7)))) (ne_eqb (length result - (out + 7)) 0 (λ z. n (omega arith))))
