-- What holds of every verdict on an accepted run file: our result is made of its fields one behind the other, so a walk along them that finds each in its place
-- has passed the same bytes on both sides; it stops at the first that does not stand there, or behind the last. Assumes nothing.
use mathlib.Core.Path.{◌≡◌, refl, sym, ap, ap₂, ◌∙◌, subst⁻¹}
use mathlib.Core.Bool.{Bool, true, false, cond}
use mathlib.Core.List.{List, [], ◌∷◌, ◌++◌}
use Prim.Native.Nat.{ℕ, ◌+◌, ◌-◌, ◌≤◌, ◌<◌, min}
use native.Mathlib.Omega.{arith}
use lib.Dec.{eqb}
use lib.ListN.{length, take, drop, length-append, length-take, length-drop}
use lib.Seq.{take_all, take_at, drop_at, take-add, drop-drop, append_snoc}
use borrow.Author.Tests.{eqb-true, eqb-false}
use Rattle.stick.specs.Check.{Accepted}
use Rattle.season.specs.Run.{result_of}
use Rattle.partner.specs.declared.Verdict.{Verdict}
use Rattle.partner.specs.Verdict.{Field, fields_of, right, their_bytes, our_field, same, verdict_from, verdict_of}
use Rattle.partner.specs.Holds.{bytes_before, FieldOf, Wrong, differs, lacks, exceeds, VerdictTheorem}
use Rattle.partner.specs.Posts.{wrong_at}
use Rattle.partner.proofs.AlikeLaws.{same_true, same_false}
use Rattle.partner.proofs.PlacesLaws.{verdict_wrong, verdict_next, verdict_over}
use Rattle.partner.proofs.MadeLaws.{One, Made, none, more, made_long, made_says, made}

-- a field more before
before_more : (before : List Field) (w : Field) → bytes_before (before ++ (w ∷ [])) ≡ bytes_before before + w.size
unfolding bytes_before
before_more [] w = omega arith
before_more (v ∷ before) w = let e = before_more before w in omega arith

-- no verdict 1 or 2 is verdict 0
no_one : ◌≡◌ {A = ℕ} 1 0 → ⊥
no_one e = omega arith

no_two : ◌≡◌ {A = ℕ} 2 0 → ⊥
no_two e = omega arith

module _ (run result : List ℕ) where
  abbrev ours : List ℕ
  ours = result_of run

  -- what a verdict shows
  data Judged : Verdict → Type 0 where
    rightly_so : result ≡ ours → Judged right
    not_so : {v : Verdict} → (v.number ≡ 0 → ⊥) → (result ≡ ours → ⊥) → Wrong run result v → Judged v

  -- the fields before a place stand there on both sides
  record Along (before : List Field) (bs : List ℕ) : Type 0 where
    pub upto : bytes_before before ≤ length result
    pub within : bytes_before before ≤ length ours
    pub alike : take (bytes_before before) result ≡ take (bytes_before before) ours
    pub rest : drop (bytes_before before) ours ≡ bs

  -- behind the last of ours
  module _ (before : List Field) (a : Along before []) where
    abbrev n : ℕ
    n = bytes_before before

    all_passed : n ≡ length ours
    all_passed = let d = length-drop n ours in let e = ap length a.rest in let h = a.within in omega arith

    same_then : take n result ≡ ours
    same_then = a.alike ∙ take_all n ours (omega (arith, all_passed))

    judged_last : (b : Bool) → eqb (length result - n) 0 ≡ b → Judged (cond b right (their_bytes n (length result - n)))
    judged_last true t = let z = eqb-true (length result - n) 0 t in rightly_so (sym (take_all n result (omega arith)) ∙ same_then)
    judged_last false f =
        let u = eqb-false (length result - n) 0 f in
        let e = all_passed in
        let more-there : n < length result = omega arith in
        not_so no_one (λ s. let l = ap length s in omega arith)
        (subst⁻¹ (λ (k : ℕ). Wrong run result (their_bytes k (length result - k))) e (exceeds (omega arith) (ap (λ (k : ℕ). take k result) (sym e) ∙ same_then)))

  -- at one of ours
  module _ (before : List Field) (w : Field) (behind : List Field) (f : FieldOf run before w behind) (b bs : List ℕ) (o : One w.size b) (a : Along before (b ++ bs)) where
    abbrev m : ℕ
    m = bytes_before before

    here : take w.size (drop m ours) ≡ b
    here = ap (take w.size) a.rest ∙ take_at b bs w.size o.long

    -- it stands there
    onward : take w.size (drop m result) ≡ b → Along (before ++ (w ∷ [])) bs
    onward e =
        let k = before_more before w in
        let long = o.long in
        let u = a.upto in
        let v = a.within in
        let lt = length-take w.size (drop m result) in
        let ld = length-drop m result in
        let le = ap length e in
        let lo = length-drop m ours in
        let lr = ap length a.rest ∙ length-append b bs in
        record {
          upto = omega arith;
          within = omega arith;
          alike =
              ap (λ (i : ℕ). take i result) k ∙ take-add m w.size result ∙ ap₂ ◌++◌ a.alike (e ∙ sym here)
              ∙ sym (ap (λ (i : ℕ). take i ours) k ∙ take-add m w.size ours);
          rest = ap (λ (i : ℕ). drop i ours) k ∙ sym (drop-drop w.size m ours) ∙ ap (drop w.size) a.rest ∙ drop_at b bs w.size o.long;
        }

    -- other bytes stand there, or none
    judged_here : (take w.size (drop m result) ≡ take w.size (drop m ours) → ⊥) → Judged (wrong_at run w.place (length result) m w.size)
    unfolding wrong_at our_field
    judged_here other = go (eqb (min w.size (length result - m)) 0) refl
      where
        unlike : result ≡ ours → ⊥
        unlike s = other (ap (λ (l : List ℕ). take w.size (drop m l)) s)

        go : (c : Bool) → eqb (min w.size (length result - m)) 0 ≡ c → Judged (cond c (our_field run w.place) (their_bytes m (min w.size (length result - m))))
        go true t =
            let z = eqb-true (min w.size (length result - m)) 0 t in
            let u = a.upto in
            let s = o.says in
            let e : length result ≡ m = omega arith in
            not_so no_two unlike (lacks before w behind f (sym (take_all m result (omega arith)) ∙ a.alike) e)
        go false t =
            let z = eqb-false (min w.size (length result - m)) 0 t in
            let l : m < length result = omega arith in
            not_so no_one unlike (differs before w behind f a.alike other l)

    -- so it is judged by its own bytes, or by those behind it
    abbrev next : ℕ
    next = bytes_before (before ++ (w ∷ []))

    further : verdict_from run behind (drop w.size (b ++ bs)) (drop w.size (drop m result)) (m + w.size) ≡ verdict_from run behind bs (drop next result) next
    further =
        ap₂ (λ (xs ys : List ℕ). verdict_from run behind xs ys (m + w.size)) (drop_at b bs w.size o.long) (drop-drop w.size m result)
        ∙ ap (λ (i : ℕ). verdict_from run behind bs (drop i result) i) (sym (before_more before w))

    judged_field : (c : Bool) → same (take w.size (b ++ bs)) (take w.size (drop m result)) ≡ c
        → (Along (before ++ (w ∷ [])) bs → Judged (verdict_from run behind bs (drop next result) next)) → Judged (verdict_from run (w ∷ behind) (b ++ bs) (drop m result) m)
    judged_field true t rest =
        let e : take w.size (drop m result) ≡ b = sym (same_true (take w.size (b ++ bs)) (take w.size (drop m result)) t) ∙ take_at b bs w.size o.long in
        subst⁻¹ Judged (verdict_next run w behind (b ++ bs) (drop m result) m t ∙ further) (rest (onward e))
    judged_field false t rest =
        subst⁻¹ Judged (verdict_wrong run w behind (b ++ bs) result m t)
        (judged_here (λ e. same_false (take w.size (b ++ bs)) (take w.size (drop m result)) t (ap (take w.size) (sym a.rest) ∙ sym e)))

  judged : {ws : List Field} {bs : List ℕ} → Made ws bs → (before : List Field) → before ++ ws ≡ fields_of run → Along before bs
      → Judged (verdict_from run ws bs (drop (bytes_before before) result) (bytes_before before))
  judged none before f a =
      subst⁻¹ Judged (verdict_over run [] result (bytes_before before)) (judged_last before a (eqb (length result - bytes_before before) 0) refl)
  judged (more {w} {ws} {b} {bs} o r) before f a =
      judged_field before w ws (record { among = f }) b bs o a (same (take w.size (b ++ bs)) (take w.size (drop (bytes_before before) result))) refl
      (λ x. judged r (before ++ (w ∷ [])) (append_snoc before w ws ∙ f) x)

  -- what it says of the bytes, whatever it is
  right_of : (v : Verdict) → Judged v → v.number ≡ 0 → result ≡ ours
  right_of v (rightly_so e) z = e
  right_of v (not_so u d w) z = absurd (u z)

  is_right : (v : Verdict) → Judged v → result ≡ ours → v ≡ right
  is_right v (rightly_so e) s = refl
  is_right v (not_so u d w) s = absurd (d s)

  wrong_of : (v : Verdict) → Judged v → (result ≡ ours → ⊥) → Wrong run result v
  wrong_of v (rightly_so e) d = absurd (d e)
  wrong_of v (not_so u d w) s = w

  judged_all : Accepted run → Judged (verdict_of run result)
  unfolding verdict_of bytes_before
  judged_all z = judged (made run z) [] refl (record { upto = omega arith; within = omega arith; alike = refl; rest = refl })

pub verdict_law : VerdictTheorem
verdict_law run result z =
    let j = judged_all run result z in
    let v = verdict_of run result in
    record {
      rightly = right_of run result v j;
      always = is_right run result v j;
      wrongly = wrong_of run result v j;
      whole = made_long (made run z);
      fields = λ before w behind f. made_says (made run z) before w behind f.among;
    }
