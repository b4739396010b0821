-- How many bytes whole fields have by the steps that they close: 3 to 51 each, beside the fields before the steps, the weather or the voltage of a step under
-- way and the end field. So the place fits after them. Assumes nothing.
use mathlib.Core.Path.{◌≡◌, refl, ap, ap₂, ◌∙◌, subst⁻¹}
use mathlib.Core.Bool.{Bool, true, false, cond, ◌&&◌, ◌||◌}
use mathlib.Core.List.{List, [], ◌++◌, append-nil}
use Prim.Native.Nat.{ℕ, ◌+◌, ◌-◌, ◌*◌, ◌≤◌}
use native.Mathlib.Omega.{arith}
use lib.Dec.{leb, eqb, lit≤}
use lib.ListN.{length, take, length-append}
use lib.Seq.{length-take-le}
use borrow.Author.Tests.{leb-true, le-leb, eqb-true}
use Rattle.whole.proofs.Choice.{passed_failed}
use Rattle.whole.proofs.OverLaws.{and_parts}
use Rattle.fields.specs.declared.State.{State}
use Rattle.fields.specs.Fields.{begins, charged, closes}
use Rattle.kept.specs.Kept.{Kept, begun_at, begun}
use Rattle.kept.specs.Layout.{place_most}
use Rattle.kept.specs.Formed.{beside, place_fits}
use Rattle.kept.specs.Posts.{WellKept}
use Rattle.taking.specs.Chunk.{closing, head_in, site_after}
use Rattle.taking.specs.Posts.{Leads}
use Rattle.taking.proofs.TookLaws.{by_begins, by_charged, by_closes}
use Rattle.taking.proofs.LeadLaws.{parts, stays_begun, no_head, all_head, no_count_yet}
use Rattle.taking.proofs.TwiceLaws.{site_by_lem}
use Rattle.taking.proofs.ChainLaws.{Chain, done, read, lit, said, ended, chained}

-- ---- the weather or the voltage of a step under way, or the end field, by the stage; and a weather that may have come before the voltage
abbrev pub extra : ℕ → ℕ
extra n = cond (eqb n 8) 19 0 + cond (eqb n 11) 5 0 + cond (eqb n 0) 7 0

abbrev pub perhaps : ℕ → ℕ
perhaps n = cond (eqb n 11) 19 0

extra_begins : (st : State) → begins st ≡ true → extra st.stage + perhaps st.stage ≡ 0
extra_begins st b = by_begins (λ (n : ℕ) (c : Bool). extra n + perhaps n ≡ 0) st b (λ c. refl) (λ c. refl) refl (λ c. refl)

extra_charged : (st : State) → charged st ≡ true → extra st.stage + perhaps st.stage ≤ 19
extra_charged st c = by_charged (λ (n : ℕ) (c : Bool). extra n + perhaps n ≤ 19) st c (λ c. lit≤ tt) (λ c. lit≤ tt) (lit≤ tt) (λ c. lit≤ tt) (λ c. lit≤ tt)

extra_closes : (st : State) → closes st ≡ true → extra st.stage + perhaps st.stage ≤ 24
extra_closes st c =
    by_closes (λ (n : ℕ) (c : Bool). extra n + perhaps n ≤ 24) st c (λ c. lit≤ tt) (λ c. lit≤ tt) (lit≤ tt) (λ c. lit≤ tt) (λ c. lit≤ tt) (λ c. lit≤ tt)

pub extra_before : (n : ℕ) → begun_at n ≡ false → extra n + perhaps n ≡ 0
extra_before n = go (eqb n 0) (eqb n 4) (eqb n 8) (eqb n 11)
  where
    go : (x y z u : Bool) → (x || y || z || u) ≡ false → ◌≡◌ {A = ℕ} (cond z 19 0 + cond u 5 0 + cond x 7 0 + cond u 19 0) 0
    go true y z u b = absurd (passed_failed refl b)
    go false true z u b = absurd (passed_failed refl b)
    go false false true u b = absurd (passed_failed refl b)
    go false false false true b = absurd (passed_failed refl b)
    go false false false false b = refl

pub extra_most : (n : ℕ) → extra n + perhaps n ≤ 24
extra_most n = go (eqb n 0) (eqb n 8) refl refl
  where
    go : (x y : Bool) → eqb n 0 ≡ x → eqb n 8 ≡ y → extra n + perhaps n ≤ 24
    go true y ex ey = let z : extra n + perhaps n ≡ 7 = ap (λ (m : ℕ). extra m + perhaps m) (eqb-true n 0 ex) in omega arith
    go false true ex ey = let z : extra n + perhaps n ≡ 19 = ap (λ (m : ℕ). extra m + perhaps m) (eqb-true n 8 ey) in omega arith
    go false false ex ey =
        let z : ◌≡◌ {A = ℕ} (cond (eqb n 0) 7 0) 0 = ap (λ (b : Bool). cond b 7 0) ex in
        let y : ◌≡◌ {A = ℕ} (cond (eqb n 8) 19 0) 0 = ap (λ (b : Bool). cond b 19 0) ey in
        let u : cond (eqb n 11) 5 0 + cond (eqb n 11) 19 0 ≤ 24 = upto (eqb n 11) in
        omega arith
      where
        upto : (b : Bool) → cond b 5 0 + cond b 19 0 ≤ 24
        upto true = lit≤ tt
        upto false = lit≤ tt

-- ---- the bytes of fields of the steps
record Span (file : List ℕ) (next st : State) (i : ℕ) : Type 0 where
  least : i + extra next.stage + 3 * next.steps ≤ length file + extra st.stage + 3 * st.steps
  most : length file + extra st.stage + perhaps st.stage + 51 * st.steps ≤ i + extra next.stage + perhaps next.stage + 51 * next.steps

span : (file : List ℕ) {next st : State} {i : ℕ} → Chain file next st i → Span file next st i
span file {next} {st} {i} (done e f) =
    let a : extra st.stage ≡ extra next.stage = ap (λ (s : State). extra s.stage) e in
    let p : perhaps st.stage ≡ perhaps next.stage = ap (λ (s : State). perhaps s.stage) e in
    let b : st.steps ≡ next.steps = ap (λ (s : State). s.steps) e in
    record { least = omega arith; most = omega arith }
span file {next} {st} {i} (read m l t c lo hi is more) =
    let r = span file more in
    let a : extra m.stage ≡ 0 = ap (λ (s : State). extra s.stage) is in
    let p : perhaps m.stage ≡ 0 = ap (λ (s : State). perhaps s.stage) is in
    let b : m.steps ≡ st.steps + 1 = ap (λ (s : State). s.steps) is in
    let x = extra_closes st c in
    let u = r.least in
    let v = r.most in
    record { least = omega arith; most = omega arith }
span file {next} {st} {i} (lit m l t c p is more) =
    let r = span file more in
    let a : extra m.stage ≡ 19 = ap (λ (s : State). extra s.stage) is in
    let q : perhaps m.stage ≡ 0 = ap (λ (s : State). perhaps s.stage) is in
    let b : m.steps ≡ st.steps = ap (λ (s : State). s.steps) is in
    let x = extra_begins st c in
    let u = r.least in
    let v = r.most in
    record { least = omega arith; most = omega arith }
span file {next} {st} {i} (said m l t c p w is more) =
    let r = span file more in
    let a : extra m.stage ≡ 5 = ap (λ (s : State). extra s.stage) is in
    let q : perhaps m.stage ≡ 19 = ap (λ (s : State). perhaps s.stage) is in
    let b : m.steps ≡ st.steps = ap (λ (s : State). s.steps) is in
    let x = extra_charged st c in
    let u = r.least in
    let v = r.most in
    record { least = omega arith; most = omega arith }
span file {next} {st} {i} (ended m l t c p is more) =
    let r = span file more in
    let a : extra m.stage ≡ 7 = ap (λ (s : State). extra s.stage) is in
    let q : perhaps m.stage ≡ 0 = ap (λ (s : State). perhaps s.stage) is in
    let b : m.steps ≡ st.steps = ap (λ (s : State). s.steps) is in
    let x = extra_begins st c in
    let u = r.least in
    let v = r.most in
    record { least = omega arith; most = omega arith }

-- ---- the place, as two bounds
module _ (place stage steps site tail : ℕ) where
  besides : (b : Bool) → begun_at stage ≡ b → beside stage site tail ≡ site - cond b 7 0 + extra stage + tail
  unfolding beside
  besides b e = let z : ◌≡◌ {A = ℕ} (cond (begun_at stage) 7 0) (cond b 7 0) = ap (λ (b : Bool). cond b 7 0) e in omega arith

  pub place_parts : (b : Bool) → begun_at stage ≡ b → place_fits place stage steps site tail ≡ true
      → (site - cond b 7 0 + extra stage + tail + 3 * steps ≤ place) × (place ≤ site - cond b 7 0 + extra stage + perhaps stage + tail + 51 * steps)
  unfolding place_fits
  place_parts b e t =
      let is = besides b e in
      let n = beside stage site tail in
      let both = and_parts (leb (n + 3 * steps) place) (leb place (n + 51 * steps + perhaps stage)) t in
      let lo = leb-true (n + 3 * steps) place both.0 in
      let hi = leb-true place (n + 51 * steps + perhaps stage) both.1 in
      (omega arith, omega arith)

  pub place_so : (b : Bool) → begun_at stage ≡ b → site - cond b 7 0 + extra stage + tail + 3 * steps ≤ place
      → place ≤ site - cond b 7 0 + extra stage + perhaps stage + tail + 51 * steps → place_fits place stage steps site tail ≡ true
  unfolding place_fits
  place_so b e lo hi =
      let is = besides b e in
      let n = beside stage site tail in
      ap₂ ◌&&◌ (le-leb (n + 3 * steps) place (omega arith)) (le-leb place (n + 51 * steps + perhaps stage) (omega arith))

-- ---- of what is kept: the tail is among the bytes taken, and they are not too many
module _ (k : Kept) (well : WellKept k) where
  pub tail_within : length k.tail ≤ k.place
  tail_within =
      let b = begun k.state in
      let p = place_parts k.place k.state.stage k.state.steps (length k.site) (length k.tail) b refl well.placed in
      let lo = p.0 in
      omega arith

  pub place_most_lem : k.place ≤ place_most + length k.tail + 51 * k.state.steps
  place_most_lem = go (begun k.state) refl
    where
      go : (b : Bool) → begun k.state ≡ b → k.place ≤ place_most + length k.tail + 51 * k.state.steps
      go true e =
          let p = place_parts k.place k.state.stage k.state.steps (length k.site) (length k.tail) true e well.placed in
          let hi = p.1 in
          let m = extra_most k.state.stage in
          let s = well.site_short in
          omega arith
      go false e =
          let p = place_parts k.place k.state.stage k.state.steps (length k.site) (length k.tail) false e well.placed in
          let hi = p.1 in
          let m = extra_before k.state.stage e in
          let s = well.site_short in
          omega arith

-- ---- after whole fields
module _ (k : Kept) (well : WellKept k) (w : List ℕ) (next : State) (l : Leads k.state w next) where
  spans : Span w next (parts w l).mid (head_in w)
  spans = span w (chained w l)

  pub placed_after : place_fits (k.place - length k.tail + length w) next.stage next.steps (length (site_after k w next)) 0 ≡ true
  placed_after = go (begun k.state) (begun next) refl refl
    where
      goal : ℕ → Type 0
      goal n = place_fits (k.place - length k.tail + length w) next.stage next.steps n 0 ≡ true

      head_long : length (take (head_in w) w) ≡ head_in w
      head_long = length-take-le (head_in w) w (parts w l).upto

      go : (x y : Bool) → begun k.state ≡ x → begun next ≡ y → goal (length (site_after k w next))
      go true false ex ey = absurd (passed_failed (stays_begun w l ex) ey)
      go true true ex ey =
          let was = place_parts k.place k.state.stage k.state.steps (length k.site) (length k.tail) true ex well.placed in
          let lo = was.0 in
          let hi = was.1 in
          let s = spans in
          let u = s.least in
          let v = s.most in
          let h = no_head w l ex in
          let a : extra (parts w l).mid.stage ≡ extra k.state.stage = ap (λ (s : State). extra s.stage) ((parts w l).same ex) in
          let p : perhaps (parts w l).mid.stage ≡ perhaps k.state.stage = ap (λ (s : State). perhaps s.stage) ((parts w l).same ex) in
          let b : (parts w l).mid.steps ≡ k.state.steps = (parts w l).none in
          subst⁻¹ (λ (site : List ℕ). goal (length site)) (site_by_lem k w next true true ex ey)
          (place_so (k.place - length k.tail + length w) next.stage next.steps (length k.site) 0 true ey (omega arith) (omega arith))
      go false y ex ey =
          let was = place_parts k.place k.state.stage k.state.steps (length k.site) (length k.tail) false ex well.placed in
          let lo = was.0 in
          let hi = was.1 in
          let z : k.state.steps ≡ 0 = (well.waiting ex).1 in
          let x = extra_before k.state.stage ex in
          let at : k.place - length k.tail ≡ length k.site = omega arith in
          last y ey z at ex
        where
          last : (y : Bool) → begun next ≡ y → k.state.steps ≡ 0 → k.place - length k.tail ≡ length k.site → begun k.state ≡ false → goal (length (site_after k w next))
          last true ey z at ex =
              let s = spans in
              let u = s.least in
              let v = s.most in
              let a = extra_before (parts w l).mid.stage ((parts w l).still ex) in
              let b : (parts w l).mid.steps ≡ k.state.steps = (parts w l).none in
              let h = head_long in
              let long : length (k.site ++ take (head_in w) w ++ closing) ≡ length k.site + head_in w + 7 =
              length-append (k.site ++ take (head_in w) w) closing ∙ ap (λ (n : ℕ). n + 7) (length-append k.site (take (head_in w) w) ∙ ap (λ (n : ℕ). length k.site + n) h) in
              subst⁻¹ (λ (site : List ℕ). goal (length site)) (site_by_lem k w next false true ex ey)
              (subst⁻¹ goal long
              (place_so (k.place - length k.tail + length w) next.stage next.steps (length k.site + head_in w + 7) 0 true ey (omega arith) (omega arith)))
          last false ey z at ex =
              let h = head_long in
              let all = all_head w l ex ey in
              let n : next.steps ≡ k.state.steps = no_count_yet w l ex ey in
              let x = extra_before next.stage ey in
              let long : length (k.site ++ take (head_in w) w ++ []) ≡ length k.site + length w =
              ap length (append-nil (k.site ++ take (head_in w) w)) ∙ length-append k.site (take (head_in w) w) ∙ ap (λ (n : ℕ). length k.site + n) (h ∙ all) in
              subst⁻¹ (λ (site : List ℕ). goal (length site)) (site_by_lem k w next false false ex ey)
              (subst⁻¹ goal long
              (place_so (k.place - length k.tail + length w) next.stage next.steps (length k.site + length w) 0 false ey (omega arith) (omega arith)))
