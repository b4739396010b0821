-- The stages of whole fields: the fields before the steps lead from a stage before them to such a stage and close no step; from the first field of a step
-- on, or the end field, every field is one of the steps, and what the site has stays as it is. Assumes nothing.
use mathlib.Core.Path.{◌≡◌, refl, sym, ap, ap₂, ◌∙◌, subst, subst⁻¹}
use mathlib.Core.Logic.{◌⊎◌, inl, inr}
use mathlib.Core.Bool.{Bool, true, false, cond, ◌||◌}
use mathlib.Core.List.{List}
use Prim.Native.Nat.{ℕ, ◌+◌, ◌≤◌, ◌<◌}
use native.Mathlib.Omega.{arith}
use lib.Dec.{leb, eqb}
use lib.ListN.{length}
use Rattle.whole.proofs.Choice.{by_test, passed_failed}
use Rattle.parts.specs.Header.{tag_at, past}
use Rattle.fields.specs.declared.State.{State}
use Rattle.fields.specs.Fields.{begins, closes, gone_to}
use Rattle.fields.proofs.FieldLaws.{fewer}
use Rattle.stick.specs.Check.{field_at}
use Rattle.stick.specs.Site.{of_steps}
use Rattle.chunks.proofs.ReachChunks.{Went, there, passing}
use Rattle.chunks.proofs.HeadChunks.{head_from_over, head_end, head_from_field}
use Rattle.kept.specs.Kept.{begun_at, begun}
use Rattle.taking.proofs.TookLaws.{by_opens, charged_closes, Took, fleet, unit, settings, connections, inverter, warm, efficiency, function, volt_var, reading, weather, voltage, end, took}
use Rattle.std.proofs.Common.{Ok}

-- ---- a field before the steps, and one of the steps
pub record HeadTook (file : List ℕ) (st : State) (i : ℕ) (m : State) : Type 0 where
  pub other : of_steps (tag_at file i) ≡ false
  pub before : begun st ≡ false
  pub behind : begun m ≡ false
  pub none : m.steps ≡ st.steps

pub record StepTook (file : List ℕ) (st : State) (i : ℕ) (m : State) : Type 0 where
  pub tagged : of_steps (tag_at file i) ≡ true
  pub may : closes st ≡ true
  pub behind : begun m ≡ true
  pub same : m ≡ gone_to st m.stage st.left m.steps
  pub more : st.steps ≤ m.steps
  pub few : st.steps ≤ 65535 → m.steps ≤ 65535

module _ (file : List ℕ) (st : State) (i : ℕ) (m : State) where
  -- by what the state behind it is
  head_of : (tag : ℕ) (x : State) → tag_at file i ≡ tag → begun st ≡ false → m ≡ x → of_steps tag ≡ false → begun x ≡ false → x.steps ≡ st.steps → HeadTook file st i m
  head_of tag x t b is o c n = record {
    other = ap of_steps t ∙ o;
    before = b;
    behind = ap begun is ∙ c;
    none = ap (λ (s : State). s.steps) is ∙ n;
  }

  step_of : (stage steps : ℕ) → of_steps (tag_at file i) ≡ true → closes st ≡ true → begun_at stage ≡ true → st.steps ≤ steps → (st.steps ≤ 65535 → steps ≤ 65535)
      → m ≡ gone_to st stage st.left steps → StepTook file st i m
  step_of stage steps t c b l f is =
      let es : m.stage ≡ stage = ap (λ (s : State). s.stage) is in
      let en : m.steps ≡ steps = ap (λ (s : State). s.steps) is in
      record {
        tagged = t;
        may = c;
        behind = ap begun is ∙ b;
        same = is ∙ ap₂ (λ (a b : ℕ). gone_to st a st.left b) (sym es) (sym en);
        more = omega arith;
        few = λ h. subst⁻¹ (λ (n : ℕ). n ≤ 65535) en (f h);
      }

  -- where a step may begin, it may be closed
  may_close : begins st ≡ true → closes st ≡ true
  may_close b = ap (λ (x : Bool). x || eqb st.stage 8 || eqb st.stage 11) b

  pub sorted : Took file st i m → HeadTook file st i m ⊎ StepTook file st i m
  sorted (fleet t s p v is) = inl (head_of 1 _ t (ap begun_at s) is refl refl refl)
  sorted (unit t s is) =
      inl (head_of 2 (fewer st) t (ap begun_at s) is refl
      (by_test (λ (x : State). begun x ≡ false) (leb st.left 1) _ _ (λ u. refl) (λ u. refl))
      (by_test (λ (x : State). x.steps ≡ st.steps) (leb st.left 1) _ _ (λ u. refl) (λ u. refl)))
  sorted (settings t s is) = inl (head_of 3 _ t (ap begun_at s) is refl refl refl)
  sorted (connections t s is) = inl (head_of 10 _ t (ap begun_at s) is refl refl refl)
  sorted (inverter t s l is) = inl (head_of 6 _ t (by_opens (λ (n : ℕ) (c : Bool). begun_at n ≡ false) st s (λ c. refl) refl) is refl refl refl)
  sorted (warm t s is) = inl (head_of 7 _ t (ap begun_at s) is refl refl refl)
  sorted (efficiency t s is) = inl (head_of 7 _ t (ap begun_at s) is refl refl refl)
  sorted (function t s is) = inl (head_of 11 _ t (by_opens (λ (n : ℕ) (c : Bool). begun_at n ≡ false) st s (λ c. refl) refl) is refl refl refl)
  sorted (volt_var t s is) = inl (head_of 7 _ t (ap begun_at s) is refl refl refl)
  sorted (reading t c a b l is) =
      inr (step_of 4 (st.steps + 1) (ap (λ (x : Bool). x || eqb (tag_at file i) 8 || eqb (tag_at file i) 12 || eqb (tag_at file i) 127) t) c refl (omega arith) (λ h. omega arith) is)
  sorted (weather t b p is) = inr (step_of 8 st.steps (ap of_steps t) (may_close b) refl (omega arith) (λ h. h) is)
  sorted (voltage t c p v is) = inr (step_of 11 st.steps (ap of_steps t) (charged_closes st c) refl (omega arith) (λ h. h) is)
  sorted (end t b p is) = inr (step_of 0 st.steps (ap of_steps t) (may_close b) refl (omega arith) (λ h. h) is)

  pub sort : i ≤ length file → field_at st file i ≡ Ok m → HeadTook file st i m ⊎ StepTook file st i m
  sort h f = sorted (took file st i m h f)

-- ---- where the fields before the steps end, and the state there
pub record Split (file : List ℕ) (st : State) (i : ℕ) (next : State) : Type 0 where
  pub mid : State
  pub to : Went file mid (head_end file i) st i
  pub on : Went file next (length file) mid (head_end file i)
  pub from : i ≤ head_end file i
  pub upto : head_end file i ≤ length file
  pub none : mid.steps ≡ st.steps
  pub still : begun st ≡ false → begun mid ≡ false
  pub at_once : begun st ≡ true → head_end file i ≡ i
  pub same : begun st ≡ true → mid ≡ st
  pub begins : head_end file i < length file → of_steps (tag_at file (head_end file i)) ≡ true

pub split : (file : List ℕ) {next : State} {j : ℕ} {st : State} {i : ℕ} → Went file next j st i → j ≡ length file → Split file st i next
split file {next} {j} {st} {i} (there e f) h =
    let o : head_end file i ≡ i = head_from_over file (length file) i (omega arith) in
    record {
      mid = st;
      to = there refl (sym o);
      on = there e (o ∙ f ∙ h);
      from = omega arith;
      upto = omega arith;
      none = refl;
      still = λ b. b;
      at_once = λ b. o;
      same = λ b. refl;
      begins = λ l. absurd (omega arith);
    }
split file {next} {j} {st} {i} (passing m l e f w more) h = go (sort file st i m (omega arith) f) (split file more h)
  where
    go : HeadTook file st i m ⊎ StepTook file st i m → Split file m (past file i) next → Split file st i next
    go (inl k) s =
        let on : head_end file i ≡ head_end file (past file i) = head_from_field file i l ∙ ap (λ (b : Bool). cond b i (head_end file (past file i))) k.other in
        let low = s.from in
        let up = s.upto in
        record {
          mid = s.mid;
          to = subst⁻¹ (λ (n : ℕ). Went file s.mid n st i) on (passing m l e f w s.to);
          on = subst⁻¹ (λ (n : ℕ). Went file next (length file) s.mid n) on s.on;
          from = omega arith;
          upto = omega arith;
          none = s.none ∙ k.none;
          still = λ b. s.still k.behind;
          at_once = λ b. absurd (passed_failed b k.before);
          same = λ b. absurd (passed_failed b k.before);
          begins = λ u. ap (λ (n : ℕ). of_steps (tag_at file n)) on ∙ s.begins (subst (λ (n : ℕ). n < length file) on u);
        }
    go (inr k) s =
        let o : head_end file i ≡ i = head_from_field file i l ∙ ap (λ (b : Bool). cond b i (head_end file (past file i))) k.tagged in
        record {
          mid = st;
          to = there refl (sym o);
          on = subst⁻¹ (λ (n : ℕ). Went file next (length file) st n) o (subst (λ (n : ℕ). Went file next n st i) h (passing m l e f w more));
          from = omega arith;
          upto = omega arith;
          none = refl;
          still = λ b. b;
          at_once = λ b. o;
          same = λ b. refl;
          begins = λ u. ap (λ (n : ℕ). of_steps (tag_at file n)) o ∙ k.tagged;
        }

-- ---- from a field of the steps on
pub record Along (st next : State) : Type 0 where
  pub begun_next : begun next ≡ true
  pub same : next ≡ gone_to st next.stage st.left next.steps
  pub more : st.steps ≤ next.steps
  pub few : st.steps ≤ 65535 → next.steps ≤ 65535

-- one field more
one_along : (file : List ℕ) {st m next : State} {i : ℕ} → StepTook file st i m → Along m next → Along st next
one_along file {st} {m} {next} {i} k a =
    let one = k.more in
    let others = a.more in
    record {
      begun_next = a.begun_next;
      same = a.same ∙ ap (λ (s : State). gone_to s next.stage s.left next.steps) k.same;
      more = omega arith;
      few = λ h. a.few (k.few h);
    }

pub along : (file : List ℕ) {next : State} {j : ℕ} {st : State} {i : ℕ} → Went file next j st i → begun st ≡ true → Along st next
along file {next} {j} {st} {i} (there e f) b =
    let n : st.steps ≡ next.steps = ap (λ (s : State). s.steps) e in
    record {
      begun_next = ap begun (sym e) ∙ b;
      same = sym e ∙ ap (λ (s : State). gone_to st s.stage st.left s.steps) e;
      more = omega arith;
      few = λ h. omega arith;
    }
along file {next} {j} {st} {i} (passing m l e f w more) b = go (sort file st i m (omega arith) f) (along file more)
  where
    go : HeadTook file st i m ⊎ StepTook file st i m → (begun m ≡ true → Along m next) → Along st next
    go (inl k) further = absurd (passed_failed b k.before)
    go (inr k) further = one_along file k (further k.behind)

-- the same where the first of them may stand before the steps
pub along_from : (file : List ℕ) {st next : State} {i j : ℕ} → Went file next j st i → i < j → of_steps (tag_at file i) ≡ true → Along st next
along_from file {st} {next} {i} {j} (there e f) h t = absurd (omega arith)
along_from file {st} {next} {i} {j} (passing m l e f w more) h t = go (sort file st i m (omega arith) f)
  where
    go : HeadTook file st i m ⊎ StepTook file st i m → Along st next
    go (inl k) = absurd (passed_failed t k.other)
    go (inr k) = one_along file k (along file more k.behind)

-- and there a step may be closed
pub first_may : (file : List ℕ) {st next : State} {i j : ℕ} → Went file next j st i → i < j → of_steps (tag_at file i) ≡ true → closes st ≡ true
first_may file {st} {next} {i} {j} (there e f) h t = absurd (omega arith)
first_may file {st} {next} {i} {j} (passing m l e f w more) h t = go (sort file st i m (omega arith) f)
  where
    go : HeadTook file st i m ⊎ StepTook file st i m → closes st ≡ true
    go (inl k) = absurd (passed_failed t k.other)
    go (inr k) = k.may
