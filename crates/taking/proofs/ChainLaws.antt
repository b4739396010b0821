-- The fields of the steps that lead to a state, one behind the other: readings, weathers, voltages and the end field, each with its bytes, where it may stand and the
-- state behind it. Assumes nothing.
use mathlib.Core.Path.{◌≡◌, refl, ap, ◌∙◌}
use mathlib.Core.Bool.{Bool, true, false}
use mathlib.Core.List.{List}
use Prim.Native.Nat.{ℕ, ◌+◌, ◌≤◌, ◌<◌}
use native.Mathlib.Omega.{arith}
use lib.ListN.{length}
use Rattle.whole.proofs.Choice.{passed_failed}
use Rattle.octets.specs.BigEndian.{be}
use Rattle.lead.specs.Lead.{voltage_in}
use Rattle.parts.specs.Header.{header, tag_at, past}
use Rattle.fields.specs.declared.State.{State}
use Rattle.fields.specs.Fields.{at_end, at_steps, at_reading, at_voltage, begins, charged, closes, is_reading, gone_to}
use Rattle.stick.specs.Site.{of_steps}
use Rattle.chunks.proofs.ReachChunks.{Went, there, passing}
use Rattle.kept.specs.Kept.{begun_at, begun}
use Rattle.taking.specs.Chunk.{head_in}
use Rattle.taking.specs.Posts.{Leads}
use Rattle.taking.proofs.TookLaws.{by_opens, Took, fleet, unit, settings, connections, inverter, warm, efficiency, function, volt_var, reading, weather, voltage, end, took}
use Rattle.taking.proofs.LeadLaws.{parts}

pub data Chain (file : List ℕ) (next : State) : State → ℕ → Type 0 where
  done : {st : State} {i : ℕ} → st ≡ next → i ≡ length file → Chain file next st i
  read : {st : State} {i : ℕ} (m : State) → i < length file → is_reading (tag_at file i) ≡ true → closes st ≡ true → i + 3 ≤ past file i → past file i ≤ i + 27
      → m ≡ gone_to st at_steps st.left (st.steps + 1) → Chain file next m (past file i) → Chain file next st i
  lit : {st : State} {i : ℕ} (m : State) → i < length file → tag_at file i ≡ 8 → begins st ≡ true → past file i ≡ i + 19
      → m ≡ gone_to st at_reading st.left st.steps → Chain file next m (past file i) → Chain file next st i
  said : {st : State} {i : ℕ} (m : State) → i < length file → tag_at file i ≡ 12 → charged st ≡ true → past file i ≡ i + 5 → voltage_in (be 2 file (i + header)) ≡ true
      → m ≡ gone_to st at_voltage st.left st.steps → Chain file next m (past file i) → Chain file next st i
  ended : {st : State} {i : ℕ} (m : State) → i < length file → tag_at file i ≡ 127 → begins st ≡ true → past file i ≡ i + 7
      → m ≡ gone_to st at_end st.left st.steps → Chain file next m (past file i) → Chain file next st i

module _ (file : List ℕ) (next : State) where
  -- one field before others
  one_more : {st m : State} {i : ℕ} → i < length file → Took file st i m → (begun st ≡ false → of_steps (tag_at file i) ≡ true)
      → (begun m ≡ true → Chain file next m (past file i)) → Chain file next st i
  one_more {st} {m} {i} l (fleet t s p v is) h more = absurd (passed_failed (h (ap begun_at s)) (ap of_steps t))
  one_more {st} {m} {i} l (unit t s is) h more = absurd (passed_failed (h (ap begun_at s)) (ap of_steps t))
  one_more {st} {m} {i} l (settings t s is) h more = absurd (passed_failed (h (ap begun_at s)) (ap of_steps t))
  one_more {st} {m} {i} l (connections t s is) h more = absurd (passed_failed (h (ap begun_at s)) (ap of_steps t))
  one_more {st} {m} {i} l (inverter t s some is) h more =
      absurd (passed_failed (h (by_opens (λ (n : ℕ) (c : Bool). begun_at n ≡ false) st s (λ c. refl) refl)) (ap of_steps t))
  one_more {st} {m} {i} l (warm t s is) h more = absurd (passed_failed (h (ap begun_at s)) (ap of_steps t))
  one_more {st} {m} {i} l (efficiency t s is) h more = absurd (passed_failed (h (ap begun_at s)) (ap of_steps t))
  one_more {st} {m} {i} l (function t s is) h more =
      absurd (passed_failed (h (by_opens (λ (n : ℕ) (c : Bool). begun_at n ≡ false) st s (λ c. refl) refl)) (ap of_steps t))
  one_more {st} {m} {i} l (volt_var t s is) h more = absurd (passed_failed (h (ap begun_at s)) (ap of_steps t))
  one_more {st} {m} {i} l (reading t c a b few is) h more = read m l t c a b is (more (ap begun is))
  one_more {st} {m} {i} l (weather t c p is) h more = lit m l t c p is (more (ap begun is))
  one_more {st} {m} {i} l (voltage t c p v is) h more = said m l t c p v is (more (ap begun is))
  one_more {st} {m} {i} l (end t c p is) h more = ended m l t c p is (more (ap begun is))

  chain : {j : ℕ} {st : State} {i : ℕ} → Went file next j st i → j ≡ length file → (begun st ≡ false → i < j → of_steps (tag_at file i) ≡ true) → Chain file next st i
  chain {j} {st} {i} (there e f) h t = done e (f ∙ h)
  chain {j} {st} {i} (passing m l e f w more) h t =
      one_more l (took file st i m (omega arith) f) (λ b. t b (omega arith)) (λ b. chain more h (λ c. absurd (passed_failed b c)))

-- those behind the head
pub chained : {st next : State} (w : List ℕ) (l : Leads st w next) → Chain w next (parts w l).mid (head_in w)
chained {st} {next} w l = chain w next (parts w l).on refl (λ b h. (parts w l).begins h)
