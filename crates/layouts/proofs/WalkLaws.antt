-- How fields that are laid walk: bytes that lead from one state to the next, one behind the other, and a field that is taken where it is laid. Assumes nothing.
use mathlib.Core.Path.{◌≡◌, refl, sym, ap, subst, ◌∙◌}
use mathlib.Core.Bool.{Bool, true, false}
use mathlib.Core.List.{List, [], ◌++◌, append-nil}
use Prim.Native.Nat.{ℕ, ◌+◌}
use native.Mathlib.Omega.{arith}
use lib.Dec.{eqb}
use lib.ListN.{length, length-append}
use Rattle.octets.specs.BigEndian.{be}
use Rattle.parts.specs.Header.{past}
use Rattle.lead.specs.Lead.{Leading, unled, led}
use Rattle.fields.specs.declared.State.{State}
use Rattle.fields.specs.Fields.{size_of, head_of, allowed, too_many, value_of, refused_by, state_after, taken_by, gone_to}
use Rattle.fields.proofs.FieldLaws.{head_held}
use Rattle.fields.proofs.TakenLaws.{by_value, goes_on}
use Rattle.stick.specs.Check.{field_at, reached, reach_of}
use Rattle.stick.proofs.WalkLaws.{field_goes}
use Rattle.chunks.specs.Holds.{moved}
use Rattle.chunks.proofs.ReachChunks.{reach_over, reach_step}
use Rattle.chunks.proofs.CutProved.{cut_law}
use Rattle.layouts.specs.Layout.{Number, size, field}
use Rattle.layouts.proofs.NumberLaws.{field_length, field_tag, field_size_lem, field_past}
use Rattle.layouts.proofs.FitLaws.{Laid}
use Rattle.std.proofs.Common.{Ok}

-- bytes that are whole fields and lead from a state to another
pub record Walks (st : State) (bytes : List ℕ) (m : State) : Type 0 where
  pub reach : reach_of (length bytes) st bytes 0 ≡ reached 0 (length bytes) m

pub walks_none : {st : State} → Walks st [] st
unfolding reach_of
walks_none = record { reach = refl }

-- one behind the other
pub walks_append : {st m n : State} {a b : List ℕ} → Walks st a m → Walks m b n → Walks st (a ++ b) n
walks_append {st} {m} {n} {a} {b} p q = record {
  reach = (cut_law a b).walks_on st m p.reach ∙ ap (moved (length a)) q.reach ∙ ap (λ (k : ℕ). reached 0 k n) (sym (length-append a b));
}

-- a field, as it is read before nothing else
module _ (st : State) (tag : ℕ) (ns : List Number) (can : Laid tag ns) where
  abbrev laid : List ℕ
  laid = field tag ns ++ []

  taken : size_of st tag ≡ size ns → allowed st tag ≡ true → too_many st tag ≡ false → value_of st tag laid 3 ≡ 0 → field_at st laid 0 ≡ Ok (state_after st tag laid 3)
  taken long stands few value =
      let t : tag ≡ be 1 laid 0 = sym (field_tag tag ns [] can.tagged) in
      let l : size ns ≡ be 2 laid 1 = sym (field_size_lem tag ns [] can.few) in
      let all : length laid ≡ 3 + size ns = ap length (append-nil (field tag ns)) ∙ field_length tag ns in
      let held : 0 ≡ head_of st laid 0 = head_held st laid 0 (omega arith) tag (size ns) t (sym long) (λ e. omega arith) (size ns) l refl (omega arith) in
      let free : refused_by st tag laid 3 ≡ 0 = sym (by_value st tag laid 3 true (sym stands) refl few) ∙ value in
      sym (field_goes st laid 0 0 held refl)
      ∙ ap (λ (k : ℕ). taken_by st k laid 3) (sym t)
      ∙ sym (goes_on st tag laid 3 (refused_by st tag laid 3) refl free (state_after st tag laid 3) refl)

  pub walks_field : size_of st tag ≡ size ns → eqb st.stage 0 ≡ false → allowed st tag ≡ true → too_many st tag ≡ false → value_of st tag laid 3 ≡ 0
      → (m : State) → state_after st tag laid 3 ≡ m → Walks st (field tag ns) m
  walks_field long awake stands few value m next =
      let same : laid ≡ field tag ns = append-nil (field tag ns) in
      let all : length laid ≡ 3 + size ns = ap length same ∙ field_length tag ns in
      let over : past laid 0 ≡ length (field tag ns) = field_past tag ns [] can.few in
      let end : past laid 0 ≡ length laid = over ∙ ap length (sym same) in
      let far : reach_of (length laid) st laid 0 ≡ reached 0 (length laid) m =
      reach_step laid (length laid) st 0 false (Ok m) (omega arith) (omega arith) awake (taken long stands few value ∙ ap Ok next)
      ∙ ap (reach_of (length laid) m laid) end
      ∙ reach_over laid (length laid) m (length laid) (omega arith) in
      subst (λ (bytes : List ℕ). Walks st bytes m) same (record { reach = far })

-- whether a function leads
abbrev pub leads : Leading → Bool
leads unled = false
leads (led f) = true

-- a state at which a test is passed and fields may follow, with the flags and the steps so far
pub record Stands (test : State → Bool) (amps guided : Bool) (n : ℕ) (m : State) : Type 0 where
  pub passes : test m ≡ true
  pub awake : eqb m.stage 0 ≡ false
  pub current : m.current ≡ amps
  pub led : m.led ≡ guided
  pub steps : m.steps ≡ n

-- the same with another test, and gone on to another stage
pub stands_as : {test other : State → Bool} {amps guided : Bool} {n : ℕ} {st : State} → other st ≡ true → Stands test amps guided n st → Stands other amps guided n st
stands_as p s = record { passes = p; awake = s.awake; current = s.current; led = s.led; steps = s.steps }

pub stands_gone : {test other : State → Bool} {amps guided : Bool} {n : ℕ} {st : State} (stage left : ℕ) → other (gone_to st stage left st.steps) ≡ true → eqb stage 0 ≡ false
    → Stands test amps guided n st → Stands other amps guided n (gone_to st stage left st.steps)
stands_gone stage left p awake s = record { passes = p; awake = awake; current = s.current; led = s.led; steps = s.steps }
