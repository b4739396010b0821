-- Between any two fields of a run at most 64 units are said and at most 64 units or inverters are still to come: the fleet field says at most 64, the
-- settings leave 64 inverters, and every other field leaves as many or one less. Assumes nothing.
use mathlib.Core.Path.{◌≡◌, refl, ap, subst}
use mathlib.Core.List.{List, ◌++◌}
use Prim.Native.Nat.{ℕ, ◌+◌, ◌-◌, ◌*◌, ◌≤◌}
use native.Mathlib.Nat.{mul-le-mul}
use native.Mathlib.Omega.{arith}
use lib.Dec.{leb}
use lib.ListN.{length, take}
use Rattle.whole.proofs.Choice.{by_test}
use Rattle.octets.specs.BigEndian.{be}
use Rattle.parts.specs.Header.{header}
use Rattle.fields.specs.declared.State.{State}
use Rattle.fields.specs.Fields.{gone_to}
use Rattle.fields.proofs.FieldLaws.{fewer}
use Rattle.chunks.proofs.ReachChunks.{fleet_counts, Went, there, passing}
use Rattle.kept.specs.Kept.{Kept}
use Rattle.kept.specs.Layout.{known_by}
use Rattle.kept.specs.Posts.{WellKept}
use Rattle.taking.specs.Chunk.{gone_by}
use Rattle.taking.proofs.TookLaws.{Took, fleet, unit, settings, connections, inverter, warm, efficiency, function, volt_var, reading, weather, voltage, end, took}
use Rattle.taking.proofs.LedLaws.{led}
use Rattle.taking.proofs.FedLaws.{gone_leads}

pub record Few (st : State) : Type 0 where
  pub units : st.units ≤ 64
  pub left : st.left ≤ 64

-- one field
module _ (file : List ℕ) (st : State) (i : ℕ) (m : State) (few : Few st) where
  alike : m.units ≡ st.units → m.left ≡ st.left → Few m
  alike u l = let a = few.units in let b = few.left in record { units = omega arith; left = omega arith }

  same : (stage steps : ℕ) → m ≡ gone_to st stage st.left steps → Few m
  same stage steps is = alike (ap (λ (s : State). s.units) is) (ap (λ (s : State). s.left) is)

  took_few : Took file st i m → Few m
  took_few (fleet t s p v is) =
      let n = (fleet_counts file (i + header) v).1 in
      let u : m.units ≡ be 1 file (i + header + 1) = ap (λ (s : State). s.units) is in
      let l : m.left ≡ be 1 file (i + header + 1) = ap (λ (s : State). s.left) is in
      record { units = omega arith; left = omega arith }
  took_few (unit t s is) =
      let b = few.left in
      let us : (fewer st).units ≡ st.units = by_test (λ (x : State). x.units ≡ st.units) (leb st.left 1) _ _ (λ u. refl) (λ u. refl) in
      let ls : (fewer st).left ≤ 64 = by_test (λ (x : State). x.left ≤ 64) (leb st.left 1) _ _ (λ u. omega arith) (λ u. omega arith) in
      let u : m.units ≡ (fewer st).units = ap (λ (s : State). s.units) is in
      let l : m.left ≡ (fewer st).left = ap (λ (s : State). s.left) is in
      let a = few.units in
      record { units = omega arith; left = omega arith }
  took_few (settings t s is) =
      let u : m.units ≡ st.units = ap (λ (s : State). s.units) is in
      let l : m.left ≡ 64 = ap (λ (s : State). s.left) is in
      let a = few.units in
      record { units = omega arith; left = omega arith }
  took_few (connections t s is) = same 5 st.steps is
  took_few (inverter t s some is) =
      let u : m.units ≡ st.units = ap (λ (s : State). s.units) is in
      let l : m.left ≡ st.left - 1 = ap (λ (s : State). s.left) is in
      let a = few.units in
      let b = few.left in
      record { units = omega arith; left = omega arith }
  took_few (warm t s is) = same 7 st.steps is
  took_few (efficiency t s is) = same 5 st.steps is
  took_few (function t s is) = alike (ap (λ (s : State). s.units) is) (ap (λ (s : State). s.left) is)
  took_few (volt_var t s is) = same 12 st.steps is
  took_few (reading t s a b below is) = same 4 (st.steps + 1) is
  took_few (weather t s p is) = same 8 st.steps is
  took_few (voltage t s p v is) = same 11 st.steps is
  took_few (end t s p is) = same 0 st.steps is

-- fields one by one
stays_few : (file : List ℕ) {next : State} {j : ℕ} {st : State} {i : ℕ} → Went file next j st i → i ≤ length file → Few st → Few next
stays_few file (there e f) h few = subst Few e few
stays_few file {next} {j} {st} {i} (passing m l e f w more) h few = stays_few file more w (took_few file st i m few (took file st i m h f))

-- what is kept, and after a chunk
module _ (k : Kept) (well : WellKept k) where
  kept_few : Few k.state
  kept_few =
      let r = stays_few k.site (led (record { leads = well.known })) (omega arith) (record { units = omega arith; left = omega arith }) in
      let u : (known_by k.site).units ≡ k.state.units = ap (λ (s : State). s.units) well.state_is in
      let l : (known_by k.site).left ≡ k.state.left = ap (λ (s : State). s.left) well.state_is in
      let a = r.units in
      let b = r.left in
      record { units = omega arith; left = omega arith }

  pub gone_few : (chunk : List ℕ) → Few (gone_by k chunk).state
  gone_few chunk = stays_few (take (gone_by k chunk).at (k.tail ++ chunk)) (led (gone_leads k chunk)) (omega arith) kept_few

-- so the bytes of the records of few steps are few
pub few_needed : (units left since upto : ℕ) → units ≤ 64 → upto ≤ 65535 → (40 * units + 29 * (64 - left)) * (upto - since) ≤ 4416 * 65535
few_needed units left since upto h k =
    let width : 40 * units + 29 * (64 - left) ≤ 4416 = omega arith in
    let steps : upto - since ≤ 65535 = omega arith in
    mul-le-mul width steps
