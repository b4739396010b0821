-- What an accepted walk says behind the settings: the connections stand there, in their ranges, and the walk goes on behind them as where an inverter may
-- stand; or, by watts, another field stands there, which is taken as at that stage. Assumes nothing.
use mathlib.Core.Path.{◌≡◌, refl, ap, subst}
use mathlib.Core.Bool.{Bool, true, false, cond, ◌||◌}
use mathlib.Core.List.{List, ◌∷◌}
use Prim.Native.Nat.{ℕ, ◌+◌, ◌*◌, ◌≤◌}
use native.Mathlib.Nat.{mul-le-mul}
use native.Mathlib.Omega.{arith}
use lib.Dec.{leb, eqb}
use borrow.Author.Tests.{eqb-true, eqb-false, ne_eqb, leb-true}
use Rattle.whole.specs.Interval.{between}
use Rattle.whole.proofs.OverLaws.{and_parts}
use Rattle.whole.proofs.Choice.{passed_failed}
use Rattle.site.specs.Site.{none_yet}
use Rattle.unit.specs.Ranges.{link_of, connection_in}
use Rattle.parts.specs.Header.{header, tag_at, past}
use Rattle.fields.specs.declared.State.{State}
use Rattle.fields.specs.Fields.{at_inverters, at_connections, kinds, size_in, size_of, head_of, stands_in, allowed, value_of, refused_by, flags, state_of, roof_after, state_after, taken_by, connections_in}
use Rattle.fields.proofs.FieldLaws.{connections_alone}
use Rattle.stick.specs.Check.{field_at}
use Rattle.stick.specs.Site.{having, steps_in}
use Rattle.stick.proofs.WalkLaws.{whole, OnTheWay, way_alike}
use Rattle.stick.proofs.PlaceLaws.{from, picked, left_out, closes_none}
use Rattle.stick.proofs.SaidLaws.{accepted_test, one, Waited, waited}
use Rattle.std.proofs.Common.{Err, Result}

-- ---- by watts, where no connections stand, the stage of the connections is that of the inverters
module _ (edition units left steps : ℕ) (led : Bool) (file : List ℕ) where
  abbrev pub linking : State
  linking = state_of at_connections edition units left steps (flags false led)

  abbrev pub roofing : State
  roofing = state_of at_inverters edition units left steps (flags false led)

  pub taken_alike : (tag : ℕ) → (tag ≡ 10 → ⊥) → (v : ℕ) → taken_by linking tag file v ≡ taken_by roofing tag file v
  unfolding taken_by refused_by allowed kinds stands_in value_of state_after roof_after
  taken_alike tag n v = simp (ne_eqb tag 10 n)

  pub field_alike : (at : ℕ) → (tag_at file at ≡ 10 → ⊥) → field_at linking file at ≡ field_at roofing file at
  unfolding field_at head_of size_of kinds size_in
  field_alike at n = ap (λ (t : Result State ℕ). cond (eqb (head_of roofing file at) 0) t (Err (head_of roofing file at))) (taken_alike (tag_at file at) n (at + header))

-- ---- what stands at the place of the connections
module _ (file : List ℕ) (ok : (whole file).number ≡ 0) (edition units : ℕ) where
  pub record ConnectionsSaid (current there : Bool) (at next : ℕ) : Type 0 where
    pub picked_all : having 10 file (from file at) ≡ cond there (at ∷ having 10 file (from file next)) (having 10 file (from file next))
    pub no_others : (t : ℕ) → (10 ≡ t → ⊥) → having t file (from file at) ≡ having t file (from file next)
    pub no_steps_is : steps_in file none_yet (from file at) ≡ steps_in file none_yet (from file next)
    pub connections : there ≡ true → connections_in units file (at + header) ≡ true
    pub behind : there ≡ true → past file at ≡ next
    pub nothing : there ≡ false → at ≡ next
    pub rest : OnTheWay file (state_of at_inverters edition units 64 0 (flags current false)) next

  pub connections_said : (current : Bool) (at next : ℕ) → at + cond (eqb (tag_at file at) 10) (header + 3 * units) 0 ≡ next
      → OnTheWay file (state_of at_connections edition units 64 0 (flags current false)) at → ConnectionsSaid current (eqb (tag_at file at) 10) at next
  unfolding size_of value_of state_after roof_after
  connections_said current at next e w = go (eqb (tag_at file at) 10) refl e
    where
      there : tag_at file at ≡ 10 → at + (header + 3 * units) ≡ next → ConnectionsSaid current true at next
      there t e =
          let st : State = state_of at_connections edition units 64 0 (flags current false) in
          let v : Waited file ok 10 st at next = waited file ok 10 st at next refl (λ z. t) (omega (arith, e)) w in
          record {
            picked_all = picked file v.passed;
            no_others = left_out file v.passed;
            no_steps_is = closes_none file v.passed none_yet refl refl refl;
            connections = λ z. accepted_test (connections_in units file (at + header)) v.value;
            behind = λ z. v.behind;
            nothing = λ z. absurd (passed_failed refl z);
            rest = v.rest;
          }

      none : (c : Bool) → (tag_at file at ≡ 10 → ⊥) → OnTheWay file (state_of at_connections edition units 64 0 (flags c false)) at → OnTheWay file (state_of at_inverters edition units 64 0 (flags c false)) at
      none true n w = absurd (n (connections_alone edition units 64 0 false (tag_at file at) (one file ok (state_of at_connections edition units 64 0 (flags true false)) at w refl).allows))
      none false n w = way_alike file (linking edition units 64 0 false file) (roofing edition units 64 0 false file) at refl refl refl (field_alike edition units 64 0 false file at n) w

      go : (b : Bool) → eqb (tag_at file at) 10 ≡ b → at + cond b (header + 3 * units) 0 ≡ next → ConnectionsSaid current b at next
      go true t e = there (eqb-true (tag_at file at) 10 t) e
      go false t e =
          let same : at ≡ next = omega (arith, e) in
          subst (ConnectionsSaid current false at) same (record {
            picked_all = refl;
            no_others = λ u n. refl;
            no_steps_is = refl;
            connections = λ z. absurd (passed_failed z refl);
            behind = λ z. absurd (passed_failed z refl);
            nothing = λ z. refl;
            rest = none current (eqb-false (tag_at file at) 10 t) w;
          })

-- ---- an ampere of a unit with a connection in its ranges is at most 120,000 W
pub link_most : (phases volts : ℕ) → connection_in phases volts ≡ true → link_of phases volts ≤ 120000
unfolding connection_in
link_most phases volts e =
    let parts = and_parts (eqb phases 1 || eqb phases 3) (between 1 40000 volts) e in
    let most = (and_parts (leb 1 volts) (leb volts 40000) parts.1).1 in
    mul-le-mul (three (eqb phases 1) (eqb phases 3) refl refl parts.0) (leb-true volts 40000 most)
  where
    three : (a b : Bool) → eqb phases 1 ≡ a → eqb phases 3 ≡ b → (a || b) ≡ true → phases ≤ 3
    three true b ea eb t = omega (arith, eqb-true phases 1 ea)
    three false true ea eb t = omega (arith, eqb-true phases 3 eb)
    three false false ea eb t = absurd (passed_failed t refl)
