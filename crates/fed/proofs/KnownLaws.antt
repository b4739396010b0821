-- What is known by a fed state is known by the bytes that were fed: its end gives the walk's number, place and steps, and "complete" comes of an accepted end
-- alone, which a run has that went on till then. `known-law`. Assumes nothing.
use mathlib.Core.Path.{◌≡◌, refl, sym, ap, ap₂, ◌∙◌}
use mathlib.Core.Logic.{◌⊎◌, inl, inr}
use mathlib.Core.Bool.{Bool, true, false, not, cond, ◌&&◌, ◌||◌}
use mathlib.Core.List.{List, []}
use Prim.Native.Nat.{ℕ, ◌≤◌}
use native.Mathlib.Omega.{arith}
use lib.Dec.{eqb}
use lib.ListN.{length}
use borrow.Author.Tests.{eqb-true, eqb-false, eq-eqb, ne_eqb}
use Rattle.stick.specs.Check.{Answer, answer, refusal_by}
use Rattle.stick.specs.declared.Known.{Known}
use Rattle.stick.specs.declared.Known.TheVariants.{Complete, Refused, NotKnown}
use Rattle.stick.specs.Known.{known_by}
use Rattle.records.specs.Records.{end_bytes}
use Rattle.kept.specs.Layout.{place_in, steps_kept}
use Rattle.kept.specs.Formed.{well_formed}
use Rattle.taking.proofs.NumberLaws.{Numbered}
use Rattle.feed.specs.Answers.{own_number, end_number, end_leaves, place_told, steps_told}
use Rattle.fed.specs.Holds.{joined, leaves_all, first}
use Rattle.fed.specs.Known.{left, known_end, known_in, walked, Knows}
use Rattle.fed.proofs.CallLaws.{room_number, room_leaves, over_room, over_own, call_law}
use Rattle.fed.proofs.FedProved.{walked_numbered, whole_place, fed_law}

-- ---- by an answer
abbrev known_by_lem : Bool → Bool → Answer → Known
known_by_lem ok none a = cond ok (Complete a.steps) (cond none NotKnown (Refused (refusal_by a)))

abbrev known_of : Answer → Known
known_of a = known_by_lem (eqb a.number 0) (eqb a.number 10 || eqb a.number 11) a

-- complete is the number 0
is_complete : (a : Answer) (steps : ℕ) → known_of a ≡ Complete steps → (a.number ≡ 0) × (a.steps ≡ steps)
is_complete a steps = go (eqb a.number 0) refl (eqb a.number 10 || eqb a.number 11)
  where
    go : (x : Bool) → eqb a.number 0 ≡ x → (y : Bool) → known_by_lem x y a ≡ Complete steps → (a.number ≡ 0) × (a.steps ≡ steps)
    go true t y e = (eqb-true a.number 0 t, cc)
    go false t true e = let z : ◌≡◌ {A = ℕ} 0 1 = cc in absurd (omega arith)
    go false t false e = let z : ◌≡◌ {A = ℕ} 0 1 = cc in absurd (omega arith)

-- the walk's numbers are never 10 or 11
tells : (n : ℕ) → Numbered n → (eqb n 10 || eqb n 11) ≡ false
tells n few = ap₂ ◌||◌ (ne_eqb n 10 (λ e. other few (inl e))) (ne_eqb n 11 (λ e. other few (inr e)))
  where
    other : Numbered n → (n ≡ 10) ⊎ (n ≡ 11) → ⊥
    other (inl l) (inl e) = omega arith
    other (inl l) (inr e) = omega arith
    other (inr t) (inl e) = omega arith
    other (inr t) (inr e) = omega arith

by_answer : (a : Answer) → Numbered a.number → known_of a ≡ known_by a
unfolding known_by
by_answer a few = ap (λ (b : Bool). known_by_lem (eqb a.number 0) b a) (tells a.number few)

-- ---- by the end's number and the state after it
abbrev told : ℕ → List ℕ → Answer
told n t = answer n (place_told t) (steps_told t)

module _ (n : ℕ) (t : List ℕ) where
  pub says_complete : n ≡ 0 → known_end n t ≡ Complete (steps_told t)
  unfolding known_end
  says_complete z = ap (λ (b : Bool). known_by_lem b (eqb n 10 || eqb n 11) (told n t)) (eq-eqb n 0 z)

  module _ (no : n ≡ 0 → ⊥) where
    says_rest : (none : Bool) → (eqb n 10 || eqb n 11) ≡ none → known_end n t ≡ known_by_lem false none (told n t)
    unfolding known_end
    says_rest none e = ap₂ (λ (x y : Bool). known_by_lem x y (told n t)) (ne_eqb n 0 no) e

    pub says_nothing : (eqb n 10 || eqb n 11) ≡ true → known_end n t ≡ NotKnown
    says_nothing = says_rest true

    pub says_refused : (eqb n 10 || eqb n 11) ≡ false → known_end n t ≡ Refused (refusal_by (told n t))
    says_refused = says_rest false

-- ---- the end of a state that chunks led to
module _ (chunks : List (List ℕ)) where
  ended_number : end_number (leaves_all first chunks) end_bytes ≡ (walked (joined chunks)).number
  ended_number = go (eqb (walked (joined chunks)).number 0) refl
    where
      go : (b : Bool) → eqb (walked (joined chunks)).number 0 ≡ b → end_number (leaves_all first chunks) end_bytes ≡ (walked (joined chunks)).number
      go true e = let z = eqb-true (walked (joined chunks)).number 0 e in (fed_law chunks).accepted z ∙ sym z
      go false e = (fed_law chunks).refused (eqb-false (walked (joined chunks)).number 0 e)

  ended_formed : well_formed (end_leaves (leaves_all first chunks) end_bytes) ≡ true
  ended_formed = (call_law (leaves_all first chunks) [] end_bytes).stays_at_end (fed_law chunks).formed

  ended_place : place_told (end_leaves (leaves_all first chunks) end_bytes) ≡ (walked (joined chunks)).place
  unfolding place_told
  ended_place = ap (λ (b : Bool). cond b (place_in (end_leaves (leaves_all first chunks) end_bytes)) 0) ended_formed ∙ (fed_law chunks).same_place

  ended_steps : steps_told (end_leaves (leaves_all first chunks) end_bytes) ≡ (walked (joined chunks)).steps
  unfolding steps_told
  ended_steps = ap (λ (b : Bool). cond b (steps_kept (end_leaves (leaves_all first chunks) end_bytes)) 0) ended_formed ∙ (fed_law chunks).same_steps

  module _ (room : ℕ) where
    ended_told : end_bytes ≤ room → told (end_number (leaves_all first chunks) room) (end_leaves (leaves_all first chunks) room) ≡ walked (joined chunks)
    ended_told l =
        let t = end_leaves (leaves_all first chunks) end_bytes in
        ap₂ told (room_number (leaves_all first chunks) room l) (room_leaves (leaves_all first chunks) room l)
        ∙ ap (λ (n : ℕ). told n t) ended_number
        ∙ ap₂ (answer (walked (joined chunks)).number) ended_place ended_steps

    abbrev by_end : Known
    by_end = known_end (end_number (leaves_all first chunks) room) (end_leaves (leaves_all first chunks) room)

    all_known : (all : Bool) → left (leaves_all first chunks) all ≡ false → end_bytes ≤ room → known_in (leaves_all first chunks) room all ≡ known_by (walked (joined chunks))
    unfolding known_in known_end
    all_known all e l = ap (λ (b : Bool). cond b NotKnown by_end) e ∙ ap known_of (ended_told l) ∙ by_answer (walked (joined chunks)) (walked_numbered (joined chunks))

    -- ---- complete
    module _ (all : Bool) (steps : ℕ) (said : known_in (leaves_all first chunks) room all ≡ Complete steps) where
      was_ended : (left (leaves_all first chunks) all ≡ false) × (by_end ≡ Complete steps)
      unfolding known_in
      was_ended = go (left (leaves_all first chunks) all) refl said
        where
          go : (b : Bool) → left (leaves_all first chunks) all ≡ b → cond b NotKnown by_end ≡ Complete steps → (left (leaves_all first chunks) all ≡ false) × (by_end ≡ Complete steps)
          go true t e = let z : ◌≡◌ {A = ℕ} 0 1 = cc in absurd (omega arith)
          go false t e = (t, e)

      was_accepted : (end_number (leaves_all first chunks) room ≡ 0) × (steps_told (end_leaves (leaves_all first chunks) room) ≡ steps)
      unfolding known_end
      was_accepted = is_complete (told (end_number (leaves_all first chunks) room) (end_leaves (leaves_all first chunks) room)) steps was_ended.1

      all_fed : all ≡ true
      unfolding left
      all_fed = go all was_ended.0
        where
          go : (b : Bool) → (not b && eqb (own_number (leaves_all first chunks)) 0) ≡ false → b ≡ true
          go true t = refl
          go false t = absurd (eqb-false (own_number (leaves_all first chunks)) 0 t (over_own (leaves_all first chunks) room was_accepted.0))

      accepted_whole : walked (joined chunks) ≡ answer 0 (length (joined chunks)) steps
      accepted_whole =
          let is = ended_told (over_room (leaves_all first chunks) room was_accepted.0) in
          let number : (walked (joined chunks)).number ≡ 0 = sym (ap (λ (a : Answer). a.number) is) ∙ was_accepted.0 in
          let same : (walked (joined chunks)).steps ≡ steps = sym (ap (λ (a : Answer). a.steps) is) ∙ was_accepted.1 in
          ap (λ (n : ℕ). answer n (walked (joined chunks)).place (walked (joined chunks)).steps) number ∙ ap₂ (answer 0) (whole_place (joined chunks) number) same

-- ---- what is known, of any bytes as state
module _ (s : List ℕ) (room : ℕ) (all : Bool) where
  pub known_law : (k : Known) → k ≡ known_in s room all → Knows s room all k
  known_law k is = record {
    by_state = is;
    by_bytes = λ chunks led l over.
        is ∙ ap (λ (x : List ℕ). known_in x room all) led ∙ all_known chunks room all (ap (λ (x : List ℕ). left x all) (sym led) ∙ over) l;
    complete = λ chunks steps led said.
        let e : known_in (leaves_all first chunks) room all ≡ Complete steps = ap (λ (x : List ℕ). known_in x room all) (sym led) ∙ sym is ∙ said in
        (all_fed chunks room all steps e, accepted_whole chunks room all steps e);
  }

  -- by the code's test
  pub left_by_lem : (own : ℕ) → own ≡ own_number s → (b : Bool) → (not all && eqb own 0) ≡ b → left s all ≡ b
  unfolding left
  left_by_lem own is b e = ap (λ (n : ℕ). not all && eqb n 0) (sym is) ∙ e

  pub known_left : left s all ≡ true → Knows s room all NotKnown
  unfolding known_in
  known_left e = known_law NotKnown (sym (ap (λ (b : Bool). cond b NotKnown (known_end (end_number s room) (end_leaves s room))) e))

  pub known_ended : left s all ≡ false → (k : Known) → k ≡ known_end (end_number s room) (end_leaves s room) → Knows s room all k
  unfolding known_in
  known_ended e k is = known_law k (is ∙ sym (ap (λ (b : Bool). cond b NotKnown (known_end (end_number s room) (end_leaves s room))) e))
