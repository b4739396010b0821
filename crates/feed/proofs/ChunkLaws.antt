-- What feeding a chunk answers, case by case: bytes that are no run that goes on, a fault, a room that is too short, or the chunk is taken in. Assumes nothing.
use mathlib.Core.Path.{◌≡◌, refl, sym, ap, ap₂, ◌∙◌}
use mathlib.Core.Bool.{Bool, true, false, not, cond}
use mathlib.Core.List.{List}
use Prim.Native.Nat.{ℕ, ◌+◌, ◌-◌, ◌*◌, ◌≤◌, ◌<◌}
use native.Mathlib.Omega.{arith}
use lib.Dec.{ltb, eqb}
use lib.ListN.{length}
use borrow.Author.Tests.{lt-ltb, le-ltb, le-leb, lt-leb, eq-eqb, ne_eqb}
use Rattle.octets.specs.BigEndian.{laid}
use Rattle.stick.specs.declared.Reached.{Reached}
use Rattle.kept.specs.declared.Mark.{Mark}
use Rattle.kept.specs.Kept.{Kept}
use Rattle.kept.specs.Layout.{place_most, mark_in, kept_in, bytes_for, stopped_bytes}
use Rattle.taking.specs.Chunk.{gone_by, fed_by, results_for}
use Rattle.taking.proofs.WellLaws.{stop_few, stop_place}
use Rattle.kept.specs.Formed.{is_open}
use Rattle.std.proofs.Common.{Err, Ok, Result}
use Rattle.feed.specs.Answers.{written_by, own_number, fault_of, room_for, feed_number, fault_leaves, feed_leaves, feed_writes}
use Rattle.intake.specs.Posts.{Open, Gone}
use Rattle.intake.proofs.OpenLaws.{open_well}
use Rattle.feed.proofs.WrittenLaws.{is_written, is_refused}
use Rattle.feed.proofs.CallLaws.{own_open, own_shut, room_by, fault_by_lem}
use Rattle.intake.proofs.MarkLaws.{mark_place, mark_tail}

-- the answer, the state's bytes and the room afterwards
abbrev pub Feeds : List ℕ → List ℕ → List ℕ → Result ℕ ℕ → List ℕ → List ℕ → Type 0
Feeds s chunk room r t u =
    (r ≡ written_by (feed_number s chunk (length room)) (room_for s chunk)) × ((t ≡ feed_leaves s chunk (length room)) × (u ≡ feed_writes s chunk room))

module _ (s chunk room : List ℕ) where
  abbrev n : ℕ
  n = length room

  abbrev k : Kept
  k = kept_in s

  abbrev fault : ℕ
  fault = fault_of (kept_in s) chunk

  abbrev need : ℕ
  need = room_for s chunk

  abbrev fed : List ℕ
  fed = bytes_for (fed_by (kept_in s) chunk)

  number_by : (a b c : Bool) → eqb (own_number s) 0 ≡ a → eqb (fault_of (kept_in s) chunk) 0 ≡ b → ltb (length room) (room_for s chunk) ≡ c
      → feed_number s chunk (length room) ≡ cond (not a) (own_number s) (cond (not b) (fault_of (kept_in s) chunk) (cond c 11 0))
  unfolding feed_number
  number_by a b c ea eb ec =
      ap₂ (λ (x y : Bool). cond (not x) (own_number s) (cond (not y) fault (cond (ltb n need) 11 0))) ea eb
      ∙ ap (λ (z : Bool). cond (not a) (own_number s) (cond (not b) fault (cond z 11 0))) ec

  leaves_by_lem : (a b c : Bool) → is_open s ≡ a → eqb (fault_of (kept_in s) chunk) 0 ≡ b → eqb (feed_number s chunk (length room)) 0 ≡ c
      → feed_leaves s chunk (length room) ≡ cond a (cond b (cond c (bytes_for (fed_by (kept_in s) chunk)) s) (fault_leaves (kept_in s) chunk)) s
  unfolding feed_leaves
  leaves_by_lem a b c ea eb ec =
      ap₂ (λ (x y : Bool). cond x (cond y (cond (eqb (feed_number s chunk n) 0) fed s) (fault_leaves k chunk)) s) ea eb
      ∙ ap (λ (z : Bool). cond a (cond b (cond z fed s) (fault_leaves k chunk)) s) ec

  writes_by : (b : Bool) → eqb (feed_number s chunk (length room)) 0 ≡ b → feed_writes s chunk room ≡ cond b (laid room 0 (results_for (kept_in s) chunk)) room
  unfolding feed_writes
  writes_by b e = ap (λ (t : Bool). cond t (laid room 0 (results_for (kept_in s) chunk)) room) e

  stopped : (number : ℕ) → number ≡ feed_number s chunk (length room) → (number ≡ 0 → ⊥) → Err number ≡ written_by (feed_number s chunk (length room)) (room_for s chunk)
  stopped = is_refused (feed_number s chunk (length room)) (room_for s chunk)

  -- bytes that are none, or a run that is over
  pub feeds_shut : (own : ℕ) → own ≡ own_number s → (own ≡ 0 → ⊥) → Feeds s chunk room (Err own) s room
  feeds_shut own e some-own =
      let not_own : (own_number s ≡ 0 → ⊥) = λ z. some-own (e ∙ z) in
      let is : feed_number s chunk n ≡ own_number s = number_by false (eqb fault 0) (ltb n need) (ne_eqb (own_number s) 0 not_own) refl refl in
      let some : eqb (feed_number s chunk n) 0 ≡ false = ne_eqb (feed_number s chunk n) 0 (λ z. not_own (sym is ∙ z)) in (
        stopped own (e ∙ sym is) some-own,
        (sym (leaves_by_lem false (eqb fault 0) (eqb (feed_number s chunk n) 0) (own_shut s not_own) refl refl), sym (writes_by false some)),
      )

  module _ (zero_own : own_number s ≡ 0) (m : Mark) (em : m ≡ mark_in s) (r : Reached) (er : r ≡ gone_by (kept_in s) chunk) where
    going : Open s
    going = own_open s zero_own

    abbrev far : Reached
    far = gone_by (kept_in s) chunk

    far_number : r.number ≡ (gone_by (kept_in s) chunk).number
    far_number = ap (λ (x : Reached). x.number) er

    place_is : m.place - m.tail + r.at ≡ (kept_in s).place - length (kept_in s).tail + (gone_by (kept_in s) chunk).at
    place_is = ap₂ ◌+◌ (ap₂ ◌-◌ (mark_place s m em) (mark_tail s m em going)) (ap (λ (x : Reached). x.at) er)

    -- the place of a fault is far from the last number
    pub place_near : m.place - m.tail + r.at ≤ place_most + 51 * 65535
    place_near = omega (arith, place_is, stop_place k (open_well s going) chunk, stop_few k (open_well s going) chunk)

    -- a fault
    pub feeds_refused : 1 < r.number → (t : List ℕ) → t ≡ stopped_bytes r.number (m.place - m.tail + r.at) r.state.steps
        → Feeds s chunk room (Err r.number) t room
    unfolding fault_leaves
    feeds_refused h t et =
        let f : fault ≡ far.number = fault_by_lem s chunk false (lt-leb far.number 1 (omega (arith, far_number))) in
        let some : eqb fault 0 ≡ false = ne_eqb fault 0 (λ z. omega (arith, far_number)) in
        let is : feed_number s chunk n ≡ fault = number_by true false (ltb n need) (eq-eqb (own_number s) 0 zero_own) some refl in
        let other : eqb (feed_number s chunk n) 0 ≡ false = ap (λ (x : ℕ). eqb x 0) is ∙ some in
        let left : t ≡ fault_leaves k chunk =
        et
        ∙ ap₂ (λ (a b : ℕ). stopped_bytes a b r.state.steps) far_number place_is
        ∙ ap (λ (x : Reached). stopped_bytes far.number (k.place - length k.tail + far.at) x.state.steps) er in (
          stopped r.number (far_number ∙ sym f ∙ sym is) (λ z. omega arith),
          (left ∙ sym (leaves_by_lem true false (eqb (feed_number s chunk n) 0) going.is_open_is some refl), sym (writes_by false other)),
        )

    module _ (fair : r.number ≤ 1) where
      none : eqb (fault_of (kept_in s) chunk) 0 ≡ true
      none = eq-eqb fault 0 (fault_by_lem s chunk true (le-leb far.number 1 (omega (arith, far_number, fair))))

      pub feeds_gone : Gone s m chunk r
      feeds_gone = record { is_open_is = going; mark_is = em; gone_is = er; no_fault = fair }

      pub room_long : room_for s chunk ≡ length (results_for (kept_in s) chunk)
      room_long = room_by s chunk true true going.is_open_is none

      module _ (size : ℕ) (es : size ≡ room_for s chunk) where
        -- the room is too short
        pub feeds_short : length room < size → Feeds s chunk room (Err 11) s room
        feeds_short h =
            let is : feed_number s chunk n ≡ 11 = number_by true true true (eq-eqb (own_number s) 0 zero_own) none (lt-ltb n need (omega (arith, es, h))) in
            let other : eqb (feed_number s chunk n) 0 ≡ false = ap (λ (x : ℕ). eqb x 0) is in
            (stopped 11 (sym is) (λ z. omega arith), (sym (leaves_by_lem true true false going.is_open_is none other), sym (writes_by false other)))

        pub room_there : size ≤ length room → length (results_for (kept_in s) chunk) ≤ length room
        room_there h = omega (arith, es, h, room_long)

        -- the chunk is taken in
        pub feeds_in : size ≤ length room → (t u : List ℕ) → t ≡ bytes_for (fed_by (kept_in s) chunk) → u ≡ laid room 0 (results_for (kept_in s) chunk)
            → Feeds s chunk room (Ok size) t u
        feeds_in h t u et eu =
            let is : feed_number s chunk n ≡ 0 = number_by true true false (eq-eqb (own_number s) 0 zero_own) none (le-ltb n need (omega (arith, es, h))) in
            let nought : eqb (feed_number s chunk n) 0 ≡ true = eq-eqb (feed_number s chunk n) 0 is in
            (is_written (feed_number s chunk n) need size es is, (et ∙ sym (leaves_by_lem true true true going.is_open_is none nought), eu ∙ sym (writes_by true nought)))
