-- A call on any bytes as state, by what they are: no state, a run that was refused or is over, or one that goes on; and `call-law`, what holds of any call.
-- A state that a refusal or an accepted end leaves answers every later call, the end's too, with the same number, and stands. Assumes nothing.
use mathlib.Core.Path.{◌≡◌, refl, sym, ap, ap₂, ◌∙◌, subst, subst⁻¹}
use mathlib.Core.Logic.{◌⊎◌, inl, inr}
use mathlib.Core.Bool.{Bool, true, false, not, cond, ◌&&◌, ◌||◌}
use mathlib.Core.List.{List, []}
use Prim.Native.Nat.{ℕ, ◌+◌, ◌-◌, ◌*◌, ◌≤◌, ◌<◌}
use native.Mathlib.Omega.{arith}
use lib.Dec.{leb, ltb, eqb}
use lib.ListN.{length}
use borrow.Author.Tests.{ltb-true, ltb-false, leb-true, eqb-true, eqb-false, lt-ltb, le-ltb, le-leb, eq-eqb, ne_eqb}
use Rattle.whole.specs.Interval.{between}
use Rattle.whole.proofs.Choice.{passed_failed}
use Rattle.whole.proofs.OverLaws.{and_parts}
use Rattle.octets.specs.BigEndian.{laid}
use Rattle.records.specs.Records.{end_of, end_bytes}
use Rattle.kept.specs.Kept.{Kept}
use Rattle.kept.specs.Layout.{state_size, place_most, number_in, place_in, steps_kept, bytes_for, stopped_bytes, kept_in}
use Rattle.kept.specs.Formed.{clear, going, stopped, well_formed, is_open}
use Rattle.kept.specs.Posts.{WellKept}
use Rattle.kept.proofs.FormedLaws.{kept_well}
use Rattle.kept.proofs.KeptLaws.{kept_formed, Refusal, stopped_formed, stopped_number_back, stopped_place_back, stopped_steps_back}
use Rattle.taking.specs.Chunk.{gone_by, fed_by, results_for}
use Rattle.taking.proofs.NumberLaws.{stop_number}
use Rattle.taking.proofs.PlacedLaws.{place_most_lem}
use Rattle.taking.proofs.WellLaws.{fed_well, stop_few, stop_place}
use Rattle.feed.specs.Answers.{own_number, fault_of, room_for, feed_number, fault_leaves, feed_leaves, feed_writes, end_fault, end_number, end_leaves, end_writes}
use Rattle.fed.specs.Holds.{CallLaw, Closed, writes}

-- ---- the answers, by their tests
abbrev answered_by : Bool → ℕ → Bool → ℕ → Bool → ℕ
answered_by own n fine fault short = cond (not own) n (cond (not fine) fault (cond short 11 0))

abbrev left_by_lem : Bool → Bool → Bool → List ℕ → List ℕ → List ℕ → List ℕ
left_by_lem goes fine done s taken stop = cond goes (cond fine (cond done taken s) stop) s

module _ (s : List ℕ) where
  module _ (own fine short : Bool) (e : eqb (own_number s) 0 ≡ own) where
    feed_number_by : (c : List ℕ) (room : ℕ) → eqb (fault_of (kept_in s) c) 0 ≡ fine → ltb room (room_for s c) ≡ short
        → feed_number s c room ≡ answered_by own (own_number s) fine (fault_of (kept_in s) c) short
    unfolding feed_number
    feed_number_by c room f g =
        let n = own_number s in
        let m = fault_of (kept_in s) c in
        ap (λ (b : Bool). answered_by b n (eqb m 0) m (ltb room (room_for s c))) e ∙ ap₂ (λ (x y : Bool). answered_by own n x m y) f g

    end_number_by : (room : ℕ) → eqb (end_fault (kept_in s)) 0 ≡ fine → ltb room end_bytes ≡ short
        → end_number s room ≡ answered_by own (own_number s) fine (end_fault (kept_in s)) short
    unfolding end_number
    end_number_by room f g =
        let n = own_number s in
        let m = end_fault (kept_in s) in
        ap (λ (b : Bool). answered_by b n (eqb m 0) m (ltb room end_bytes)) e ∙ ap₂ (λ (x y : Bool). answered_by own n x m y) f g

  module _ (goes fine done : Bool) (e : is_open s ≡ goes) where
    feed_leaves_by : (c : List ℕ) (room : ℕ) → eqb (fault_of (kept_in s) c) 0 ≡ fine → eqb (feed_number s c room) 0 ≡ done
        → feed_leaves s c room ≡ left_by_lem goes fine done s (bytes_for (fed_by (kept_in s) c)) (fault_leaves (kept_in s) c)
    unfolding feed_leaves
    feed_leaves_by c room f g =
        let taken = bytes_for (fed_by (kept_in s) c) in
        let stop = fault_leaves (kept_in s) c in
        ap (λ (b : Bool). left_by_lem b (eqb (fault_of (kept_in s) c) 0) (eqb (feed_number s c room) 0) s taken stop) e ∙ ap₂ (λ (x y : Bool). left_by_lem goes x y s taken stop) f g

    end_leaves_by : (room : ℕ) → eqb (end_fault (kept_in s)) 0 ≡ fine → eqb (end_number s room) 0 ≡ done
        → end_leaves s room
        ≡ left_by_lem goes fine done s (stopped_bytes 9 (kept_in s).place (kept_in s).state.steps)
        (stopped_bytes (end_fault (kept_in s)) ((kept_in s).place - length (kept_in s).tail) (kept_in s).state.steps)
    unfolding end_leaves
    end_leaves_by room f g =
        let k = kept_in s in
        let taken = stopped_bytes 9 k.place k.state.steps in
        let stop = stopped_bytes (end_fault k) (k.place - length k.tail) k.state.steps in
        ap (λ (b : Bool). left_by_lem b (eqb (end_fault k) 0) (eqb (end_number s room) 0) s taken stop) e ∙ ap₂ (λ (x y : Bool). left_by_lem goes x y s taken stop) f g

-- ---- with room enough the end is what it is with just its room
module _ (s : List ℕ) (room : ℕ) (enough : end_bytes ≤ room) where
  pub room_number : end_number s room ≡ end_number s end_bytes
  room_number = by room enough ∙ sym (by end_bytes (omega arith))
    where
      by : (r : ℕ) → end_bytes ≤ r → end_number s r ≡ answered_by (eqb (own_number s) 0) (own_number s) (eqb (end_fault (kept_in s)) 0) (end_fault (kept_in s)) false
      by r l = end_number_by s (eqb (own_number s) 0) (eqb (end_fault (kept_in s)) 0) false refl r refl (le-ltb r end_bytes l)

  pub room_leaves : end_leaves s room ≡ end_leaves s end_bytes
  room_leaves =
      let fine = eqb (end_fault (kept_in s)) 0 in
      let done = eqb (end_number s end_bytes) 0 in
      end_leaves_by s (is_open s) fine done refl room refl (ap (λ (n : ℕ). eqb n 0) room_number) ∙ sym (end_leaves_by s (is_open s) fine done refl end_bytes refl refl)

-- ---- a state whose run does not go on: its own number, and it stands
module _ (s : List ℕ) (own : own_number s ≡ 0 → ⊥) where
  pub own_feed : (c : List ℕ) (room : ℕ) → feed_number s c room ≡ own_number s
  own_feed c room =
      feed_number_by s false (eqb (fault_of (kept_in s) c) 0) (ltb room (room_for s c)) (ne_eqb (own_number s) 0 own) c room refl refl

  pub own_end : (room : ℕ) → end_number s room ≡ own_number s
  own_end room = end_number_by s false (eqb (end_fault (kept_in s)) 0) (ltb room end_bytes) (ne_eqb (own_number s) 0 own) room refl refl

  shut : is_open s ≡ false
  unfolding is_open own_number
  shut = go (well_formed s) (eqb (number_in s) 0) refl refl
    where
      go : (x y : Bool) → well_formed s ≡ x → eqb (number_in s) 0 ≡ y → is_open s ≡ false
      go true true ex ey = absurd (own (ap (λ (b : Bool). cond b (number_in s) 10) ex ∙ eqb-true (number_in s) 0 ey))
      go true false ex ey = ap₂ ◌&&◌ ex ey
      go false y ex ey = ap₂ ◌&&◌ ex ey

  pub own_leaves : (c : List ℕ) (room : ℕ) → feed_leaves s c room ≡ s
  own_leaves c room = feed_leaves_by s false (eqb (fault_of (kept_in s) c) 0) (eqb (feed_number s c room) 0) shut c room refl refl

  pub own_end_leaves : (room : ℕ) → end_leaves s room ≡ s
  own_end_leaves room = end_leaves_by s false (eqb (end_fault (kept_in s)) 0) (eqb (end_number s room) 0) shut room refl refl

-- so of one that was refused or is over
module _ (s : List ℕ) (w : well_formed s ≡ true) (some : number_in s ≡ 0 → ⊥) where
  pub closed_own : own_number s ≡ number_in s
  unfolding own_number
  closed_own = ap (λ (b : Bool). cond b (number_in s) 10) w

  pub closed_some : own_number s ≡ 0 → ⊥
  closed_some e = some (sym closed_own ∙ e)

  -- its number is that of a refusal
  closed_refusal : Refusal (number_in s)
  unfolding well_formed stopped
  closed_refusal =
      let n = number_in s in
      let b = (and_parts (eqb (length s) state_size) (cond (eqb n 0) (going s) (stopped s)) w).1 in
      let is : stopped s ≡ true = sym (ap (λ (x : Bool). cond x (going s) (stopped s)) (ne_eqb n 0 some)) ∙ b in
      let x = between 1 9 n || eqb n 12 in
      let y = leb (steps_kept s) 65535 in
      let z = leb (place_in s) (place_most + 51 * steps_kept s) in
      let three = (and_parts (x && y && z) (clear s 13 state_size) is).0 in
      go (between 1 9 n) refl (and_parts x y (and_parts (x && y) z three).0).0
    where
      go : (b : Bool) → between 1 9 (number_in s) ≡ b → (b || eqb (number_in s) 12) ≡ true → Refusal (number_in s)
      go true e t = let p = and_parts (leb 1 (number_in s)) (leb (number_in s) 9) e in inl (leb-true 1 (number_in s) p.0, leb-true (number_in s) 9 p.1)
      go false e t = inr (eqb-true (number_in s) 12 t)

-- ---- a state whose run goes on, with what is kept in it
module _ (s : List ℕ) (k : Kept) (is : kept_in s ≡ k) (w : well_formed s ≡ true) (z : number_in s ≡ 0) where
  own_zero : eqb (own_number s) 0 ≡ true
  unfolding own_number
  own_zero = eq-eqb (own_number s) 0 (ap (λ (b : Bool). cond b (number_in s) 10) w ∙ z)

  goes_on : is_open s ≡ true
  unfolding is_open
  goes_on = ap₂ ◌&&◌ w (eq-eqb (number_in s) 0 z)

  module _ (c : List ℕ) where
    -- a chunk without a fault
    module _ (h : (gone_by k c).number ≤ 1) where
      no_fault : eqb (fault_of (kept_in s) c) 0 ≡ true
      unfolding fault_of
      no_fault =
          eq-eqb (fault_of (kept_in s) c) 0 (ap (λ (x : Kept). fault_of x c) is ∙ ap (λ (b : Bool). cond b 0 (gone_by k c).number) (le-leb (gone_by k c).number 1 h))

      pub enough_number : (room : ℕ) → room_for s c ≤ room → feed_number s c room ≡ 0
      enough_number room l = feed_number_by s true true false own_zero c room no_fault (le-ltb room (room_for s c) l)

      pub enough_leaves : (room : ℕ) → room_for s c ≤ room → feed_leaves s c room ≡ bytes_for (fed_by k c)
      enough_leaves room l =
          feed_leaves_by s true true true goes_on c room no_fault (eq-eqb (feed_number s c room) 0 (enough_number room l)) ∙ ap (λ (x : Kept). bytes_for (fed_by x c)) is

      short_number : (room : ℕ) → room < room_for s c → feed_number s c room ≡ 11
      short_number room l = feed_number_by s true true true own_zero c room no_fault (lt-ltb room (room_for s c) l)

      short_leaves : (room : ℕ) → room < room_for s c → feed_leaves s c room ≡ s
      short_leaves room l = feed_leaves_by s true true false goes_on c room no_fault (ap (λ (m : ℕ). eqb m 0) (short_number room l))

    -- with one
    module _ (h : (gone_by k c).number ≤ 1 → ⊥) where
      fault_is : fault_of (kept_in s) c ≡ (gone_by k c).number
      unfolding fault_of
      fault_is = ap (λ (x : Kept). fault_of x c) is ∙ go (leb (gone_by k c).number 1) refl
        where
          go : (b : Bool) → leb (gone_by k c).number 1 ≡ b → cond b 0 (gone_by k c).number ≡ (gone_by k c).number
          go true e = absurd (h (leb-true (gone_by k c).number 1 e))
          go false e = refl

      some_fault : eqb (fault_of (kept_in s) c) 0 ≡ false
      some_fault = ne_eqb (fault_of (kept_in s) c) 0 (λ e. let f = fault_is in h (omega arith))

      pub fault_number : (room : ℕ) → feed_number s c room ≡ (gone_by k c).number
      fault_number room = feed_number_by s true false (ltb room (room_for s c)) own_zero c room some_fault refl ∙ fault_is

      pub fault_leaves_lem : (room : ℕ) → feed_leaves s c room ≡ fault_leaves k c
      fault_leaves_lem room =
          feed_leaves_by s true false (eqb (feed_number s c room) 0) goes_on c room some_fault refl ∙ ap (λ (x : Kept). fault_leaves x c) is

  -- ---- the end
  module _ (room : ℕ) where
    fault_there : end_fault (kept_in s) ≡ end_fault k
    fault_there = ap end_fault is

    -- accepted
    module _ (e : end_fault k ≡ 0) where
      whole_end : eqb (end_fault (kept_in s)) 0 ≡ true
      whole_end = eq-eqb (end_fault (kept_in s)) 0 (fault_there ∙ e)

      pub end_number_is : end_bytes ≤ room → end_number s room ≡ 0
      end_number_is l = end_number_by s true true false own_zero room whole_end (le-ltb room end_bytes l)

      pub end_leaves_is : end_bytes ≤ room → end_leaves s room ≡ stopped_bytes 9 k.place k.state.steps
      end_leaves_is l =
          end_leaves_by s true true true goes_on room whole_end (eq-eqb (end_number s room) 0 (end_number_is l))
          ∙ ap (λ (x : Kept). stopped_bytes 9 x.place x.state.steps) is

      short_end_number : room < end_bytes → end_number s room ≡ 11
      short_end_number l = end_number_by s true true true own_zero room whole_end (lt-ltb room end_bytes l)

      short_end_leaves : room < end_bytes → end_leaves s room ≡ s
      short_end_leaves l = end_leaves_by s true true false goes_on room whole_end (ap (λ (m : ℕ). eqb m 0) (short_end_number l))

    -- refused
    module _ (e : end_fault k ≡ 0 → ⊥) where
      bad_end : eqb (end_fault (kept_in s)) 0 ≡ false
      bad_end = ne_eqb (end_fault (kept_in s)) 0 (λ f. e (sym fault_there ∙ f))

      pub refused_number : end_number s room ≡ end_fault k
      refused_number = end_number_by s true false (ltb room end_bytes) own_zero room bad_end refl ∙ fault_there

      pub refused_leaves : end_leaves s room ≡ stopped_bytes (end_fault k) (k.place - length k.tail) k.state.steps
      refused_leaves =
          end_leaves_by s true false (eqb (end_number s room) 0) goes_on room bad_end refl
          ∙ ap (λ (x : Kept). stopped_bytes (end_fault x) (x.place - length x.tail) x.state.steps) is

-- ---- the bytes of a fault are a state
module _ (k : Kept) (well : WellKept k) (c : List ℕ) (h : (gone_by k c).number ≤ 1 → ⊥) where
  fault_refusal : Refusal (gone_by k c).number
  fault_refusal = go (stop_number k c)
    where
      go : ((gone_by k c).number ≤ 9) ⊎ ((gone_by k c).number ≡ 12) → Refusal (gone_by k c).number
      go (inl l) = inl (two (gone_by k c).number h, l)
        where
          two : (n : ℕ) → (n ≤ 1 → ⊥) → 1 ≤ n
          two n f = omega (arith, f)
      go (inr e) = inr e

  pub fault_formed : well_formed (fault_leaves k c) ≡ true
  unfolding fault_leaves
  fault_formed =
      stopped_formed (gone_by k c).number (k.place - length k.tail + (gone_by k c).at) (gone_by k c).state.steps fault_refusal (stop_few k well c) (stop_place k well c)

  pub fault_number_back : number_in (fault_leaves k c) ≡ (gone_by k c).number
  unfolding fault_leaves
  fault_number_back =
      stopped_number_back (gone_by k c).number (k.place - length k.tail + (gone_by k c).at) (gone_by k c).state.steps fault_refusal (stop_few k well c) (stop_place k well c)

  pub fault_place_back : place_in (fault_leaves k c) ≡ k.place - length k.tail + (gone_by k c).at
  unfolding fault_leaves
  fault_place_back =
      stopped_place_back (gone_by k c).number (k.place - length k.tail + (gone_by k c).at) (gone_by k c).state.steps fault_refusal (stop_few k well c) (stop_place k well c)

  pub fault_steps_back : steps_kept (fault_leaves k c) ≡ (gone_by k c).state.steps
  unfolding fault_leaves
  fault_steps_back =
      stopped_steps_back (gone_by k c).number (k.place - length k.tail + (gone_by k c).at) (gone_by k c).state.steps fault_refusal (stop_few k well c) (stop_place k well c)

  pub fault_some : number_in (fault_leaves k c) ≡ 0 → ⊥
  fault_some e = let n = fault_number_back in h (omega arith)

-- ---- so are those of a refused end, and of an accepted one
abbrev pub fault_by_lem : Bool → Bool → ℕ
fault_by_lem none ended = cond (not none) 1 (cond ended 0 8)

module _ (k : Kept) (well : WellKept k) where
  end_place : k.place - length k.tail ≤ place_most + 51 * k.state.steps
  end_place = let m = place_most_lem k well in omega arith

  module _ (e : end_fault k ≡ 0 → ⊥) where
    end_refusal : Refusal (end_fault k)
    unfolding end_fault
    end_refusal = go (eqb (length k.tail) 0) (eqb k.state.stage 0) e
      where
        go : (x y : Bool) → (fault_by_lem x y ≡ 0 → ⊥) → Refusal (fault_by_lem x y)
        go false y f = inl (omega arith, omega arith)
        go true true f = absurd (f refl)
        go true false f = inl (omega arith, omega arith)

    pub refused_formed : well_formed (stopped_bytes (end_fault k) (k.place - length k.tail) k.state.steps) ≡ true
    refused_formed = stopped_formed (end_fault k) (k.place - length k.tail) k.state.steps end_refusal well.few end_place

    pub refused_number_back : number_in (stopped_bytes (end_fault k) (k.place - length k.tail) k.state.steps) ≡ end_fault k
    refused_number_back = stopped_number_back (end_fault k) (k.place - length k.tail) k.state.steps end_refusal well.few end_place

    pub refused_place : place_in (stopped_bytes (end_fault k) (k.place - length k.tail) k.state.steps) ≡ k.place - length k.tail
    refused_place = stopped_place_back (end_fault k) (k.place - length k.tail) k.state.steps end_refusal well.few end_place

    pub refused_steps : steps_kept (stopped_bytes (end_fault k) (k.place - length k.tail) k.state.steps) ≡ k.state.steps
    refused_steps = stopped_steps_back (end_fault k) (k.place - length k.tail) k.state.steps end_refusal well.few end_place

  module _ (e : end_fault k ≡ 0) where
    pub no_tail : length k.tail ≡ 0
    unfolding end_fault
    no_tail = go (eqb (length k.tail) 0) refl (eqb k.state.stage 0) e
      where
        go : (x : Bool) → eqb (length k.tail) 0 ≡ x → (y : Bool) → fault_by_lem x y ≡ 0 → length k.tail ≡ 0
        go true ex y f = eqb-true (length k.tail) 0 ex
        go false ex y f = absurd (omega arith)

    over_place : k.place ≤ place_most + 51 * k.state.steps
    over_place = let m = place_most_lem k well in let t = no_tail in omega arith

    nine : Refusal 9
    nine = inl (omega arith, omega arith)

    over_formed : well_formed (stopped_bytes 9 k.place k.state.steps) ≡ true
    over_formed = stopped_formed 9 k.place k.state.steps nine well.few over_place

    over_number : number_in (stopped_bytes 9 k.place k.state.steps) ≡ 9
    over_number = stopped_number_back 9 k.place k.state.steps nine well.few over_place

    pub over_place_back : place_in (stopped_bytes 9 k.place k.state.steps) ≡ k.place
    over_place_back = stopped_place_back 9 k.place k.state.steps nine well.few over_place

    pub over_steps_back : steps_kept (stopped_bytes 9 k.place k.state.steps) ≡ k.state.steps
    over_steps_back = stopped_steps_back 9 k.place k.state.steps nine well.few over_place

-- ---- a call, by what the bytes are
data Feeding (s c : List ℕ) (room : ℕ) : Type 0 where
  shut_out : (own_number s ≡ 0 → ⊥) → Feeding s c room
  faulty : well_formed s ≡ true → number_in s ≡ 0 → ((gone_by (kept_in s) c).number ≤ 1 → ⊥) → Feeding s c room
  too_short : well_formed s ≡ true → number_in s ≡ 0 → (gone_by (kept_in s) c).number ≤ 1 → room < room_for s c → Feeding s c room
  taken : well_formed s ≡ true → number_in s ≡ 0 → (gone_by (kept_in s) c).number ≤ 1 → room_for s c ≤ room → Feeding s c room

own_parts : (s : List ℕ) → own_number s ≡ 0 → (well_formed s ≡ true) × (number_in s ≡ 0)
unfolding own_number
own_parts s e = go (well_formed s) refl e
  where
    go : (b : Bool) → well_formed s ≡ b → cond b (number_in s) 10 ≡ 0 → (well_formed s ≡ true) × (number_in s ≡ 0)
    go true w f = (w, f)
    go false w f = absurd (omega arith)

feeding : (s c : List ℕ) (room : ℕ) → Feeding s c room
feeding s c room = go (eqb (own_number s) 0) refl (leb (gone_by (kept_in s) c).number 1) refl (ltb room (room_for s c)) refl
  where
    go : (x : Bool) → eqb (own_number s) 0 ≡ x → (y : Bool) → leb (gone_by (kept_in s) c).number 1 ≡ y → (z : Bool) → ltb room (room_for s c) ≡ z → Feeding s c room
    go false ex y ey z ez = shut_out (eqb-false (own_number s) 0 ex)
    go true ex false ey z ez =
        let p = own_parts s (eqb-true (own_number s) 0 ex) in
        faulty p.0 p.1 (λ h. passed_failed (le-leb (gone_by (kept_in s) c).number 1 h) ey)
    go true ex true ey true ez =
        let p = own_parts s (eqb-true (own_number s) 0 ex) in
        too_short p.0 p.1 (leb-true (gone_by (kept_in s) c).number 1 ey) (ltb-true room (room_for s c) ez)
    go true ex true ey false ez =
        let p = own_parts s (eqb-true (own_number s) 0 ex) in
        taken p.0 p.1 (leb-true (gone_by (kept_in s) c).number 1 ey) (ltb-false room (room_for s c) ez)

data Ending (s : List ℕ) (room : ℕ) : Type 0 where
  shut_out : (own_number s ≡ 0 → ⊥) → Ending s room
  refused : well_formed s ≡ true → number_in s ≡ 0 → (end_fault (kept_in s) ≡ 0 → ⊥) → Ending s room
  too_short : well_formed s ≡ true → number_in s ≡ 0 → end_fault (kept_in s) ≡ 0 → room < end_bytes → Ending s room
  taken : well_formed s ≡ true → number_in s ≡ 0 → end_fault (kept_in s) ≡ 0 → end_bytes ≤ room → Ending s room

ending : (s : List ℕ) (room : ℕ) → Ending s room
ending s room = go (eqb (own_number s) 0) refl (eqb (end_fault (kept_in s)) 0) refl (ltb room end_bytes) refl
  where
    go : (x : Bool) → eqb (own_number s) 0 ≡ x → (y : Bool) → eqb (end_fault (kept_in s)) 0 ≡ y → (z : Bool) → ltb room end_bytes ≡ z → Ending s room
    go false ex y ey z ez = shut_out (eqb-false (own_number s) 0 ex)
    go true ex false ey z ez =
        let p = own_parts s (eqb-true (own_number s) 0 ex) in refused p.0 p.1 (eqb-false (end_fault (kept_in s)) 0 ey)
    go true ex true ey true ez =
        let p = own_parts s (eqb-true (own_number s) 0 ex) in too_short p.0 p.1 (eqb-true (end_fault (kept_in s)) 0 ey) (ltb-true room end_bytes ez)
    go true ex true ey false ez =
        let p = own_parts s (eqb-true (own_number s) 0 ex) in taken p.0 p.1 (eqb-true (end_fault (kept_in s)) 0 ey) (ltb-false room end_bytes ez)

no_eleven : (n : ℕ) → Refusal n → n ≡ 11 → ⊥
no_eleven n (inl (a, b)) e = omega arith
no_eleven n (inr f) e = omega arith

-- what does not go on, and is no state, answers 10
own_ten : (s : List ℕ) (own : own_number s ≡ 0 → ⊥) → (own_number s ≡ 10) ⊎ ((well_formed s ≡ true) × (number_in s ≡ 0 → ⊥))
unfolding own_number
own_ten s own = go (well_formed s) refl
  where
    go : (b : Bool) → well_formed s ≡ b → (own_number s ≡ 10) ⊎ ((well_formed s ≡ true) × (number_in s ≡ 0 → ⊥))
    go true e = inr (e, λ z. own (ap (λ (b : Bool). cond b (number_in s) 10) e ∙ z))
    go false e = inl (ap (λ (b : Bool). cond b (number_in s) 10) e)

own_not_eleven : (s : List ℕ) → (own_number s ≡ 0 → ⊥) → own_number s ≡ 11 → ⊥
own_not_eleven s own e = go (own_ten s own)
  where
    go : (own_number s ≡ 10) ⊎ ((well_formed s ≡ true) × (number_in s ≡ 0 → ⊥)) → ⊥
    go (inl t) = omega arith
    go (inr (w, some)) = no_eleven (number_in s) (closed_refusal s w some) (sym (closed_own s w some) ∙ e)

module _ (s c : List ℕ) (room : ℕ) where
  again : feed_number s c room ≡ 11 → feed_leaves s c room ≡ s
  again e = go (feeding s c room)
    where
      go : Feeding s c room → feed_leaves s c room ≡ s
      go (shut_out own) = own_leaves s own c room
      go (faulty w z h) = absurd (no_eleven (gone_by (kept_in s) c).number (fault_refusal (kept_in s) (kept_well s w z) c h) (sym (fault_number s (kept_in s) refl w z c h room) ∙ e))
      go (too_short w z h l) = short_leaves s (kept_in s) refl w z c h room l
      go (taken w z h l) = let f = enough_number s (kept_in s) refl w z c h room l in absurd (omega arith)

  enough : feed_number s c room ≡ 11 → (more : ℕ) → room_for s c ≤ more → feed_number s c more ≡ 0
  enough e more m = go (feeding s c room)
    where
      go : Feeding s c room → feed_number s c more ≡ 0
      go (shut_out own) = absurd (own_not_eleven s own (sym (own_feed s own c room) ∙ e))
      go (faulty w z h) = absurd (no_eleven (gone_by (kept_in s) c).number (fault_refusal (kept_in s) (kept_well s w z) c h) (sym (fault_number s (kept_in s) refl w z c h room) ∙ e))
      go (too_short w z h l) = enough_number s (kept_in s) refl w z c h more m
      go (taken w z h l) = enough_number s (kept_in s) refl w z c h more m

  stays : well_formed s ≡ true → well_formed (feed_leaves s c room) ≡ true
  stays formed = go (feeding s c room)
    where
      by : (t : List ℕ) → feed_leaves s c room ≡ t → well_formed t ≡ true → well_formed (feed_leaves s c room) ≡ true
      by t e f = ap well_formed e ∙ f

      go : Feeding s c room → well_formed (feed_leaves s c room) ≡ true
      go (shut_out own) = by s (own_leaves s own c room) formed
      go (faulty w z h) = by (fault_leaves (kept_in s) c) (fault_leaves_lem s (kept_in s) refl w z c h room) (fault_formed (kept_in s) (kept_well s w z) c h)
      go (too_short w z h l) = by s (short_leaves s (kept_in s) refl w z c h room l) formed
      go (taken w z h l) =
          by (bytes_for (fed_by (kept_in s) c)) (enough_leaves s (kept_in s) refl w z c h room l) (kept_formed (fed_by (kept_in s) c) (fed_well (kept_in s) (kept_well s w z) c h))

  stays_at_end : well_formed s ≡ true → well_formed (end_leaves s room) ≡ true
  stays_at_end formed = go (ending s room)
    where
      by : (t : List ℕ) → end_leaves s room ≡ t → well_formed t ≡ true → well_formed (end_leaves s room) ≡ true
      by t e f = ap well_formed e ∙ f

      go : Ending s room → well_formed (end_leaves s room) ≡ true
      go (shut_out own) = by s (own_end_leaves s own room) formed
      go (refused w z e) =
          let k = kept_in s in
          by (stopped_bytes (end_fault k) (k.place - length k.tail) k.state.steps) (refused_leaves s k refl w z room e) (refused_formed k (kept_well s w z) e)
      go (too_short w z e l) = by s (short_end_leaves s (kept_in s) refl w z room e l) formed
      go (taken w z e l) =
          let k = kept_in s in by (stopped_bytes 9 k.place k.state.steps) (end_leaves_is s k refl w z room e l) (over_formed k (kept_well s w z) e)

  -- a call that is taken leaves the same state whatever the room
  pub enough_same : feed_number s c room ≡ 11 → (more : ℕ) → room_for s c ≤ more → feed_leaves s c more ≡ feed_leaves s c (room_for s c)
  enough_same e more m = go (feeding s c room)
    where
      go : Feeding s c room → feed_leaves s c more ≡ feed_leaves s c (room_for s c)
      go (shut_out own) = own_leaves s own c more ∙ sym (own_leaves s own c (room_for s c))
      go (faulty w z h) = fault_leaves_lem s (kept_in s) refl w z c h more ∙ sym (fault_leaves_lem s (kept_in s) refl w z c h (room_for s c))
      go (too_short w z h l) = enough_leaves s (kept_in s) refl w z c h more m ∙ sym (enough_leaves s (kept_in s) refl w z c h (room_for s c) (omega arith))
      go (taken w z h l) = enough_leaves s (kept_in s) refl w z c h more m ∙ sym (enough_leaves s (kept_in s) refl w z c h (room_for s c) (omega arith))

  again_at_end : end_number s room ≡ 11 → end_leaves s room ≡ s
  again_at_end e = go (ending s room)
    where
      go : Ending s room → end_leaves s room ≡ s
      go (shut_out own) = own_end_leaves s own room
      go (refused w z f) =
          let k = kept_in s in absurd (no_eleven (end_fault k) (end_refusal k (kept_well s w z) f) (sym (refused_number s k refl w z room f) ∙ e))
      go (too_short w z f l) = short_end_leaves s (kept_in s) refl w z room f l
      go (taken w z f l) = let g = end_number_is s (kept_in s) refl w z room f l in absurd (omega arith)

  enough_at_end : end_number s room ≡ 11 → (more : ℕ) → end_bytes ≤ more → end_number s more ≡ 0
  enough_at_end e more m = go (ending s room)
    where
      go : Ending s room → end_number s more ≡ 0
      go (shut_out own) = absurd (own_not_eleven s own (sym (own_end s own room) ∙ e))
      go (refused w z f) =
          let k = kept_in s in absurd (no_eleven (end_fault k) (end_refusal k (kept_well s w z) f) (sym (refused_number s k refl w z room f) ∙ e))
      go (too_short w z f l) = end_number_is s (kept_in s) refl w z more f m
      go (taken w z f l) = end_number_is s (kept_in s) refl w z more f m

-- an end that is accepted had room enough, and the run went on till then
module _ (s : List ℕ) (room : ℕ) (ok : end_number s room ≡ 0) where
  pub over_room : end_bytes ≤ room
  over_room = go (ending s room)
    where
      go : Ending s room → end_bytes ≤ room
      go (shut_out own) = absurd (own (sym (own_end s own room) ∙ ok))
      go (refused w z f) = absurd (f (sym (refused_number s (kept_in s) refl w z room f) ∙ ok))
      go (too_short w z f l) = let g = short_end_number s (kept_in s) refl w z room f l in absurd (omega arith)
      go (taken w z f l) = l

  pub over_own : own_number s ≡ 0
  over_own = go (eqb (own_number s) 0) refl
    where
      go : (b : Bool) → eqb (own_number s) 0 ≡ b → own_number s ≡ 0
      go true e = eqb-true (own_number s) 0 e
      go false e = sym (own_end s (eqb-false (own_number s) 0 e) room) ∙ ok

-- ---- what a call writes
module _ (s c lent : List ℕ) where
  nothing : (feed_number s c (length lent) ≡ 0 → ⊥) → feed_writes s c lent ≡ lent
  unfolding feed_writes
  nothing n = ap (λ (b : Bool). cond b (laid lent 0 (results_for (kept_in s) c)) lent) (ne_eqb (feed_number s c (length lent)) 0 n)

  nothing_at_end : (end_number s (length lent) ≡ 0 → ⊥) → end_writes s lent ≡ lent
  unfolding end_writes
  nothing_at_end n = ap (λ (b : Bool). cond b (laid lent 0 (end_of (kept_in s).state.steps)) lent) (ne_eqb (end_number s (length lent)) 0 n)

  -- a call that is not refused is none with just the room it needs either
  just_enough : feed_number s c (length lent) ≡ 0 → feed_number s c (room_for s c) ≡ 0
  just_enough e = go (feeding s c (length lent))
    where
      go : Feeding s c (length lent) → feed_number s c (room_for s c) ≡ 0
      go (shut_out own) = absurd (own (sym (own_feed s own c (length lent)) ∙ e))
      go (faulty w z h) = fault_number s (kept_in s) refl w z c h (room_for s c) ∙ sym (fault_number s (kept_in s) refl w z c h (length lent)) ∙ e
      go (too_short w z h l) = let f = short_number s (kept_in s) refl w z c h (length lent) l in absurd (omega arith)
      go (taken w z h l) = enough_number s (kept_in s) refl w z c h (room_for s c) (omega arith)

  written : feed_number s c (length lent) ≡ 0 → feed_writes s c lent ≡ laid lent 0 (writes s c)
  unfolding feed_writes writes
  written e =
      let results = results_for (kept_in s) c in
      ap (λ (b : Bool). cond b (laid lent 0 results) lent) (eq-eqb (feed_number s c (length lent)) 0 e)
      ∙ sym (ap (λ (b : Bool). laid lent 0 (cond b results [])) (eq-eqb (feed_number s c (room_for s c)) 0 (just_enough e)))

-- ---- a state that answers every call, the end's too, with a number, and stands
own_closed : (t : List ℕ) → (own_number t ≡ 0 → ⊥) → Closed t (own_number t)
own_closed t own = record { fed_number = own_feed t own; fed_leaves = own_leaves t own; end_number_is = own_end t own; end_leaves_is = own_end_leaves t own }

stopped_closed : (t : List ℕ) → well_formed t ≡ true → (n : ℕ) → number_in t ≡ n → (n ≡ 0 → ⊥) → Closed t n
stopped_closed t w n e some =
    let filled : (number_in t ≡ 0 → ⊥) = λ z. some (sym e ∙ z) in
    subst (Closed t) (closed_own t w filled ∙ e) (own_closed t (closed_some t w filled))

module _ (s : List ℕ) (room : ℕ) where
  -- after a refused chunk, 10 and 11 aside
  pub refused_closed : (c : List ℕ) → (feed_number s c room ≡ 0 → ⊥) → (feed_number s c room ≡ 10 → ⊥) → (feed_number s c room ≡ 11 → ⊥)
      → Closed (feed_leaves s c room) (feed_number s c room)
  refused_closed c n0 n10 n11 = go (feeding s c room)
    where
      by : (t : List ℕ) (n : ℕ) → feed_leaves s c room ≡ t → feed_number s c room ≡ n → Closed t n → Closed (feed_leaves s c room) (feed_number s c room)
      by t n e f p = subst⁻¹ (λ (x : List ℕ). Closed x (feed_number s c room)) e (subst⁻¹ (Closed t) f p)

      go : Feeding s c room → Closed (feed_leaves s c room) (feed_number s c room)
      go (shut_out own) = by s (own_number s) (own_leaves s own c room) (own_feed s own c room) (own_closed s own)
      go (faulty w z h) =
          let k = kept_in s in
          let well = kept_well s w z in
          by (fault_leaves k c) (gone_by k c).number (fault_leaves_lem s k refl w z c h room) (fault_number s k refl w z c h room)
          (stopped_closed (fault_leaves k c) (fault_formed k well c h) (gone_by k c).number (fault_number_back k well c h) (λ x. h (omega arith)))
      go (too_short w z h l) = absurd (n11 (short_number s (kept_in s) refl w z c h room l))
      go (taken w z h l) = absurd (n0 (enough_number s (kept_in s) refl w z c h room l))

  -- after a refused end
  pub refused_end_closed : (end_number s room ≡ 0 → ⊥) → (end_number s room ≡ 10 → ⊥) → (end_number s room ≡ 11 → ⊥) → Closed (end_leaves s room) (end_number s room)
  refused_end_closed n0 n10 n11 = go (ending s room)
    where
      by : (t : List ℕ) (n : ℕ) → end_leaves s room ≡ t → end_number s room ≡ n → Closed t n → Closed (end_leaves s room) (end_number s room)
      by t n e f p = subst⁻¹ (λ (x : List ℕ). Closed x (end_number s room)) e (subst⁻¹ (Closed t) f p)

      go : Ending s room → Closed (end_leaves s room) (end_number s room)
      go (shut_out own) = by s (own_number s) (own_end_leaves s own room) (own_end s own room) (own_closed s own)
      go (refused w z f) =
          let k = kept_in s in
          let well = kept_well s w z in
          let t = stopped_bytes (end_fault k) (k.place - length k.tail) k.state.steps in
          by t (end_fault k) (refused_leaves s k refl w z room f) (refused_number s k refl w z room f)
          (stopped_closed t (refused_formed k well f) (end_fault k) (refused_number_back k well f) f)
      go (too_short w z f l) = absurd (n11 (short_end_number s (kept_in s) refl w z room f l))
      go (taken w z f l) = absurd (n0 (end_number_is s (kept_in s) refl w z room f l))

  -- after an accepted end
  pub over_closed : end_number s room ≡ 0 → Closed (end_leaves s room) 9
  over_closed e = go (ending s room)
    where
      go : Ending s room → Closed (end_leaves s room) 9
      go (shut_out own) = absurd (own (sym (own_end s own room) ∙ e))
      go (refused w z f) = absurd (f (sym (refused_number s (kept_in s) refl w z room f) ∙ e))
      go (too_short w z f l) = let g = short_end_number s (kept_in s) refl w z room f l in absurd (omega arith)
      go (taken w z f l) =
          let k = kept_in s in
          let well = kept_well s w z in
          let t = stopped_bytes 9 k.place k.state.steps in
          subst⁻¹ (λ (x : List ℕ). Closed x 9) (end_leaves_is s k refl w z room f l) (stopped_closed t (over_formed k well f) 9 (over_number k well f) (λ x. omega arith))

-- ---- what holds of any call
pub call_law : (s chunk : List ℕ) (room : ℕ) → CallLaw s chunk room
call_law s chunk room = record {
  again = again s chunk room;
  enough = enough s chunk room;
  same_then = enough_same s chunk room;
  again_at_end = again_at_end s chunk room;
  enough_at_end = enough_at_end s chunk room;
  nothing = nothing s chunk;
  nothing_at_end = nothing_at_end s chunk;
  written = written s chunk;
  stays = stays s chunk room;
  stays_at_end = stays_at_end s chunk room;
  refused_once = refused_closed s room chunk;
  refused_at_end = refused_end_closed s room;
  over = over_closed s room;
}
