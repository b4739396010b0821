-- What the calls answer, case by case. Assumes nothing.
use mathlib.Core.Path.{◌≡◌, refl, sym, ap, ap₂, ◌∙◌}
use mathlib.Core.Bool.{Bool, true, false, not, cond, ◌&&◌}
use mathlib.Core.List.{List, [], ◌++◌, append_assoc, append-nil}
use Prim.Native.Nat.{ℕ, ◌+◌, ◌-◌, ◌*◌, ◌≤◌, ◌<◌}
use native.Mathlib.Omega.{arith}
use lib.Dec.{leb, ltb, eqb}
use lib.ListN.{length, take, drop, replicate, length-replicate}
use lib.Seq.{length-take-le, drop-length, drop_at}
use borrow.Author.Tests.{lt-ltb, le-ltb, le-leb, lt-leb, eq-eqb, ne_eqb}
use Rattle.octets.specs.BigEndian.{laid}
use Rattle.octets.proofs.LaidLaws.{laid_length}
use Rattle.fields.specs.declared.State.{State}
use Rattle.stick.specs.declared.Reached.{Reached}
use Rattle.records.specs.Records.{end_of}
use Rattle.kept.specs.declared.Mark.{Mark}
use Rattle.kept.specs.Kept.{Kept, at_start}
use Rattle.kept.specs.Layout.{state_size, held_place, site_place, site_most, filled, number_in, mark_in, kept_in, mark_of, top_of, stands_of, bytes_for, stopped_bytes}
use Rattle.kept.specs.Formed.{well_formed, is_open}
use Rattle.taking.specs.Chunk.{gone_by, results_for}
use Rattle.taking.proofs.FedLaws.{gone_leads}
use Rattle.taking.proofs.LeadLaws.{more_steps}
use Rattle.taking.proofs.CountLaws.{results_long}
use Rattle.taking.proofs.WellLaws.{stop_few}
use Rattle.std.proofs.Common.{Err, Ok, Result, None, Some, Option}
use Rattle.feed.specs.Answers.{written_by, own_number, start_number, start_leaves, fault_of, room_for, end_fault, end_number, end_leaves, end_writes}
use Rattle.intake.specs.Posts.{Open}
use Rattle.intake.proofs.OpenLaws.{open_well}
use Rattle.intake.proofs.MarkLaws.{mark_place, mark_state, mark_steps, mark_tail}
use Rattle.intake.proofs.KeepLaws.{kept_after}
use Rattle.feed.proofs.FewLaws.{gone_few}
use Rattle.feed.proofs.WrittenLaws.{is_written, is_refused}

-- ---- what a state answers: 0 where its run goes on, and nowhere else
module _ (s : List ℕ) where
  own_by_lem : (b : Bool) → well_formed s ≡ b → own_number s ≡ cond b (number_in s) 10
  unfolding own_number
  own_by_lem b e = ap (λ (t : Bool). cond t (number_in s) 10) e

  open_by : (b : Bool) → well_formed s ≡ b → is_open s ≡ (b && eqb (number_in s) 0)
  unfolding is_open
  open_by b e = ap (λ (t : Bool). t && eqb (number_in s) 0) e

  pub own_open : own_number s ≡ 0 → Open s
  own_open z = go (well_formed s) refl
    where
      go : (b : Bool) → well_formed s ≡ b → Open s
      go true e = record { is_open_is = open_by true e ∙ eq-eqb (number_in s) 0 (sym (own_by_lem true e) ∙ z) }
      go false e = absurd (omega (arith, own_by_lem false e))

  pub own_shut : (own_number s ≡ 0 → ⊥) → is_open s ≡ false
  own_shut n = go (well_formed s) refl
    where
      go : (b : Bool) → well_formed s ≡ b → is_open s ≡ false
      go true e = open_by true e ∙ ne_eqb (number_in s) 0 (λ z. n (own_by_lem true e ∙ z))
      go false e = open_by false e

-- ---- the room for a chunk's records
module _ (s chunk : List ℕ) where
  pub room_by : (a b : Bool) → is_open s ≡ a → eqb (fault_of (kept_in s) chunk) 0 ≡ b → room_for s chunk ≡ cond (a && b) (length (results_for (kept_in s) chunk)) 0
  unfolding room_for
  room_by a b e f = ap₂ (λ (x y : Bool). cond (x && y) (length (results_for (kept_in s) chunk)) 0) e f

  pub fault_by_lem : (b : Bool) → leb (gone_by (kept_in s) chunk).number 1 ≡ b → fault_of (kept_in s) chunk ≡ cond b 0 (gone_by (kept_in s) chunk).number
  unfolding fault_of
  fault_by_lem b e = ap (λ (t : Bool). cond t 0 (gone_by (kept_in s) chunk).number) e

  pub room_shut : (own : ℕ) → own ≡ own_number s → (own ≡ 0 → ⊥) → 0 ≡ room_for s chunk
  room_shut own e n = sym (room_by false (eqb (fault_of (kept_in s) chunk) 0) (own_shut s (λ z. n (e ∙ z))) refl)

  module _ (o : Open s) (r : Reached) (er : r ≡ gone_by (kept_in s) chunk) where
    abbrev k : Kept
    k = kept_in s

    abbrev far : Reached
    far = gone_by (kept_in s) chunk

    far_number : r.number ≡ far.number
    far_number = ap (λ (x : Reached). x.number) er

    pub room_refused : 1 < r.number → 0 ≡ room_for s chunk
    room_refused h =
        let n = far_number in
        let f = fault_by_lem false (lt-leb far.number 1 (omega arith)) in
        sym (room_by true false o.is_open_is (ne_eqb (fault_of k chunk) 0 (λ z. omega arith)))

    module _ (m : Mark) (em : m ≡ mark_in s) where
      pub room_ready : (m.state.steps ≤ r.state.steps) × ((r.state.steps ≤ 65535) × ((r.state.units ≤ 64) × (r.state.left ≤ 64)))
      room_ready =
          let well = open_well s o in
          let a = mark_steps s m em in
          let b : r.state.steps ≡ far.state.steps = ap (λ (x : Reached). x.state.steps) er in
          let c : r.state.units ≡ far.state.units = ap (λ (x : Reached). x.state.units) er in
          let d : r.state.left ≡ far.state.left = ap (λ (x : Reached). x.state.left) er in
          let more = more_steps (take far.at (k.tail ++ chunk)) (gone_leads k chunk) in
          let most = stop_few k well chunk in
          let few = gone_few k well chunk in
          let u = few.units in
          let l = few.left in
          (omega arith, (omega arith, (omega arith, omega arith)))

      pub room_is : r.number ≤ 1 → (n : ℕ) → n ≡ (40 * r.state.units + 29 * (64 - r.state.left)) * (r.state.steps - m.state.steps) → n ≡ room_for s chunk
      unfolding results_for
      room_is h n e =
          let a = far_number in
          let f = fault_by_lem true (le-leb far.number 1 (omega arith)) in
          e
          ∙ ap₂ (λ (x : Reached) (st : State). (40 * x.state.units + 29 * (64 - x.state.left)) * (x.state.steps - st.steps)) er (mark_state s m em)
          ∙ sym (results_long k (open_well s o) (take far.at (k.tail ++ chunk)) far.state (gone_leads k chunk))
          ∙ sym (room_by true true o.is_open_is (eq-eqb (fault_of k chunk) 0 f))

-- ---- why a file may not end, by the tail's bytes and the stage
abbrev pub fault_by : ℕ → ℕ → ℕ
fault_by tail stage = cond (not (eqb tail 0)) 1 (cond (eqb stage 0) 0 8)

-- as the code tells it
abbrev pub told_by : ℕ → ℕ → Option ℕ
told_by tail stage = cond (not (eqb tail 0)) (Some 1) (cond (eqb stage 0) None (Some 8))

pub fault_told : (tail stage n : ℕ) → Some n ≡ told_by tail stage → (n ≡ fault_by tail stage) × (n ≡ 0 → ⊥)
fault_told tail stage n = go (eqb tail 0) (eqb stage 0)
  where
    go : (a b : Bool) → Some n ≡ cond (not a) (Some 1) (cond b None (Some 8)) → (n ≡ cond (not a) 1 (cond b 0 8)) × (n ≡ 0 → ⊥)
    go false b e = let one : n ≡ 1 = cc in (one, λ z. omega arith)
    go true true e = cc
    go true false e = let eight : n ≡ 8 = cc in (eight, λ z. omega arith)

pub none_told : (tail stage : ℕ) → None ≡ told_by tail stage → 0 ≡ fault_by tail stage
none_told tail stage = go (eqb tail 0) (eqb stage 0)
  where
    go : (a b : Bool) → ◌≡◌ {A = Option ℕ} None (cond (not a) (Some 1) (cond b None (Some 8))) → ◌≡◌ {A = ℕ} 0 (cond (not a) 1 (cond b 0 8))
    go false b e = cc
    go true true e = refl
    go true false e = cc

-- ---- the end of a run: the answer, the state's bytes and the room afterwards
abbrev pub Ends : List ℕ → List ℕ → Result ℕ ℕ → List ℕ → List ℕ → Type 0
Ends s room r t u =
    (r ≡ written_by (end_number s (length room)) 7) × ((t ≡ end_leaves s (length room)) × (u ≡ end_writes s room))

module _ (s room : List ℕ) where
  abbrev n : ℕ
  n = length room

  abbrev fault : ℕ
  fault = end_fault (kept_in s)

  abbrev over : List ℕ
  over = stopped_bytes 9 (kept_in s).place (kept_in s).state.steps

  abbrev refused : List ℕ
  refused = stopped_bytes (end_fault (kept_in s)) ((kept_in s).place - length (kept_in s).tail) (kept_in s).state.steps

  number_by : (a b c : Bool) → eqb (own_number s) 0 ≡ a → eqb (end_fault (kept_in s)) 0 ≡ b → ltb (length room) 7 ≡ c
      → end_number s (length room) ≡ cond (not a) (own_number s) (cond (not b) (end_fault (kept_in s)) (cond c 11 0))
  unfolding end_number
  number_by a b c ea eb ec =
      ap₂ (λ (x y : Bool). cond (not x) (own_number s) (cond (not y) fault (cond (ltb n 7) 11 0))) ea eb
      ∙ ap (λ (z : Bool). cond (not a) (own_number s) (cond (not b) fault (cond z 11 0))) ec

  leaves_by_lem : (a b c : Bool) → is_open s ≡ a → eqb (end_fault (kept_in s)) 0 ≡ b → eqb (end_number s (length room)) 0 ≡ c
      → end_leaves s (length room) ≡ cond a (cond b (cond c over s) refused) s
  unfolding end_leaves
  leaves_by_lem a b c ea eb ec =
      ap₂ (λ (x y : Bool). cond x (cond y (cond (eqb (end_number s n) 0) over s) refused) s) ea eb
      ∙ ap (λ (z : Bool). cond a (cond b (cond z over s) refused) s) ec

  writes_by : (b : Bool) → eqb (end_number s (length room)) 0 ≡ b → end_writes s room ≡ cond b (laid room 0 (end_of (kept_in s).state.steps)) room
  unfolding end_writes
  writes_by b e = ap (λ (t : Bool). cond t (laid room 0 (end_of (kept_in s).state.steps)) room) e

  stopped : (number : ℕ) → number ≡ end_number s (length room) → (number ≡ 0 → ⊥) → Err number ≡ written_by (end_number s (length room)) 7
  stopped = is_refused (end_number s (length room)) 7

  -- bytes that are none, or a run that is over
  pub ends_shut : (own : ℕ) → own ≡ own_number s → (own ≡ 0 → ⊥) → Ends s room (Err own) s room
  ends_shut own e some-own =
      let not_own : (own_number s ≡ 0 → ⊥) = λ z. some-own (e ∙ z) in
      let is : end_number s n ≡ own_number s = number_by false (eqb fault 0) (ltb n 7) (ne_eqb (own_number s) 0 not_own) refl refl in
      let some : eqb (end_number s n) 0 ≡ false = ne_eqb (end_number s n) 0 (λ z. not_own (sym is ∙ z)) in (
        stopped own (e ∙ sym is) some-own,
        (sym (leaves_by_lem false (eqb fault 0) (eqb (end_number s n) 0) (own_shut s not_own) refl refl), sym (writes_by false some)),
      )

  module _ (zero_own : own_number s ≡ 0) (m : Mark) (em : m ≡ mark_in s) where
    going : Open s
    going = own_open s zero_own

    fault_is : fault_by m.tail m.state.stage ≡ end_fault (kept_in s)
    unfolding end_fault
    fault_is = ap₂ fault_by (mark_tail s m em going) (ap (λ (st : State). st.stage) (mark_state s m em))

    -- within a field, or before the end field
    pub ends_refused : (number : ℕ) → number ≡ fault_by m.tail m.state.stage → (number ≡ 0 → ⊥)
        → (t : List ℕ) → t ≡ stopped_bytes number (m.place - m.tail) m.state.steps → Ends s room (Err number) t room
    ends_refused number e faulty t et =
        let ef : number ≡ end_fault (kept_in s) = e ∙ fault_is in
        let some : eqb fault 0 ≡ false = ne_eqb fault 0 (λ z. faulty (ef ∙ z)) in
        let is : end_number s n ≡ fault = number_by true false (ltb n 7) (eq-eqb (own_number s) 0 zero_own) some refl in
        let other : eqb (end_number s n) 0 ≡ false = ap (λ (k : ℕ). eqb k 0) is ∙ some in
        let place : m.place - m.tail ≡ (kept_in s).place - length (kept_in s).tail = ap₂ ◌-◌ (mark_place s m em) (mark_tail s m em going) in
        let left : t ≡ refused =
        et ∙ ap₂ (λ (a b : ℕ). stopped_bytes a b m.state.steps) ef place ∙ ap (stopped_bytes fault ((kept_in s).place - length (kept_in s).tail)) (mark_steps s m em) in (
          stopped number (ef ∙ sym is) faulty,
          (left ∙ sym (leaves_by_lem true false (eqb (end_number s n) 0) going.is_open_is some refl), sym (writes_by false other)),
        )

    module _ (may : 0 ≡ fault_by m.tail m.state.stage) where
      none : eqb (end_fault (kept_in s)) 0 ≡ true
      none = eq-eqb fault 0 (sym (may ∙ fault_is))

      -- the room is too short
      pub ends_short : length room < 7 → Ends s room (Err 11) s room
      ends_short h =
          let is : end_number s n ≡ 11 = number_by true true true (eq-eqb (own_number s) 0 zero_own) none (lt-ltb n 7 h) in
          let other : eqb (end_number s n) 0 ≡ false = ap (λ (k : ℕ). eqb k 0) is in
          (stopped 11 (sym is) (λ z. omega arith), (sym (leaves_by_lem true true false going.is_open_is none other), sym (writes_by false other)))

      -- the run is over
      pub ends_over : 7 ≤ length room → (t u : List ℕ) → t ≡ stopped_bytes 9 m.place m.state.steps → u ≡ laid room 0 (end_of m.state.steps) → Ends s room (Ok 7) t u
      ends_over h t u et eu =
          let is : end_number s n ≡ 0 = number_by true true false (eq-eqb (own_number s) 0 zero_own) none (le-ltb n 7 h) in
          let nought : eqb (end_number s n) 0 ≡ true = eq-eqb (end_number s n) 0 is in (
            is_written (end_number s n) 7 7 refl is,
            (
              et ∙ ap₂ (stopped_bytes 9) (mark_place s m em) (mark_steps s m em) ∙ sym (leaves_by_lem true true true going.is_open_is none nought),
              eu ∙ ap (λ (k : ℕ). laid room 0 (end_of k)) (mark_steps s m em) ∙ sym (writes_by true nought),
            ),
          )

-- ---- the start of a run
start_by : (s : List ℕ) (b : Bool) → eqb (length s) state_size ≡ b → (cond b 0 10 ≡ start_number s) × (cond b (bytes_for at_start) s ≡ start_leaves s)
unfolding start_leaves
start_by s b e = (sym (ap (λ (t : Bool). cond t 0 10) e), sym (ap (λ (t : Bool). cond t (bytes_for at_start) s) e))

pub start_not : (s : List ℕ) → (length s ≡ state_size → ⊥) → (10 ≡ start_number s) × (s ≡ start_leaves s)
start_not s n = start_by s false (ne_eqb (length s) state_size n)

-- bytes laid from a place up to the end
laid_last : (s bs : List ℕ) (at : ℕ) → length s ≡ at + length bs → (t : List ℕ) → t ≡ laid s at bs → drop at t ≡ bs
unfolding laid
laid_last s bs at l t e =
    let rest = drop (at + length bs) s in
    ap (drop at) (e ∙ append_assoc (take at s) bs rest)
    ∙ drop_at (take at s) (bs ++ rest) at (length-take-le at s (omega arith))
    ∙ ap (λ (r : List ℕ). bs ++ r) (ap (λ (k : ℕ). drop k s) (sym l) ∙ drop-length s)
    ∙ append-nil bs

none_filled : (n : ℕ) → replicate n 0 ≡ filled n []
unfolding filled
none_filled n = ap (λ (k : ℕ). replicate k 0) less
  where
    less : n ≡ n - 0
    less = omega arith

started_so : (s zeros : List ℕ) → length s ≡ state_size → length zeros ≡ site_most → zeros ≡ filled site_most [] → (t u v : List ℕ)
    → t ≡ laid s site_place zeros → u ≡ laid t held_place (stands_of [] [] [] []) → v ≡ laid u 0 (top_of (mark_of at_start) [])
    → v ≡ bytes_for at_start
unfolding bytes_for
started_so s zeros long l z t u v a b d =
    let same : length t ≡ length s = ap length a ∙ laid_length s site_place zeros (omega arith) in
    kept_after t (mark_of at_start) [] [] [] [] [] (same ∙ long) (omega arith) (omega arith) (omega arith) u v b d
    ∙ ap (λ (r : List ℕ). top_of (mark_of at_start) [] ++ stands_of [] [] [] [] ++ r) (laid_last s zeros site_place (omega arith) t a ∙ z)

pub started : (s : List ℕ) → length s ≡ state_size → (t u v : List ℕ)
    → t ≡ laid s site_place (replicate site_most 0) → u ≡ laid t held_place (stands_of [] [] [] []) → v ≡ laid u 0 (top_of (mark_of at_start) [])
    → (0 ≡ start_number s) × (v ≡ start_leaves s)
started s long t u v a b d =
    let e = start_by s true (eq-eqb (length s) state_size long) in
    (e.0, started_so s (replicate site_most 0) long (length-replicate {A = ℕ} site_most 0) (none_filled site_most) t u v a b d ∙ e.1)
