-- Chunks in order, from what is well kept on: the state after them is that after all their bytes at once, whether they are taken or a fault stops them, and
-- the results of chunks without a fault are those of all their bytes. Assumes nothing.
use mathlib.Core.Path.{◌≡◌, refl, sym, ap, ap₂, ◌∙◌, subst}
use mathlib.Core.Bool.{Bool, true, false, cond}
use mathlib.Core.List.{List, [], ◌∷◌, ◌++◌, append_assoc, append-nil}
use Prim.Native.Nat.{ℕ, ◌+◌, ◌-◌, ◌≤◌, ◌<◌}
use native.Mathlib.Omega.{arith}
use lib.Dec.{leb}
use lib.ListN.{length, take}
use lib.Seq.{length-take-le}
use borrow.Author.Tests.{leb-true, leb-false, le-leb, eq-eqb}
use Rattle.fields.specs.declared.State.{State}
use Rattle.stick.specs.declared.Reached.{Reached}
use Rattle.stick.specs.Check.{reach_of}
use Rattle.stick.specs.Site.{places_from, steps_in, due_in, steps_from, due_from, head_from}
use Rattle.chunks.specs.Sizes.{largest_field}
use Rattle.stretch.specs.Stretch.{records_from}
use Rattle.kept.specs.Kept.{Kept, at_start}
use Rattle.kept.specs.Layout.{stopped_bytes, bytes_for, kept_in}
use Rattle.kept.specs.Formed.{well_formed}
use Rattle.kept.specs.Posts.{WellKept}
use Rattle.kept.proofs.KeptLaws.{kept_back, kept_number, kept_formed, stopped_tail}
use Rattle.taking.specs.Chunk.{gone_by, site_after, stands_before, steps_by, absorbed, results_by, fed_by, results_for}
use Rattle.taking.proofs.FedLaws.{gone_upto, gone_number, gone_state, gone_place, gone_stays, fed_twice, results_for_twice}
use Rattle.taking.proofs.WellLaws.{start_well, fed_well}
use Rattle.feed.specs.Answers.{room_for, feed_number, fault_leaves}
use Rattle.fed.specs.Holds.{joined, writes, leaves, results_all, leaves_all, first}
use Rattle.fed.proofs.CallLaws.{own_leaves, closed_some, enough_number, enough_leaves, fault_leaves_lem, fault_formed, fault_some}

-- ---- the state after a chunk with room enough, from what is kept
abbrev pub after_by : Bool → Kept → List ℕ → List ℕ
after_by fine k c = cond fine (bytes_for (fed_by k c)) (fault_leaves k c)

abbrev pub after : Kept → List ℕ → List ℕ
after k c = after_by (leb (gone_by k c).number 1) k c

module _ (k : Kept) (c : List ℕ) where
  pub after_fine : (gone_by k c).number ≤ 1 → after k c ≡ bytes_for (fed_by k c)
  after_fine h = ap (λ (b : Bool). after_by b k c) (le-leb (gone_by k c).number 1 h)

  pub after_fault : leb (gone_by k c).number 1 ≡ false → after k c ≡ fault_leaves k c
  after_fault e = ap (λ (b : Bool). after_by b k c) e

  not_fine : leb (gone_by k c).number 1 ≡ false → (gone_by k c).number ≤ 1 → ⊥
  not_fine e h = let l = leb-false (gone_by k c).number 1 e in omega arith

module _ (k : Kept) (well : WellKept k) (c : List ℕ) where
  -- a call on its bytes
  pub leaves_after : leaves (bytes_for k) c ≡ after k c
  leaves_after = go (leb (gone_by k c).number 1) refl
    where
      go : (b : Bool) → leb (gone_by k c).number 1 ≡ b → leaves (bytes_for k) c ≡ after k c
      go true e =
          let h = leb-true (gone_by k c).number 1 e in
          enough_leaves (bytes_for k) k (kept_back k well) (kept_formed k well) (kept_number k well) c h (room_for (bytes_for k) c) (omega arith) ∙ sym (after_fine k c h)
      go false e =
          fault_leaves_lem (bytes_for k) k (kept_back k well) (kept_formed k well) (kept_number k well) c (not_fine k c e) (room_for (bytes_for k) c) ∙ sym (after_fault k c e)

  pub writes_after : (gone_by k c).number ≤ 1 → writes (bytes_for k) c ≡ results_for k c
  unfolding writes
  writes_after h =
      let n = enough_number (bytes_for k) k (kept_back k well) (kept_formed k well) (kept_number k well) c h (room_for (bytes_for k) c) (omega arith) in
      ap₂ (λ (b : Bool) (x : Kept). cond b (results_for x c) []) (eq-eqb (feed_number (bytes_for k) c (room_for (bytes_for k) c)) 0 n) (kept_back k well)

  -- it is a state, with a short tail
  pub after_formed : well_formed (after k c) ≡ true
  after_formed = go (leb (gone_by k c).number 1) refl
    where
      go : (b : Bool) → leb (gone_by k c).number 1 ≡ b → well_formed (after k c) ≡ true
      go true e = let h = leb-true (gone_by k c).number 1 e in ap well_formed (after_fine k c h) ∙ kept_formed (fed_by k c) (fed_well k well c h)
      go false e = ap well_formed (after_fault k c e) ∙ fault_formed k well c (not_fine k c e)

  fault_tail : (kept_in (fault_leaves k c)).tail ≡ []
  unfolding kept_in fault_leaves
  fault_tail = stopped_tail (gone_by k c).number (k.place - length k.tail + (gone_by k c).at) (gone_by k c).state.steps

  pub after_short : length (kept_in (after k c)).tail < largest_field
  after_short = go (leb (gone_by k c).number 1) refl
    where
      go : (b : Bool) → leb (gone_by k c).number 1 ≡ b → length (kept_in (after k c)).tail < largest_field
      go true e =
          let h = leb-true (gone_by k c).number 1 e in
          let well' = fed_well k well c h in
          let n : length (kept_in (after k c)).tail ≡ length (fed_by k c).tail =
          ap (λ (s : List ℕ). length (kept_in s).tail) (after_fine k c h) ∙ ap (λ (x : Kept). length x.tail) (kept_back (fed_by k c) well') in
          let m = well'.tail_short in
          omega arith
      go false e =
          let n : length (kept_in (after k c)).tail ≡ 0 = ap (λ (s : List ℕ). length (kept_in s).tail) (after_fault k c e) ∙ ap length fault_tail in
          omega arith

-- ---- a chunk and then another
module _ (k : Kept) (p : List ℕ) where
  -- the place without the tail is where the fields stopped
  pub fed_place : (fed_by k p).place - length (fed_by k p).tail ≡ k.place - length k.tail + (gone_by k p).at
  unfolding fed_by absorbed
  fed_place =
      let long : length (take (gone_by k p).at (k.tail ++ p)) ≡ (gone_by k p).at = length-take-le (gone_by k p).at (k.tail ++ p) (gone_upto k p) in
      omega arith

  module _ (c : List ℕ) where
    stopped_same : (n m a b x y : ℕ) → n ≡ m → a ≡ b → x ≡ y → stopped_bytes n a x ≡ stopped_bytes m b y
    stopped_same n m a b x y e f g = cc

    fault_twice : fault_leaves (fed_by k p) c ≡ fault_leaves k (p ++ c)
    unfolding fault_leaves
    fault_twice =
        let on = gone_by (fed_by k p) c in
        let all = gone_by k (p ++ c) in
        let a = fed_place in
        let b = gone_place k p c in
        stopped_same on.number all.number ((fed_by k p).place - length (fed_by k p).tail + on.at) (k.place - length k.tail + all.at) on.state.steps all.state.steps
        (sym (gone_number k p c)) (omega arith) (ap (λ (s : State). s.steps) (sym (gone_state k p c)))

    pub after_twice : after (fed_by k p) c ≡ after k (p ++ c)
    after_twice =
        ap (λ (n : ℕ). after_by (leb n 1) (fed_by k p) c) (sym (gone_number k p c))
        ∙ ap₂ (λ (x y : List ℕ). cond (leb (gone_by k (p ++ c)).number 1) x y) (ap bytes_for (fed_twice k p c)) fault_twice

    module _ (e : leb (gone_by k p).number 1 ≡ false) where
      pub still_gone : gone_by k (p ++ c) ≡ gone_by k p
      still_gone = gone_stays k p c (λ z. not_fine k p e (omega arith)) (λ z. not_fine k p e (omega arith))

      fault_stays : fault_leaves k (p ++ c) ≡ fault_leaves k p
      unfolding fault_leaves
      fault_stays = ap (λ (r : Reached). stopped_bytes r.number (k.place - length k.tail + r.at) r.state.steps) still_gone

      pub after_stays : after k (p ++ c) ≡ fault_leaves k p
      after_stays = after_fault k (p ++ c) (ap (λ (r : Reached). leb r.number 1) still_gone ∙ e) ∙ fault_stays

    -- where both have no fault, the first has none
    pub first_fine : (gone_by k (p ++ c)).number ≤ 1 → (gone_by k p).number ≤ 1
    first_fine h = go (leb (gone_by k p).number 1) refl
      where
        go : (b : Bool) → leb (gone_by k p).number 1 ≡ b → (gone_by k p).number ≤ 1
        go true e = leb-true (gone_by k p).number 1 e
        go false e = subst (λ (r : Reached). r.number ≤ 1) (still_gone e) h

module _ (k : Kept) (well : WellKept k) where
  pub after_next : (p c : List ℕ) → leaves (after k p) c ≡ after k (p ++ c)
  after_next p c = go (leb (gone_by k p).number 1) refl
    where
      go : (b : Bool) → leb (gone_by k p).number 1 ≡ b → leaves (after k p) c ≡ after k (p ++ c)
      go true e =
          let h = leb-true (gone_by k p).number 1 e in
          ap (λ (s : List ℕ). leaves s c) (after_fine k p h) ∙ leaves_after (fed_by k p) (fed_well k well p h) c ∙ after_twice k p c
      go false e =
          let f = not_fine k p e in
          let s = fault_leaves k p in
          ap (λ (s : List ℕ). leaves s c) (after_fault k p e)
          ∙ own_leaves s (closed_some s (fault_formed k well p f) (fault_some k well p f)) c (room_for s c)
          ∙ sym (after_stays k p c e)

  -- ---- chunks in order
  pub all_after : (cs : List (List ℕ)) (p : List ℕ) → leaves_all (after k p) cs ≡ after k (p ++ joined cs)
  unfolding leaves_all joined
  all_after [] p = ap (after k) (sym (append-nil p))
  all_after (c ∷ cs) p =
      ap (λ (s : List ℕ). leaves_all s cs) (after_next p c) ∙ all_after cs (p ++ c) ∙ ap (after k) (append_assoc p c (joined cs))

  pub all_results : (cs : List (List ℕ)) (p : List ℕ) → (gone_by k (p ++ joined cs)).number ≤ 1 → results_for k p ++ results_all (after k p) cs ≡ results_for k (p ++ joined cs)
  unfolding results_all joined
  all_results [] p h = append-nil (results_for k p) ∙ ap (results_for k) (sym (append-nil p))
  all_results (c ∷ cs) p h =
      let same : p ++ c ++ joined cs ≡ p ++ (c ++ joined cs) = append_assoc p c (joined cs) in
      let g : (gone_by k (p ++ c ++ joined cs)).number ≤ 1 = subst (λ (l : List ℕ). (gone_by k l).number ≤ 1) (sym same) h in
      let two : (gone_by k (p ++ c)).number ≤ 1 = first_fine k (p ++ c) (joined cs) g in
      let one : (gone_by k p).number ≤ 1 = first_fine k p c two in
      let next : (gone_by (fed_by k p) c).number ≤ 1 = subst (λ (n : ℕ). n ≤ 1) (gone_number k p c) two in
      let wrote : writes (after k p) c ≡ results_for (fed_by k p) c =
      ap (λ (s : List ℕ). writes s c) (after_fine k p one) ∙ writes_after (fed_by k p) (fed_well k well p one) c next in
      ap₂ (λ (a s : List ℕ). results_for k p ++ (a ++ results_all s cs)) wrote (after_next p c)
      ∙ sym (append_assoc (results_for k p) (results_for (fed_by k p) c) (results_all (after k (p ++ c)) cs))
      ∙ ap (λ (a : List ℕ). a ++ results_all (after k (p ++ c)) cs) (sym (results_for_twice k p c))
      ∙ all_results cs (p ++ c) g
      ∙ ap (results_for k) same

-- ---- from the start on
start_none : (gone_by at_start []).number ≤ 1
unfolding gone_by reach_of
start_none = omega arith

start_fed : fed_by at_start [] ≡ at_start
unfolding fed_by gone_by reach_of absorbed site_after head_from stands_before steps_by steps_from steps_in places_from due_from due_in
start_fed = refl

start_results : results_for at_start [] ≡ []
unfolding results_for gone_by reach_of results_by site_after head_from stands_before steps_by steps_from steps_in places_from records_from
start_results = refl

first_after : first ≡ after at_start []
unfolding first
first_after = sym (after_fine at_start [] start_none ∙ ap bytes_for start_fed)

pub leaves_all_lem : (cs : List (List ℕ)) → leaves_all first cs ≡ after at_start (joined cs)
leaves_all_lem cs = ap (λ (s : List ℕ). leaves_all s cs) first_after ∙ all_after at_start start_well cs []

pub leaves_one : (c : List ℕ) → leaves first c ≡ after at_start c
unfolding first
leaves_one c = leaves_after at_start start_well c

pub results_all_lem : (cs : List (List ℕ)) → (gone_by at_start (joined cs)).number ≤ 1 → results_all first cs ≡ results_for at_start (joined cs)
results_all_lem cs h =
    ap (λ (s : List ℕ). results_all s cs) first_after
    ∙ ap (λ (l : List ℕ). l ++ results_all (after at_start []) cs) (sym start_results)
    ∙ all_results at_start start_well cs [] h
