-- A chunk without a fault behind a tail: the first field is put together and the others lie in the chunk, or nothing is taken in and all becomes the tail.
-- Either way what is kept and the records are those of the chunk. Assumes nothing.
use mathlib.Core.Path.{◌≡◌, refl, sym, ap, ap₂, ◌∙◌, subst}
use mathlib.Core.Bool.{Bool, true, false}
use mathlib.Core.List.{List, [], ◌++◌, append_assoc}
use Prim.Native.Nat.{ℕ, ◌+◌, ◌-◌, ◌≤◌, ◌<◌}
use native.Mathlib.Omega.{arith}
use lib.Dec.{eqb}
use lib.ListN.{length, take, drop, length-append, take-append-drop}
use lib.Seq.{slice, length-take-le, take_all, take-take, take-append-add, drop-append-add}
use borrow.Author.Tests.{eqb-true, eqb-false}
use Rattle.parts.specs.Header.{past}
use Rattle.fields.specs.declared.State.{State}
use Rattle.fields.specs.Fields.{head_of}
use Rattle.stick.specs.declared.Reached.{Reached}
use Rattle.stick.specs.Check.{field_at, reached, reach_of}
use Rattle.chunks.specs.Sizes.{largest_field}
use Rattle.chunks.specs.Holds.{moved}
use Rattle.chunks.proofs.FieldChunks.{Few}
use Rattle.chunks.proofs.ReachChunks.{reach_fuel, reach_shift, there, passing, far_all, far_cut}
use Rattle.chunks.proofs.PlaceChunks.{accepted_there}
use Rattle.kept.specs.declared.Mark.{Mark}
use Rattle.kept.specs.Kept.{Kept}
use Rattle.kept.specs.Layout.{tail_most, state_in, kept_in}
use Rattle.kept.proofs.NumberLaws.{take_drop}
use Rattle.taking.specs.Chunk.{gone_by, absorbed, results_by, with_tail, fed_by, results_for}
use Rattle.taking.specs.Posts.{Leads}
use Rattle.taking.proofs.LedLaws.{leads_none, leads_far, leads_upto}
use Rattle.taking.proofs.FedLaws.{gone_upto, gone_leads}
use Rattle.taking.proofs.TwiceLaws.{absorbed_twice, results_twice}
use Rattle.intake.specs.Posts.{first_of, others_of, both_kept, both_results, Gone}
use Rattle.intake.proofs.OpenLaws.{open_few, open_tail, open_waits}
use Rattle.intake.proofs.JointLaws.{no_bytes, take_most, stops_first, three, tail_first, past_within, goes_first}
use Rattle.intake.proofs.MarkLaws.{mark_state, mark_tail}
use Rattle.std.proofs.Common.{Err, Ok}

-- ---- the bytes behind the whole fields are fewer than the largest field has
pub gone_short : (k : Kept) → Few k.state → (chunk : List ℕ) → (gone_by k chunk).number ≤ 1 → length (k.tail ++ chunk) ≤ (gone_by k chunk).at + tail_most
unfolding gone_by
gone_short k few chunk h = go (eqb r.number 0) refl
  where
    r : Reached
    r = reach_of (length (k.tail ++ chunk)) k.state (k.tail ++ chunk) 0

    first : 0 ≤ length (k.tail ++ chunk)
    first = omega arith

    one : (n : ℕ) → n ≤ 1 → (n ≡ 0 → ⊥) → n ≡ 1
    one n l z = omega (arith, z)

    go : (b : Bool) → eqb r.number 0 ≡ b → length (k.tail ++ chunk) ≤ r.at + tail_most
    go true e = omega (arith, far_all (k.tail ++ chunk) k.state 0 first (eqb-true r.number 0 e))
    go false e = omega (arith, (far_cut (k.tail ++ chunk) k.state 0 first few (one r.number h (eqb-false r.number 0 e))).short)

-- ---- a first field and the others, which the chunk's fields are
pub record Fits (k : Kept) (chunk joint : List ℕ) (mid : State) (tail at : ℕ) (next : State) : Type 0 where
  pub header_there : 3 ≤ length joint
  pub first_there : past joint 0 ≤ length joint
  pub beyond_tail : tail ≤ past joint 0
  pub others_behind : past joint 0 ≤ at
  pub within : at ≤ tail + length chunk
  pub short : tail + length chunk ≤ at + tail_most
  pub first_leads : Leads k.state (first_of joint) mid
  pub others_lead : Leads mid (others_of joint tail at chunk) next
  pub results_are : both_results k (first_of joint) mid (others_of joint tail at chunk) next ≡ results_for k chunk
  pub kept_is : both_kept k joint mid tail at chunk next ≡ fed_by k chunk

module _ (k : Kept) (few : Few k.state) (chunk : List ℕ) (some : 0 < length k.tail) (goes : eqb k.state.stage 0 ≡ false) (cut : head_of k.state k.tail 0 ≡ 1) (fair : (gone_by k chunk).number ≤ 1) where
  abbrev st : State
  st = k.state

  abbrev tail : List ℕ
  tail = k.tail

  abbrev both : List ℕ
  both = tail ++ chunk

  abbrev joint : List ℕ
  joint = take largest_field both

  both_long : length both ≡ length tail + length chunk
  both_long = length-append tail chunk

  module _ (mid : State) (e : field_at st joint 0 ≡ Ok mid) where
    first_there : past joint 0 ≤ length joint
    first_there = (accepted_there st mid joint 0 (omega arith) e).all

    header_there : 3 ≤ length joint
    header_there = three st few tail chunk some goes cut mid e

    beyond_tail : length tail ≤ past joint 0
    beyond_tail = tail_first st few tail chunk some goes cut mid e

    -- the first field's bytes in the chunk, and the bytes behind them
    abbrev q : ℕ
    q = past joint 0 - length tail

    abbrev rest : List ℕ
    rest = drop q chunk

    q_within : q ≤ length chunk
    q_within = omega (arith, past_within st few tail chunk some goes cut mid e, beyond_tail)

    abbrev far : Reached
    far = reach_of (length rest) mid rest 0

    start_long : length (take q chunk) ≡ q
    start_long = length-take-le q chunk q_within

    chunk_long : length chunk ≡ q + length rest
    chunk_long = ap length (sym (take-append-drop q chunk)) ∙ length-append (take q chunk) rest ∙ ap (λ (n : ℕ). n + length rest) start_long

    shifted : reach_of (length chunk) mid chunk q ≡ moved q far
    shifted =
        let place : q ≡ length (take q chunk) + 0 = omega (arith, start_long) in
        ap₂ (λ (l : List ℕ) (i : ℕ). reach_of (length chunk) mid l i) (sym (take-append-drop q chunk)) place
        ∙ reach_shift (take q chunk) rest (length chunk) mid 0
        ∙ ap₂ moved start_long (reach_fuel rest (length chunk) (length rest) mid 0 (omega (arith, chunk_long)) (omega arith))

    gone_is : gone_by k chunk ≡ moved (length tail) (moved q far)
    unfolding gone_by
    gone_is = sym (goes_first st few tail chunk some goes cut mid e) ∙ ap (moved (length tail)) shifted

    abbrev at : ℕ
    at = (gone_by k chunk).at

    at_is : (gone_by k chunk).at ≡ length tail + (q + far.at)
    at_is = ap (λ (r : Reached). r.at) gone_is

    state_is : (gone_by k chunk).state ≡ far.state
    state_is = ap (λ (r : Reached). r.state) gone_is

    one_leads : Leads st (first_of joint) mid
    one_leads = leads_upto (passing {st = st} {i = 0} mid (omega (arith, header_there)) goes e first_there (there refl refl)) first_there

    others_are : others_of joint (length tail) (gone_by k chunk).at chunk ≡ take far.at rest
    others_are =
        let z : (gone_by k chunk).at - length tail ≡ q + far.at = omega (arith, at_is) in
        ap (λ (n : ℕ). slice q n chunk) z ∙ sym (take_drop far.at q chunk)

    then_lead : Leads mid (others_of joint (length tail) (gone_by k chunk).at chunk) (gone_by k chunk).state
    then_lead =
        subst (λ (s : State). Leads mid (others_of joint (length tail) at chunk) s) (sym state_is)
        (subst (λ (v : List ℕ). Leads mid v far.state) (sym others_are) (leads_far rest mid))

    -- the bytes of both are those that the fields go over
    first_is : first_of joint ≡ tail ++ take q chunk
    first_is =
        let p : past joint 0 ≡ length tail + q = omega (arith, beyond_tail) in
        take-take (past joint 0) largest_field both (omega (arith, first_there, take_most largest_field both))
        ∙ ap (λ (n : ℕ). take n both) p
        ∙ take-append-add tail chunk q

    over_is : first_of joint ++ others_of joint (length tail) (gone_by k chunk).at chunk ≡ take (gone_by k chunk).at both
    over_is =
        let z : q + far.at ≡ length (take q chunk) + far.at = omega (arith, start_long) in
        ap₂ (λ (a b : List ℕ). a ++ b) first_is others_are
        ∙ append_assoc tail (take q chunk) (take far.at rest)
        ∙ ap (λ (l : List ℕ). tail ++ l)
        (sym (ap₂ (λ (n : ℕ) (l : List ℕ). take n l) z (sym (take-append-drop q chunk)) ∙ take-append-add (take q chunk) rest far.at))
        ∙ sym (ap (λ (n : ℕ). take n both) at_is ∙ take-append-add tail chunk (q + far.at))

    rest_is : drop ((gone_by k chunk).at - length tail) chunk ≡ drop (gone_by k chunk).at both
    rest_is =
        let z : at ≡ length tail + (at - length tail) = omega (arith, at_is) in
        sym (ap (λ (n : ℕ). drop n both) z ∙ drop-append-add tail chunk (at - length tail))

    fits_there : Fits k chunk joint mid (length tail) (gone_by k chunk).at (gone_by k chunk).state
    unfolding fed_by results_for
    fits_there =
        let w = first_of joint in
        let v = others_of joint (length tail) at chunk in
        let next = (gone_by k chunk).state in
        record {
          header_there = header_there;
          first_there = first_there;
          beyond_tail = beyond_tail;
          others_behind = omega (arith, at_is, beyond_tail);
          within = omega (arith, gone_upto k chunk, both_long);
          short = omega (arith, gone_short k few chunk fair, both_long);
          first_leads = one_leads;
          others_lead = then_lead;
          results_are = sym (results_twice k w v mid next one_leads then_lead) ∙ ap (λ (x : List ℕ). results_by k x next) over_is;
          kept_is =
              ap₂ with_tail (absorbed_twice k w v mid next one_leads then_lead ∙ ap (λ (x : List ℕ). absorbed k x next) over_is) rest_is;
        }

  -- ---- or there is no whole field
  module _ (n : ℕ) (e : field_at st joint 0 ≡ Err n) where
    stop_is : reached n 0 st ≡ gone_by k chunk
    unfolding gone_by
    stop_is = stops_first st few tail chunk some goes cut n e

    all_joint : joint ≡ both
    all_joint = take_all largest_field both (omega (arith, gone_short k few chunk fair, ap (λ (r : Reached). r.at) stop_is))

    stops_short : length joint ≤ tail_most
    stops_short = omega (arith, ap length all_joint, gone_short k few chunk fair, ap (λ (r : Reached). r.at) stop_is)

    stops_results : results_by k [] st ≡ results_for k chunk
    unfolding results_for
    stops_results = ap (λ (r : Reached). results_by k (take r.at both) r.state) stop_is

    stops_kept : with_tail (absorbed k [] st) joint ≡ fed_by k chunk
    unfolding fed_by
    stops_kept = ap (with_tail (absorbed k [] st)) all_joint ∙ ap (λ (r : Reached). with_tail (absorbed k (take r.at both) r.state) (drop r.at both)) stop_is

-- ---- in a state's bytes, by its mark
pub record Stays (s chunk joint : List ℕ) (st : State) : Type 0 where
  pub short : length joint ≤ tail_most
  pub leads : Leads (state_in s) [] st
  pub results_are : results_by (kept_in s) [] st ≡ results_for (kept_in s) chunk
  pub kept_is : with_tail (absorbed (kept_in s) [] st) joint ≡ fed_by (kept_in s) chunk

module _ (s chunk : List ℕ) (m : Mark) (r : Reached) (g : Gone s m chunk r) where
  fair_is : (gone_by (kept_in s) chunk).number ≤ 1
  fair_is = subst (λ (x : Reached). x.number ≤ 1) g.gone_is g.no_fault

  few_said : Few (kept_in s).state
  unfolding kept_in
  few_said = open_few s g.is_open_is

  module _ (some : 1 ≤ m.tail) where
    tail_some : 0 < length (kept_in s).tail
    tail_some = omega (arith, some, mark_tail s m g.mark_is g.is_open_is)

    waited : (eqb (kept_in s).state.stage 0 ≡ false) × (head_of (kept_in s).state (kept_in s).tail 0 ≡ 1)
    unfolding kept_in
    waited = open_waits s g.is_open_is (omega (arith, tail_some, open_tail s g.is_open_is))

    module _ (j : List ℕ) (is : j ≡ take largest_field ((kept_in s).tail ++ chunk)) where
      pub joint_fits : (mid : State) → field_at m.state j 0 ≡ Ok mid → Fits (kept_in s) chunk j mid m.tail r.at r.state
      joint_fits mid e =
          let f : field_at (kept_in s).state (take largest_field ((kept_in s).tail ++ chunk)) 0 ≡ Ok mid =
          sym (ap₂ (λ (st : State) (l : List ℕ). field_at st l 0) (mark_state s m g.mark_is) is) ∙ e in
          let fit = fits_there (kept_in s) few_said chunk tail_some waited.0 waited.1 fair_is mid f in
          subst (λ (x : Reached). Fits (kept_in s) chunk j mid m.tail x.at x.state) (sym g.gone_is)
          (subst (λ (t : ℕ). Fits (kept_in s) chunk j mid t (gone_by (kept_in s) chunk).at (gone_by (kept_in s) chunk).state) (sym (mark_tail s m g.mark_is g.is_open_is))
          (subst (λ (l : List ℕ). Fits (kept_in s) chunk l mid (length (kept_in s).tail) (gone_by (kept_in s) chunk).at (gone_by (kept_in s) chunk).state) (sym is) fit))

      pub joint_stays : (n : ℕ) → field_at m.state j 0 ≡ Err n → Stays s chunk j m.state
      unfolding kept_in
      joint_stays n e =
          let k = kept_in s in
          let f : field_at (kept_in s).state (take largest_field ((kept_in s).tail ++ chunk)) 0 ≡ Err n =
          sym (ap₂ (λ (st : State) (l : List ℕ). field_at st l 0) (mark_state s m g.mark_is) is) ∙ e in
          subst (Stays s chunk j) (sym (mark_state s m g.mark_is))
          (subst (λ (l : List ℕ). Stays s chunk l (kept_in s).state) (sym is)
          (record {
            short = stops_short k few_said chunk tail_some waited.0 waited.1 fair_is n f;
            leads = leads_none k.state;
            results_are = stops_results k few_said chunk tail_some waited.0 waited.1 fair_is n f;
            kept_is = stops_kept k few_said chunk tail_some waited.0 waited.1 fair_is n f;
          }))

  -- ---- without a tail the chunk's fields are all
  module _ (none : m.tail ≡ 0) where
    no_tail : (kept_in s).tail ≡ []
    no_tail = no_bytes (kept_in s).tail (sym (mark_tail s m g.mark_is g.is_open_is) ∙ none)

    all_chunk : (kept_in s).tail ++ chunk ≡ chunk
    all_chunk = ap (λ (l : List ℕ). l ++ chunk) no_tail

    pub chunk_within : r.at ≤ length chunk
    chunk_within = omega (arith, gone_upto (kept_in s) chunk, ap length all_chunk, ap (λ (x : Reached). x.at) g.gone_is)

    pub chunk_short : length chunk ≤ r.at + tail_most
    chunk_short = omega (arith, gone_short (kept_in s) few_said chunk fair_is, ap length all_chunk, ap (λ (x : Reached). x.at) g.gone_is)

    over_chunk : take (gone_by (kept_in s) chunk).at ((kept_in s).tail ++ chunk) ≡ take r.at chunk
    over_chunk = ap₂ (λ (x : Reached) (l : List ℕ). take x.at l) (sym g.gone_is) all_chunk

    pub chunk_leads : Leads (state_in s) (take r.at chunk) r.state
    unfolding kept_in
    chunk_leads =
        subst (λ (st : State). Leads (state_in s) (take r.at chunk) st) (sym (ap (λ (x : Reached). x.state) g.gone_is))
        (subst (λ (w : List ℕ). Leads (state_in s) w (gone_by (kept_in s) chunk).state) over_chunk (gone_leads (kept_in s) chunk))

    pub chunk_results : results_by (kept_in s) (take r.at chunk) r.state ≡ results_for (kept_in s) chunk
    unfolding results_for
    chunk_results = sym (ap₂ (results_by (kept_in s)) over_chunk (ap (λ (x : Reached). x.state) (sym g.gone_is)))

    pub chunk_kept : with_tail (absorbed (kept_in s) (take r.at chunk) r.state) (drop r.at chunk) ≡ fed_by (kept_in s) chunk
    unfolding fed_by
    chunk_kept =
        sym
        (ap₂ with_tail (ap₂ (absorbed (kept_in s)) over_chunk (ap (λ (x : Reached). x.state) (sym g.gone_is)))
        (ap₂ (λ (x : Reached) (l : List ℕ). drop x.at l) (sym g.gone_is) all_chunk))
