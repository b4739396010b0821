-- A chunk and then another: the fields go from where the first left them as far as in both chunks at once, what is kept afterwards is the same, and the
-- records are those of the first and then those of the second. A refusal stands, whatever follows. Assumes nothing.
use mathlib.Core.Path.{◌≡◌, refl, sym, ap, ap₂, ◌∙◌}
use mathlib.Core.List.{List, [], ◌++◌, append_assoc}
use Prim.Native.Nat.{ℕ, ◌+◌, ◌-◌, ◌≤◌}
use native.Mathlib.Omega.{arith}
use lib.ListN.{length, take, drop, take-append-drop}
use lib.Seq.{length-take-le, take-append-add, drop-append-add}
use Rattle.fields.specs.declared.State.{State}
use Rattle.stick.specs.declared.Reached.{Reached}
use Rattle.stick.specs.Check.{reach_of}
use Rattle.chunks.specs.Holds.{moved}
use Rattle.chunks.proofs.ReachChunks.{far_upto, reach_stays, reach_append}
use Rattle.kept.specs.Kept.{Kept}
use Rattle.taking.specs.Chunk.{gone_by, site_after, stands_before, steps_by, absorbed, results_by, with_tail, fed_by, results_for}
use Rattle.taking.specs.Posts.{Leads}
use Rattle.taking.proofs.LedLaws.{leads_far}
use Rattle.taking.proofs.TwiceLaws.{absorbed_twice, results_twice}

-- ---- whole fields make the same of what is kept with a tail as without it
module _ (k : Kept) (t w : List ℕ) (st : State) where
  pub tail_apart : k.tail ≡ [] → absorbed (with_tail k t) w st ≡ absorbed k w st
  unfolding absorbed site_after stands_before steps_by
  tail_apart e =
      let place : k.place + length t - length t + length w ≡ k.place - length k.tail + length w = omega (arith, ap length e) in
      λ i. record {
        place = place i;
        state = st;
        site = (absorbed k w st).site;
        due = (absorbed k w st).due;
        stands = (absorbed k w st).stands;
        tail = [];
      }

  pub results_apart : results_by (with_tail k t) w st ≡ results_by k w st
  unfolding results_by site_after stands_before steps_by
  results_apart = refl

-- ---- one chunk
module _ (k : Kept) (p : List ℕ) where
  -- the bytes that its fields go over, and those behind
  abbrev over : List ℕ
  over = take (gone_by k p).at (k.tail ++ p)

  abbrev rest : List ℕ
  rest = drop (gone_by k p).at (k.tail ++ p)

  pub gone_upto : (gone_by k p).at ≤ length (k.tail ++ p)
  unfolding gone_by
  gone_upto = far_upto (k.tail ++ p) k.state 0 (omega arith)

  pub gone_leads : Leads k.state (take (gone_by k p).at (k.tail ++ p)) (gone_by k p).state
  unfolding gone_by
  gone_leads = leads_far (k.tail ++ p) k.state

  over_long : length over ≡ (gone_by k p).at
  over_long = length-take-le (gone_by k p).at (k.tail ++ p) gone_upto

  module _ (c : List ℕ) where
    -- ---- how far the fields go with another chunk
    pub gone_twice : gone_by k (p ++ c) ≡ moved (gone_by k p).at (gone_by (fed_by k p) c)
    unfolding gone_by fed_by absorbed
    gone_twice =
        ap (λ (l : List ℕ). reach_of (length l) k.state l 0) (sym (append_assoc k.tail p c))
        ∙ reach_append (k.tail ++ p) k.state 0 (omega arith) c

    pub gone_number : (gone_by k (p ++ c)).number ≡ (gone_by (fed_by k p) c).number
    gone_number = ap (λ (r : Reached). r.number) gone_twice

    pub gone_state : (gone_by k (p ++ c)).state ≡ (gone_by (fed_by k p) c).state
    gone_state = ap (λ (r : Reached). r.state) gone_twice

    pub gone_place : (gone_by k (p ++ c)).at ≡ (gone_by k p).at + (gone_by (fed_by k p) c).at
    gone_place = ap (λ (r : Reached). r.at) gone_twice

    pub gone_stays : ((gone_by k p).number ≡ 0 → ⊥) → ((gone_by k p).number ≡ 1 → ⊥) → gone_by k (p ++ c) ≡ gone_by k p
    unfolding gone_by
    gone_stays z o =
        ap (λ (l : List ℕ). reach_of (length l) k.state l 0) (sym (append_assoc k.tail p c))
        ∙ reach_stays (k.tail ++ p) k.state 0 (omega arith) c z o

    -- ---- the bytes of both: those gone over, and behind them the rest and the other chunk
    both_bytes : k.tail ++ (p ++ c) ≡ over ++ (rest ++ c)
    both_bytes =
        sym (append_assoc k.tail p c)
        ∙ ap (λ (l : List ℕ). l ++ c) (sym (take-append-drop (gone_by k p).at (k.tail ++ p)))
        ∙ append_assoc over rest c

    abbrev far_on : ℕ
    far_on = (gone_by (fed_by k p) c).at

    both_place : (gone_by k (p ++ c)).at ≡ length over + far_on
    both_place = gone_place ∙ ap (λ (n : ℕ). n + far_on) (sym over_long)

    both_over : take (gone_by k (p ++ c)).at (k.tail ++ (p ++ c)) ≡ over ++ take far_on (rest ++ c)
    both_over = ap₂ (λ (n : ℕ) (l : List ℕ). take n l) both_place both_bytes ∙ take-append-add over (rest ++ c) far_on

    both_rest : drop (gone_by k (p ++ c)).at (k.tail ++ (p ++ c)) ≡ drop far_on (rest ++ c)
    both_rest = ap₂ (λ (n : ℕ) (l : List ℕ). drop n l) both_place both_bytes ∙ drop-append-add over (rest ++ c) far_on

    abbrev mid : Kept
    mid = absorbed k over (gone_by k p).state

    on_leads : Leads (gone_by k p).state (take far_on (rest ++ c)) (gone_by (fed_by k p) c).state
    unfolding gone_by fed_by absorbed
    on_leads = leads_far (rest ++ c) (gone_by k p).state

    -- ---- what is kept, and the records
    pub fed_twice : fed_by (fed_by k p) c ≡ fed_by k (p ++ c)
    unfolding fed_by absorbed
    fed_twice =
        let later = take far_on (rest ++ c) in
        let last = (gone_by (fed_by k p) c).state in
        ap (λ (x : Kept). with_tail x (drop far_on (rest ++ c)))
        (tail_apart mid rest later last refl ∙ absorbed_twice k over later (gone_by k p).state last gone_leads on_leads
        ∙ ap₂ (absorbed k) (sym both_over) (sym gone_state))
        ∙ ap (with_tail (absorbed k (take (gone_by k (p ++ c)).at (k.tail ++ (p ++ c))) (gone_by k (p ++ c)).state)) (sym both_rest)

    pub results_for_twice : results_for k (p ++ c) ≡ results_for k p ++ results_for (fed_by k p) c
    unfolding results_for fed_by absorbed
    results_for_twice =
        let later = take far_on (rest ++ c) in
        let last = (gone_by (fed_by k p) c).state in
        ap₂ (results_by k) both_over gone_state
        ∙ results_twice k over later (gone_by k p).state last gone_leads on_leads
        ∙ ap (λ (l : List ℕ). results_by k over (gone_by k p).state ++ l) (sym (results_apart mid rest later last))
