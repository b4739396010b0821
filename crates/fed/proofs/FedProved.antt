-- A file of any size, fed in any chunks from the start on, against the walk over the whole of it: `fed-law`. Assumes nothing.
use mathlib.Core.Path.{◌≡◌, refl, sym, ap, ap₂, ◌∙◌, subst⁻¹}
use mathlib.Core.Logic.{inl}
use mathlib.Core.Bool.{Bool, true, false, cond}
use mathlib.Core.List.{List, ◌++◌}
use Prim.Native.Nat.{ℕ, ◌+◌, ◌-◌, ◌≤◌, ◌<◌}
use native.Mathlib.Omega.{arith}
use lib.Dec.{leb, eqb}
use lib.ListN.{length, take, length-drop}
use lib.Seq.{take_all}
use borrow.Author.Tests.{leb-true, leb-false, eqb-true, eqb-false, eq-eqb, ne_eqb}
use Rattle.solar.specs.Roof.{Roof}
use Rattle.site.specs.declared.Step.{Step}
use Rattle.lead.specs.Lead.{Leading}
use Rattle.site.specs.Site.{Site, Plant, none_yet}
use Rattle.fields.specs.declared.State.{State}
use Rattle.stick.specs.Check.{Answer, answer, ends, start, walk}
use Rattle.stick.specs.declared.Reached.{Reached}
use Rattle.stick.specs.Site.{site_of, roofs_of, leading_of, plant_of, steps_from, steps_of}
use Rattle.stick.specs.Posts.{answered}
use Rattle.stick.proofs.ReachLaws.{walk_reach}
use Rattle.records.specs.Records.{end_of, end_bytes}
use Rattle.stretch.specs.Stretch.{stands_first, records_from}
use Rattle.season.specs.Run.{result_by, result_of}
use Rattle.chunks.proofs.ReachChunks.{far_all, far_cut}
use Rattle.chunks.proofs.HeadFile.{head_file}
use Rattle.chunks.proofs.SiteChunks.{HeadSays, head_says}
use Rattle.kept.specs.Kept.{Kept, begun_at, begun, at_start}
use Rattle.kept.specs.Layout.{place_in, steps_kept, kept_in, bytes_for}
use Rattle.kept.specs.Formed.{well_formed}
use Rattle.kept.specs.Posts.{WellKept}
use Rattle.kept.proofs.KeptLaws.{kept_back, kept_number, kept_formed}
use Rattle.taking.specs.Chunk.{head_in, gone_by, site_after, stands_before, steps_by, absorbed, results_by, fed_by, results_for}
use Rattle.taking.proofs.LeadLaws.{steps_counted}
use Rattle.taking.proofs.TwiceLaws.{site_by_lem}
use Rattle.taking.proofs.FedLaws.{gone_leads}
use Rattle.taking.proofs.NumberLaws.{Numbered, stop_number}
use Rattle.taking.proofs.WellLaws.{start_well, fed_well}
use Rattle.feed.specs.Answers.{fault_leaves, end_fault, end_number, end_leaves}
use Rattle.fed.specs.Holds.{joined, leaves_all, first, FedLaw}
use Rattle.fed.proofs.CallLaws.{fault_by_lem, own_end, own_end_leaves, closed_own, closed_some, end_number_is, end_leaves_is, refused_number, refused_leaves, refused_place, refused_steps, fault_formed, fault_some, fault_number_back, fault_place_back, fault_steps_back, no_tail, over_place_back, over_steps_back}
use Rattle.fed.proofs.ChunkLaws.{after, after_fine, after_fault, after_formed, after_short, fed_place, leaves_all_lem, leaves_one, results_all_lem}

zero_plus : (n : ℕ) → 0 - 0 + n ≡ n
zero_plus n = omega arith

-- ---- the walk's answer, by how far the fields go
module _ (r : Reached) where
  told_place : (answered r).place ≡ r.at
  unfolding ends
  told_place = go (eqb r.number 0) (eqb r.state.stage 0)
    where
      go : (x y : Bool) → (cond x (cond y (answer 0 r.at r.state.steps) (answer 8 r.at r.state.steps)) (answer r.number r.at r.state.steps)).place ≡ r.at
      go true true = refl
      go true false = refl
      go false y = refl

  told_steps : (answered r).steps ≡ r.state.steps
  unfolding ends
  told_steps = go (eqb r.number 0) (eqb r.state.stage 0)
    where
      go : (x y : Bool) → (cond x (cond y (answer 0 r.at r.state.steps) (answer 8 r.at r.state.steps)) (answer r.number r.at r.state.steps)).steps ≡ r.state.steps
      go true true = refl
      go true false = refl
      go false y = refl

  told_end : r.number ≡ 0 → (answered r).number ≡ cond (eqb r.state.stage 0) 0 8
  unfolding ends
  told_end z =
      ap (λ (b : Bool). (cond b (ends r.state r.at) (answer r.number r.at r.state.steps)).number) (eq-eqb r.number 0 z) ∙ go (eqb r.state.stage 0)
    where
      go : (y : Bool) → (cond y (answer 0 r.at r.state.steps) (answer 8 r.at r.state.steps)).number ≡ cond y 0 8
      go true = refl
      go false = refl

  told_number : (r.number ≡ 0 → ⊥) → (answered r).number ≡ r.number
  told_number n = ap (λ (b : Bool). (cond b (ends r.state r.at) (answer r.number r.at r.state.steps)).number) (ne_eqb r.number 0 n)

  all_went : (answered r).number ≡ 0 → r.number ≡ 0
  all_went e = go (eqb r.number 0) refl
    where
      go : (b : Bool) → eqb r.number 0 ≡ b → r.number ≡ 0
      go true t = eqb-true r.number 0 t
      go false t = sym (told_number (eqb-false r.number 0 t)) ∙ e

module _ (file : List ℕ) where
  walked : walk (length file) start file 0 ≡ answered (gone_by at_start file)
  unfolding gone_by
  walked = walk_reach file (length file) start 0

  walked_number : (walk (length file) start file 0).number ≡ (answered (gone_by at_start file)).number
  walked_number = ap (λ (a : Answer). a.number) walked

  walked_place : (walk (length file) start file 0).place ≡ (gone_by at_start file).at
  walked_place = ap (λ (a : Answer). a.place) walked ∙ told_place (gone_by at_start file)

  walked_steps : (walk (length file) start file 0).steps ≡ (gone_by at_start file).state.steps
  walked_steps = ap (λ (a : Answer). a.steps) walked ∙ told_steps (gone_by at_start file)

  -- 10 and 11 are none of its numbers
  pub walked_numbered : Numbered (walk (length file) start file 0).number
  walked_numbered = subst⁻¹ Numbered walked_number (go (eqb (gone_by at_start file).number 0) refl)
    where
      at_end_numbered : (b : Bool) → Numbered (cond b 0 8)
      at_end_numbered true = inl (omega arith)
      at_end_numbered false = inl (omega arith)

      go : (b : Bool) → eqb (gone_by at_start file).number 0 ≡ b → Numbered (answered (gone_by at_start file)).number
      go true e =
          subst⁻¹ Numbered (told_end (gone_by at_start file) (eqb-true (gone_by at_start file).number 0 e)) (at_end_numbered (eqb (gone_by at_start file).state.stage 0))
      go false e = subst⁻¹ Numbered (told_number (gone_by at_start file) (eqb-false (gone_by at_start file).number 0 e)) (stop_number at_start file)

  -- ---- no fault: what the end says is what the walk says
  tail_long : length (fed_by at_start file).tail ≡ length file - (gone_by at_start file).at
  unfolding fed_by
  tail_long = length-drop (gone_by at_start file).at file

  state_is : (fed_by at_start file).state ≡ (gone_by at_start file).state
  unfolding fed_by absorbed
  state_is = refl

  gone_all : (gone_by at_start file).number ≡ 0 → (gone_by at_start file).at ≡ length file
  unfolding gone_by
  gone_all z = far_all file start 0 (omega arith) z

  gone_cut : (gone_by at_start file).number ≡ 1 → (gone_by at_start file).at < length file
  unfolding gone_by
  gone_cut z = (far_cut file start 0 (omega arith) (omega arith) z).bytes

  end_told : (gone_by at_start file).number ≤ 1 → end_fault (fed_by at_start file) ≡ (walk (length file) start file 0).number
  unfolding end_fault
  end_told h = go (eqb (gone_by at_start file).number 0) refl
    where
      go : (b : Bool) → eqb (gone_by at_start file).number 0 ≡ b → end_fault (fed_by at_start file) ≡ (walk (length file) start file 0).number
      go true e =
          let z = eqb-true (gone_by at_start file).number 0 e in
          let a = gone_all z in
          let t = tail_long in
          ap₂ fault_by_lem (eq-eqb (length (fed_by at_start file).tail) 0 (omega arith)) (ap (λ (s : State). eqb s.stage 0) state_is)
          ∙ sym (walked_number ∙ told_end (gone_by at_start file) z)
      go false e =
          let no = eqb-false (gone_by at_start file).number 0 e in
          let one : (gone_by at_start file).number ≡ 1 = is_one (gone_by at_start file).number h no in
          let a = gone_cut one in
          let t = tail_long in
          ap (λ (b : Bool). fault_by_lem b (eqb (fed_by at_start file).state.stage 0)) (ne_eqb (length (fed_by at_start file).tail) 0 (λ x. omega arith))
          ∙ sym (walked_number ∙ told_number (gone_by at_start file) no ∙ one)
        where
          is_one : (n : ℕ) → n ≤ 1 → (n ≡ 0 → ⊥) → n ≡ 1
          is_one n l z = omega (arith, z)

  -- what the end leaves of a file, accepted or not
  record Left : Type 0 where
    place : place_in (end_leaves (after at_start file) end_bytes) ≡ (walk (length file) start file 0).place
    steps : steps_kept (end_leaves (after at_start file) end_bytes) ≡ (walk (length file) start file 0).steps

  -- ---- the end of an accepted file
  module _ (ok : (walk (length file) start file 0).number ≡ 0) where
    went : (gone_by at_start file).number ≡ 0
    went = all_went (gone_by at_start file) (sym walked_number ∙ ok)

    fine : (gone_by at_start file).number ≤ 1
    fine = let z = went in omega arith

    kept_so : WellKept (fed_by at_start file)
    kept_so = fed_well at_start start_well file fine

    accepted_number : end_number (after at_start file) end_bytes ≡ 0
    accepted_number =
        let s = bytes_for (fed_by at_start file) in
        ap (λ (s : List ℕ). end_number s end_bytes) (after_fine at_start file fine)
        ∙ end_number_is s (fed_by at_start file) (kept_back (fed_by at_start file) kept_so) (kept_formed (fed_by at_start file) kept_so) (kept_number (fed_by at_start file) kept_so) end_bytes
        (end_told fine ∙ ok) (omega arith)

    pub whole_place : (walk (length file) start file 0).place ≡ length file
    whole_place = walked_place ∙ gone_all went

    over_left : Left
    over_left =
        let k = fed_by at_start file in
        let e : end_fault k ≡ 0 = end_told fine ∙ ok in
        let left =
        ap (λ (s : List ℕ). end_leaves s end_bytes) (after_fine at_start file fine)
        ∙ end_leaves_is (bytes_for k) k (kept_back k kept_so) (kept_formed k kept_so) (kept_number k kept_so) end_bytes e (omega arith) in
        let t = no_tail k kept_so e in
        let p = fed_place at_start file in
        let at : k.place ≡ (gone_by at_start file).at = omega arith in
        record {
          place = ap place_in left ∙ over_place_back k kept_so e ∙ at ∙ sym walked_place;
          steps = ap steps_kept left ∙ over_steps_back k kept_so e ∙ ap (λ (s : State). s.steps) state_is ∙ sym walked_steps;
        }

    -- ---- and its results
    ended : (gone_by at_start file).state.stage ≡ 0
    ended = go (eqb (gone_by at_start file).state.stage 0) refl (sym (told_end (gone_by at_start file) went) ∙ sym walked_number ∙ ok)
      where
        go : (b : Bool) → eqb (gone_by at_start file).state.stage 0 ≡ b → ◌≡◌ {A = ℕ} (cond (eqb (gone_by at_start file).state.stage 0) 0 8) 0 → (gone_by at_start file).state.stage ≡ 0
        go true e t = eqb-true (gone_by at_start file).state.stage 0 e
        go false e t =
            let f : ◌≡◌ {A = ℕ} (cond (eqb (gone_by at_start file).state.stage 0) 0 8) 8 = ap (λ (b : Bool). cond {A = ℕ} b 0 8) e in
            absurd (omega arith)

    has_begun : begun (gone_by at_start file).state ≡ true
    has_begun = ap begun_at ended

    says : HeadSays file
    says = head_says file ok

    all_taken : take (gone_by at_start file).at file ≡ file
    all_taken = let a = gone_all went in take_all (gone_by at_start file).at file (omega arith)

    site_is : site_after at_start file (gone_by at_start file).state ≡ head_file file
    site_is = site_by_lem at_start file (gone_by at_start file).state false true refl has_begun

    abbrev results_of : Plant → List Step → List ℕ
    results_of p steps = records_from p 0 (stands_first p) steps

    plant_is : plant_of (site_after at_start file (gone_by at_start file).state) ≡ plant_of file
    unfolding plant_of
    plant_is =
        ap plant_of site_is
        ∙ ap₂ (λ (s : Site) (r : List Roof). record { site = s; roofs = r; leading = leading_of (head_file file) }) says.site says.roofs
        ∙ ap (λ (l : Leading). record { site = site_of file; roofs = roofs_of file; leading = l }) says.leading

    results_by_lem : results_by at_start file (gone_by at_start file).state ≡ results_of (plant_of (site_after at_start file (gone_by at_start file).state)) (steps_from file none_yet (head_in file))
    unfolding results_by stands_before steps_by
    results_by_lem = refl

    results_are : results_for at_start file ≡ results_of (plant_of file) (steps_of file)
    unfolding results_for steps_of
    results_are =
        ap (λ (w : List ℕ). results_by at_start w (gone_by at_start file).state) all_taken
        ∙ results_by_lem
        ∙ ap₂ results_of plant_is (sym (says.steps none_yet))

    steps_are : (gone_by at_start file).state.steps ≡ length (steps_of file)
    unfolding steps_of
    steps_are =
        let w = take (gone_by at_start file).at file in
        let n : 0 + length (steps_from w none_yet (head_in w)) ≡ (gone_by at_start file).state.steps = steps_counted w (gone_leads at_start file) none_yet in
        let m : length (steps_from w none_yet (head_in w)) ≡ length (steps_from file none_yet (head_in file)) = ap (λ (x : List ℕ). length (steps_from x none_yet (head_in x))) all_taken in
        let o : length (steps_from file none_yet 0) ≡ length (steps_from file none_yet (head_in file)) = ap length (says.steps none_yet) in
        omega arith

    steps_kept_lem : (kept_in (after at_start file)).state.steps ≡ length (steps_of file)
    steps_kept_lem =
        ap (λ (s : List ℕ). (kept_in s).state.steps) (after_fine at_start file fine)
        ∙ ap (λ (x : Kept). x.state.steps) (kept_back (fed_by at_start file) kept_so)
        ∙ ap (λ (s : State). s.steps) state_is ∙ steps_are

    whole_results : results_for at_start file ++ end_of (kept_in (after at_start file)).state.steps ≡ result_of file
    unfolding result_of result_by
    whole_results = ap₂ (λ (l : List ℕ) (n : ℕ). l ++ end_of n) results_are steps_kept_lem

  -- ---- the end of a file that is refused
  module _ (no : (walk (length file) start file 0).number ≡ 0 → ⊥) where
    record Refused : Type 0 where
      number : end_number (after at_start file) end_bytes ≡ (walk (length file) start file 0).number
      left : Left

    -- by the end
    at_end_lem : (gone_by at_start file).number ≤ 1 → Refused
    at_end_lem h =
        let k = fed_by at_start file in
        let s = bytes_for (fed_by at_start file) in
        let well = fed_well at_start start_well file h in
        let e : (end_fault k ≡ 0 → ⊥) = λ f. no (sym (end_told h) ∙ f) in
        let left = ap (λ (s : List ℕ). end_leaves s end_bytes) (after_fine at_start file h) ∙ refused_leaves s k (kept_back k well) (kept_formed k well) (kept_number k well) end_bytes e in
        record {
          number =
              ap (λ (s : List ℕ). end_number s end_bytes) (after_fine at_start file h)
              ∙ refused_number s k (kept_back k well) (kept_formed k well) (kept_number k well) end_bytes e
              ∙ end_told h;
          left = record {
            place = ap place_in left ∙ refused_place k well e ∙ fed_place at_start file ∙ zero_plus (gone_by at_start file).at ∙ sym walked_place;
            steps = ap steps_kept left ∙ refused_steps k well e ∙ ap (λ (s : State). s.steps) state_is ∙ sym walked_steps;
          };
        }

    -- by a fault before it
    at_fault : leb (gone_by at_start file).number 1 ≡ false → Refused
    at_fault f =
        let l = leb-false (gone_by at_start file).number 1 f in
        let h : ((gone_by at_start file).number ≤ 1 → ⊥) = λ x. omega arith in
        let s = fault_leaves at_start file in
        let w = fault_formed at_start start_well file h in
        let some = fault_some at_start start_well file h in
        let own = closed_some s w some in
        let is = after_fault at_start file f in
        let left = ap (λ (s : List ℕ). end_leaves s end_bytes) is ∙ own_end_leaves s own end_bytes in
        record {
          number =
              ap (λ (s : List ℕ). end_number s end_bytes) is ∙ own_end s own end_bytes ∙ closed_own s w some ∙ fault_number_back at_start start_well file h
              ∙ sym (walked_number ∙ told_number (gone_by at_start file) (λ z. omega arith));
          left = record {
            place = ap place_in left ∙ fault_place_back at_start start_well file h ∙ zero_plus (gone_by at_start file).at ∙ sym walked_place;
            steps = ap steps_kept left ∙ fault_steps_back at_start start_well file h ∙ sym walked_steps;
          };
        }

    refused_end : Refused
    refused_end = go (leb (gone_by at_start file).number 1) refl
      where
        go : (b : Bool) → leb (gone_by at_start file).number 1 ≡ b → Refused
        go true e = at_end_lem (leb-true (gone_by at_start file).number 1 e)
        go false e = at_fault e

  left_at_end : Left
  left_at_end = go (eqb (walk (length file) start file 0).number 0) refl
    where
      go : (b : Bool) → eqb (walk (length file) start file 0).number 0 ≡ b → Left
      go true e = over_left (eqb-true (walk (length file) start file 0).number 0 e)
      go false e = (refused_end (eqb-false (walk (length file) start file 0).number 0 e)).left

-- ---- any chunks
pub fed_law : (chunks : List (List ℕ)) → FedLaw chunks
fed_law chunks =
    let file = joined chunks in
    let is : leaves_all first chunks ≡ after at_start file = leaves_all_lem chunks in
    record {
      one = is ∙ sym (leaves_one file);
      formed = ap well_formed is ∙ after_formed at_start start_well file;
      short = let l = after_short at_start start_well file in let e = ap (λ (s : List ℕ). length (kept_in s).tail) is in omega arith;
      accepted = λ ok. ap (λ (s : List ℕ). end_number s end_bytes) is ∙ accepted_number file ok;
      same_results = λ ok.
          ap₂ (λ (l : List ℕ) (s : List ℕ). l ++ end_of (kept_in s).state.steps) (results_all_lem chunks (fine file ok)) is ∙ whole_results file ok;
      refused = λ no. ap (λ (s : List ℕ). end_number s end_bytes) is ∙ (refused_end file no).number;
      same_place = ap (λ (s : List ℕ). place_in (end_leaves s end_bytes)) is ∙ (left_at_end file).place;
      same_steps = ap (λ (s : List ℕ). steps_kept (end_leaves s end_bytes)) is ∙ (left_at_end file).steps;
    }
