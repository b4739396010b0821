-- Whole fields taken in twice: some and then others make of what is kept what all of them make at once, and their records are those of the first and then
-- those of the others. To take in nothing leaves what is kept as it is. Assumes nothing.
use mathlib.Core.Path.{◌≡◌, refl, sym, ap, ap₂, ◌∙◌}
use mathlib.Core.Bool.{Bool, true, false, cond}
use mathlib.Core.List.{List, [], ◌++◌, append_assoc, append-nil}
use Prim.Native.Nat.{ℕ, ◌+◌, ◌-◌}
use native.Mathlib.Omega.{arith}
use lib.ListN.{length, take, length-append}
use lib.Seq.{take_all, take-append-le, take-append-add}
use Rattle.whole.proofs.Choice.{passed_failed}
use Rattle.site.specs.declared.Due.{Due}
use Rattle.site.specs.declared.Step.{Step}
use Rattle.fields.specs.declared.State.{State}
use Rattle.stick.specs.Site.{places_from, plant_of, steps_in, due_in, steps_from, due_from, head_from}
use Rattle.fleet.specs.Step.{Stands}
use Rattle.stretch.specs.Stretch.{stands_first, stands_after, records_from}
use Rattle.stretch.proofs.AppendLaws.{stands_append, records_append}
use Rattle.chunks.proofs.PlaceChunks.{went_whole, steps_append, due_append, steps_shift, due_shift}
use Rattle.chunks.proofs.HeadChunks.{HeadAppend, head_from_append}
use Rattle.kept.specs.Kept.{Kept, begun, no_standing}
use Rattle.kept.specs.Posts.{WellKept}
use Rattle.taking.specs.Chunk.{closing, head_in, site_after, stands_before, steps_by, absorbed, results_by}
use Rattle.taking.specs.Posts.{Leads}
use Rattle.taking.proofs.LedLaws.{led, leads_append}
use Rattle.taking.proofs.LeadLaws.{stays_begun, before_too, no_head, all_head, head_ends, whole_behind, steps_counted, no_step_yet, same_due_yet}

-- ---- the site, by whether the steps had begun, and have
abbrev pub site_by : Bool → Bool → List ℕ → List ℕ → List ℕ
site_by x y site head = cond x site (site ++ head ++ cond y closing [])

pub site_by_lem : (k : Kept) (w : List ℕ) (st : State) (x y : Bool) → begun k.state ≡ x → begun st ≡ y → site_after k w st ≡ site_by x y k.site (take (head_in w) w)
unfolding site_after
site_by_lem k w st x y ex ey = ap₂ (λ (x y : Bool). site_by x y k.site (take (head_in w) w)) ex ey

module _ (k : Kept) (a b : List ℕ) (st₁ st₂ : State) (p : Leads k.state a st₁) (q : Leads st₁ b st₂) where
  -- ---- where the head of all of them ends: in the first fields, or behind them
  heads : HeadAppend a b 0 (head_in a)
  heads = head_from_append a b (went_whole a (led p) refl)

  same_head : begun st₁ ≡ true → head_in (a ++ b) ≡ head_in a
  same_head e = go (begun k.state) refl
    where
      go : (x : Bool) → begun k.state ≡ x → head_in (a ++ b) ≡ head_in a
      go true ex = no_head (a ++ b) (leads_append a b p q) ex ∙ sym (no_head a p ex)
      go false ex = heads.within (head_ends a p ex e)

  module _ (e : begun st₁ ≡ false) where
    not_before : begun k.state ≡ false
    not_before = before_too a p e

    all_of_first : head_in a ≡ length a
    all_of_first = all_head a p not_before e

    head_beyond : head_in (a ++ b) ≡ length a + head_in b
    head_beyond = let h = all_of_first in heads.on (omega arith)

  -- ---- the steps, and what the step under way has
  module _ (d : Due) where
    pub steps_twice : steps_from (a ++ b) d (head_in (a ++ b)) ≡ steps_from a d (head_in a) ++ steps_from b (due_from a d (head_in a)) (head_in b)
    steps_twice = go (begun st₁) refl
      where
        go : (x : Bool) → begun st₁ ≡ x → steps_from (a ++ b) d (head_in (a ++ b)) ≡ steps_from a d (head_in a) ++ steps_from b (due_from a d (head_in a)) (head_in b)
        go true e =
            ap (steps_from (a ++ b) d) (same_head e) ∙ steps_append a b (whole_behind a p) d
            ∙ ap (λ (n : ℕ). steps_from a d (head_in a) ++ steps_from b (due_from a d (head_in a)) n) (sym (no_head b q e))
        go false e =
            ap (steps_from (a ++ b) d) (head_beyond e) ∙ steps_shift a b d (head_in b)
            ∙ sym (ap₂ (λ (l : List Step) (d : Due). l ++ steps_from b d (head_in b)) (no_step_yet a p (not_before e) e d) (same_due_yet a p (not_before e) e d))

    pub due_twice : due_from (a ++ b) d (head_in (a ++ b)) ≡ due_from b (due_from a d (head_in a)) (head_in b)
    due_twice = go (begun st₁) refl
      where
        go : (x : Bool) → begun st₁ ≡ x → due_from (a ++ b) d (head_in (a ++ b)) ≡ due_from b (due_from a d (head_in a)) (head_in b)
        go true e =
            ap (due_from (a ++ b) d) (same_head e) ∙ due_append a b (whole_behind a p) d
            ∙ ap (due_from b (due_from a d (head_in a))) (sym (no_head b q e))
        go false e =
            ap (due_from (a ++ b) d) (head_beyond e) ∙ due_shift a b d (head_in b)
            ∙ sym (ap (λ (d : Due). due_from b d (head_in b)) (same_due_yet a p (not_before e) e d))

  -- ---- the site part
  pub site_twice : site_after k (a ++ b) st₂ ≡ site_after (absorbed k a st₁) b st₂
  unfolding absorbed
  site_twice = go (begun k.state) (begun st₁) refl refl
    where
      closed : List ℕ
      closed = cond (begun st₂) closing []

      go : (x y : Bool) → begun k.state ≡ x → begun st₁ ≡ y → site_after k (a ++ b) st₂ ≡ site_after (absorbed k a st₁) b st₂
      go true y ex ey =
          let one = stays_begun a p ex in
          site_by_lem k (a ++ b) st₂ true (begun st₂) ex refl
          ∙ sym (site_by_lem (absorbed k a st₁) b st₂ true (begun st₂) one refl ∙ site_by_lem k a st₁ true (begun st₁) ex refl)
      go false true ex ey =
          let two = stays_begun b q ey in
          let h : take (head_in (a ++ b)) (a ++ b) ≡ take (head_in a) a =
          ap (λ (n : ℕ). take n (a ++ b)) (same_head ey) ∙ take-append-le (head_in a) a b heads.upto in
          site_by_lem k (a ++ b) st₂ false true ex two
          ∙ ap (site_by false true k.site) h
          ∙ sym (site_by_lem (absorbed k a st₁) b st₂ true (begun st₂) ey refl ∙ site_by_lem k a st₁ false true ex ey)
      go false false ex ey =
          let h : take (head_in (a ++ b)) (a ++ b) ≡ a ++ take (head_in b) b =
          ap (λ (n : ℕ). take n (a ++ b)) (head_beyond ey) ∙ take-append-add a b (head_in b) in
          let f : take (head_in a) a ≡ a = let n = all_of_first ey in take_all (head_in a) a (omega arith) in
          let first : site_after k a st₁ ≡ k.site ++ a =
          site_by_lem k a st₁ false false ex ey ∙ append-nil (k.site ++ take (head_in a) a) ∙ ap (λ (l : List ℕ). k.site ++ l) f in
          site_by_lem k (a ++ b) st₂ false (begun st₂) ex refl
          ∙ ap (site_by false (begun st₂) k.site) h
          ∙ ap (λ (l : List ℕ). l ++ closed) (sym (append_assoc k.site a (take (head_in b) b)))
          ∙ sym (site_by_lem (absorbed k a st₁) b st₂ false (begun st₂) ey refl ∙ ap (λ (l : List ℕ). l ++ take (head_in b) b ++ closed) first)

  -- where the steps have begun, it is that of the first
  pub site_first : begun st₁ ≡ true → site_after k (a ++ b) st₂ ≡ site_after k a st₁
  unfolding absorbed
  site_first e = site_twice ∙ site_by_lem (absorbed k a st₁) b st₂ true (begun st₂) e refl

  -- ---- what stands before the others is what stands after the first
  module _ (site : List ℕ) (is : site_after k (a ++ b) st₂ ≡ site) where
    pub stands_between : stands_before (absorbed k a st₁) site ≡ stands_after (plant_of site) (stands_before k site) (steps_by k a)
    unfolding absorbed stands_before steps_by stands_after
    stands_between = go (begun st₁) refl
      where
        after_first : List ℕ → Stands
        after_first l = stands_after (plant_of l) (stands_before k l) (steps_by k a)

        go : (y : Bool) → begun st₁ ≡ y → stands_before (absorbed k a st₁) site ≡ stands_after (plant_of site) (stands_before k site) (steps_by k a)
        go true e =
            ap (λ (y : Bool). cond y (cond y (after_first (site_after k a st₁)) no_standing) (stands_first (plant_of site))) e
            ∙ ap after_first (sym (site_first e) ∙ is)
        go false e =
            ap (λ (y : Bool). cond y (cond y (after_first (site_after k a st₁)) no_standing) (stands_first (plant_of site))) e
            ∙ sym (ap (λ (x : Bool). cond x k.stands (stands_first (plant_of site))) (not_before e))
            ∙ sym (ap (stands_after (plant_of site) (stands_before k site)) (no_step_yet a p (not_before e) e k.due))

  -- ---- so after all of them what stands after the others
  abbrev all_site : List ℕ
  all_site = site_after k (a ++ b) st₂

  closed_twice : steps_by k (a ++ b) ≡ steps_by k a ++ steps_by (absorbed k a st₁) b
  unfolding steps_by absorbed
  closed_twice = steps_twice k.due

  stands_twice : stands_after (plant_of all_site) (stands_before k all_site) (steps_by k (a ++ b))
      ≡ stands_after (plant_of (site_after (absorbed k a st₁) b st₂)) (stands_before (absorbed k a st₁) (site_after (absorbed k a st₁) b st₂)) (steps_by (absorbed k a st₁) b)
  stands_twice =
      ap (stands_after (plant_of all_site) (stands_before k all_site)) closed_twice
      ∙ stands_append (plant_of all_site) (stands_before k all_site) (steps_by k a) (steps_by (absorbed k a st₁) b)
      ∙ ap (λ (st : Stands). stands_after (plant_of all_site) st (steps_by (absorbed k a st₁) b)) (sym (stands_between all_site refl))
      ∙ ap (λ (l : List ℕ). stands_after (plant_of l) (stands_before (absorbed k a st₁) l) (steps_by (absorbed k a st₁) b)) site_twice

  -- ---- all that is kept
  pub absorbed_twice : absorbed (absorbed k a st₁) b st₂ ≡ absorbed k (a ++ b) st₂
  unfolding absorbed
  absorbed_twice =
      let place : k.place - length k.tail + length a - 0 + length b ≡ k.place - length k.tail + length (a ++ b) = omega (arith, length-append a b) in
      let site = site_twice in
      let due = due_twice k.due in
      let stands = stands_twice in
      sym (λ i. record {
        place = sym place i;
        state = st₂;
        site = site i;
        due = due i;
        stands = cond (begun st₂) (stands i) no_standing;
        tail = [];
      })

  -- ---- their records
  first_records : records_from (plant_of all_site) k.state.steps (stands_before k all_site) (steps_by k a) ≡ results_by k a st₁
  unfolding results_by records_from steps_by
  first_records = go (begun st₁) refl
    where
      by_site : List ℕ → List ℕ
      by_site l = records_from (plant_of l) k.state.steps (stands_before k l) (steps_by k a)

      none : List ℕ → List Step → List ℕ
      none l ss = records_from (plant_of l) k.state.steps (stands_before k l) ss

      go : (y : Bool) → begun st₁ ≡ y → by_site all_site ≡ by_site (site_after k a st₁)
      go true e = ap by_site (site_first e)
      go false e = let n = no_step_yet a p (not_before e) e k.due in ap (none all_site) n ∙ sym (ap (none (site_after k a st₁)) n)

  pub results_twice : results_by k (a ++ b) st₂ ≡ results_by k a st₁ ++ results_by (absorbed k a st₁) b st₂
  unfolding results_by absorbed steps_by
  results_twice =
      let P = plant_of all_site in
      let n = k.state.steps in
      let m = absorbed k a st₁ in
      let later = steps_by m b in
      let count : n + length (steps_by k a) ≡ st₁.steps = steps_counted a p k.due in
      ap (records_from P n (stands_before k all_site)) closed_twice
      ∙ records_append P n (stands_before k all_site) (steps_by k a) later
      ∙ ap₂ (λ (x y : List ℕ). x ++ y) first_records
      (ap₂ (λ (c : ℕ) (st : Stands). records_from P c st later) count (sym (stands_between all_site refl))
      ∙ ap (λ (l : List ℕ). records_from (plant_of l) st₁.steps (stands_before m l) later) site_twice)

-- ---- no field
module _ (k : Kept) (tail : k.tail ≡ []) where
  none_by : (b : Bool) → begun k.state ≡ b → (b ≡ false → k.stands ≡ no_standing) → absorbed k [] k.state ≡ k
  unfolding absorbed site_after stands_before steps_by steps_from steps_in places_from due_from due_in head_from stands_after
  none_by b e none =
      let place : k.place - length k.tail + 0 ≡ k.place = omega (arith, ap length tail) in
      let site = site_none b in
      let stands = stands_none b none in
      λ i. record {
        place = place i;
        state = k.state;
        site = (ap (λ (b : Bool). cond b k.site (k.site ++ [] ++ cond b closing [])) e ∙ site) i;
        due = k.due;
        stands = (ap (λ (b : Bool). cond b (cond b k.stands (stands_first (plant_of (site_after k [] k.state)))) no_standing) e ∙ stands) i;
        tail = sym tail i;
      }
    where
      site_none : (b : Bool) → cond b k.site (k.site ++ [] ++ cond b closing []) ≡ k.site
      site_none true = refl
      site_none false = append-nil (k.site ++ []) ∙ append-nil k.site

      stands_none : (b : Bool) → (b ≡ false → k.stands ≡ no_standing) → cond b (cond b k.stands (stands_first (plant_of (site_after k [] k.state)))) no_standing ≡ k.stands
      stands_none true none = refl
      stands_none false none = sym (none refl)

  pub absorbed_none : WellKept k → absorbed k [] k.state ≡ k
  absorbed_none w = none_by (begun k.state) refl w.none_stands

  pub absorbed_none_begun : begun k.state ≡ true → absorbed k [] k.state ≡ k
  absorbed_none_begun e = none_by true e (λ f. absurd (passed_failed refl f))
