-- The site part after whole fields: its own fields are whole and accepted, without steps, and lead to what is known between fields. Assumes nothing.
use mathlib.Core.Path.{◌≡◌, refl, sym, ap, ap₂, ◌∙◌, subst, subst⁻¹}
use mathlib.Core.Bool.{Bool, true, false, ◌||◌}
use mathlib.Core.List.{List, [], ◌++◌, append-nil}
use Prim.Native.Nat.{ℕ, ◌+◌, ◌≤◌, ◌<◌}
use native.Mathlib.Omega.{arith}
use lib.Dec.{eqb}
use lib.ListN.{length, take, length-append}
use Rattle.whole.proofs.Choice.{passed_failed}
use Rattle.octets.specs.BigEndian.{be}
use Rattle.fields.specs.declared.State.{State}
use Rattle.fields.specs.Fields.{at_end, begins, closes, kinds, size_in, size_of, head_of, stands_in, allowed, value_of, refused_by, flags, state_of, gone_to, roof_after, state_after, taken_by}
use Rattle.stick.specs.declared.Reached.{Reached}
use Rattle.stick.specs.Check.{field_at, reached, reach_of, start}
use Rattle.chunks.specs.Sizes.{head_most}
use Rattle.chunks.proofs.FieldChunks.{Few}
use Rattle.chunks.proofs.ReachChunks.{far_few}
use Rattle.chunks.proofs.HeadChunks.{head_short}
use Rattle.kept.specs.Kept.{Kept, begun}
use Rattle.kept.specs.Layout.{site_most, known_by}
use Rattle.kept.specs.Posts.{WellKept}
use Rattle.taking.specs.Chunk.{closing, head_in, site_after}
use Rattle.taking.specs.Posts.{Leads}
use Rattle.taking.proofs.TookLaws.{by_begins}
use Rattle.taking.proofs.LedLaws.{leads_append, leads_upto}
use Rattle.taking.proofs.StageLaws.{Along, first_may}
use Rattle.taking.proofs.LeadLaws.{parts, going, behind_head, only_head, all_head, head_ends, stays_begun}
use Rattle.taking.proofs.TwiceLaws.{site_by_lem}

-- ---- a site part that is well formed, with the state between fields
pub record SiteWell (site : List ℕ) (st : State) : Type 0 where
  pub known : reach_of (length site) start site 0 ≡ reached 0 (length site) (known_by site)
  pub no_steps_is : (known_by site).steps ≡ 0
  pub state_is : gone_to (known_by site) st.stage (known_by site).left st.steps ≡ st
  pub closed : begun st ≡ true → (known_by site).stage ≡ 0
  pub waiting : begun st ≡ false → ((known_by site).stage ≡ st.stage) × (st.steps ≡ 0)
  pub site_short : length site ≤ site_most

-- by the state to which its fields lead
site_made : (site : List ℕ) (s st : State) → Leads start site s → s.steps ≡ 0 → gone_to s st.stage s.left st.steps ≡ st
    → (begun st ≡ true → s.stage ≡ 0) → (begun st ≡ false → (s.stage ≡ st.stage) × (st.steps ≡ 0)) → length site ≤ site_most → SiteWell site st
unfolding known_by
site_made site s st l z is c w short =
    let e : s ≡ known_by site = sym (ap (λ (r : Reached). r.state) l.leads) in
    record {
      known = l.leads ∙ ap (reached 0 (length site)) e;
      no_steps_is = subst (λ (x : State). x.steps ≡ 0) e z;
      state_is = subst (λ (x : State). gone_to x st.stage x.left st.steps ≡ st) e is;
      closed = λ b. subst (λ (x : State). x.stage ≡ 0) e (c b);
      waiting = λ b. subst (λ (x : State). (x.stage ≡ st.stage) × (st.steps ≡ 0)) e (w b);
      site_short = short;
    }

-- ---- the field that closes it, where the steps may begin
closing_ends : (st : State) → begins st ≡ true → st.steps ≡ 0 → Leads st closing (gone_to st at_end st.left 0)
unfolding reach_of field_at head_of size_of kinds size_in taken_by refused_by allowed stands_in value_of state_after roof_after be
closing_ends st b z =
    let with-steps : ℕ → ℕ → Bool → State = λ n stage c. state_of stage st.edition st.units st.left n (flags c st.led) in
    subst⁻¹ (λ (n : ℕ). Leads (with-steps n st.stage st.current) closing (with-steps 0 at_end st.current)) z
    (by_begins (λ (n : ℕ) (c : Bool). Leads (with-steps 0 n c) closing (with-steps 0 at_end c)) st b (λ c. record { leads = refl }) (λ c. record { leads = refl }) (record { leads = refl })
    (λ c. record { leads = refl }))

-- where a step may be closed and none has begun, one may begin
still_open : (st : State) → closes st ≡ true → begun st ≡ false → begins st ≡ true
still_open st c b = go (eqb st.stage 0) (eqb st.stage 4) (begins st) (eqb st.stage 8) (eqb st.stage 11) c b
  where
    go : (x y z u v : Bool) → (z || u || v) ≡ true → (x || y || u || v) ≡ false → z ≡ true
    go x y true u v c b = refl
    go true y false u v c b = absurd (passed_failed refl b)
    go false true false u v c b = absurd (passed_failed refl b)
    go false false false u v c b = absurd (passed_failed c b)

module _ (k : Kept) (well : WellKept k) where
  pub kept_site : SiteWell k.site k.state
  kept_site = record { known = well.known; no_steps_is = well.no_steps_is; state_is = well.state_is; closed = well.closed; waiting = well.waiting; site_short = well.site_short }

  -- with at most 64 units
  pub kept_few : Few k.state
  unfolding known_by
  kept_few = subst Few well.state_is (far_few k.site start 0 (omega arith) (omega arith))

  -- ---- what is kept before the steps: the site part leads to the state
  pub leads_to : begun k.state ≡ false → Leads start k.site k.state
  leads_to b =
      let K = known_by k.site in
      let w = well.waiting b in
      let stage = w.0 in
      let steps : K.steps ≡ k.state.steps = well.no_steps_is ∙ sym w.1 in
      let same : K ≡ k.state = ap₂ (λ (a n : ℕ). gone_to K a K.left n) stage steps ∙ well.state_is in
      record { leads = well.known ∙ ap (reached 0 (length k.site)) same }

  module _ (w : List ℕ) (next : State) (l : Leads k.state w next) where
    abbrev mid : State
    mid = (parts w l).mid

    -- ---- the steps had begun
    module _ (b : begun k.state ≡ true) where
      kept_on : SiteWell k.site next
      kept_on = record {
        known = well.known;
        no_steps_is = well.no_steps_is;
        state_is = ap (λ (s : State). gone_to s next.stage s.left next.steps) well.state_is ∙ sym (going w l b).same;
        closed = λ e. well.closed b;
        waiting = λ e. absurd (passed_failed (stays_begun w l b) e);
        site_short = well.site_short;
      }

    -- ---- they had not: the fields before them are kept
    module _ (b : begun k.state ≡ false) where
      abbrev grown : List ℕ
      grown = k.site ++ take (head_in w) w

      grown_leads : Leads start grown mid
      grown_leads = leads_append k.site (take (head_in w) w) (leads_to b) (leads_upto (parts w l).to (parts w l).upto)

      grown_before : begun mid ≡ false
      grown_before = (parts w l).still b

      none_yet_is : mid.steps ≡ 0
      none_yet_is = (parts w l).none ∙ (well.waiting b).1

      pub grown_short : length grown ≤ head_most
      grown_short = head_short grown (ap (λ (r : Reached). r.number) grown_leads.leads) (all_head grown grown_leads refl grown_before)

      not_begun : begun next ≡ false → SiteWell (grown ++ []) next
      not_begun e =
          let same : mid ≡ next = only_head w l (all_head w l b e) in
          let z : next.steps ≡ 0 = ap (λ (s : State). s.steps) (sym same) ∙ none_yet_is in
          let short = grown_short in
          subst⁻¹ (λ (site : List ℕ). SiteWell site next) (append-nil grown)
          (site_made grown next next (subst (Leads start grown) same grown_leads) z refl (λ f. absurd (passed_failed f e)) (λ f. (refl, z)) (omega arith))

      begins_here : begun next ≡ true → SiteWell (grown ++ closing) next
      begins_here e =
          let h : head_in w < length w = head_ends w l b e in
          let may : begins mid ≡ true = still_open mid (first_may w (parts w l).on h ((parts w l).begins h)) grown_before in
          let ended : State = gone_to mid 0 mid.left 0 in
          let a : Along mid next = behind_head w l h in
          let short = grown_short in
          let long : length (grown ++ closing) ≡ length grown + 7 = length-append grown closing in
          site_made (grown ++ closing) ended next
          (leads_append grown closing grown_leads (closing_ends mid may none_yet_is))
          refl (sym a.same) (λ f. refl) (λ f. absurd (passed_failed e f)) (omega arith)

    pub site_well : SiteWell (site_after k w next) next
    site_well = go (begun k.state) (begun next) refl refl
      where
        go : (x y : Bool) → begun k.state ≡ x → begun next ≡ y → SiteWell (site_after k w next) next
        go true y ex ey = subst⁻¹ (λ (site : List ℕ). SiteWell site next) (site_by_lem k w next true y ex ey) (kept_on ex)
        go false true ex ey = subst⁻¹ (λ (site : List ℕ). SiteWell site next) (site_by_lem k w next false true ex ey) (begins_here ex ey)
        go false false ex ey = subst⁻¹ (λ (site : List ℕ). SiteWell site next) (site_by_lem k w next false false ex ey) (not_begun ex ey)
