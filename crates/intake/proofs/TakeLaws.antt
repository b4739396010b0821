-- Whole fields taken into a state's bytes, over the site part that they lead to: what the run over them may count on, and that what it leaves is what the
-- definitions say. Assumes nothing.
use mathlib.Core.Path.{◌≡◌, refl, sym, ap, ap₂, ◌∙◌, subst}
use mathlib.Core.Bool.{Bool, true, false, cond}
use mathlib.Core.List.{List, [], ◌∷◌, ◌++◌}
use Prim.Native.Nat.{ℕ, zero, suc, ◌+◌, ◌-◌, ◌*◌, ◌≤◌, ◌<◌}
use native.Mathlib.Nat.{le_trans, le_of_eq, le_step, lt-suc_self}
use native.Mathlib.Omega.{arith}
use lib.Dec.{eqb}
use lib.IntN.{ℤ}
use lib.ListN.{length, get_or, take, drop, replicate, length-append, length-replicate, take-append-drop}
use lib.Seq.{slice, length-take-le, take_at, get_or-take}
use mir.Syntax.{w32}
use mir.Val.{to_z}
use Rattle.octets.proofs.ByteLaws.{be_same}
use Rattle.solar.specs.Posts.{Shining}
use Rattle.site.specs.declared.Due.{Due}
use Rattle.site.specs.Site.{count}
use Rattle.fields.specs.declared.State.{State}
use Rattle.stick.specs.Site.{site_of, roofs_of, plant_of, steps_from, due_from}
use Rattle.stick.specs.Check.{Accepted}
use Rattle.fleet.specs.Step.{Standing, Stands, standing}
use Rattle.stretch.specs.Stretch.{stands_first, stands_after, records_from}
use Rattle.stretch.proofs.SiteLaws.{few_units, few_roofs}
use Rattle.kept.specs.declared.Mark.{Mark}
use Rattle.kept.specs.Kept.{Kept, begun, no_standing}
use Rattle.kept.specs.Layout.{held_place, flag_place, vars_place, site_place, state_size, site_most, place_most, filled, top_of, stands_of, all_vars, mark_of, bytes_for, place_in, tail_bytes, site_part}
use Rattle.kept.specs.Layout.{tail_part, due_kept, state_in, store_at, request_at, flag_at, var_at, up_to, units_kept, roofs_kept, mark_in, stands_in, kept_in}
use Rattle.kept.proofs.NumberLaws.{take_drop}
use Rattle.taking.specs.Chunk.{head_in, stands_before, steps_by, absorbed, results_by}
use Rattle.taking.specs.Posts.{Leads}
use Rattle.taking.proofs.LeadLaws.{steps_there, steps_counted, few_steps, no_step_yet, same_due_yet}
use Rattle.kept.proofs.KeptLaws.{fits_shining}
use Rattle.taking.proofs.CountLaws.{after_accepted}
use Rattle.taking.proofs.WellLaws.{before_stands}
use Rattle.taking.proofs.PlacedLaws.{tail_within, place_most_lem}
use Rattle.taking.proofs.TwiceLaws.{site_by_lem}
use Rattle.intake.specs.Posts.{Open, Grown, first_by, stands_over, records_over, mark_after, left_by, Stood, Ahead}
use Rattle.intake.proofs.OpenLaws.{open_sized, open_well, open_tail}
use Rattle.intake.proofs.GrowLaws.{leads_kept, after, head_upto}

-- lists made by the place alone are known by what they have at each place
up_same : {A : Type 0} (n : ℕ) (f g : ℕ → A) → ((i : ℕ) → i < n → f i ≡ g i) → up_to n f ≡ up_to n g
unfolding up_to
up_same zero f g h = refl
up_same (suc n) f g h = ap₂ (λ (x : List _) (y : _). x ++ (y ∷ [])) (up_same n f g (λ i l. h i (le_step l))) (h n (lt-suc_self n))

-- the sun and the steps of a state whose run goes on are in their ranges
sun_fit : (s : List ℕ) → Open s → Shining (due_kept s).sun
unfolding kept_in
sun_fit s o = fits_shining (state_in s).stage (due_kept s).sun (open_well s o).sunny

few_kept : (s : List ℕ) → Open s → (state_in s).steps ≤ 65535
unfolding kept_in
few_kept s o = (open_well s o).few

-- and the place: the tail's bytes are in it, and it is far from the last number
pub place_there : (s : List ℕ) → Open s → tail_bytes s ≤ place_in s
unfolding kept_in
place_there s o = le_trans (le_of_eq (sym (open_tail s o))) (tail_within (kept_in s) (open_well s o))

pub place_fits_is : (s : List ℕ) → Open s → place_in s ≤ 4000000
unfolding kept_in
place_fits_is s o = let h : place_in s ≤ place_most + length (tail_part s) + 51 * (state_in s).steps = place_most_lem (kept_in s) (open_well s o) in omega (arith, h, few_kept s o, open_tail s o, (open_sized s o).tail_fits_is)

by_begun : {A : Type 0} (b : Bool) (x y z : A) → (b ≡ true → x ≡ y) → cond b x z ≡ cond b y z
by_begun true x y z f = f refl
by_begun false x y z f = refl

module _ (s : List ℕ) (o : Open s) (w : List ℕ) (next : State) (l : Leads (state_in s) w next) (g : List ℕ) (n : ℕ) (grown : Grown s g w next n) where
  abbrev site : List ℕ
  site = after s o w next l

  abbrev m : Mark
  m = mark_in s

  long : length (take site_place g) ≡ site_place
  long = ap length grown.front ∙ length-take-le site_place s (omega (arith, (open_sized s o).long))

  filled_long : length (filled site_most site) ≡ site_most
  unfolding filled
  filled_long = length-append site (replicate (site_most - length site) 0) ∙ ap (λ (k : ℕ). length site + k) (length-replicate (site_most - length site) 0) ∙ omega (arith, grown.fits, grown.sized)

  pub grown_long : length g ≡ state_size
  grown_long =
      ap length (sym (take-append-drop site_place g)) ∙ length-append (take site_place g) (drop site_place g)
      ∙ ap₂ ◌+◌ long (ap length grown.part ∙ filled_long)

  pub site_there : slice site_place (site_place + n) g ≡ site
  unfolding filled
  site_there = sym (take_drop n site_place g) ∙ ap (take n) grown.part ∙ take_at site (replicate (site_most - length site) 0) n (sym grown.sized)

  -- what stands before the site part is as it was
  same_byte : (i : ℕ) → i < site_place → get_or g i 0 ≡ get_or s i 0
  same_byte i h = sym (get_or-take site_place g i 0 h) ∙ ap (λ (x : List ℕ). get_or x i 0) grown.front ∙ get_or-take site_place s i 0 h

  same_store : (i : ℕ) → i < 64 → store_at g i ≡ store_at s i
  unfolding store_at
  same_store i h = be_same 8 g s (held_place + 12 * i) (held_place + 12 * i) (λ j k. same_byte (held_place + 12 * i + j) (omega arith))

  same_request : (i : ℕ) → i < 64 → request_at g i ≡ request_at s i
  unfolding request_at
  same_request i h = ap (to_z w32) (be_same 4 g s (held_place + 12 * i + 8) (held_place + 12 * i + 8) (λ j k. same_byte (held_place + 12 * i + 8 + j) (omega arith)))

  same_flag : (i : ℕ) → i < 64 → flag_at g i ≡ flag_at s i
  unfolding flag_at
  same_flag i h = ap (λ (k : ℕ). eqb k 1) (be_same 1 g s (flag_place + i) (flag_place + i) (λ j k. same_byte (flag_place + i + j) (omega arith)))

  same_var : (i : ℕ) → i < 128 → var_at g i ≡ var_at s i
  unfolding var_at
  same_var i h = ap (to_z w32) (be_same 4 g s (vars_place + 4 * i) (vars_place + 4 * i) (λ j k. same_byte (vars_place + 4 * i + j) (omega arith)))

  same_stands : (n k : ℕ) → n ≤ 64 → k ≤ 64 → stands_in g n k ≡ stands_in s n k
  unfolding stands_in
  same_stands n k hn hk =
      let units : standing (up_to n (store_at g)) (up_to n (request_at g)) (up_to n (var_at g)) ≡ standing (up_to n (store_at s)) (up_to n (request_at s)) (up_to n (var_at s)) =
      ap₂ (λ (a : List ℕ) (b : List ℤ). standing a b (up_to n (var_at g)))
      (up_same n (store_at g) (store_at s) (λ i j. same_store i (le_trans j hn))) (up_same n (request_at g) (request_at s) (λ i j. same_request i (le_trans j hn)))
      ∙ ap (standing (up_to n (store_at s)) (up_to n (request_at s))) (up_same n (var_at g) (var_at s) (λ i j. same_var i (omega arith))) in
      let flags : up_to k (flag_at g) ≡ up_to k (flag_at s) = up_same k (flag_at g) (flag_at s) (λ i j. same_flag i (le_trans j hk)) in
      ap₂ (λ (u : Standing) (on : List Bool). record { units = u; on = on; vars = up_to k (λ (i : ℕ). var_at g (n + i)) }) units flags
      ∙ ap (λ (vs : List ℤ). record { units = standing (up_to n (store_at s)) (up_to n (request_at s)) (up_to n (var_at s)); on = up_to k (flag_at s); vars = vs })
      (up_same k (λ (i : ℕ). var_at g (n + i)) (λ (i : ℕ). var_at s (n + i)) (λ i j. same_var (n + i) (omega arith)))

  -- ---- where the steps have begun already, the site is the same, and so are its numbers
  module _ (e : begun (state_in s) ≡ true) where
    same_site : site ≡ site_part s
    unfolding kept_in
    same_site = site_by_lem (kept_in s) w next true (begun next) e refl

    same_units : units_kept s ≡ count (site_of site)
    unfolding units_kept
    same_units = ap (λ (b : Bool). cond b (count (site_of (site_part s))) 0) e ∙ ap (λ (x : List ℕ). count (site_of x)) (sym same_site)

    same_roofs : roofs_kept s ≡ length (roofs_of site)
    unfolding roofs_kept
    same_roofs = ap (λ (b : Bool). cond b (length (roofs_of (site_part s))) 0) e ∙ ap (λ (x : List ℕ). length (roofs_of x)) (sym same_site)

  -- ---- the steps have begun then
  module _ (f : begun next ≡ true) where
    pub site_accepted : Accepted site
    site_accepted = after_accepted (kept_in s) (open_well s o) w next (leads_kept s o w next l) f

    -- what stands before the fields is what is kept, or what stands at first
    pub first_same : first_by m g site ≡ stands_before (kept_in s) site
    unfolding first_by stands_before mark_in kept_in
    first_same =
        by_begun (begun (state_in s)) (stands_in g (count (site_of site)) (length (roofs_of site))) (stands_in s (units_kept s) (roofs_kept s)) (stands_first (plant_of site))
        (λ e.
        same_stands (count (site_of site)) (length (roofs_of site)) (few_units site site_accepted) (few_roofs site site_accepted)
        ∙ ap₂ (stands_in s) (sym (same_units e)) (sym (same_roofs e)))

    -- it is held by the site
    stood : Stood (site_of site) (length (roofs_of site)) (stands_before (kept_in s) site)
    unfolding plant_of
    stood = let h = before_stands (kept_in s) (open_well s o) w next (leads_kept s o w next l) f in record { units = h.holds; flags = h.flags; vars = h.vars }

    pub records_same : records_over m g site w (head_in w) ≡ results_by (kept_in s) w next
    unfolding records_over results_by steps_by mark_in kept_in
    records_same = ap (λ (st : Stands). records_from (plant_of site) (state_in s).steps st (steps_from w (due_kept s) (head_in w))) first_same

    -- ---- what the run over the fields may count on
    pub goes_ahead : tail_bytes s ≤ place_in s → place_in s + length w ≤ 18446744073709551615 → Ahead g m n w (head_in w) next
    unfolding mark_in
    goes_ahead there fits = record {
      long = grown_long;
      fits = grown.fits;
      accepted = subst Accepted (sym site_there) site_accepted;
      stood =
          subst (λ (x : List ℕ). Stood (site_of x) (length (roofs_of x)) (first_by m g x)) (sym site_there)
          (subst (Stood (site_of site) (length (roofs_of site))) (sym first_same) stood);
      upto = head_upto s o w next l;
      there = steps_there w l;
      shines = sun_kept_lem;
      counted = steps_counted w l (due_kept s);
      few = few_steps w l few;
      place_there = there;
      place_fits_is = fits;
    }
      where
        sun_kept_lem : Shining (due_kept s).sun
        sun_kept_lem = sun_fit s o

        few : (state_in s).steps ≤ 65535
        few = few_kept s o

  -- ---- what is left of the state's bytes

  -- by the mark, what stands, and the site part
  abbrev laid_out_lem : Mark → Stands → List ℕ → List ℕ
  laid_out_lem k st part = top_of k [] ++ stands_of st.units.stored st.units.requests (all_vars st) st.on ++ part

  abbrev kept_then : Kept
  kept_then = absorbed (kept_in s) w next

  mark_same : mark_after m next n (due_from w (due_kept s) (head_in w)) (length w) ≡ mark_of kept_then
  unfolding absorbed mark_in kept_in
  mark_same =
      ap₂ (λ (t j : ℕ). record { place = place_in s - t + length w; state = next; site = j; tail = 0; due = due_from w (due_kept s) (head_in w) })
      (sym (open_tail s o)) grown.sized

  bytes_are : laid_out_lem (mark_of kept_then) kept_then.stands (filled site_most kept_then.site) ≡ bytes_for kept_then
  unfolding bytes_for absorbed
  bytes_are = refl

  site_then : kept_then.site ≡ site
  unfolding absorbed
  site_then = refl

  all_same : (k : Mark) (st : Stands) → k ≡ mark_of kept_then → st ≡ kept_then.stands → laid_out_lem k st (drop site_place g) ≡ bytes_for kept_then
  all_same k st ek es =
      ap₂ (λ (x : Mark) (y : Stands). laid_out_lem x y (drop site_place g)) ek es
      ∙ ap (laid_out_lem (mark_of kept_then) kept_then.stands) (grown.part ∙ ap (filled site_most) (sym site_then))
      ∙ bytes_are

  -- where the steps have begun then
  module _ (f : begun next ≡ true) where
    stands_then : stands_over m g (slice site_place (site_place + n) g) w (head_in w) ≡ kept_then.stands
    unfolding stands_over absorbed steps_by mark_in kept_in
    stands_then =
        ap (λ (x : List ℕ). stands_after (plant_of x) (first_by m g x) (steps_from w (due_kept s) (head_in w))) site_there
        ∙ ap (λ (st : Stands). stands_after (plant_of site) st (steps_from w (due_kept s) (head_in w))) (first_same f)
        ∙ sym (ap (λ (b : Bool). cond b (stands_after (plant_of site) (stands_before (kept_in s) site) (steps_from w (due_kept s) (head_in w))) no_standing) f)

    pub left_same : left_by m g n w (head_in w) next ≡ bytes_for kept_then
    unfolding left_by mark_in
    left_same =
        all_same (mark_after m next n (due_from w (due_kept s) (head_in w)) (length w)) (stands_over m g (slice site_place (site_place + n) g) w (head_in w)) mark_same stands_then

    pub records_there : records_over m g (slice site_place (site_place + n) g) w (head_in w) ≡ results_by (kept_in s) w next
    records_there = ap (λ (x : List ℕ). records_over m g x w (head_in w)) site_there ∙ records_same f

  -- where they have not
  module _ (f : begun next ≡ false) (e : begun (state_in s) ≡ false) where
    pub waits_same : top_of (mark_after m next n (due_kept s) (length w)) [] ++ stands_of [] [] [] [] ++ drop site_place g ≡ bytes_for kept_then
    unfolding absorbed
    waits_same =
        all_same (mark_after m next n (due_kept s) (length w)) no_standing
        (ap (λ (x : Due). mark_after m next n x (length w)) (sym (same_due_yet w l e f (due_kept s))) ∙ mark_same)
        (sym (ap (λ (b : Bool). cond b (stands_after (plant_of site) (stands_before (kept_in s) site) (steps_by (kept_in s) w)) no_standing) f))

    pub no_results : results_by (kept_in s) w next ≡ []
    unfolding results_by steps_by records_from kept_in
    no_results = ap (records_from (plant_of site) (kept_in s).state.steps (stands_before (kept_in s) site)) (no_step_yet w l e f (due_kept s))
