-- The loop over the inverters: each flag and the vars last requested are replaced by what its step leaves, and its record laid behind the one before.
-- Assumes nothing.
use mathlib.Core.Path.{◌≡◌, refl, sym, ap, ap₂, ◌∙◌, subst⁻¹}
use mathlib.Core.Bool.{Bool, true, false}
use mathlib.Core.List.{List}
use Prim.Native.Nat.{ℕ, zero, suc, ◌+◌, ◌*◌, ◌≤◌, ◌<◌}
use native.Mathlib.Numerals.{add-one}
use native.Mathlib.Omega.{arith}
use lib.IntN.{ℤ, pos}
use lib.ListN.{length, get_or, set}
use Rattle.whole.proofs.OverLaws.{part, part_none, part_all, part_next, part_more}
use Rattle.octets.specs.BigEndian.{laid}
use Rattle.lead.specs.declared.Lead.{Lead}
use Rattle.lead.specs.Lead.{Modest}
use Rattle.solar.specs.declared.Sun.{Sun}
use Rattle.solar.specs.declared.Given.{Given}
use Rattle.solar.specs.Roof.{Roof, roof_in}
use Rattle.guided.specs.declared.Shone.{Shone}
use Rattle.guided.specs.Units.{Guiding}
use Rattle.guided.specs.Roofs.{lit_step, vars_kept}
use Rattle.guided.proofs.SharedLaws.{back, small_same}
use Rattle.site.specs.Site.{roof_of}
use Rattle.records.specs.Records.{roof_record_of}
use Rattle.records.proofs.LayLaws.{nothing, behind, both, roof_length}
use Rattle.stick.specs.Posts.{roof_bytes}
use Rattle.roofs.specs.Roofs.{lit, kept_vars, on_after, vars_after, roof_records}
use Rattle.roofs.specs.Posts.{roof_here, roofs_here, RoofsThere, VarsHeld}
use Rattle.roofs.proofs.VarsLaws.{kept_small, after_held}

-- ---- roofs one behind the other, in their ranges
pub here_count : (n : ℕ) (bytes : List ℕ) (first : ℕ) → length (roofs_here bytes first n) ≡ n
unfolding roofs_here
here_count zero bytes first = refl
here_count (suc n) bytes first = ap suc (here_count n bytes (first + roof_bytes))

pub here_at : (n : ℕ) (bytes : List ℕ) (first i : ℕ) → i < n → roof_of (roofs_here bytes first n) i ≡ roof_here bytes (first + roof_bytes * i)
unfolding roofs_here
here_at zero bytes first i l = absurd (omega arith)
here_at (suc n) bytes first zero l = let e : first ≡ first + roof_bytes * 0 = omega arith in ap (roof_here bytes) e
here_at (suc n) bytes first (suc i) l =
    let e : first + roof_bytes + roof_bytes * i ≡ first + roof_bytes * suc i = omega arith in
    here_at n bytes (first + roof_bytes) i (omega arith) ∙ ap (roof_here bytes) e

pub there_in : (bytes : List ℕ) (first n : ℕ) → RoofsThere bytes first n → (i : ℕ) → i < n → roof_in (roof_of (roofs_here bytes first n) i) ≡ true
unfolding roof_here
there_in bytes first n t i l = ap roof_in (here_at n bytes first i l) ∙ (t.there i l).roof_in_is

-- ---- the records
pub records_length : (n : ℕ) (roofs : List Roof) (l : Lead) (step : ℕ) (s : Sun) (on : List Bool) (vs : List ℤ)
    → length (roof_records n roofs l step s on vs) ≡ 29 * n
unfolding roof_records
records_length zero roofs l step s on vs = refl
records_length (suc n) roofs l step s on vs =
    let g = lit roofs l s n (get_or on n false) (get_or vs n (pos 0)) in
    let e : 29 * n + 29 ≡ 29 * suc n = omega arith in
    both (roof_records n roofs l step s on vs) (roof_record_of step n g) (29 * n) 29 (records_length n roofs l step s on vs) (roof_length step n g) ∙ e

-- ---- what a step begins with, and may count on
pub record Begun : Type 0 where
  pub bytes : List ℕ
  pub first : ℕ
  pub step : ℕ
  pub sun : Sun
  pub lead : Lead
  pub on : List Bool
  pub vars : List ℤ
  pub room : List ℕ
  pub at : ℕ

pub record Ready (b : Begun) : Type 0 where
  pub there : RoofsThere b.bytes b.first (length b.on)
  pub held : VarsHeld (length b.on) b.vars
  pub modest : Modest b.lead
  pub fits : b.at + 29 * length b.on ≤ length b.room

abbrev roofs : Begun → List Roof
roofs b = roofs_here b.bytes b.first (length b.on)

abbrev roof : Begun → ℕ → Roof
roof b i = roof_here b.bytes (b.first + roof_bytes * i)

abbrev turned : Begun → ℕ → Bool → Bool
turned b i was = (lit (roofs b) b.lead b.sun i was (get_or b.vars i (pos 0))).on

abbrev kept : Begun → ℕ → ℤ → ℤ
kept b i v = kept_vars (roofs b) b.lead b.sun i (get_or b.on i false) v

abbrev records : Begun → ℕ → List ℕ
records b i = roof_records i (roofs b) b.lead b.step b.sun b.on b.vars

-- ---- what the loop has reached
pub record Lighting (b : Begun) (i : ℕ) (Now-on : List Bool) (now-vars : List ℤ) (now-room : List ℕ) : Type 0 where
  pub ready : Ready b
  pub upto : i ≤ length b.on
  pub on_is : Now-on ≡ part (turned b) b.on i
  pub vars_is : now-vars ≡ part (kept b) b.vars i
  pub room_is : now-room ≡ laid b.room b.at (records b i)

pub none_lit : {b : Begun} → Ready b → Lighting b 0 b.on b.vars b.room
unfolding roof_records
none_lit {b} r = record {
  ready = r;
  upto = omega arith;
  on_is = sym (part_none (turned b) b.on);
  vars_is = sym (part_none (kept b) b.vars);
  room_is = nothing b.room b.at;
}

module _ {b : Begun} {i : ℕ} {Now-on : List Bool} {now-vars : List ℤ} {now-room : List ℕ} (g : Lighting b i Now-on now-vars now-room) where
  in_range : (k : ℕ) → k < length b.on → roof_in (roof_of (roofs b) k) ≡ true
  in_range = there_in b.bytes b.first (length b.on) g.ready.there

  module _ (h : i < length b.on) where
    abbrev was : Bool
    was = get_or b.on i false

    abbrev last : ℤ
    last = get_or b.vars i (pos 0)

    there_too : i < length b.vars
    there_too = let n = g.ready.held.count in omega arith

    was_is : get_or Now-on i false ≡ was
    was_is = ap (λ (t : List Bool). get_or t i false) g.on_is ∙ part_next (turned b) b.on i false h

    last_is : back (get_or now-vars i (pos 0)) ≡ last
    last_is =
        ap (λ (t : List ℤ). back (get_or t i (pos 0))) g.vars_is
        ∙ ap back (part_next (kept b) b.vars i (pos 0) there_too)
        ∙ small_same last (g.ready.held.small i h)

    guided : Guiding b.lead last
    guided = record { modest = g.ready.modest; last_small = g.ready.held.small i h }

    pub guiding : Guiding b.lead (back (get_or now-vars i (pos 0)))
    guiding = subst⁻¹ (Guiding b.lead) last_is guided

    roof_is : roof b i ≡ roof_of (roofs b) i
    roof_is = sym (here_at (length b.on) b.bytes b.first i h)

    -- one more, from what the code has
    pub one_more : (x : Shone) (then_room : List ℕ) → x.given ≡ lit_step b.lead (roof b i) (back (get_or now-vars i (pos 0))) (get_or Now-on i false) b.sun
        → x.vars ≡ vars_kept b.lead (roof b i) (back (get_or now-vars i (pos 0))) (get_or Now-on i false) b.sun
        → then_room ≡ laid now-room (b.at + 29 * i) (roof_record_of b.step i x.given)
        → Lighting b (i + 1) (set Now-on i x.given.on) (set now-vars i (back x.vars)) then_room
    unfolding roof_records lit kept_vars
    one_more x then_room eg ev er =
        let l = b.lead in
        let s = b.sun in
        let is : x.given ≡ lit (roofs b) l s i was last =
        eg ∙ ap₂ (λ (v : ℤ) (o : Bool). lit_step l (roof b i) v o s) last_is was_is ∙ ap (λ (r : Roof). lit_step l r last was s) roof_is in
        let keeps : x.vars ≡ kept b i last =
        ev ∙ ap₂ (λ (v : ℤ) (o : Bool). vars_kept l (roof b i) v o s) last_is was_is ∙ ap (λ (r : Roof). vars_kept l r last was s) roof_is in
        let holds : back x.vars ≡ kept b i last =
        ap back keeps ∙ small_same (kept b i last) (kept_small (roofs b) (length b.on) in_range l g.ready.modest s b.on b.vars g.ready.held i h) in
        let more = roof_record_of b.step i (lit (roofs b) l s i was last) in
        let laid_there : then_room ≡ laid now-room (b.at + 29 * i) more = er ∙ ap (λ (y : Given). laid now-room (b.at + 29 * i) (roof_record_of b.step i y)) is in
        record {
          ready = g.ready;
          upto = omega arith;
          on_is =
              ap (λ (t : List Bool). set t i x.given.on) g.on_is
              ∙ part_more (turned b) b.on i false x.given.on h (ap (λ (y : Given). y.on) is);
          vars_is = ap (λ (t : List ℤ). set t i (back x.vars)) g.vars_is ∙ part_more (kept b) b.vars i (pos 0) (back x.vars) there_too holds;
          room_is =
              behind b.room b.at (let f = g.ready.fits in omega arith) (records b i) more (29 * i)
              (records_length i (roofs b) l b.step s b.on b.vars) now-room then_room g.room_is laid_there
              ∙ ap (λ (n : ℕ). laid b.room b.at (records b n)) (sym (add-one i));
        }

  -- all of them
  module _ (e : i ≡ length b.on) where
    pub all_turned : Now-on ≡ on_after (roofs b) b.lead b.sun b.on b.vars
    unfolding on_after
    all_turned = g.on_is ∙ ap (part (turned b) b.on) e ∙ part_all (turned b) b.on

    pub all_kept : now-vars ≡ vars_after (roofs b) b.lead b.sun b.on b.vars
    unfolding vars_after
    all_kept = g.vars_is ∙ ap (part (kept b) b.vars) (e ∙ sym g.ready.held.count) ∙ part_all (kept b) b.vars

    pub all_held : VarsHeld (length b.on) now-vars
    all_held =
        subst⁻¹ (VarsHeld (length b.on)) all_kept
        (after_held (roofs b) (length b.on) in_range b.lead g.ready.modest b.sun b.on b.vars g.ready.held)

    pub all_laid : now-room ≡ laid b.room b.at (records b (length (roofs b)))
    all_laid = g.room_is ∙ ap (λ (n : ℕ). laid b.room b.at (records b n)) (e ∙ sym (here_count (length b.on) b.bytes b.first))
