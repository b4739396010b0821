-- Our result is made of its fields, one behind the other, each as long as its size and as it says itself: the records of each step, in the order in which its
-- reading asks for them, and the end record. Assumes nothing.
use mathlib.Core.Path.{◌≡◌, refl, sym, ap, ap₂, ◌∙◌, subst, subst⁻¹}
use mathlib.Core.Bool.{Bool, true, false}
use mathlib.Core.List.{List, [], ◌∷◌, ◌++◌, map, map-append, append-nil, append_assoc}
use Prim.Native.Nat.{ℕ, zero, suc, ◌+◌, ◌≤◌, ◌<◌}
use native.Mathlib.Omega.{arith}
use lib.IntN.{ℤ, pos}
use lib.ListN.{length, get_or, replicate, length-append, get_or-append}
use lib.Seq.{get_or-append-add}
use borrow.Author.Tests.{ne_eqb}
use Rattle.octets.specs.BigEndian.{be, bytes_of}
use Rattle.octets.proofs.ByteLaws.{be_same}
use Rattle.parts.specs.Header.{tag_at, past}
use Rattle.fields.specs.Fields.{is_reading}
use Rattle.solar.specs.declared.Sun.{Sun}
use Rattle.solar.specs.declared.Given.{Given}
use Rattle.solar.specs.Roof.{Roof}
use Rattle.storage.specs.declared.Outcome.{Outcome}
use Rattle.lead.specs.declared.Lead.{Lead}
use Rattle.site.specs.declared.Due.{Due}
use Rattle.site.specs.declared.Step.{Step}
use Rattle.site.specs.Site.{Site, Plant, count, none_yet, step_with}
use Rattle.stick.specs.Site.{plant_of, reading_at, due_after, steps_in, steps_from, steps_of}
use Rattle.stick.specs.Check.{Accepted}
use Rattle.stick.specs.Posts.{steps_place}
use Rattle.stick.proofs.PlaceLaws.{from, from_field, Passed, closes_step, goes_by}
use Rattle.stick.proofs.StepLaws.{Ending, ends_here, ends_later}
use Rattle.stick.proofs.SiteProved.{accepted, walk_accepted}
use Rattle.chunks.proofs.HeadFile.{head_place, steps_head}
use Rattle.records.specs.Records.{asked_part, turned_part, record_of, roof_record_of, end_of, record_bytes, roof_record_bytes, end_bytes}
use Rattle.records.proofs.LayLaws.{record_length, roof_length, end_length}
use Rattle.roofs.specs.Roofs.{lit, roof_records}
use Rattle.fleet.specs.Step.{Stands, given, records_of, records_by, asked_by as requestsBy}
use Rattle.stretch.specs.Stretch.{stands_first, lead_in, next_of, all_records, records_from}
use Rattle.season.specs.Run.{result_by, result_of}
use Rattle.partner.specs.Verdict.{Field, asked_by, sizes_of, fields_at, fields_in, fields_of}
use Rattle.partner.specs.Holds.{bytes_before}
use Rattle.partner.proofs.FieldsLaws.{reading_asks, asks_nothing, fields_field, fields_start, fields_end, steps_end}

-- ---- a field of so many bytes, as it says itself
pub record One (size : ℕ) (b : List ℕ) : Type 0 where
  pub long : length b ≡ size
  pub says : be 2 b 1 + 3 ≡ size

pub data Made : List Field → List ℕ → Type 0 where
  none : Made [] []
  more : {w : Field} {ws : List Field} {b bs : List ℕ} → One w.size b → Made ws bs → Made (w ∷ ws) (b ++ bs)

pub made_long : {ws : List Field} {bs : List ℕ} → Made ws bs → bytes_before ws ≡ length bs
unfolding bytes_before
made_long none = refl
made_long (more {w} {ws} {b} {bs} o m) = ap₂ ◌+◌ (sym o.long) (made_long m) ∙ sym (length-append b bs)

made_both : {ws vs : List Field} {bs cs : List ℕ} → Made ws bs → Made vs cs → Made (ws ++ vs) (bs ++ cs)
made_both none n = n
made_both {vs} {cs} (more {w} {ws} {b} {bs} o m) n = subst⁻¹ (Made (w ∷ ws ++ vs)) (append_assoc b bs cs) (more o (made_both m n))

made_as : {ws vs : List Field} {bs cs : List ℕ} → ws ≡ vs → bs ≡ cs → Made vs cs → Made ws bs
made_as {ws} {vs} {bs} {cs} e d m = subst⁻¹ (λ (l : List Field). Made l bs) e (subst⁻¹ (Made vs) d m)

made_one : {w : Field} {b : List ℕ} → One w.size b → Made (w ∷ []) b
made_one {w} {b} o = subst (Made (w ∷ [])) (append-nil b) (more o none)

-- ---- each field in it stands where those before it end
ahead : (b bs : List ℕ) (size k : ℕ) → length b ≡ size → be 2 (b ++ bs) (size + k + 1) ≡ be 2 bs (k + 1)
ahead b bs size k l =
    be_same 2 (b ++ bs) bs (size + k + 1) (k + 1) (λ i h.
    let e : size + k + 1 + i ≡ length b + (k + 1 + i) = omega arith in
    ap (λ (j : ℕ). get_or (b ++ bs) j 0) e ∙ get_or-append-add b bs (k + 1 + i) 0)

here : (b bs : List ℕ) → 3 ≤ length b → be 2 (b ++ bs) (0 + 1) ≡ be 2 b 1
here b bs l = be_same 2 (b ++ bs) b (0 + 1) 1 (λ i h. get_or-append b bs 0 (1 + i) (omega arith))

pub made_says : {ws : List Field} {bs : List ℕ} → Made ws bs → (before : List Field) (w : Field) (behind : List Field) → before ++ w ∷ behind ≡ ws
    → past bs (bytes_before before) ≡ bytes_before before + w.size
unfolding bytes_before
made_says none [] w behind e = let z : ◌≡◌ {A = ℕ} 0 1 = cc in absurd (omega arith)
made_says none (v ∷ before) w behind e = let z : ◌≡◌ {A = ℕ} 0 1 = cc in absurd (omega arith)
made_says (more {w = u} {b} {bs} o m) [] w behind e =
    let one : w ≡ u = cc in
    let is : w.size ≡ u.size = ap (λ (x : Field). x.size) one in
    let l = o.long in
    let s = o.says in
    let h = here b bs (omega arith) in
    omega arith
made_says (more {w = u} {b} {bs} o m) (v ∷ before) w behind e =
    let one : v ≡ u = cc in
    let is : v.size ≡ u.size = ap (λ (x : Field). x.size) one in
    let rest = made_says m before w behind (cc) in
    let h = ahead b bs v.size (bytes_before before) (o.long ∙ sym is) in
    omega arith

-- ---- the records
unit_one : (step unit : ℕ) (request : ℤ) (o : Outcome) → One record_bytes (record_of step unit request o)
unfolding record_of asked_part bytes_of be
unit_one step unit request o = record { long = record_length step unit request o; says = refl }

roof_one : (step inverter : ℕ) (g : Given) → One roof_record_bytes (roof_record_of step inverter g)
unfolding roof_record_of turned_part bytes_of be
roof_one step inverter g = record { long = roof_length step inverter g; says = refl }

end_one : (steps : ℕ) → One end_bytes (end_of steps)
unfolding end_of bytes_of be
end_one steps = record { long = end_length steps; says = refl }

-- so many of one size, each behind those before it
last_same : (at size n : ℕ) → map (asked_by at) (replicate n size) ++ (asked_by at size ∷ []) ≡ asked_by at size ∷ map (asked_by at) (replicate n size)
last_same at size zero = refl
last_same at size (suc n) = ap (λ (ws : List Field). asked_by at size ∷ ws) (last_same at size n)

module _ (at size : ℕ) (all : ℕ → List ℕ) (one : ℕ → List ℕ) (first : all 0 ≡ []) (next : (n : ℕ) → all (suc n) ≡ all n ++ one n) (each : (n : ℕ) → One size (one n)) where
  made_many : (n : ℕ) → Made (map (asked_by at) (replicate n size)) (all n)
  made_many zero = subst⁻¹ (Made []) first none
  made_many (suc n) = made_as (sym (last_same at size n)) (next n) (made_both (made_many n) (made_one (each n)))

made_units : (at : ℕ) (site : Site) (l : Lead) (step : ℕ) (stored : List ℕ) (rs vs : List ℤ) (n : ℕ) → Made (map (asked_by at) (replicate n record_bytes)) (records_of n site l step stored rs vs)
unfolding records_of
made_units at site l step stored rs vs =
    let does : ℕ → Outcome = λ n. given site l n (get_or stored n 0) (get_or rs n (pos 0)) (get_or vs n (pos 0)) in
    made_many at record_bytes (λ n. records_of n site l step stored rs vs) (λ n. record_of step n (get_or rs n (pos 0)) (does n)) refl (λ n. refl) (λ n. unit_one step n (get_or rs n (pos 0)) (does n))

made_roofs : (at : ℕ) (roofs : List Roof) (l : Lead) (step : ℕ) (s : Sun) (on : List Bool) (vs : List ℤ) (n : ℕ)
    → Made (map (asked_by at) (replicate n roof_record_bytes)) (roof_records n roofs l step s on vs)
unfolding roof_records
made_roofs at roofs l step s on vs =
    let gives : ℕ → Given = λ n. lit roofs l s n (get_or on n false) (get_or vs n (pos 0)) in
    made_many at roof_record_bytes (λ n. roof_records n roofs l step s on vs) (λ n. roof_record_of step n (gives n)) refl (λ n. refl) (λ n. roof_one step n (gives n))

-- a step's
made_step : (p : Plant) (at k : ℕ) (st : Stands) (s : Step) → Made (map (asked_by at) (sizes_of p)) (all_records p k st s)
unfolding sizes_of all_records records_by
made_step p at k st s =
    let l = lead_in p s in
    let site = p.site in
    let units = st.units in
    made_as (map-append (asked_by at) (replicate (count site) record_bytes) (replicate (length p.roofs) roof_record_bytes)) refl
    (made_both (made_units at site l k units.stored (requestsBy site units.stored units.requests s.reading) units.vars (count site))
    (made_roofs at p.roofs l k s.sun st.on st.vars (length p.roofs)))

-- ---- all from a place on: the steps' and the end record
module _ (p : Plant) (run : List ℕ) (steps : ℕ) where
  abbrev Further : ℕ → Type 0
  Further at = (k : ℕ) (st : Stands) (d : Due) → Made (fields_in p run (from run at)) (records_from p k st (steps_in run d (from run at)) ++ end_of steps)

  module _ (at : ℕ) (l : at < length run) where
    passed : Passed run (tag_at run at) at (past run at)
    passed = record { tagged = refl; followed = from_field run at l }

    -- what a field asks for comes before what those behind it do
    asked : (ws : List Field) → fields_at p run at ≡ ws → fields_in p run (from run at) ≡ ws ++ fields_in p run (from run (past run at))
    asked ws e = fields_field p run at l ∙ ap (λ (vs : List Field). vs ++ fields_in p run (from run (past run at))) e

    made_reading : is_reading (tag_at run at) ≡ true → Further (past run at) → Further at
    unfolding records_from
    made_reading r rest k st d =
        let s = step_with (reading_at run at) d in
        let behind = steps_in run none_yet (from run (past run at)) in
        made_as (asked (map (asked_by at) (sizes_of p)) (reading_asks p run at r))
        (ap (λ (ss : List Step). records_from p k st ss ++ end_of steps) (closes_step run passed d r)
        ∙ append_assoc (all_records p k st s) (records_from p (suc k) (next_of p st s) behind) (end_of steps))
        (made_both (made_step p at k st s) (rest (suc k) (next_of p st s) none_yet))

    made_other : is_reading (tag_at run at) ≡ false → (tag_at run at ≡ 127 → ⊥) → Further (past run at) → Further at
    made_other r t rest k st d =
        made_as (asked [] (asks_nothing p run at r (ne_eqb (tag_at run at) 127 t)))
        (ap (λ (ss : List Step). records_from p k st ss ++ end_of steps) (goes_by run passed d r)) (rest k st (due_after run d at))

  made_end : (at : ℕ) → Ending run at → tag_at run at ≡ 127 → Further at
  unfolding records_from steps_from
  made_end at e t k st d =
      made_as (fields_end run at e t p) (ap (λ (ss : List Step). records_from p k st ss ++ end_of steps) (steps_end run at e t d)) (made_one (end_one steps))

  made_from : {at : ℕ} → Ending run at → Further at
  made_from {at} (ends_here l t e) = made_end at (ends_here l t e) t
  made_from {at} (ends_later l t e) = go (is_reading (tag_at run at)) refl (made_from e)
    where
      go : (b : Bool) → is_reading (tag_at run at) ≡ b → Further (past run at) → Further at
      go true r rest = made_reading at l r rest
      go false r rest = made_other at l r t rest

pub made : (run : List ℕ) → Accepted run → Made (fields_of run) (result_of run)
unfolding result_of result_by steps_of steps_from
made run z =
    let p = plant_of run in
    let ss : steps_of run ≡ steps_from run none_yet (steps_place run) = steps_head run none_yet (length run) 0 ∙ ap (steps_from run none_yet) (head_place run (walk_accepted run z)) in
    made_as (fields_start run z) (ap (λ (l : List Step). records_from p 0 (stands_first p) l ++ end_of (length (steps_of run))) ss)
    (made_from p run (length (steps_of run)) (accepted run z).ending 0 (stands_first p) none_yet)
