-- The verdict on a partner's result (rules J1 to J7): right, or the first field of ours that does not stand there. Shown are the bytes that stand in its place or, where
-- there are none, the field of the run file that asks for it.
use Rattle.std.specs.Prelude.{ℕ, ◌+◌, Bool, true, false, cond, ◌&&◌, List, [], ◌∷◌, ◌++◌, map, eqb, length, take, drop, replicate, Err, Ok, Result}
use Rattle.octets.specs.BigEndian.{be}
use Rattle.parts.specs.Header.{header, tag_at, length_at}
use Rattle.fields.specs.Fields.{is_reading}
use Rattle.site.specs.Site.{Plant, count}
use Rattle.stick.specs.Check.{check_of, refusal_by}
use Rattle.stick.specs.Site.{places_of, plant_of}
use Rattle.records.specs.Records.{record_bytes, roof_record_bytes, end_bytes}
use Rattle.season.specs.Run.{result_of}
use Rattle.partner.specs.declared.Verdict.{Verdict}
use Rattle.whole.specs.declared.Refusal.{Refusal}

-- ---- J2: a field of our result: how many bytes it has, and the place of the run file's field that asks for it
pub record Field : Type 0 where
  pub size : ℕ
  pub place : ℕ

abbrev pub asked_by : ℕ → ℕ → Field
asked_by place size = record { size = size; place = place }

-- the sizes of a step's fields: one for each unit, then one for each inverter
unfoldable pub sizes_of : Plant → List ℕ
sizes_of p = replicate (count p.site) record_bytes ++ replicate (length p.roofs) roof_record_bytes

-- a reading asks for the fields of its step, the end field for the end record, and no other field for any
unfoldable pub fields_at : Plant → List ℕ → ℕ → List Field
unfolding sizes_of be
fields_at p run at =
    cond (is_reading (tag_at run at)) (map (asked_by at) (sizes_of p))
    (cond (eqb (tag_at run at) 0x7F) (asked_by at end_bytes ∷ []) [])

unfoldable pub fields_in : Plant → List ℕ → List ℕ → List Field
unfolding fields_at
fields_in p run [] = []
fields_in p run (at ∷ ats) = fields_at p run at ++ fields_in p run ats

unfoldable pub fields_of : List ℕ → List Field
unfolding fields_in plant_of places_of
fields_of run = fields_in (plant_of run) run (places_of run)

-- ---- the verdict
abbrev pub verdict : ℕ → ℕ → ℕ → Verdict
verdict number start len = record { number = number; start = start; len = len }

-- J6: right
abbrev pub right : Verdict
right = verdict 0 0 0

-- J3, J5: so many of the partner's bytes, from a place on
abbrev pub their_bytes : ℕ → ℕ → Verdict
their_bytes start len = verdict 1 start len

-- J4: the run file's field at a place, tag and length with it
unfoldable pub our_field : List ℕ → ℕ → Verdict
unfolding be
our_field run place = verdict 2 place (header + length_at run place)

-- two lists have the same bytes
unfoldable pub same : List ℕ → List ℕ → Bool
same [] [] = true
same [] (y ∷ ys) = false
same (x ∷ xs) [] = false
same (x ∷ xs) (y ∷ ys) = eqb x y && same xs ys

-- the fields that are still to come, with what our run writes and what the partner has from their place on
unfoldable pub verdict_from : List ℕ → List Field → List ℕ → List ℕ → ℕ → Verdict
unfolding our_field same
verdict_from run [] ours theirs at = cond (eqb (length theirs) 0) right (their_bytes at (length theirs))
verdict_from run (w ∷ ws) ours theirs at =
    let there = take w.size theirs in
    let further = verdict_from run ws (drop w.size ours) (drop w.size theirs) (at + w.size) in
    cond (same (take w.size ours) there) further
    (cond (eqb (length there) 0) (our_field run w.place) (their_bytes at (length there)))

unfoldable pub verdict_of : List ℕ → List ℕ → Verdict
unfolding verdict_from fields_of result_of
verdict_of run result = verdict_from run (fields_of run) (result_of run) result 0

-- ---- of any bytes: J1: a run file that the check refuses gets its refusal and no verdict
unfoldable pub partner_answer : List ℕ → List ℕ → Result Verdict Refusal
unfolding check_of verdict_of
partner_answer run result = cond (eqb (check_of run).number 0) (Ok (verdict_of run result)) (Err (refusal_by (check_of run)))
