-- The loop over the fields of a run file: all that the partner has before a place is right, so that the verdict on the whole is the one on what is left. A field
-- whose bytes the partner has leaves it so behind them; one whose bytes it has not ends it, and so does the end field. Assumes nothing.
use mathlib.Core.Path.{◌≡◌, refl, sym, ap, ap₂, ◌∙◌, subst⁻¹}
use mathlib.Core.Bool.{Bool, true, false}
use mathlib.Core.List.{List, [], ◌∷◌, ◌++◌, append_assoc, map}
use Prim.Native.Nat.{ℕ, ◌+◌, ◌-◌, ◌*◌, ◌≤◌, ◌<◌}
use native.Mathlib.Nat.{add-zero, mul-zero, mul-one, mul-add, mul-le-mul_left}
use native.Mathlib.Omega.{arith}
use lib.IntN.{ℤ}
use lib.ListN.{length, take, drop, length-append, length-drop}
use lib.Seq.{take_at, drop-drop}
use borrow.Author.Tests.{ne_eqb}
use Rattle.octets.specs.BigEndian.{laid}
use Rattle.octets.proofs.LaidLaws.{laid_length}
use Rattle.rows.specs.declared.Row.{Row}
use Rattle.parts.specs.Header.{tag_at, past}
use Rattle.solar.specs.Posts.{Shining}
use Rattle.site.specs.declared.Due.{Due}
use Rattle.site.specs.declared.Step.{Step}
use Rattle.site.specs.Site.{Plant, count}
use Rattle.fields.specs.Fields.{is_reading}
use Rattle.stick.specs.Site.{plant_of, due_after, steps_from, steps_of}
use Rattle.stick.specs.Check.{Accepted}
use Rattle.stick.proofs.PlaceLaws.{from}
use Rattle.stick.proofs.StepLaws.{Ending}
use Rattle.stick.proofs.SiteProved.{accepted, steps_from_lem}
use Rattle.records.specs.Records.{end_of, end_bytes}
use Rattle.fleet.specs.Step.{Stands}
use Rattle.stretch.specs.declared.Way.{Way}
use Rattle.stretch.specs.declared.Track.{Track}
use Rattle.stretch.specs.Stretch.{stands_after, records_from, all_bytes}
use Rattle.stretch.specs.Posts.{StepField, StepsThere, closed_by, plant_by, stands_by, Holding}
use Rattle.stretch.proofs.AppendLaws.{ons_length, records_append, records_length}
use Rattle.stretch.proofs.FieldLaws.{steps_field, there_field, closed_most, reading_closes, closes_none, dark_shines, after_shines}
use Rattle.stretch.proofs.AcceptedLaws.{steps_there}
use Rattle.season.specs.Run.{result_by, result_of}
use Rattle.season.specs.Posts.{SetOut}
use Rattle.partner.specs.declared.Verdict.{Verdict}
use Rattle.partner.specs.Verdict.{Field, asked_by, sizes_of, fields_at, fields_in, fields_of, verdict_from, verdict_of}
use Rattle.partner.specs.Posts.{alike_of, field_start, field_size, wrong_at}
use Rattle.partner.proofs.AlikeLaws.{alike_few}
use Rattle.partner.proofs.FieldsLaws.{reading_asks, asks_nothing, fields_field, fields_start, ends_within, ends_on, fields_end, steps_end}
use Rattle.partner.proofs.JudgeLaws.{sum_of, step_sum, start_most, step_right, step_wrong}

-- what the code has at the loop's head, with so many bytes to a step
pub record Going (p : Plant) (run result : List ℕ) (size flags : ℕ) (stored : List ℕ) (rs vars : List ℤ) (on : List Bool) (room : List ℕ) (w : Way) (at : ℕ) : Type 0 where
  pub ending : Ending run at
  pub there : StepsThere run at
  pub shines : Shining w.due.sun
  pub held : Holding p.site stored rs vars on
  pub on_long : length on ≡ flags
  pub room_long : length room ≡ size
  pub near : size * w.step ≤ length result
  pub counted : length (steps_of run) ≡ w.step + length (steps_from run w.due at)
  pub judged : verdict_of run result
      ≡ verdict_from run (fields_in p run (from run at)) (records_from p w.step (stands_by stored rs vars on) (steps_from run w.due at) ++ end_of (length (steps_of run))) (drop (size * w.step) result)
      (size * w.step)

-- and may count on where a field follows: it is there, and there is room for what it closes
pub record Turn (run : List ℕ) (size : ℕ) (room : List ℕ) (w : Way) (at : ℕ) : Type 0 where
  pub field : StepField run at
  pub few_so_far : w.step ≤ 65535
  pub few : w.step + length (closed_by run w.due at) ≤ 65535
  pub fits : 0 + size * length (closed_by run w.due at) ≤ length room

-- and behind it, with a longer way and another room
pub record Brought (size : ℕ) (w then-w : Way) (then_room : List ℕ) : Type 0 where
  pub no_fewer : w.step ≤ then-w.step
  pub few : then-w.step ≤ 65535
  pub long : length then_room ≡ size
  pub fits : size * (then-w.step - w.step) ≤ length then_room

-- where not all of it is there, but d bytes: the field in which byte d lies begins within the result, and is the wrong one
pub record Stopped (run result : List ℕ) (at out units d : ℕ) : Type 0 where
  pub starts : out + field_start units d ≤ length result
  pub judged : wrong_at run at (length result) (out + field_start units d) (field_size units d) ≡ verdict_of run result

pub shows : {run result : List ℕ} {at out units d : ℕ} → Stopped run result at out units d → (v : Verdict) (start size : ℕ) → start ≡ field_start units d → size ≡ field_size units d
    → v ≡ wrong_at run at (length result) (out + start) size → v ≡ verdict_of run result
shows {run} {result} {at} {out} s v start size es ez ev = ev ∙ ap₂ (λ (n m : ℕ). wrong_at run at (length result) (out + n) m) es ez ∙ s.judged

-- the same fields, bytes and place
same_verdict : (run : List ℕ) {fs gs : List Field} {a b c d : List ℕ} {m n : ℕ} → fs ≡ gs → a ≡ b → c ≡ d → m ≡ n → verdict_from run fs a c m ≡ verdict_from run gs b d n
same_verdict run ef ea ec em = cc

same_records : {p q : Plant} {k j : ℕ} {x y : Stands} {ss ts : List Step} → p ≡ q → k ≡ j → x ≡ y → ss ≡ ts → records_from p k x ss ≡ records_from q j y ts
same_records ep ek ex es = cc

-- ---- before the first field of a step
module _ (run result : List ℕ) (z : Accepted run) (t : Track) (rows : List Row) (stored : List ℕ) (rs vars : List ℤ) (on : List Bool) (s : SetOut run t rows stored rs vars on) where
  abbrev here : Plant
  here = plant_by t rows run (length on)

  first_steps : steps_from run t.way.due t.at ≡ steps_of run
  first_steps = ap₂ (steps_from run) s.none_yet_is s.place_is ∙ steps_from_lem run z

  first_fields : fields_of run ≡ fields_in here run (from run t.at)
  first_fields = fields_start run z ∙ ap₂ (λ (q : Plant) (at : ℕ). fields_in q run (from run at)) (sym s.plant_is) (sym s.place_is)

  first_bytes : result_of run ≡ records_from here t.way.step (stands_by stored rs vars on) (steps_from run t.way.due t.at) ++ end_of (length (steps_of run))
  unfolding result_of result_by
  first_bytes = ap (λ (bs : List ℕ). bs ++ end_of (length (steps_of run))) (sym (same_records s.plant_is s.none_done s.stands first_steps))

  pub sets_out : (room : List ℕ) (size : ℕ) → length room ≡ all_bytes (plant_of run) → all_bytes here ≡ size → Going here run result size (length on) stored rs vars on room t.way t.at
  unfolding verdict_of
  sets_out room size er es =
      let none : size * t.way.step ≡ 0 = ap (λ (n : ℕ). size * n) s.none_done ∙ mul-zero size in
      record {
        ending = subst⁻¹ (Ending run) s.place_is (accepted run z).ending;
        there = subst⁻¹ (StepsThere run) s.place_is (steps_there run z);
        shines = subst⁻¹ (λ (d : Due). Shining d.sun) s.none_yet_is dark_shines;
        held = s.held;
        on_long = refl;
        room_long = er ∙ ap all_bytes (sym s.plant_is) ∙ es;
        near = omega arith;
        counted = let l = ap length first_steps in let n = s.none_done in omega arith;
        judged = same_verdict run first_fields first_bytes (sym (ap (λ (n : ℕ). drop n result) none)) (sym none);
      }

-- ---- at a place
module _ (p : Plant) (run result : List ℕ) (size flags : ℕ) (sized : all_bytes p ≡ size) (few : length (steps_of run) ≤ 65535) (stored : List ℕ) (rs vars : List ℤ) (on : List Bool)
    (room : List ℕ) (w : Way) (at : ℕ) (g : Going p run result size flags stored rs vars on room w at) where
  abbrev out : ℕ
  out = size * w.step

  abbrev total : ℕ
  total = length (steps_of run)

  abbrev st : Stands
  st = stands_by stored rs vars on

  abbrev closed : List Step
  closed = closed_by run w.due at

  -- the records that the field brings
  abbrev brings : List ℕ
  brings = records_from p w.step st closed

  few_so_far : w.step ≤ 65535
  few_so_far = let c = g.counted in omega arith

  field : StepField run at
  field = (there_field run at (ends_within g.ending) g.there).0

  abbrev more : List Step
  more = steps_from run (due_after run w.due at) (past run at)

  counted_on : total ≡ w.step + (length closed + length more)
  counted_on = g.counted ∙ ap (λ (n : ℕ). w.step + n) (ap length (steps_field run at (ends_within g.ending) w.due) ∙ length-append closed more)

  few_closed : w.step + length closed ≤ 65535
  few_closed = let c = counted_on in omega arith

  room_closed : 0 + size * length closed ≤ length room
  room_closed =
      let l : size * length closed ≤ size * 1 = mul-le-mul_left size (closed_most run w.due at) in
      let e = mul-one size in
      let r = g.room_long in
      omega arith

  pub turn : Turn run size room w at
  turn = record { field = field; few_so_far = few_so_far; few = few_closed; fits = room_closed }

  brings_long : length brings ≡ size * length closed
  brings_long = records_length p w.step st closed ∙ ap (λ (n : ℕ). n * length closed) sized

  -- ---- at the end field
  pub arrives : tag_at run at ≡ 127 → (v : Verdict) → v ≡ verdict_from run (asked_by at end_bytes ∷ []) (end_of w.step) (drop out result) out → v ≡ verdict_of run result
  unfolding records_from
  arrives is v ev =
      let none : steps_from run w.due at ≡ [] = steps_end run at g.ending is w.due in
      let all : total ≡ w.step = g.counted ∙ ap (λ (ss : List Step). w.step + length ss) none ∙ add-zero w.step in
      ev ∙ sym (g.judged ∙ same_verdict run (fields_end run at g.ending is p) (ap₂ (λ (ss : List Step) (n : ℕ). records_from p w.step st ss ++ end_of n) none all) refl refl)

  -- ---- another field
  module _ (on_way : tag_at run at ≡ 127 → ⊥) where
    abbrev fs : List Field
    fs = fields_in p run (from run (past run at))

    abbrev behind : List ℕ
    behind = records_from p (w.step + length closed) (stands_after p st closed) more ++ end_of total

    -- what it asks for and brings comes first
    parted : verdict_of run result ≡ verdict_from run (fields_at p run at ++ fs) (brings ++ behind) (drop out result) out
    parted =
        let h = ends_within g.ending in
        let next : List ℕ = records_from p (w.step + length closed) (stands_after p st closed) more in
        g.judged
        ∙ same_verdict run (fields_field p run at h)
        (ap (λ (ss : List Step). records_from p w.step st ss ++ end_of total) (steps_field run at h w.due)
        ∙ ap (λ (bs : List ℕ). bs ++ end_of total) (records_append p w.step st closed more)
        ∙ append_assoc brings next (end_of total)) refl refl

    -- the fields that it asks for are as long as what it brings
    record Asked : Type 0 where
      sizes : List ℕ
      asks : fields_at p run at ≡ map (asked_by at) sizes
      long : sum_of sizes ≡ length brings

    reading_long : is_reading (tag_at run at) ≡ true → length brings ≡ size
    reading_long r = brings_long ∙ ap (λ (ss : List Step). size * length ss) (reading_closes run w.due at r) ∙ mul-one size

    other_none : is_reading (tag_at run at) ≡ false → size * length closed ≡ 0
    other_none r = ap (λ (ss : List Step). size * length ss) (closes_none run w.due at (tag_at run at) refl r) ∙ mul-zero size

    asked : Asked
    unfolding sizes_of sum_of
    asked = go (is_reading (tag_at run at)) refl
      where
        go : (b : Bool) → is_reading (tag_at run at) ≡ b → Asked
        go true r = record { sizes = sizes_of p; asks = reading_asks p run at r; long = step_sum (count p.site) (length p.roofs) ∙ sized ∙ sym (reading_long r) }
        go false r = record { sizes = []; asks = asks_nothing p run at r (ne_eqb (tag_at run at) 127 on_way); long = sym (brings_long ∙ other_none r) }

    -- ---- what the code has behind it: the next way, and in the room what the field brings
    module _ (then-w : Way) (then_room : List ℕ) (ek : then-w.step ≡ w.step + length closed) (er : then_room ≡ laid room 0 brings) where
      abbrev brought : ℕ
      brought = size * (then-w.step - w.step)

      brought_is : brought ≡ length brings
      brought_is = let d : then-w.step - w.step ≡ length closed = omega arith in ap (λ (n : ℕ). size * n) d ∙ sym brings_long

      front : take brought then_room ≡ brings
      unfolding laid
      front = ap (take brought) er ∙ take_at brings (drop (0 + length brings) room) brought (sym brought_is)

      then_long : length then_room ≡ size
      then_long = let l = brings_long in let r = room_closed in ap length er ∙ laid_length room 0 brings (omega arith) ∙ g.room_long

      pub taken : Brought size w then-w then_room
      taken =
          let f = few_closed in
          let b = brought_is in
          let l = brings_long in
          let r = room_closed in
          let t = then_long in
          let q = g.room_long in
          record { no_fewer = omega arith; few = omega arith; long = t; fits = omega arith }

      -- so many of these stand in the partner's result
      module _ (d : ℕ) (ed : d ≡ alike_of (take brought then_room) (drop out result)) where
        found : alike_of brings (drop out result) ≡ d
        found = sym (ed ∙ ap (λ (bs : List ℕ). alike_of bs (drop out result)) front)

        within : d ≤ length result - out
        within = let m = alike_few brings (drop out result) in let l = length-drop out result in let f = found in omega arith

        -- not all
        module _ (short : d < brought) (units : ℕ) (eu : units ≡ count p.site) where
          wrong_there : wrong_at run at (length result) (out + field_start units d) (field_size units d) ≡ verdict_of run result
          unfolding sizes_of
          wrong_there = go (is_reading (tag_at run at)) refl
            where
              go : (b : Bool) → is_reading (tag_at run at) ≡ b → wrong_at run at (length result) (out + field_start units d) (field_size units d) ≡ verdict_of run result
              go true r =
                  let f = found in
                  let b = brought_is in
                  sym (parted
                  ∙ ap (λ (ws : List Field). verdict_from run (ws ++ fs) (brings ++ behind) (drop out result) out) (reading_asks p run at r)
                  ∙ step_wrong run at fs brings behind out (count p.site) (length p.roofs) result (sized ∙ sym (reading_long r)) (omega arith)
                  ∙ ap₂ (λ (n k : ℕ). wrong_at run at (length result) (out + field_start n k) (field_size n k)) (sym eu) f)
              go false r = let n = other_none r in let b = brought_is in let l = brings_long in absurd (omega arith)

          pub stops : Stopped run result at out units d
          stops = let l = within in let m = start_most units d in let n = g.near in record { starts = omega arith; judged = wrong_there }

        -- all
        module _ (whole : brought ≤ d) where
          pub goes_on : (then-stored : List ℕ) (then-rs then-vars : List ℤ) (then-on : List Bool) (then_at : ℕ) → then-w.due ≡ due_after run w.due at
              → Holding p.site then-stored then-rs then-vars then-on → stands_by then-stored then-rs then-vars then-on ≡ stands_after p st closed → then_at ≡ past run at
              → Going p run result size flags then-stored then-rs then-vars then-on then_room then-w then_at
          goes_on then-stored then-rs then-vars then-on then_at es hd et ea =
              let f = found in
              let b = brought_is in
              let upto = within in
              let nearby = g.near in
              let steps_next : steps_from run then-w.due then_at ≡ more = ap₂ (steps_from run) es ea in
              let out-next : size * then-w.step ≡ out + length brings =
              ap (λ (n : ℕ). size * n) ek ∙ mul-add size w.step (length closed) ∙ ap (λ (n : ℕ). out + n) (sym brings_long) in
              record {
                ending = subst⁻¹ (Ending run) ea (ends_on g.ending on_way);
                there = subst⁻¹ (StepsThere run) ea (there_field run at (ends_within g.ending) g.there).1;
                shines = subst⁻¹ (λ (d : Due). Shining d.sun) es (after_shines run w.due at g.shines);
                held = hd;
                on_long = ap (λ (x : Stands). length x.on) et ∙ ons_length p st closed ∙ g.on_long;
                room_long = then_long;
                near = omega arith;
                counted = let c = counted_on in let l = ap length steps_next in omega arith;
                judged =
                    parted
                    ∙ ap (λ (ws : List Field). verdict_from run (ws ++ fs) (brings ++ behind) (drop out result) out) asked.asks
                    ∙ step_right run at fs brings behind out asked.sizes (drop out result) asked.long (omega arith)
                    ∙ same_verdict run (ap (λ (n : ℕ). fields_in p run (from run n)) (sym ea)) (ap (λ (bs : List ℕ). bs ++ end_of total) (same_records refl (sym ek) (sym et) (sym steps_next)))
                    (drop-drop (length brings) out result ∙ ap (λ (n : ℕ). drop n result) (sym out-next)) (sym out-next);
              }
