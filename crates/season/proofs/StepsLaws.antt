-- The steps of a file that is accepted with so many, from where a run sets out: a stretch to the file's end, whose records and the end record behind them
-- are the result. Assumes nothing.
use mathlib.Core.Path.{◌≡◌, sym, ap, ap₂, ◌∙◌, subst⁻¹}
use mathlib.Core.Bool.{Bool}
use mathlib.Core.List.{List}
use Prim.Native.Nat.{ℕ, ◌+◌, ◌*◌, ◌≤◌}
use native.Mathlib.Omega.{arith}
use lib.IntN.{ℤ}
use lib.ListN.{length}
use Rattle.octets.specs.BigEndian.{laid}
use Rattle.rows.specs.declared.Row.{Row}
use Rattle.solar.specs.Posts.{Shining}
use Rattle.site.specs.declared.Due.{Due}
use Rattle.site.specs.declared.Step.{Step}
use Rattle.stick.specs.Site.{plant_of, steps_from, steps_of}
use Rattle.stick.proofs.SiteProved.{accepted, steps_from_lem}
use Rattle.records.specs.Records.{end_of}
use Rattle.roofs.proofs.LoopLaws.{here_count}
use Rattle.fleet.specs.Step.{step_bytes}
use Rattle.fleet.specs.Posts.{site_in}
use Rattle.stretch.specs.declared.Track.{Track}
use Rattle.stretch.specs.Stretch.{stands_first, records_from, all_bytes}
use Rattle.stretch.specs.Posts.{StepsThere, plant_by, stands_by}
use Rattle.stretch.proofs.AcceptedLaws.{steps_there}
use Rattle.stretch.proofs.AppendLaws.{records_length}
use Rattle.stretch.proofs.FieldLaws.{dark_shines}
use Rattle.season.specs.Run.{result_by, result_of}
use Rattle.season.specs.Answers.{needed}
use Rattle.season.specs.Posts.{Counted, SetOut}
use Rattle.season.proofs.RunLaws.{end_laid}
use Rattle.season.proofs.AnswerLaws.{few_steps, same_steps}

module _ {file : List ℕ} {count : ℕ} (n : Counted file count) {t : Track} {rows : List Row} {stored : List ℕ} {rs vars : List ℤ} {on : List Bool} (o : SetOut file t rows stored rs vars on) where
  abbrev ahead : List Step
  ahead = steps_from file t.way.due t.at

  steps_are : ahead ≡ steps_of file
  steps_are = ap₂ (steps_from file) o.none_yet_is o.place_is ∙ steps_from_lem file n.accepted

  -- the bytes of a step's records, as the stretch has them
  abbrev size : ℕ
  size = step_bytes (site_in t.frame rows) + 29 * length on

  sized : size ≡ all_bytes (plant_of file)
  sized = ap (λ (m : ℕ). step_bytes (site_in t.frame rows) + 29 * m) (sym (here_count (length on) file t.first)) ∙ ap all_bytes o.plant_is

  -- what the stretch asks for
  pub goes : (room : ℕ) → needed file ≤ room
      → (t.at ≤ length file) × (StepsThere file t.at × (Shining t.way.due.sun × ((t.way.step + length ahead ≤ 65535) × (t.out + size * length ahead ≤ room))))
  unfolding needed
  goes room h =
      let same : size * length ahead ≡ all_bytes (plant_of file) * length (steps_of file) = ap₂ ◌*◌ sized (ap length steps_are) in (
        omega (arith, o.place_is, (accepted file n.accepted).further),
        (
          subst⁻¹ (StepsThere file) o.place_is (steps_there file n.accepted),
          (
            subst⁻¹ (λ (d : Due). Shining d.sun) o.none_yet_is dark_shines,
            (omega (arith, o.none_done, ap length steps_are, same_steps n, few_steps n), omega (arith, o.none_out)),
          ),
        ),
      )

  -- what is written along it and behind it
  pub all_written : (room mid-room then_room : List ℕ) (at : ℕ) → at ≡ all_bytes (plant_of file) * count
      → mid-room ≡ laid room t.out (records_from (plant_by t rows file (length on)) t.way.step (stands_by stored rs vars on) ahead)
      → then_room ≡ laid mid-room at (end_of count) → then_room ≡ laid room 0 (result_of file)
  unfolding result_of result_by
  all_written room mid-room then_room at ea em et =
      let same = same_steps n in
      let p = plant_of file in
      let records : List ℕ = records_from p 0 (stands_first p) (steps_of file) in
      let mid : mid-room ≡ laid room 0 records = cc steps_are in
      end_laid room records mid-room then_room at count (length (steps_of file)) (records_length p 0 (stands_first p) (steps_of file) ∙ ap (λ (k : ℕ). all_bytes p * k) same ∙ sym ea) same mid et
