-- What holds of every run: the result's length and the measures by their own laws; the requests are 0 at first, and each step leaves them or passes over
-- them, which makes none of both signs. Assumes nothing.
use mathlib.Core.Path.{◌≡◌, refl, ap}
use mathlib.Core.Bool.{Bool, ◌&&◌}
use mathlib.Core.List.{List, [], ◌∷◌}
use Prim.Native.Nat.{ℕ, zero, suc}
use lib.IntN.{ℤ, pos}
use lib.ListN.{length, get_or, take, replicate}
use lib.Signed.{lt_z}
use Rattle.whole.proofs.OverLaws.{none_of}
use Rattle.reading.specs.declared.Reading.{Reading}
use Rattle.members.specs.Ranges.{fleet_for, some_above, some_below}
use Rattle.controller.specs.OneSign.{OneSign}
use Rattle.controller.proofs.OneSign.{one_sign_lem}
use Rattle.site.specs.declared.Step.{Step}
use Rattle.site.specs.Site.{Site, Plant}
use Rattle.stick.specs.Site.{plant_of, steps_of}
use Rattle.stick.specs.Check.{Accepted}
use Rattle.fleet.specs.Step.{Stands, at_first, asked_by, after}
use Rattle.fleet.proofs.StepLaws.{asked_keeps}
use Rattle.stretch.specs.Stretch.{stands_first, next_of, stands_after}
use Rattle.season.specs.Holds.{RunTheorem}
use Rattle.season.proofs.AnswerLaws.{result_length_lem}
use Rattle.season.proofs.UsedLaws.{none_refused_lem, no_current_refused_lem}

zeros : (n i : ℕ) → get_or (replicate n (pos 0)) i (pos 0) ≡ pos 0
zeros zero i = refl
zeros (suc n) zero = refl
zeros (suc n) (suc i) = zeros n i

first_one : (p : Plant) → OneSign (stands_first p).units.requests
unfolding stands_first at_first some_above
first_one p =
    let n = length p.site.units in
    let rs = replicate n (pos 0) in
    ap (λ (b : Bool). b && some_below rs)
    (none_of (length rs) (λ (i : ℕ). lt_z (pos 0) (get_or rs i (pos 0))) (λ i l. ap (lt_z (pos 0)) (zeros n i)))

asked_one : (site : Site) (stored : List ℕ) (rs : List ℤ) (r : Reading) → OneSign rs → OneSign (asked_by site stored rs r)
asked_one site stored rs r h = asked_keeps OneSign site stored rs h (λ m. one_sign_lem site.head.settings m (fleet_for site.units stored) rs h) r

stands_one : (p : Plant) (st : Stands) (ss : List Step) → OneSign st.units.requests → OneSign (stands_after p st ss).units.requests
unfolding stands_after next_of after
stands_one p st [] h = h
stands_one p st (s ∷ ss) h = stands_one p (next_of p st s) ss (asked_one p.site st.units.stored st.units.requests s.reading h)

pub run_law : RunTheorem
run_law file a = record {
  result_length = result_length_lem file;
  none_refused = none_refused_lem file a;
  no_current_refused = no_current_refused_lem file a;
  one_sign = λ k. stands_one (plant_of file) (stands_first (plant_of file)) (take k (steps_of file)) (first_one (plant_of file));
}
