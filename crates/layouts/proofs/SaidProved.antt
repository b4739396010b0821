-- What is read of a stick that was laid out is what was laid: its plant, and its steps. A reader of the fields with a tag goes past every part but that with the tag,
-- and the steps past every part before them. Assumes nothing.
use mathlib.Core.Path.{◌≡◌, refl, ap, ap₂, ◌∙◌}
use mathlib.Core.Bool.{Bool, true}
use mathlib.Core.List.{List, [], ◌∷◌, ◌++◌, map, append-nil, map-id}
use mathlib.Core.Logic.{inl, inr}
use Prim.Native.Nat.{ℕ, suc, ◌+◌, ◌≤◌, ◌<◌}
use native.Mathlib.Omega.{arith}
use lib.ListN.{length, get_or, length-map}
use Rattle.whole.specs.Over.{each_from, each}
use Rattle.unit.specs.declared.Unit.{Unit}
use Rattle.unit.specs.Ranges.{in_edition, linked}
use Rattle.lead.specs.Lead.{Function, Leading, unled, led}
use Rattle.site.specs.declared.Head.{Head}
use Rattle.site.specs.declared.Step.{Step}
use Rattle.site.specs.declared.Due.{Due}
use Rattle.site.specs.Site.{none_yet}
use Rattle.site.specs.Ranges.{Guided}
use Rattle.stick.specs.Site.{places_of, having, value_of_first, head_by, connections_of, link_in, site_of, roof_at, roofs_of, function_at, functions_of, leading_in, leading_of, plant_of, steps_of}
use Rattle.layouts.specs.Written.{Connection, Stick}
use Rattle.layouts.specs.Layout.{connections_field, function_fields, end_field, laid_out}
use Rattle.layouts.specs.Ranges.{Connected, Fits}
use Rattle.layouts.specs.Holds.{link_at, plant_said, step_said}
use Rattle.layouts.proofs.FitLaws.{fleet_fits, connections_few, function_fits}
use Rattle.layouts.proofs.FirstLaws.{read_all, Moves}
use Rattle.layouts.proofs.PassLaws.{behind_function, behind_roofs, behind_connections, behind_settings, behind_units, behind_fleet, PassesFields, passes_steps, pass_all, pass_fleet, pass_units, pass_settings, pass_connections, pass_roofs, pass_function, pass_steps, pass_end}
use Rattle.layouts.proofs.TellLaws.{edition_of, seconds_of, settings_of, phase_of, unit_by, link_by, settings_move, phase_moves, unit_moves, link_moves, roof_moves, function_moves, read_none, others, passes_others, reads_edition, reads_seconds, reads_units, reads_settings, reads_phase, reads_link, reads_roofs, reads_function}
use Rattle.layouts.proofs.StepLaws.{steps_by, steps_none, of_none, passes_none, by_steps}

-- there are no more connections than units
few : (s : Stick) → Fits s → length s.connections ≤ 64
few s f = connections_few _ (length s.units) s.connections f.count f.connections

-- ---- past them, from the first on and up to the last
module _ (s : Stick) (f : Fits s) {B : Type 0} (v : List ℕ → B) (ok : ℕ → Bool) (by : PassesFields v ok) where
  to_units : ok 0x01 ≡ true → v (laid_out s) ≡ v (behind_fleet s)
  unfolding laid_out
  to_units o₁ = pass_fleet v ok by o₁ s.head (length s.units) (behind_fleet s)

  to_settings : ok 0x01 ≡ true → ok 0x02 ≡ true → v (laid_out s) ≡ v (behind_units s)
  to_settings o₁ o₂ = to_units o₁ ∙ pass_units v ok by o₂ s.head.edition s.units f.units (behind_units s)

  to_connections : ok 0x01 ≡ true → ok 0x02 ≡ true → ok 0x03 ≡ true → v (laid_out s) ≡ v (behind_settings s)
  to_connections o₁ o₂ o₃ = to_settings o₁ o₂ ∙ pass_settings v ok by o₃ s.head (behind_settings s)

  to_roofs : ok 0x01 ≡ true → ok 0x02 ≡ true → ok 0x03 ≡ true → ok 0x0A ≡ true → v (laid_out s) ≡ v (behind_connections s)
  to_roofs o₁ o₂ o₃ o₁₀ = to_connections o₁ o₂ o₃ ∙ pass_connections v ok by o₁₀ s.connections (few s f) (behind_connections s)

  past_roofs : ok 0x06 ≡ true → ok 0x07 ≡ true → v (behind_connections s) ≡ v (behind_roofs s)
  past_roofs o₆ o₇ = pass_roofs v ok by o₆ o₇ s.roofs f.roofs_in (behind_roofs s)

  past_function : ok 0x0B ≡ true → ok 0x07 ≡ true → v (behind_roofs s) ≡ v (behind_function s)
  past_function o₁₁ o₇ = pass_function v ok by o₁₁ o₇ s.leading f.leading (behind_function s)

  past_end : ok 0x7F ≡ true → v (end_field (length s.steps)) ≡ v []
  past_end o = pass_all v (end_field (length s.steps)) (pass_end v ok by o (length s.steps))

  past_steps : passes_steps ok ≡ true → ok 0x7F ≡ true → v (behind_function s) ≡ v []
  past_steps o e = pass_steps v ok by o _ s.leading s.steps f.steps_in (end_field (length s.steps)) ∙ past_end e

-- ---- the first that is read, where something is
first_of : {A : Type 0} (h : ℕ → A) (ats : List ℕ) {x : A} {xs : List A} → map h ats ≡ x ∷ xs → h (get_or ats 0 0) ≡ x
first_of h [] e = absurd (omega (arith, ap length e))
first_of h (p ∷ ps) e = cc

first_link : (F : List ℕ) (ats : List ℕ) (i : ℕ) → link_in F ats i ≡ get_or (map (link_by i F) ats) 0 0
first_link F [] i = refl
first_link F (p ∷ ps) i = refl

-- the function that was read, or none
abbrev first_leading : List Function → Leading
first_leading [] = unled
first_leading (f ∷ fs) = led f

first_leading_lem : (F : List ℕ) (ats : List ℕ) → leading_in F ats ≡ first_leading (map (function_at F) ats)
first_leading_lem F [] = refl
first_leading_lem F (p ∷ ps) = refl

-- two replacements that agree at the places of a list
each_same : {A : Type 0} (f g : ℕ → A → A) (k : ℕ) (l : List A) → ((i : ℕ) → i < k + length l → (x : A) → f i x ≡ g i x) → each_from k f l ≡ each_from k g l
unfolding each_from
each_same f g k [] h = refl
each_same f g k (x ∷ l) h = ap₂ ◌∷◌ (h k (omega arith) x) (each_same f g (suc k) l (λ i s. h i (omega arith)))

-- the link of unit i, and the function, with nothing of theirs behind
link_said : (current : Bool) (n : ℕ) (cs : List Connection) → Connected current n cs → length cs ≤ 64 → (i : ℕ) → i < n → (b : List ℕ) → read_all 0x0A (link_by i) b ≡ []
    → get_or (read_all 0x0A (link_by i) (connections_field cs ++ b)) 0 0 ≡ link_at cs i
unfolding connections_field
link_said current n [] c few i h b e = ap (λ (l : List ℕ). get_or l 0 0) e
link_said current n (c ∷ cs) (inl p) few i h b e = absurd (omega (arith, ap length p.0))
link_said current n (c ∷ cs) (inr p) few i h b e = let same = p.0 in ap (λ (l : List ℕ). get_or l 0 0) (reads_link i c cs few p.1 (omega arith) b)

function_said : (l : Leading) → Guided l → (b : List ℕ) → read_all 0x0B function_at b ≡ [] → first_leading (read_all 0x0B function_at (function_fields l ++ b)) ≡ l
unfolding function_fields
function_said unled g b e = ap first_leading e
function_said (led f) g b e = ap first_leading (reads_function f (function_fits f g) b)

-- ---- what is read of all fields with a tag
module _ (s : Stick) (f : Fits s) where
  steps_others : {A : Type 0} (k : ℕ) (g : List ℕ → ℕ → A) → Moves g → passes_steps (others k) ≡ true → others k 0x7F ≡ true → read_all k g (behind_function s) ≡ []
  steps_others k g m o e = past_steps s f (read_all k g) (others k) (passes_others k g m) o e ∙ read_none k g

  head_said_lem : head_by (laid_out s) (value_of_first 0x01 (laid_out s)) (value_of_first 0x03 (laid_out s)) ≡ s.head
  unfolding laid_out head_by read_all
  head_said_lem =
      let F = laid_out s in
      let fleet = having 0x01 F (places_of F) in
      let place = having 0x03 F (places_of F) in
      let h = s.head in
      let n = length s.units in
      let fits = fleet_fits h n f.edition f.count f.seconds in
      let edition = first_of (edition_of F) fleet (reads_edition h n fits (behind_fleet s)) in
      let seconds = first_of (seconds_of F) fleet (reads_seconds h n fits (behind_fleet s)) in
      let settings =
      first_of (settings_of F) place
      (to_settings s f (read_all 0x03 settings_of) (others 0x03) (passes_others 0x03 settings_of settings_move) refl refl ∙ reads_settings h f.settings f.phase (behind_settings s)) in
      let phase =
      first_of (phase_of F) place
      (to_settings s f (read_all 0x03 phase_of) (others 0x03) (passes_others 0x03 phase_of phase_moves) refl refl ∙ reads_phase h f.settings f.phase (behind_settings s)) in
      λ i. record { edition = edition i; seconds = seconds i; settings = settings i; phase = phase i }

  units_said_lem : (e : ℕ) → e ≡ s.head.edition → read_all 0x02 (unit_by e) (laid_out s) ≡ map (in_edition s.head.edition) s.units
  units_said_lem e same =
      let d = s.head.edition in
      let v = read_all 0x02 (unit_by d) in
      let by = passes_others 0x02 (unit_by d) (unit_moves d) in
      ap (λ (n : ℕ). read_all 0x02 (unit_by n) (laid_out s)) same
      ∙ to_units s f v (others 0x02) by refl
      ∙ reads_units d s.units f.units (behind_units s)
      ∙ ap (λ (l : List Unit). map (in_edition d) s.units ++ l)
      (pass_settings v (others 0x02) by refl s.head (behind_settings s)
      ∙ pass_connections v (others 0x02) by refl s.connections (few s f) (behind_connections s)
      ∙ past_roofs s f v (others 0x02) by refl refl
      ∙ past_function s f v (others 0x02) by refl refl
      ∙ steps_others 0x02 (unit_by d) (unit_moves d) refl refl)
      ∙ append-nil (map (in_edition d) s.units)

  links_said : (i : ℕ) → i < length s.units → link_in (laid_out s) (connections_of (laid_out s)) i ≡ link_at s.connections i
  unfolding connections_of read_all
  links_said i h =
      let v = read_all 0x0A (link_by i) in
      let by = passes_others 0x0A (link_by i) (link_moves i) in
      let none =
      past_roofs s f v (others 0x0A) by refl refl
      ∙ past_function s f v (others 0x0A) by refl refl
      ∙ steps_others 0x0A (link_by i) (link_moves i) refl refl in
      first_link (laid_out s) (connections_of (laid_out s)) i
      ∙ ap (λ (l : List ℕ). get_or l 0 0) (to_connections s f v (others 0x0A) by refl refl refl)
      ∙ link_said _ (length s.units) s.connections f.connections (few s f) i h (behind_connections s) none

  roofs_said : roofs_of (laid_out s) ≡ s.roofs
  unfolding roofs_of read_all
  roofs_said =
      let v = read_all 0x06 roof_at in
      let by = passes_others 0x06 roof_at roof_moves in
      to_roofs s f v (others 0x06) by refl refl refl refl
      ∙ reads_roofs s.roofs f.roofs_in (behind_roofs s)
      ∙ ap₂ ◌++◌ (map-id s.roofs)
      (past_function s f v (others 0x06) by refl refl
      ∙ steps_others 0x06 roof_at roof_moves refl refl)
      ∙ append-nil s.roofs

  leading_said : leading_of (laid_out s) ≡ s.leading
  unfolding leading_of functions_of read_all
  leading_said =
      let v = read_all 0x0B function_at in
      let by = passes_others 0x0B function_at function_moves in
      first_leading_lem (laid_out s) (functions_of (laid_out s))
      ∙ ap first_leading (to_roofs s f v (others 0x0B) by refl refl refl refl ∙ past_roofs s f v (others 0x0B) by refl refl)
      ∙ function_said s.leading f.leading (behind_function s) (steps_others 0x0B function_at function_moves refl refl)

  site_said : site_of (laid_out s) ≡ (plant_said s).site
  unfolding site_of read_all each
  site_said =
      let F = laid_out s in
      let read : List Unit → List Unit = each (λ (i : ℕ) (u : Unit). linked u (link_in F (connections_of F) i)) in
      let said = map (in_edition s.head.edition) s.units in
      let units =
      ap read (units_said_lem (head_by F (value_of_first 0x01 F) (value_of_first 0x03 F)).edition (ap (λ (h : Head). h.edition) head_said_lem))
      ∙ each_same (λ (i : ℕ) (u : Unit). linked u (link_in F (connections_of F) i)) (λ (i : ℕ) (u : Unit). linked u (link_at s.connections i)) 0 said
      (λ i l u. ap (linked u) (links_said i (let n = length-map s.units (in_edition s.head.edition) in omega arith))) in
      λ i. record { head = head_said_lem i; units = units i }

pub plant_said_lem : (s : Stick) → Fits s → plant_of (laid_out s) ≡ plant_said s
unfolding plant_of
plant_said_lem s f =
    let site = site_said s f in
    let roofs = roofs_said s f in
    let leading = leading_said s f in
    λ i. record { site = site i; roofs = roofs i; leading = leading i }

pub steps_said : (s : Stick) → Fits s → steps_of (laid_out s) ≡ map step_said s.steps
unfolding steps_of
steps_said s f =
    ap (λ (g : Due → List Step). g none_yet)
    (to_roofs s f steps_by of_none passes_none refl refl refl refl ∙ past_roofs s f steps_by of_none passes_none refl refl ∙ past_function s f steps_by of_none passes_none refl refl)
    ∙ by_steps _ s.leading s.steps f.steps_in (end_field (length s.steps))
    ∙ ap (λ (l : List Step). map step_said s.steps ++ l) (ap (λ (g : Due → List Step). g none_yet) (past_end s f steps_by of_none passes_none refl) ∙ steps_none none_yet)
    ∙ append-nil (map step_said s.steps)
