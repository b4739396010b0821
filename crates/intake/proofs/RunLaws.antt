-- The run over whole fields: what stands before them is held by the site, what stands after them and their records are those that the definitions say, and
-- how long the records are. Assumes nothing.
use mathlib.Core.Path.{◌≡◌, sym, ap, ap₂, ◌∙◌, subst⁻¹}
use mathlib.Core.Bool.{Bool}
use mathlib.Core.List.{List, [], ◌++◌}
use Prim.Native.Nat.{ℕ, ◌+◌, ◌-◌, ◌*◌, ◌≤◌}
use native.Mathlib.Nat.{le_trans, le_of_eq, le-add_right}
use native.Mathlib.Omega.{arith}
use lib.IntN.{ℤ}
use lib.ListN.{length, drop, take-append-drop}
use lib.Seq.{slice}
use Rattle.octets.specs.BigEndian.{laid}
use Rattle.site.specs.declared.Due.{Due}
use Rattle.site.specs.Site.{count}
use Rattle.site.specs.declared.Step.{Step}
use Rattle.fields.specs.declared.State.{State}
use Rattle.stick.specs.Site.{site_of, roofs_of, plant_of, steps_from, due_from}
use Rattle.stick.specs.Check.{Accepted}
use Rattle.roofs.specs.Posts.{VarsHeld}
use Rattle.fleet.specs.Step.{Stands}
use Rattle.stretch.specs.Stretch.{all_bytes, stands_after, records_from}
use Rattle.stretch.specs.Posts.{stands_by, Holding}
use Rattle.stretch.proofs.AppendLaws.{records_length}
use Rattle.stretch.proofs.SiteLaws.{few_units, few_roofs}
use Rattle.kept.specs.declared.Mark.{Mark}
use Rattle.kept.specs.Layout.{site_place, all_vars, top_of, stands_of}
use Rattle.intake.specs.Posts.{first_by, stands_over, records_over, mark_after, left_by, Stood, Ahead}

module _ (m : Mark) (s site bytes : List ℕ) (head : ℕ) where
  abbrev steps : List Step
  steps = steps_from bytes m.due head

  -- the bytes of the records
  records_long : length (records_over m s site bytes head) ≡ all_bytes (plant_of site) * length steps
  unfolding records_over
  records_long = records_length (plant_of site) m.state.steps (first_by m s site) steps

  -- what stands after the fields, and their records, by what stands before them
  module _ (st : Stands) (es : st ≡ first_by m s site) where
    stands_are : stands_after (plant_of site) st steps ≡ stands_over m s site bytes head
    unfolding stands_over
    stands_are = ap (λ (x : Stands). stands_after (plant_of site) x steps) es

    records_are : records_from (plant_of site) m.state.steps st steps ≡ records_over m s site bytes head
    unfolding records_over
    records_are = ap (λ (x : Stands). records_from (plant_of site) m.state.steps x steps) es

-- what is left of the state's bytes
abbrev left : Mark → Stands → List ℕ → List ℕ
left k st s = top_of k [] ++ stands_of st.units.stored st.units.requests (all_vars st) st.on ++ drop site_place s

left_is : (m : Mark) (s : List ℕ) (n : ℕ) (bytes : List ℕ) (head : ℕ) (next : State) (k : Mark) (d : Due) (st : Stands)
    → k ≡ mark_after m next n d (length bytes) → d ≡ due_from bytes m.due head → st ≡ stands_over m s (slice site_place (site_place + n) s) bytes head
    → left k st s ≡ left_by m s n bytes head next
unfolding left_by
left_is m s n bytes head next k d st ek ed es =
    ap₂ (λ (x : Mark) (y : Stands). left x y s) (ek ∙ ap (λ (x : Due). mark_after m next n x (length bytes)) ed) es

few_less : (a b : ℕ) → b ≤ 65535 → b - a ≤ 65535
few_less a b p = omega arith

-- the steps are no fewer after the fields, and those between are few
pub not_back : {s : List ℕ} {m : Mark} {n : ℕ} {bytes : List ℕ} {head : ℕ} {next : State} → Ahead s m n bytes head next → m.state.steps ≤ next.steps
not_back {m = m} {bytes = bytes} {head = head} h = le_trans (le-add_right m.state.steps (length (steps_from bytes m.due head))) (le_of_eq h.counted)

pub few_on : {s : List ℕ} {m : Mark} {n : ℕ} {bytes : List ℕ} {head : ℕ} {next : State} → Ahead s m n bytes head next → next.steps - m.state.steps ≤ 65535
few_on {m = m} {next = next} h = few_less m.state.steps next.steps h.few

-- ---- over the part of the state's bytes that the code lends, which is the site part
module _ (s : List ℕ) (m : Mark) (n : ℕ) (bytes : List ℕ) (head : ℕ) (next : State) (h : Ahead s m n bytes head next) (part : List ℕ) (ep : part ≡ slice site_place (site_place + n) s) where
  abbrev site : List ℕ
  site = slice site_place (site_place + n) s

  pub part_accepted : Accepted part
  part_accepted = subst⁻¹ Accepted ep h.accepted

  pub as_many : count (site_of site) ≡ count (site_of part)
  as_many = ap (λ (b : List ℕ). count (site_of b)) (sym ep)

  pub few : count (site_of site) ≤ 64
  few = few_units site h.accepted

  pub fewer : length (roofs_of site) ≤ 64
  fewer = few_roofs site h.accepted

  -- the bytes of the records, by the steps that are counted
  pub size_is : (size : ℕ) → size ≡ all_bytes (plant_of part) * (next.steps - m.state.steps) → size ≡ length (records_over m s site bytes head)
  size_is size e =
      let c : m.state.steps + length (steps_from bytes m.due head) ≡ next.steps = h.counted in
      let many : next.steps - m.state.steps ≡ length (steps_from bytes m.due head) = omega arith in
      e ∙ ap₂ (λ (b : List ℕ) (k : ℕ). all_bytes (plant_of b) * k) ep many ∙ sym (records_long m s site bytes head)

  pub fit : (out room : ℕ) → out + length (records_over m s site bytes head) ≤ room → out + all_bytes (plant_of part) * length (steps_from bytes m.due head) ≤ room
  fit out room f =
      let e : all_bytes (plant_of part) * length (steps_from bytes m.due head) ≡ length (records_over m s site bytes head) =
      ap (λ (b : List ℕ). all_bytes (plant_of b) * length (steps_from bytes m.due head)) ep ∙ sym (records_long m s site bytes head) in
      le_trans (le_of_eq (ap (λ (k : ℕ). out + k) e)) f

  -- with lists that hold what stands before the fields
  module _ (stored : List ℕ) (rs vs : List ℤ) (on : List Bool) (es : stands_by stored rs vs on ≡ first_by m s site) where
    pub first_held : Holding (site_of part) stored rs vs on
    first_held =
        let st = subst⁻¹ (Stood (site_of site) (length (roofs_of site))) es h.stood in
        subst⁻¹ (λ (b : List ℕ). Holding (site_of b) stored rs vs on) ep
        (record { units = st.units; roofs = subst⁻¹ (λ (k : ℕ). VarsHeld k (drop (length rs) vs)) st.flags st.vars })

    pub all_left : (k : Mark) (d : Due) (stored' : List ℕ) (rs' vs' : List ℤ) (on' : List Bool)
        → k ≡ mark_after m next n d (length bytes) → d ≡ due_from bytes m.due head
        → stands_by stored' rs' vs' on' ≡ stands_after (plant_of part) (stands_by stored rs vs on) (steps_from bytes m.due head)
        → top_of k [] ++ stands_of stored' rs' vs' on' ++ drop site_place s ≡ left_by m s n bytes head next
    all_left k d stored' rs' vs' on' ek ed et =
        ap (λ (v : List ℤ). top_of k [] ++ stands_of stored' rs' v on' ++ drop site_place s) (sym (take-append-drop (length rs') vs'))
        ∙ left_is m s n bytes head next k d (stands_by stored' rs' vs' on') ek ed
        (et
        ∙ ap (λ (b : List ℕ). stands_after (plant_of b) (stands_by stored rs vs on) (steps_from bytes m.due head)) ep
        ∙ stands_are m s site bytes head (stands_by stored rs vs on) es)

    pub all_written : (room : List ℕ) (out : ℕ)
        → laid room out (records_from (plant_of part) m.state.steps (stands_by stored rs vs on) (steps_from bytes m.due head)) ≡ laid room out (records_over m s site bytes head)
    all_written room out =
        ap (laid room out)
        (ap (λ (b : List ℕ). records_from (plant_of b) m.state.steps (stands_by stored rs vs on) (steps_from bytes m.due head)) ep
        ∙ records_are m s site bytes head (stands_by stored rs vs on) es)
