-- The records of a result stand one behind the other: those of a step behind those of the steps before it, its units' first and then its inverters'. Assumes nothing.
use mathlib.Core.Path.{◌≡◌, refl, sym, ap, ◌∙◌}
use mathlib.Core.Bool.{Bool, false}
use mathlib.Core.List.{List, [], ◌∷◌, ◌++◌, append_assoc, append-nil}
use mathlib.Core.Logic.{◌⊎◌, inl, inr}
use Prim.Native.Nat.{ℕ, zero, suc, ◌+◌, ◌*◌, ◌<◌}
use native.Mathlib.Nat.{zero-add, le_of_suc-le-suc, eq-or-lt_of_le}
use native.Mathlib.Omega.{arith}
use lib.IntN.{ℤ, pos}
use lib.ListN.{length, get_or, take, drop}
use lib.Seq.{split_at, length-take-le}
use Rattle.reading.specs.declared.Reading.{Reading}
use Rattle.reading.specs.declared.Reading.TheVariants.{Missing}
use Rattle.lead.specs.declared.Lead.{Lead}
use Rattle.solar.specs.declared.Sun.{Sun}
use Rattle.solar.specs.Roof.{Roof}
use Rattle.site.specs.declared.Step.{Step}
use Rattle.site.specs.Site.{Site, Plant, count, step_with, none_yet}
use Rattle.records.specs.Records.{record_of, roof_record_of, end_of}
use Rattle.records.proofs.LayLaws.{both}
use Rattle.roofs.specs.Roofs.{lit, roof_records, roofs_by}
use Rattle.roofs.proofs.LoopLaws.{records_length as roofs-length}
use Rattle.fleet.specs.Step.{Standing, Stands, asked_by, given, records_of, records_by, step_bytes}
use Rattle.fleet.proofs.StepLaws.{records_length as units_length}
use Rattle.stretch.specs.Stretch.{stands_first, lead_in, next_of, stands_after, all_records, records_from, all_bytes}
use Rattle.stretch.proofs.AppendLaws.{records_append, records_length}
use Rattle.season.specs.Run.{result_by}
use Rattle.results.specs.Says.{before, step_at, lead_at, request_at, outcome_at, given_at, unit_place, inverter_place}

-- bytes stand at a place in others
pub record Placed (F r : List ℕ) (at : ℕ) : Type 0 where
  pub front : List ℕ
  pub behind : List ℕ
  pub is : F ≡ front ++ (r ++ behind)
  pub long : length front ≡ at

-- ---- pieces one behind the other
module _ (front one : ℕ → List ℕ) (next : (n : ℕ) → front (suc n) ≡ front n ++ one n) where
  split : (n i : ℕ) → i < n → (b : List ℕ) × (front n ≡ front i ++ (one i ++ b))
  split zero i h = absurd (omega arith)
  split (suc n) i h = go (eq-or-lt_of_le (le_of_suc-le-suc h)) (split n i)
    where
      go : (i ≡ n) ⊎ (i < n) → (i < n → (b : List ℕ) × (front n ≡ front i ++ (one i ++ b))) → (b : List ℕ) × (front (suc n) ≡ front i ++ (one i ++ b))
      go (inl e) more = ([], next n ∙ ap (λ (m : ℕ). front m ++ one m) (sym e) ∙ ap (λ (r : List ℕ). front i ++ r) (sym (append-nil (one i))))
      go (inr l) more =
          let r = more l in
          (r.0 ++ one n, next n ∙ ap (λ (x : List ℕ). x ++ one n) r.1 ∙ flat (front i) (one i) r.0 (one n))
        where
          flat : (a b c d : List ℕ) → (a ++ (b ++ c)) ++ d ≡ a ++ (b ++ (c ++ d))
          flat a b c d = simp append_assoc

-- ---- a step's records
units_next : (site : Site) (l : Lead) (step : ℕ) (stored : List ℕ) (rs vs : List ℤ) (n : ℕ)
    → records_of (suc n) site l step stored rs vs
    ≡ records_of n site l step stored rs vs ++ record_of step n (get_or rs n (pos 0)) (given site l n (get_or stored n 0) (get_or rs n (pos 0)) (get_or vs n (pos 0)))
unfolding records_of
units_next site l step stored rs vs n = refl

roofs_next : (roofs : List Roof) (l : Lead) (step : ℕ) (s : Sun) (on : List Bool) (vs : List ℤ) (n : ℕ)
    → roof_records (suc n) roofs l step s on vs
    ≡ roof_records n roofs l step s on vs ++ roof_record_of step n (lit roofs l s n (get_or on n false) (get_or vs n (pos 0)))
unfolding roof_records
roofs_next roofs l step s on vs n = refl

by_is : (site : Site) (l : Lead) (k : ℕ) (st : Standing) (r : Reading)
    → records_by site l k st r ≡ records_of (count site) site l k st.stored (asked_by site st.stored st.requests r) st.vars
unfolding records_by
by_is site l k st r = refl

all_is : (p : Plant) (k : ℕ) (st : Stands) (s : Step)
    → all_records p k st s
    ≡ records_by p.site (lead_in p s) k st.units s.reading ++ roofs_by p.roofs (lead_in p s) k s.sun st.on st.vars
unfolding all_records
all_is p k st s = refl

-- ---- the steps'
from_is : (p : Plant) (k : ℕ) (st : Stands) (s : Step) (ss : List Step) → records_from p k st (s ∷ ss) ≡ all_records p k st s ++ records_from p (suc k) (next_of p st s) ss
unfolding records_from
from_is p k st s ss = refl

step_split : (p : Plant) (st : Stands) (ss : List Step) (k : ℕ) (d : Step) → k < length ss
    → (b : List ℕ) × (records_from p 0 st ss ≡ records_from p 0 st (take k ss) ++ (all_records p k (stands_after p st (take k ss)) (get_or ss k d) ++ b))
step_split p st ss k d h =
    let s = get_or ss k d in
    let rest = drop (suc k) ss in
    let st' = stands_after p st (take k ss) in
    let many : 0 + length (take k ss) ≡ k = zero-add (length (take k ss)) ∙ length-take-le k ss (omega arith) in (
      records_from p (suc k) (next_of p st' s) rest,
      ap (records_from p 0 st) (split_at ss k d h) ∙ records_append p 0 st (take k ss) (s ∷ rest)
          ∙ ap (λ (n : ℕ). records_from p 0 st (take k ss) ++ records_from p n st' (s ∷ rest)) many
          ∙ ap (λ (r : List ℕ). records_from p 0 st (take k ss) ++ r) (from_is p k st' s rest),
    )

-- ---- in the result
result_is : (p : Plant) (ss : List Step) → result_by p ss ≡ records_from p 0 (stands_first p) ss ++ end_of (length ss)
unfolding result_by
result_is p ss = refl

flat_unit : (a x u b r c e : List ℕ) → (a ++ (((x ++ (u ++ b)) ++ r) ++ c)) ++ e ≡ (a ++ x) ++ (u ++ (b ++ (r ++ (c ++ e))))
flat_unit a x u b r c e = simp append_assoc

flat_roof : (a x y u b c e : List ℕ) → (a ++ ((x ++ (y ++ (u ++ b))) ++ c)) ++ e ≡ (a ++ (x ++ y)) ++ (u ++ (b ++ (c ++ e)))
flat_roof a x y u b c e = simp append_assoc

module _ (p : Plant) (ss : List Step) (k : ℕ) (h : k < length ss) where
  abbrev st : Stands
  st = before p ss k

  abbrev s : Step
  s = step_at p ss k

  abbrev l : Lead
  l = lead_at p ss k

  abbrev done : List ℕ
  done = records_from p 0 (stands_first p) (take k ss)

  abbrev asked : List ℤ
  asked = asked_by p.site st.units.stored st.units.requests s.reading

  abbrev units : ℕ → List ℕ
  units n = records_of n p.site l k st.units.stored asked st.units.vars

  abbrev roofs : ℕ → List ℕ
  roofs n = roof_records n p.roofs l k s.sun st.on st.vars

  done_long : length done ≡ all_bytes p * k
  done_long = records_length p 0 (stands_first p) (take k ss) ∙ ap (λ (n : ℕ). all_bytes p * n) (length-take-le k ss (omega arith))

  -- this step's records in it
  step_in : (b : List ℕ) × (result_by p ss ≡ (done ++ ((units (count p.site) ++ roofs (length p.roofs)) ++ b)) ++ end_of (length ss))
  step_in =
      let r = step_split p (stands_first p) ss k (step_with Missing none_yet) h in
      let is : all_records p k st s ≡ units (count p.site) ++ roofs (length p.roofs) =
      all_is p k st s ∙ ap (λ (x : List ℕ). x ++ roofs (length p.roofs)) (by_is p.site l k st.units s.reading) in
      (r.0, result_is p ss ∙ ap (λ (x : List ℕ). x ++ end_of (length ss)) (r.1 ∙ ap (λ (x : List ℕ). done ++ (x ++ r.0)) is))

  pub unit_placed : (i : ℕ) → i < count p.site → Placed (result_by p ss) (record_of k i (request_at p ss k i) (outcome_at p ss k i)) (unit_place p k i)
  unit_placed i m =
      let one : ℕ → List ℕ = λ (j : ℕ). record_of k j (request_at p ss k j) (outcome_at p ss k j) in
      let u = split units one (units_next p.site l k st.units.stored asked st.units.vars) (count p.site) i m in
      let r = roofs (length p.roofs) in
      let b = step_in.0 in
      let e = end_of (length ss) in
      record {
        front = done ++ units i;
        behind = u.0 ++ (r ++ (b ++ e));
        is = step_in.1 ∙ ap (λ (x : List ℕ). (done ++ ((x ++ r) ++ b)) ++ e) u.1 ∙ flat_unit done (units i) (one i) u.0 r b e;
        long = both done (units i) (all_bytes p * k) (40 * i) done_long (units_length i p.site l k st.units.stored asked st.units.vars);
      }

  pub inverter_placed : (i : ℕ) → i < length p.roofs → Placed (result_by p ss) (roof_record_of k i (given_at p ss k i)) (inverter_place p k i)
  inverter_placed i m =
      let one : ℕ → List ℕ = λ (j : ℕ). roof_record_of k j (given_at p ss k j) in
      let u = split roofs one (roofs_next p.roofs l k s.sun st.on st.vars) (length p.roofs) i m in
      let x = units (count p.site) in
      let b = step_in.0 in
      let e = end_of (length ss) in
      let lx : length x ≡ step_bytes p.site = units_length (count p.site) p.site l k st.units.stored asked st.units.vars in
      let ly : length (roofs i) ≡ 29 * i = roofs-length i p.roofs l k s.sun st.on st.vars in
      let n = both done (x ++ roofs i) (all_bytes p * k) (step_bytes p.site + 29 * i) done_long (both x (roofs i) (step_bytes p.site) (29 * i) lx ly) in
      record {
        front = done ++ (x ++ roofs i);
        behind = u.0 ++ (b ++ e);
        is = step_in.1 ∙ ap (λ (y : List ℕ). (done ++ ((x ++ y) ++ b)) ++ e) u.1 ∙ flat_roof done x (roofs i) (one i) u.0 b e;
        long = n ∙ regroup (all_bytes p * k) (step_bytes p.site) (29 * i);
      }
    where
      regroup : (a b c : ℕ) → a + (b + c) ≡ a + b + c
      regroup a b c = omega arith

-- the end stands behind them all
pub end_front : (p : Plant) (ss : List Step) → (a : List ℕ) × (result_by p ss ≡ a ++ end_of (length ss)) × (length a ≡ all_bytes p * length ss)
end_front p ss = (records_from p 0 (stands_first p) ss, result_is p ss, records_length p 0 (stands_first p) ss)
