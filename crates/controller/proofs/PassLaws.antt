-- A pass as the code goes through it: each way out leaves what the definition says. Assumes nothing.
use mathlib.Core.Path.{◌≡◌, refl, sym, ap, ap₂, ◌∙◌, subst, subst⁻¹, subst₂}
use mathlib.Core.Bool.{Bool, true, false, not, cond, ◌&&◌}
use mathlib.Core.List.{List}
use Prim.Native.Nat.{ℕ, ◌*◌, ◌^◌, ◌≤◌, ◌<◌}
use native.Mathlib.Nat.{lt_of_le_of_lt}
use native.Mathlib.Omega.{arith}
use lib.Dec.{lit<}
use lib.IntN.{ℤ, pos, ◌+ℤ◌}
use lib.ListN.{length, get_or}
use lib.Signed.{mag}
use mir.Syntax.{w64}
use Rattle.whole.specs.Over.{all_of, each}
use Rattle.whole.proofs.OverLaws.{sum_upto, none_of}
use Rattle.whole.proofs.SignLaws.{read}
use Rattle.unit.specs.declared.Unit.{Unit}
use Rattle.rows.specs.declared.Row.{Row}
use Rattle.rows.proofs.RowLaws.{column_count}
use Rattle.rules.specs.declared.Settings.{Settings}
use Rattle.rules.specs.declared.Asked.{Asked}
use Rattle.rules.specs.declared.Wanted.{Wanted}
use Rattle.controller.specs.declared.Passed.{Passed}
use Rattle.members.specs.declared.Totals.{Totals}
use Rattle.members.specs.Ranges.{Fleet}
use Rattle.rules.specs.Rules.{charges, by_current, plain_need, in_watts, band_in_watts, no_call, unable, in_band, unit_after}
use Rattle.members.specs.Sums.{total, sum_of_all, unable_at, differ, changed_of}
use Rattle.controller.specs.Pass.{other_state, with_sum, own_need, own_band, need_of, rests, spent, all_in_band, request_after, pass_by, pass_of}
use Rattle.rules.specs.Posts.{wanted_by, need_by, reported_by, Modest}
use Rattle.members.specs.Posts.{SameLengths, TotalsOf, Linked, Sharing, fleet_by, column_by, spent_by, own_by, shared_by, none_calls_by, all_in_band_by}
use Rattle.controller.specs.Posts.{AskedFor, Sound, DonePass, rests_by}
use Rattle.members.proofs.DifferLaws.{same_same}
use Rattle.rules.proofs.RuleLaws.{back64, read_sized, modest}

-- a fleet's sums
pub record TotalsFor (f : Fleet) (n : ℕ) (t : Totals) : Type 0 where
  pub rated : t.rated ≡ total n f.rated
  pub reserve : t.reserve ≡ total n f.reserve
  pub weight : t.weight ≡ total n f.weight

-- those of rows
pub totals_for : (rows : List Row) (stored : List ℕ) (n : ℕ) (t : Totals) → SameLengths (fleet_by rows stored) n → TotalsOf rows t → TotalsFor (fleet_by rows stored) n t
totals_for rows stored n t h e =
    let count : length rows ≡ n = sym (column_count (λ (u : Unit). u.rated) rows) ∙ h.rated in record {
      rated = e.rated ∙ ap (λ (k : ℕ). total k (column_by (λ (u : Unit). u.rated) rows)) count;
      reserve = e.reserve ∙ ap (λ (k : ℕ). total k (column_by (λ (u : Unit). u.reserve) rows)) count;
      weight = e.weight ∙ ap (λ (k : ℕ). total k (column_by (λ (u : Unit). u.weight) rows)) count;
    }

-- ---- a measure that is handed on, and a fleet that is put into rows
pub measure_read : (s : Settings) (m : ℤ) (f : Fleet) (n : ℕ) → Sound s m f n → back64 m ≡ m
measure_read s m f n sound = read_sized m (lt_of_le_of_lt sound.measure_small (lit< tt))

pub sound_on : (s : Settings) (m : ℤ) (f g : Fleet) (n : ℕ) → g ≡ f → Sound s m f n → Sound s (back64 m) g n
sound_on s m f g n e sound = subst₂ (λ (z : ℤ) (h : Fleet). Sound s z h n) (sym (measure_read s m f n sound)) (sym e) sound

pub done_on : (s : Settings) (m : ℤ) (f g : Fleet) (n : ℕ) → g ≡ f → Sound s m f n → (rs after : List ℤ) (p : Passed) → DonePass s (back64 m) g rs after p → DonePass s m f rs after p
done_on s m f g n e sound rs after p = subst₂ (λ (z : ℤ) (h : Fleet). DonePass s z h rs after p) (measure_read s m f n sound) e

-- requests that stay do not change
pub no_change : (rs : List ℤ) → changed_of rs rs ≡ false
unfolding changed_of
no_change rs = none_of (length rs) (λ (i : ℕ). differ (get_or rs i (pos 0)) (get_or rs i (pos 0))) (λ i h. same_same (get_or rs i (pos 0)))

-- ---- what the code works out first: each unit's own need, the direction, and the need that is reported
pub record Worked (s : Settings) (m : ℤ) (f : Fleet) (rs : List ℤ) (w : Wanted) (charging : Bool) (need : ℤ) : Type 0 where
  pub own : own_by w f ≡ own_need s m f rs
  pub current : w.current ≡ by_current s.mode
  pub mode : charging ≡ charges s.mode
  pub reported : back64 need ≡ need_of s m rs

-- the requests' signs say the state, and F is as it must be where it is looked at
module _ (s : Settings) (m : ℤ) (rs : List ℤ) (a : Asked) (ea : AskedFor (charges s.mode) rs a) where
  state_is : cond (charges s.mode) a.above a.below ≡ other_state (charges s.mode) rs
  state_is = ap₂ (cond (charges s.mode)) ea.above ea.below

  own_is : (f : Fleet) (i : ℕ) → own_by (wanted_by s m a) f i ≡ own_need s m f rs i
  unfolding own_by need_by wanted_by own_need with_sum
  own_is f i =
      let watts = in_watts (by_current s.mode) (get_or f.link i 0) (plain_need s m) in
      ap (λ (o : Bool). cond o (watts +ℤ a.sum) watts) state_is ∙ go (other_state (charges s.mode) rs) watts ea.sum
    where
      go : (o : Bool) (x : ℤ) → (o ≡ true → a.sum ≡ sum_of_all rs) → cond o (x +ℤ a.sum) x ≡ cond o (x +ℤ sum_of_all rs) x
      go true x h = ap (λ (z : ℤ). x +ℤ z) (h refl)
      go false x h = refl

  reported_is : reported_by (wanted_by s m a) ≡ need_of s m rs
  unfolding reported_by wanted_by need_of with_sum
  reported_is =
      ap (λ (o : Bool). cond (o && not (by_current s.mode)) (plain_need s m +ℤ a.sum) (plain_need s m)) state_is
      ∙ go (by_current s.mode) (other_state (charges s.mode) rs) (plain_need s m) ea.sum
    where
      go : (c o : Bool) (x : ℤ) → (o ≡ true → a.sum ≡ sum_of_all rs) → cond (o && not c) (x +ℤ a.sum) x ≡ cond c x (cond o (x +ℤ sum_of_all rs) x)
      go true true x h = refl
      go true false x h = refl
      go false true x h = ap (λ (z : ℤ). x +ℤ z) (h refl)
      go false false x h = refl

module _ (s : Settings) (m : ℤ) (f : Fleet) (rs : List ℤ) (sound : Sound s m f (length rs)) (charging : Bool) (eg : charging ≡ charges s.mode)
    (a : Asked) (ea : AskedFor charging rs a) (w : Wanted) (ew : w ≡ wanted_by s (back64 m) a) where
  here : w ≡ wanted_by s m a
  here = ew ∙ ap (λ (z : ℤ). wanted_by s z a) (measure_read s m f (length rs) sound)

  pub linked : Linked w f
  linked = record {
    modest = subst⁻¹ Modest here (modest s m a sound.measure_small sound.target_small sound.current_small ea.bounded);
    link_small = sound.link_small;
  }

  pub worked : (need : ℤ) → mag need < 2 ^ 63 → need ≡ reported_by w → Worked s m f rs w charging need
  unfolding wanted_by
  worked need hn en =
      let ea₂ = subst (λ (b : Bool). AskedFor b rs a) eg ea in record {
        own = ap (λ (v : Wanted). own_by v f) here ∙ (λ j i. own_is s m rs a ea₂ f i j);
        current = ap (λ (v : Wanted). v.current) here;
        mode = eg;
        reported = read w64 need hn ∙ en ∙ ap reported_by here ∙ reported_is s m rs a ea₂;
      }

module _ {s : Settings} {m : ℤ} {f : Fleet} {rs : List ℤ} {w : Wanted} {charging : Bool} {need : ℤ} (k : Worked s m f rs w charging need) where
  -- ---- the code's rules are the definition's
  pub rests_is : (a : Asked) → AskedFor charging rs a → (n : ℕ) → n ≡ length rs → rests_by charging w a f n ≡ rests s (own_need s m f rs) rs
  unfolding rests_by none_calls_by rests
  rests_is a ea n e = λ j. not (cond (k.mode j) (ea.below j) (ea.above j)) && all_of (e j) (λ (i : ℕ). no_call (k.mode j) (k.own j i))

  pub spent_is : (t : Totals) → TotalsFor f (length rs) t → length f.stored ≡ length rs → spent_by charging t.rated t.reserve f.stored ≡ spent (charges s.mode) (length rs) f
  unfolding spent_by spent
  spent_is t et e = λ j. unable (k.mode j) (et.rated j) (et.reserve j) (total (e j) f.stored)

  pub band_is : (n : ℕ) → n ≡ length rs → all_in_band_by s.band w f n ≡ all_in_band (length rs) (own_band s f) (own_need s m f rs)
  unfolding all_in_band_by all_in_band own_band
  band_is n e = λ j. all_of (e j) (λ (i : ℕ). in_band (band_in_watts (k.current j) (get_or f.link i 0) s.band) (k.own j i))

  shared_is : (t : Totals) → TotalsFor f (length rs) t → each (shared_by charging s.factor w t.weight f) rs ≡ each (request_after s (length rs) f (own_need s m f rs)) rs
  unfolding shared_by request_after
  shared_is t et =
      λ j.
      each
      (λ (i : ℕ) (r : ℤ). cond (unable_at (k.mode j) f i) (pos 0) (unit_after (k.mode j) s.factor (k.own j i) (et.weight j) (get_or f.rating i 0) (get_or f.weight i 0) r)) rs

  -- ---- rules 3 to 6, each with what it leaves
  goes : pass_of s m f rs
      ≡ cond (rests s (own_need s m f rs) rs) rs
      (cond (spent (charges s.mode) (length rs) f) (each (λ (i : ℕ) (r : ℤ). pos 0) rs)
      (cond (all_in_band (length rs) (own_band s f) (own_need s m f rs)) rs (each (request_after s (length rs) f (own_need s m f rs)) rs)))
  unfolding pass_of pass_by
  goes = refl

  pub done_rests : rests s (own_need s m f rs) rs ≡ true → DonePass s m f rs rs (record { need = back64 need; changed = false })
  done_rests x = record { requests = sym (goes ∙ cc); need = k.reported; changed = sym (no_change rs) }

  module _ (x : rests s (own_need s m f rs) rs ≡ false) where
    pub done_clear : spent (charges s.mode) (length rs) f ≡ true → (after : List ℤ) (changed : Bool) → after ≡ each (λ (i : ℕ) (r : ℤ). pos 0) rs → changed ≡ changed_of rs after
        → DonePass s m f rs after (record { need = back64 need; changed = changed })
    done_clear y after changed e h = record { requests = e ∙ sym (goes ∙ cc); need = k.reported; changed = h }

    module _ (y : spent (charges s.mode) (length rs) f ≡ false) where
      pub done_band : all_in_band (length rs) (own_band s f) (own_need s m f rs) ≡ true → DonePass s m f rs rs (record { need = back64 need; changed = false })
      done_band z = record { requests = sym (goes ∙ cc); need = k.reported; changed = sym (no_change rs) }

      pub done_shares : all_in_band (length rs) (own_band s f) (own_need s m f rs) ≡ false → (t : Totals) → TotalsFor f (length rs) t → (after : List ℤ) (changed : Bool)
          → after ≡ each (shared_by charging s.factor w t.weight f) rs → changed ≡ changed_of rs after
          → DonePass s m f rs after (record { need = back64 need; changed = changed })
      done_shares z t et after changed e h = record { requests = e ∙ shared_is t et ∙ sym (goes ∙ cc); need = k.reported; changed = h }

-- what rule 6 asks for
pub sharing : (s : Settings) (m : ℤ) (f : Fleet) (n : ℕ) → Sound s m f n → (t : Totals) → TotalsFor f n t → (w : Wanted) → Linked w f → Sharing s.factor w t.weight f n
sharing s m f n sound t et w linked = record {
  linked = linked;
  factor_small = sound.factor_small;
  weights_small =
      let sum : total n f.weight ≤ n * 10000 = sum_upto n 10000 (λ (i : ℕ). get_or f.weight i 0) (λ i l. sound.weight_small i) in
      let few : n ≤ 64 = sound.few in
      omega (arith, et.weight);
  lengths = sound.lengths;
  few = sound.few;
  rating_small = sound.rating_small;
  weight_small = sound.weight_small;
}
