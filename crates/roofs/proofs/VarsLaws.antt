-- The vars last requested stay within their bounds, at first and after each step. Assumes nothing.
use mathlib.Core.Path.{◌≡◌, sym, ap, ◌∙◌, subst⁻¹}
use mathlib.Core.Bool.{Bool, true, false}
use mathlib.Core.List.{List}
use Prim.Native.Nat.{ℕ, ◌≤◌, ◌<◌}
use native.Mathlib.Omega.{arith}
use lib.IntN.{ℤ, pos, nat_abs}
use lib.ListN.{length, get_or, length-map, get_or-map}
use lib.Seq.{ext_get_or}
use Rattle.whole.specs.Over.{each}
use Rattle.whole.proofs.OverLaws.{each_at, each_length, part, part_all}
use Rattle.lead.specs.declared.Lead.{Lead}
use Rattle.lead.specs.Lead.{Modest}
use Rattle.solar.specs.declared.Sun.{Sun}
use Rattle.solar.specs.Roof.{Roof, roof_in}
use Rattle.solar.proofs.RoofLaws.{ranged}
use Rattle.guided.proofs.LitProved.{lit_law}
use Rattle.site.specs.Site.{no_roof, roof_of}
use Rattle.roofs.specs.Roofs.{own_vars, kept_vars, vars_after}
use Rattle.roofs.specs.Posts.{VarsHeld}

abbrev own_of : Roof → ℤ
own_of r = r.inverter.var_request

-- the own var request of each
pub own_at : (roofs : List Roof) (i : ℕ) → get_or (own_vars roofs) i (pos 0) ≡ own_of (roof_of roofs i)
unfolding own_vars
own_at roofs i = get_or-map own_of roofs i no_roof

pub own_length : (roofs : List Roof) → length (own_vars roofs) ≡ length roofs
unfolding own_vars
own_length roofs = length-map roofs own_of

module _ (roofs : List Roof) where
  -- what a loop replaces each by
  abbrev pub own : ℕ → ℤ → ℤ
  own i v = own_of (roof_of roofs i)

  pub all_own : (vs now : List ℤ) (i : ℕ) → now ≡ part own vs i → i ≡ length vs → length vs ≡ length roofs → now ≡ own_vars roofs
  all_own vs now i e l n =
      e ∙ ap (part own vs) l ∙ part_all own vs
      ∙ ext_get_or (pos 0) (each own vs) (own_vars roofs) (each_length own vs ∙ n ∙ sym (own_length roofs))
      (λ j h. each_at own vs j (pos 0) (let k = each_length own vs in omega arith) ∙ sym (own_at roofs j))

  -- roofs in their ranges
  module _ (n : ℕ) (in_range : (i : ℕ) → i < n → roof_in (roof_of roofs i) ≡ true) where
    pub own_held : length roofs ≡ n → VarsHeld n (own_vars roofs)
    own_held e = record {
      count = own_length roofs ∙ e;
      small = λ i h. subst⁻¹ (λ (v : ℤ). nat_abs v ≤ 100000000) (own_at roofs i) (ranged (roof_of roofs i) (in_range i h)).vars_most;
    }

    module _ (l : Lead) (modest : Modest l) (s : Sun) (on : List Bool) (vs : List ℤ) (held : VarsHeld n vs) where
      abbrev kept : ℕ → ℤ → ℤ
      kept i v = kept_vars roofs l s i (get_or on i false) v

      pub kept_small : (i : ℕ) → i < n → nat_abs (kept i (get_or vs i (pos 0))) ≤ 100000000
      unfolding kept_vars
      kept_small i h =
          (lit_law l (roof_of roofs i) (get_or vs i (pos 0)) (get_or on i false) s (in_range i h) (record { modest = modest; last_small = held.small i h })).kept_small

      pub after_held : VarsHeld n (vars_after roofs l s on vs)
      unfolding vars_after
      after_held = record {
        count = each_length kept vs ∙ held.count;
        small = λ i h.
            subst⁻¹ (λ (v : ℤ). nat_abs v ≤ 100000000) (each_at kept vs i (pos 0) (let c = held.count in omega arith)) (kept_small i h);
      }
