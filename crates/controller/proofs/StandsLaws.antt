-- A pass keeps the number of requests, with no premise at all. Assumes nothing.
use mathlib.Core.Path.{◌≡◌, refl}
use mathlib.Core.Bool.{Bool, true, false, cond}
use mathlib.Core.List.{List}
use Prim.Native.Nat.{ℕ}
use lib.IntN.{ℤ, pos}
use lib.ListN.{length}
use Rattle.whole.specs.Over.{each}
use Rattle.whole.proofs.OverLaws.{each_length}
use Rattle.rules.specs.declared.Settings.{Settings}
use Rattle.members.specs.Ranges.{Fleet}
use Rattle.rules.specs.Rules.{charges}
use Rattle.controller.specs.Pass.{own_need, own_band, rests, spent, all_in_band, request_after, pass_by, pass_of}

kept_length : (a b c : Bool) (rs x y : List ℤ) → length x ≡ length rs → length y ≡ length rs → length (cond a rs (cond b x (cond c rs y))) ≡ length rs
kept_length true b c rs x y p q = refl
kept_length false true c rs x y p q = p
kept_length false false true rs x y p q = refl
kept_length false false false rs x y p q = q

pub pass_length : (s : Settings) (m : ℤ) (f : Fleet) (rs : List ℤ) → length (pass_of s m f rs) ≡ length rs
unfolding pass_of pass_by
pass_length s m f rs =
    let needs : ℕ → ℤ = own_need s m f rs in
    let none : ℕ → ℤ → ℤ = λ i r. pos 0 in
    kept_length (rests s needs rs) (spent (charges s.mode) (length rs) f) (all_in_band (length rs) (own_band s f) needs) rs (each none rs) (each (request_after s (length rs) f needs) rs)
    (each_length none rs)
    (each_length (request_after s (length rs) f needs) rs)
