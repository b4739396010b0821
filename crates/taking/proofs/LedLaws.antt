-- Whole fields that lead from a state to another: as fields gone over one by one, none, and some and then others. Assumes nothing.
use mathlib.Core.Path.{◌≡◌, refl, sym, ap, ◌∙◌, subst}
use mathlib.Core.List.{List, [], ◌++◌}
use Prim.Native.Nat.{ℕ, ◌≤◌}
use native.Mathlib.Omega.{arith}
use lib.ListN.{length, take, drop, length-append}
use lib.Seq.{length-take-le, drop-length}
use Rattle.fields.specs.declared.State.{State}
use Rattle.stick.specs.declared.Reached.{Reached}
use Rattle.stick.specs.Check.{reached, reach_of}
use Rattle.chunks.specs.Holds.{moved}
use Rattle.chunks.proofs.ReachChunks.{reach_over, Went, went_reach, went_take, far, far_gone, far_upto, reach_take, reach_append}
use Rattle.taking.specs.Posts.{Leads}

module _ {st next : State} {w : List ℕ} where
  pub led : Leads st w next → Went w next (length w) st 0
  led l = subst (λ (r : Reached). Went w r.state r.at st 0) l.leads (far_gone w st 0 (omega arith)).went

  pub leads_so : Went w next (length w) st 0 → Leads st w next
  leads_so t = record { leads = went_reach w t (length w) 0 (omega arith) (omega arith) ∙ reach_over w 0 next (length w) (omega arith) }

pub leads_none : (st : State) → Leads st [] st
unfolding reach_of
leads_none st = record { leads = refl }

-- the bytes that the fields go over, whatever follows
pub leads_far : (bytes : List ℕ) (st : State) → Leads st (take (reach_of (length bytes) st bytes 0).at bytes) (reach_of (length bytes) st bytes 0).state
leads_far bytes st =
    let first : 0 ≤ length bytes = omega arith in
    let r = far bytes st 0 first in
    let long : length (take r.at bytes) ≡ r.at = length-take-le r.at bytes (far_upto bytes st 0 first) in
    record { leads = reach_take bytes st 0 first ∙ ap (λ (n : ℕ). reached 0 n r.state) (sym long) }

-- the bytes up to a place that the fields come to
pub leads_upto : {w : List ℕ} {st m : State} {n : ℕ} → Went w m n st 0 → n ≤ length w → Leads st (take n w) m
leads_upto {w} {st} {m} {n} t h =
    let long : length (take n w) ≡ n = length-take-le n w h in
    leads_so (subst (λ (k : ℕ). Went (take n w) m k st 0) (sym long) (went_take w t h))

-- some, and then others
pub leads_append : {st m next : State} (a b : List ℕ) → Leads st a m → Leads m b next → Leads st (a ++ b) next
leads_append {st} {m} {next} a b p q =
    let on : Reached → Reached = λ r. moved r.at (reach_of (length (drop r.at a ++ b)) r.state (drop r.at a ++ b) 0) in
    record {
      leads =
          reach_append a st 0 (omega arith) b
          ∙ ap on p.leads
          ∙ ap (λ (l : List ℕ). moved (length a) (reach_of (length (l ++ b)) m (l ++ b) 0)) (drop-length a)
          ∙ ap (moved (length a)) q.leads
          ∙ ap (λ (n : ℕ). reached 0 n next) (sym (length-append a b));
    }
