-- The fields before the steps, one by one: from each on, they end where they end from the first. Assumes nothing.
use mathlib.Core.Path.{◌≡◌, refl, sym, ap, ◌∙◌, subst}
use mathlib.Core.Bool.{Bool, true, false, cond}
use mathlib.Core.List.{List}
use Prim.Native.Nat.{ℕ, ◌+◌, ◌≤◌, ◌<◌}
use native.Mathlib.Omega.{arith}
use lib.ListN.{length}
use Rattle.parts.specs.Header.{tag_at, past}
use Rattle.fields.specs.declared.State.{State}
use Rattle.stick.specs.Site.{of_steps, head_from}
use Rattle.chunks.proofs.ReachChunks.{Went, there, passing}
use Rattle.chunks.proofs.HeadChunks.{head_from_over, head_from_field}
use Rattle.taking.specs.Chunk.{head_in}
use Rattle.taking.proofs.LedLaws.{led}
use Rattle.intake.specs.Posts.{Walked}

module _ (bytes : List ℕ) where
  pub record Heading (at : ℕ) : Type 0 where
    pub state : State
    pub last : State
    pub went : Went bytes last (length bytes) state at
    pub same : head_from (length bytes) bytes at ≡ head_in bytes

  pub heads_out : Walked bytes → Heading 0
  heads_out w = record { state = w.since; last = w.upto; went = led w.leads; same = refl }

  -- at the end of the bytes
  pub heads_to_end : (at : ℕ) → Heading at → length bytes ≤ at → at ≡ head_in bytes
  heads_to_end at h l = sym (head_from_over bytes (length bytes) at l) ∙ h.same

  -- at a field of a step
  pub heads_stop : (at : ℕ) → Heading at → at < length bytes → of_steps (tag_at bytes at) ≡ true → at ≡ head_in bytes
  heads_stop at h l e =
      sym (head_from_field bytes at l ∙ ap (λ (b : Bool). cond b at (head_from (length bytes) bytes (past bytes at))) e) ∙ h.same

  -- a field is whole, and another follows it or the bytes end
  go : (at : ℕ) (state last : State) → Went bytes last (length bytes) state at → at < length bytes → (past bytes at ≤ length bytes) × ((m : State) × Went bytes last (length bytes) m (past bytes at))
  go at state last (there e f) l = absurd (omega arith)
  go at state last (passing m h e f w more) l = (w, (m, more))

  pub heads_within : (at : ℕ) → Heading at → at < length bytes → past bytes at ≤ length bytes
  heads_within at h l = (go at h.state h.last h.went l).0

  pub heads_on : (at : ℕ) → Heading at → at < length bytes → of_steps (tag_at bytes at) ≡ false → Heading (past bytes at)
  heads_on at h l e =
      let g = go at h.state h.last h.went l in
      record {
        state = g.1.0;
        last = h.last;
        went = g.1.1;
        same = sym (head_from_field bytes at l ∙ ap (λ (b : Bool). cond b at (head_from (length bytes) bytes (past bytes at))) e) ∙ h.same;
      }
