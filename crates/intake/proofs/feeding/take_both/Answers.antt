-- The first field lies in the bytes put together, the others in the chunk; they are taken in one after the other.
use native.Mathlib.Nat.{sub-zero}
use native.Mathlib.Omega.{arith}
use Prim.Native.Nat.{ℕ, ◌+◌, ◌-◌, ◌≤◌, zero-le}
use mathlib.Core.Path.{◌≡◌, sym, ap, ◌∙◌, subst}
use mathlib.Core.List.{List}
use lib.ListN.{length, take, drop}
use lib.Seq.{slice}
use Rattle.octets.specs.BigEndian.{laid}
use Rattle.octets.proofs.LaidLaws.{laid_length}
use Rattle.parts.specs.Header.{past}
use Rattle.kept.specs.Layout.{state_in, kept_in, bytes_for}
use Rattle.taking.specs.Chunk.{with_tail, absorbed, results_by}
use Rattle.taking.specs.Posts.{Leads}
use Rattle.intake.proofs.RestLaws.{then_open}
use Rattle.intake.proofs.BothLaws.{both_long, others_lead, others_results, others_kept, both_laid}
use Rattle.intake.proofs.feeding.take_both.Goals as goal
use Rattle.intake.proofs.feeding.take_both.Goals.{After-absorb-out, After-take_rest, After-u16_at, Start}

abbrev first : After-u16_at → Start
first u = u.before.before.before.before.before.before

abbrev reads : After-absorb-out → After-u16_at
reads c = (record { before = c.before.before.before.before.before; type_inv = record { room = c.slice_known-2-1.given; chunk = c.shared_slice_known-2-1.given; joint = c.shared_slice_known-1.given; s = c.slice_known-1.given } })

-- the first field's bytes, and those of the others
abbrev one : Start → List ℕ
one s = take (past s.args.joint.now 0) s.args.joint.now

abbrev others : Start → List ℕ
others s = slice (past s.args.joint.now 0 - s.args.tail) (s.args.at - s.args.tail) s.args.chunk.now

size_is : (u : After-u16_at) → past (first u).args.joint.now 0 ≡ 3 + u.u16_at.result
size_is u = omega (arith, u.u16_at.ensures)

part : (u : After-u16_at) → take (3 + u.u16_at.result - 0) (first u).args.joint.now ≡ one (first u)
part u = ap (λ (k : ℕ). take k (first u).args.joint.now) (sub-zero (3 + u.u16_at.result) ∙ sym (size_is u))

others_are : (u : After-u16_at) → slice (3 + u.u16_at.result - (first u).args.tail) ((first u).args.at - (first u).args.tail) (first u).args.chunk.now ≡ others (first u)
others_are u = let a = (first u).args in ap (λ (k : ℕ). slice (k - a.tail) (a.at - a.tail) a.chunk.now) (sym (size_is u))

pub u16_at-requires : goal.u16_at-requires
u16_at-requires c = c.requires.in_bounds

pub slice_bounds-absorb-count : goal.slice_bounds-absorb-count
slice_bounds-absorb-count c = zero-le

pub slice_bounds-absorb-start : goal.slice_bounds-absorb-start
slice_bounds-absorb-start c = zero-le

pub absorb-out-requires : goal.absorb-out-requires
absorb-out-requires c =
    let s = first (goal.at.absorb-out-requires c).After-u16_at in
    let a = s.args in record { fact = s.requires.fact; leads = subst (λ (w : List ℕ). Leads (state_in a.s.now) w a.mid) (sym (part (goal.at.absorb-out-requires c).After-u16_at)) s.requires.leads; next_in_bounds = omega (arith, s.requires.next_in_bounds, both_long a.s.now s.requires.fact (one s) a.mid s.requires.leads (others s) a.next, ap (λ (w : List ℕ). length (results_by (kept_in a.s.now) w a.mid)) (part (goal.at.absorb-out-requires c).After-u16_at)) }

-- the state's bytes, the room and the place after the first field
taken : (c : After-absorb-out) → let s = first (reads c) in c.absorb-out.new.s ≡ bytes_for (absorbed (kept_in s.args.s.now) (one s) s.args.mid)
taken c =
    let s = first (reads c) in
    let a = s.args in
    c.absorb-out.ensures.s_after ∙ ap (λ (w : List ℕ). bytes_for (absorbed (kept_in a.s.now) w a.mid)) (part (reads c))

written : (c : After-absorb-out) → let s = first (reads c) in c.absorb-out.new.room ≡ laid s.args.room.now 0 (results_by (kept_in s.args.s.now) (one s) s.args.mid)
written c =
    let s = first (reads c) in
    let a = s.args in
    c.absorb-out.ensures.room_after ∙ ap (λ (w : List ℕ). laid a.room.now 0 (results_by (kept_in a.s.now) w a.mid)) (part (reads c))

place : (c : After-absorb-out) → let s = first (reads c) in c.absorb-out.result ≡ length (results_by (kept_in s.args.s.now) (one s) s.args.mid)
place c =
    let s = first (reads c) in
    let a = s.args in
    omega (arith, c.absorb-out.ensures.value, ap (λ (w : List ℕ). length (results_by (kept_in a.s.now) w a.mid)) (part (reads c)))

pub take_rest-requires : goal.take_rest-requires
take_rest-requires c =
    let u = reads (goal.at.take_rest-requires c).After-absorb-out in
    let s = first u in
    let a = s.args in
    let t = c.absorb-out.new.s in
    let k = kept_in a.s.now in
    let long : length c.absorb-out.new.room ≡ length a.room.now = ap length (written (goal.at.take_rest-requires c).After-absorb-out) ∙ laid_length a.room.now 0 (results_by k (one s) a.mid)
    (omega (arith, s.requires.next_in_bounds, both_long a.s.now s.requires.fact (one s) a.mid s.requires.leads (others s) a.next)) in
    let fit : c.absorb-out.result + length (results_by (kept_in t) (others s) a.next) ≤ length c.absorb-out.new.room =
    omega (arith, long, place (goal.at.take_rest-requires c).After-absorb-out, s.requires.next_in_bounds, both_long a.s.now s.requires.fact (one s) a.mid s.requires.leads (others s) a.next, ap length (others_results a.s.now s.requires.fact (one s) a.mid s.requires.leads (others s) a.next t (taken (goal.at.take_rest-requires c).After-absorb-out))) in record { fact = then_open a.s.now s.requires.fact (one s) a.mid s.requires.leads t (taken (goal.at.take_rest-requires c).After-absorb-out); from_le_to = omega (arith, size_is u, s.requires.tail_bound, s.requires.joint_bound); to_in_bounds = omega (arith, size_is u, s.requires.tail_bound, s.requires.joint_bound, s.requires.at_bound); bytes_len_bound = omega (arith, size_is u, s.requires.tail_bound, s.requires.joint_bound, s.requires.chunk_bound); leads = subst (λ (v : List ℕ). Leads (state_in t) v a.next) (sym (others_are u)) (others_lead a.s.now s.requires.fact (one s) a.mid s.requires.leads (others s) a.next t (taken (goal.at.take_rest-requires c).After-absorb-out) s.requires.leads_2); next_in_bounds = subst (λ (v : List ℕ). c.absorb-out.result + length (results_by (kept_in t) v a.next) ≤ length c.absorb-out.new.room) (sym (others_are u)) fit }

pub shape_of-s : goal.shape_of-s
shape_of-s c = c.take_rest.auto.s ∙ c.absorb-out.auto.s

pub shape_of-room : goal.shape_of-room
shape_of-room c = c.take_rest.auto.room ∙ c.absorb-out.auto.room

pub returns : goal.returns
returns c =
    let u = reads (goal.at.returns c).After-absorb-out in
    let s = first u in
    let a = s.args in
    let t = c.absorb-out.new.s in
    let rest = drop (a.at - a.tail) a.chunk.now in record {
      s_after = c.take_rest.ensures.s_after
          ∙ ap (λ (v : List ℕ). bytes_for (with_tail (absorbed (kept_in t) v a.next) rest)) (others_are u)
          ∙ others_kept a.s.now s.requires.fact (one s) a.mid s.requires.leads (others s) a.next t (taken (goal.at.returns c).After-absorb-out) rest;
      room_after = both_laid a.s.now s.requires.fact (one s) a.mid s.requires.leads (others s) a.next t (taken (goal.at.returns c).After-absorb-out) a.room.now c.absorb-out.new.room c.take_rest.new.room c.absorb-out.result (place (goal.at.returns c).After-absorb-out) (written (goal.at.returns c).After-absorb-out)
          (c.take_rest.ensures.room_after ∙ ap (λ (v : List ℕ). laid c.absorb-out.new.room c.absorb-out.result (results_by (kept_in t) v a.next)) (others_are u));
    }
