-- After the whole fields the bytes are a state without a tail, and the bytes behind them become its tail.
use native.Mathlib.Omega.{arith}
use Prim.Native.Nat.{ℕ, ◌-◌}
use mathlib.Core.Path.{◌≡◌, sym, ap, ◌∙◌, subst}
use mathlib.Core.List.{List}
use lib.ListN.{length, take, drop}
use lib.Seq.{slice}
use Rattle.octets.specs.BigEndian.{laid}
use Rattle.kept.specs.Kept.{Kept}
use Rattle.kept.specs.Layout.{state_in, kept_in, bytes_for}
use Rattle.taking.specs.Chunk.{with_tail, absorbed, results_by}
use Rattle.taking.specs.Posts.{Leads}
use Rattle.intake.proofs.RestLaws.{part_read, then_back, then_sized, then_laid, then_no_tail, then_near}
use Rattle.intake.proofs.feeding.take_rest.Goals as goal
use Rattle.intake.proofs.feeding.take_rest.Goals.{After-absorb, After-absorb-arg-3-1, After-keep_tail, Start}

abbrev first : After-absorb-arg-3-1 → Start
first c = c.before.before.before.before.before.before.before

-- the lent part
part : (s : Start) → let a = s.args in take (a.to - a.from) (drop a.from a.bytes.now) ≡ slice a.from a.to a.bytes.now
part s = part_read s.args.from s.args.to s.args.bytes.now s.requires.from_le_to

pub slice_bounds-absorb-count : goal.slice_bounds-absorb-count
slice_bounds-absorb-count c = c.requires.from_le_to

pub slice_bounds-absorb-start : goal.slice_bounds-absorb-start
slice_bounds-absorb-start c = c.requires.from_le_to

pub slice_bounds-absorb-end : goal.slice_bounds-absorb-end
slice_bounds-absorb-end c = c.requires.to_in_bounds

pub absorb-requires : goal.absorb-requires
absorb-requires c =
    let s = first c in
    let a = s.args in record { fact = s.requires.fact; leads = subst (λ (w : List ℕ). Leads (state_in a.s.now) w a.next) (sym (part s)) s.requires.leads; next_in_bounds = omega (arith, s.requires.next_in_bounds, ap (λ (w : List ℕ). length (results_by (kept_in a.s.now) w a.next)) (part s)) }

-- the state's bytes after the fields
taken : (c : After-absorb) → let a = (first (record { before = c.before.before; type_inv = record { bytes = c.shared_slice_known-1.given } })).args in c.absorb.new.s ≡ bytes_for (absorbed (kept_in a.s.now) (slice a.from a.to a.bytes.now) a.next)
taken c =
    let s = first (record { before = c.before.before; type_inv = record { bytes = c.shared_slice_known-1.given } }) in
    let a = s.args in
    c.absorb.ensures.s_after ∙ ap (λ (w : List ℕ). bytes_for (absorbed (kept_in a.s.now) w a.next)) (part s)

pub keep_tail-requires : goal.keep_tail-requires
keep_tail-requires c =
    let s = first (goal.at.keep_tail-requires c).After-absorb-arg-3-1 in
    let a = s.args in
    let w = slice a.from a.to a.bytes.now in
    let t = c.absorb.new.s in record { sized = then_sized a.s.now s.requires.fact w a.next s.requires.leads t (taken (goal.at.keep_tail-requires c).After-absorb); s_value = then_no_tail a.s.now s.requires.fact w a.next s.requires.leads t (taken (goal.at.keep_tail-requires c).After-absorb); s_value_2 = then_laid a.s.now s.requires.fact w a.next s.requires.leads t (taken (goal.at.keep_tail-requires c).After-absorb); from_in_bounds = s.requires.to_in_bounds; bytes_len_bound = s.requires.bytes_len_bound; bytes_bound = omega (arith, then_near a.s.now s.requires.fact w a.next s.requires.leads t (taken (goal.at.keep_tail-requires c).After-absorb), s.well_formed) }

pub shape_of-s : goal.shape_of-s
shape_of-s c = c.keep_tail.auto.s ∙ c.absorb.auto.s

pub shape_of-room : goal.shape_of-room
shape_of-room c = c.absorb.auto.room

pub returns : goal.returns
returns c =
    let s = first (goal.at.returns c).After-absorb-arg-3-1 in
    let a = s.args in
    let w = slice a.from a.to a.bytes.now in record {
      s_after = c.keep_tail.ensures
          ∙ ap (λ (k : Kept). bytes_for (with_tail k (drop a.to a.bytes.now))) (then_back a.s.now s.requires.fact w a.next s.requires.leads c.absorb.new.s (taken (goal.at.returns c).After-absorb));
      room_after = c.absorb.ensures.room_after ∙ ap (λ (w : List ℕ). laid a.room.now a.out (results_by (kept_in a.s.now) w a.next)) (part s);
    }
