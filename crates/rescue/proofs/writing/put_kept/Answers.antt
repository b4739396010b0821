-- What is kept and lost from a group on comes right behind what the groups before it kept and lost, and there is room for it, since it is among all that is.
use Rattle.std.proofs.Common.{◌≡◌, ℕ, ◌+◌, ◌*◌, ◌≤◌, true, cond, length, ◌∙◌, arith}
use borrow.Author.Tests.{eq-eqb, ne_eqb}
use Rattle.octets.specs.BigEndian.{laid}
use Rattle.rescue.specs.Saved.{ends_at, save_from, saved_of}
use Rattle.rescue.specs.Posts.{part_bytes, part_lost}
use Rattle.rescue.proofs.WalkLaws.{kept_by, over_there, ended_there}
use Rattle.rescue.proofs.ListLaws.{lost_bytes}
use Rattle.rescue.proofs.PutLaws.{written_none, written_more, out_long, list_long, all_kept, all_lost, kept_within, part_room, line_room, line_more, line_same, line_after, line_here}
use Rattle.rescue.proofs.writing.put_kept.Goals as goal
use Rattle.rescue.proofs.writing.put_kept.Goals.{else-g, then-g, At-loop-at, In-Ok, Joined-g}

-- at the loop's head the rooms are as long as they came
long : (l : At-loop-at) → length l.loop-at.out ≡ length l.args.out.now
long l = out_long l.requires.file_in_bounds l.requires.file_in_bounds_2 l.loop-at.invariant

long_list : (l : At-loop-at) → length l.loop-at.list ≡ length l.args.list.now
long_list l = list_long l.requires.file_in_bounds l.requires.file_in_bounds_2 l.loop-at.invariant

-- where the walk ends there, all is laid
all_laid : (l : At-loop-at) (n : ℕ) → let file = l.args.file.now in
    save_from (length file) l.loop-at.st file l.loop-at.at ≡ ends_at n l.loop-at.at l.loop-at.st
    → (l.loop-at.out ≡ laid l.args.out.now 0 (saved_of file).kept) × (l.loop-at.list ≡ laid l.args.list.now 0 (lost_bytes (saved_of file).missing))
all_laid l n e =
    let a = l.requires.file_in_bounds in
    let b = l.requires.file_in_bounds_2 in
    (all_kept a b l.loop-at.invariant n e, all_lost a b l.loop-at.invariant n e)

-- the walk goes on over a group: there is room for what is kept of it and for its change
room_part : (e : In-Ok) → e.loop-at.to + length (part_bytes e.args.file.now e.loop-at.at e.in-Ok.g) ≤ length e.loop-at.out
room_part e = part_room e.requires.file_in_bounds e.requires.file_in_bounds_2 e.loop-at.invariant e.in-Ok.ensures

room_kept : (e : In-Ok) → e.loop-at.to + kept_by e.in-Ok.g.lost e.in-Ok.g.size ≤ e.loop-at.at + e.in-Ok.g.size
room_kept e = kept_within e.requires.file_in_bounds e.requires.file_in_bounds_2 e.loop-at.invariant e.in-Ok.ensures

room_line : (e : In-Ok) → e.in-Ok.g.lost ≡ true → e.loop-at.line + 17 ≤ length e.loop-at.list
room_line e t = line_room e.requires.file_in_bounds e.requires.file_in_bounds_2 e.loop-at.invariant e.in-Ok.ensures t

-- the list and the line behind a group, by whether it loses a reading
listed : (j : Joined-g) →
    (j.if-g.list ≡ laid j.loop-at.list j.loop-at.line (lost_bytes (part_lost j.loop-at.at j.in-Ok.g)))
    × (j.if-g.line ≡ j.loop-at.line + 17 * cond j.in-Ok.g.lost 1 0)
listed j =
    let g = j.in-Ok.g in
    let l = j.loop-at in
    let h = j.in-Ok.ensures in
    let a = j.requires.file_in_bounds in
    let b = j.requires.file_in_bounds_2 in
    elim j.if-g.branch [
      | then-g w ↦ (
        line_more a b l.invariant h w.if-g.true j.if-g.list (w.list-is ∙ w.put_change.ensures),
        line_after g.lost l.line j.if-g.line w.if-g.true w.line-is,
      )
      | else-g w ↦ (
        line_same a b l.invariant h w.if-g.false j.if-g.list w.list-is,
        line_here g.lost l.line j.if-g.line w.if-g.false w.line-is,
      )
    ]

pub loop-at-init : goal.loop-at-init
loop-at-init c = rw c.first-st.ensures (written_none c.requires.file_in_bounds c.requires.file_in_bounds_2)

pub shape_of-out-then-st-eq-AT_END : goal.shape_of-out-then-st-eq-AT_END
shape_of-out-then-st-eq-AT_END c = long (goal.at.shape_of-out-then-st-eq-AT_END c).At-loop-at

pub shape_of-list-then-st-eq-AT_END : goal.shape_of-list-then-st-eq-AT_END
shape_of-list-then-st-eq-AT_END c = long_list (goal.at.shape_of-list-then-st-eq-AT_END c).At-loop-at

pub returns-then-st-eq-AT_END : goal.returns-then-st-eq-AT_END
returns-then-st-eq-AT_END c =
    let l = (goal.at.returns-then-st-eq-AT_END c).At-loop-at in
    let parts = all_laid l 9 (ended_there c.args.file.now c.loop-at.st c.loop-at.at c.loop-at.to c.loop-at.invariant.missing c.loop-at.invariant.sofar (omega arith) (eq-eqb c.loop-at.st.stage 0 c.if-st-eq-AT_END.true)) in
    record { out_after = parts.0; list_after = parts.1 }

pub next-requires : goal.next-requires
next-requires c = record { at_in_bounds = omega arith; stage_value = ne_eqb c.loop-at.st.stage 0 c.if-st-eq-AT_END.false }

pub returns-in_default : goal.returns-in_default
returns-in_default c =
    let l = (goal.at.returns-in_default c).At-loop-at in
    let parts = all_laid l c.in_default.field-0 c.in_default.ensures.stops in
    record { out_after = parts.0; list_after = parts.1 }

pub put_part-requires : goal.put_part-requires
put_part-requires c = record { size_in_bounds = c.in-Ok.ensures.within; le_size = c.in-Ok.ensures.reading; g_in_bounds = room_part (goal.at.put_part-requires c).In-Ok }

pub overflow_add-at : goal.overflow_add-at
overflow_add-at c = omega (arith, c.in-Ok.ensures.within, c.well_formed)

pub overflow_sub-at : goal.overflow_sub-at
overflow_sub-at c = omega (arith, c.in-Ok.ensures.reading c.if-g.true)

pub put_change-requires : goal.put_change-requires
put_change-requires c = room_line (goal.at.put_change-requires c).In-Ok c.if-g.true

pub overflow_add-line : goal.overflow_add-line
overflow_add-line c =
    omega (arith, room_line (goal.at.overflow_add-line c).In-Ok c.if-g.true, long_list (goal.at.overflow_add-line c).At-loop-at, c.well_formed)

pub overflow_add-at-in-loop-at : goal.overflow_add-at-in-loop-at
overflow_add-at-in-loop-at c = omega (arith, c.in-Ok.ensures.within, c.well_formed)

pub kept_of-to-requires : goal.kept_of-to-requires
kept_of-to-requires c = c.in-Ok.ensures.reading

pub overflow_add-to : goal.overflow_add-to
overflow_add-to c = omega (arith, c.in-Ok.ensures.within, c.well_formed, room_kept (goal.at.overflow_add-to c).In-Ok, c.kept_of-to.ensures)

pub loop-at-smaller : goal.loop-at-smaller
loop-at-smaller c = omega (arith, c.in-Ok.ensures.within, c.in-Ok.ensures.more)

pub loop-at-preserved : goal.loop-at-preserved
loop-at-preserved c =
    let parts = listed (goal.at.loop-at-preserved c).Joined-g in
    written_more c.requires.file_in_bounds c.requires.file_in_bounds_2 c.loop-at.invariant c.in-Ok.ensures c.put_part.new.out
    c.if-g.list c.kept_of-to.result c.if-g.line c.put_part.ensures parts.0 c.kept_of-to.ensures parts.1

pub shape_of-out : goal.shape_of-out
shape_of-out c = long (goal.at.shape_of-out c).At-loop-at

pub shape_of-list : goal.shape_of-list
shape_of-list c = long_list (goal.at.shape_of-list c).At-loop-at

pub returns : goal.returns
returns c =
    let l = (goal.at.returns c).At-loop-at in
    let parts = all_laid l 0 (over_there c.args.file.now c.loop-at.st c.loop-at.at c.loop-at.to c.loop-at.invariant.missing c.loop-at.invariant.sofar (omega arith)) in
    record { out_after = parts.0; list_after = parts.1 }
