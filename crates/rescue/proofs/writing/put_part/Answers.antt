-- A group that loses no reading is copied whole; of another the bytes before the reading are, and a missing reading is laid right behind them.
use borrow.Author.Tests.{not-true, not-false}
use native.Mathlib.Omega.{arith}
use mathlib.Core.Path.{◌≡◌, ap}
use mathlib.Core.Bool.{Bool, true, false}
use Prim.Native.Nat.{◌+◌, ◌-◌, ◌≤◌}
use lib.ListN.{length}
use Rattle.rescue.proofs.WalkLaws.{kept_by, part_length}
use Rattle.rescue.proofs.PutLaws.{whole_part, mended_part}
use Rattle.rescue.proofs.writing.put_part.Goals as goal
use Rattle.rescue.proofs.writing.put_part.Goals.{After-copy, After-copy-2, After-put_u16, After-put_u8, Else-not-g, Start, Then-not-g}

-- the room, by how many bytes are kept
room : (c : Start) → c.args.to + kept_by c.args.g.lost c.args.g.size ≤ length c.args.out.now
room c =
    omega (arith, c.requires.g_in_bounds, part_length c.args.file.now c.args.at c.args.g c.requires.size_in_bounds c.requires.le_size)

whole : (c : Then-not-g) → c.args.g.lost ≡ false
whole c = not-true c.args.g.lost c.if-not-g.true

room_whole : (c : Then-not-g) → c.args.to + c.args.g.size ≤ length c.args.out.now
room_whole c =
    let g = c.args.g in
    omega (arith, room c.before.before.before.before.before, ap (λ (b : Bool). kept_by b g.size) (whole c))

lost : (c : Else-not-g) → c.args.g.lost ≡ true
lost c = not-false c.args.g.lost c.if-not-g.false

reading : (c : Else-not-g) → 27 ≤ c.args.g.size
reading c = c.requires.le_size (lost c)

room_lost : (c : Else-not-g) → c.args.to + (c.args.g.size - 27 + 3) ≤ length c.args.out.now
room_lost c =
    let g = c.args.g in
    omega (arith, room c.before.before.before.before.before, ap (λ (b : Bool). kept_by b g.size) (lost c))

pub copy-requires : goal.copy-requires
copy-requires c = record { from_le_to = omega arith; to_in_bounds = c.requires.size_in_bounds; from_in_bounds = omega (arith, room_whole (goal.at.copy-requires c).Then-not-g) }

pub returns-then-not-g : goal.returns-then-not-g
returns-then-not-g c =
    let a = c.args in
    whole_part a.out.now a.to a.file.now a.at a.g (whole (goal.at.returns-then-not-g c).Then-not-g) c.copy.new.s c.copy.ensures

pub overflow_sub-n : goal.overflow_sub-n
overflow_sub-n c = omega (arith, reading (goal.at.overflow_sub-n c).Else-not-g)

pub copy-requires-2 : goal.copy-requires-2
copy-requires-2 c = record { from_le_to = omega arith; to_in_bounds = omega (arith, c.requires.size_in_bounds); from_in_bounds = omega (arith, room_lost (goal.at.copy-requires-2 c).Else-not-g) }

pub put_u8-requires : goal.put_u8-requires
put_u8-requires c =
    omega (arith, room_lost (goal.at.put_u8-requires c).Else-not-g, reading (goal.at.put_u8-requires c).Else-not-g)

pub put_u16-requires : goal.put_u16-requires
put_u16-requires c =
    omega (arith, room_lost (goal.at.put_u16-requires c).Else-not-g, reading (goal.at.put_u16-requires c).Else-not-g)

pub returns : goal.returns
returns c =
    let a = c.args in
    mended_part a.out.now a.to a.file.now a.at a.g (lost (goal.at.returns c).Else-not-g) (reading (goal.at.returns c).Else-not-g) c.requires.size_in_bounds (omega (arith, room_lost (goal.at.returns c).Else-not-g))
    c.copy-2.new.s c.put_u8.new.s c.put_u16.new.s c.copy-2.ensures c.put_u8.ensures c.put_u16.ensures
