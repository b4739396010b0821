-- Each number is laid right behind the ones before it, so that all of them are laid whole.
use native.Mathlib.Omega.{arith}
use Prim.Native.Nat.{◌≤◌}
use mathlib.Core.List.{◌++◌}
use lib.ListN.{length}
use Rattle.octets.specs.BigEndian.{bytes_of}
use Rattle.octets.proofs.ByteLaws.{bytes_length}
use Rattle.records.proofs.LayLaws.{behind, longer}
use Rattle.kept.specs.Layout.{state_size, progress_of}
use Rattle.kept.proofs.NumberLaws.{inside}
use mathlib.Core.Path.{◌≡◌, sym, ◌∙◌}
use Rattle.kept.proofs.numbers.put_progress.Goals as goal
use Rattle.kept.proofs.numbers.put_progress.Goals.{After-put_u32, After-put_u64, After-put_u8, After-put_u8-2, Start}

-- the bytes are as long after each number
one : (c : After-put_u8) → length c.put_u8.new.s ≡ state_size
one c = c.put_u8.auto.s ∙ c.requires

two : (c : After-put_u64) → length c.put_u64.new.s ≡ state_size
two c = c.put_u64.auto.s ∙ one c.before.before.before.before

three : (c : After-put_u32) → length c.put_u32.new.s ≡ state_size
three c = c.put_u32.auto.s ∙ two c.before.before.before.before

pub put_u8-requires : goal.put_u8-requires
put_u8-requires c = inside 1 (length c.args.s.now) c.requires tt

pub put_u64-requires : goal.put_u64-requires
put_u64-requires c = inside 9 (length c.put_u8.new.s) (one (goal.at.put_u64-requires c).After-put_u8) tt

pub put_u32-requires : goal.put_u32-requires
put_u32-requires c = inside 13 (length c.put_u64.new.s) (two (goal.at.put_u32-requires c).After-put_u64) tt

pub put_u8-requires-2 : goal.put_u8-requires-2
put_u8-requires-2 c = inside 14 (length c.put_u32.new.s) (three (goal.at.put_u8-requires-2 c).After-put_u32) tt

pub shape_of-s : goal.shape_of-s
shape_of-s c = c.put_u8-2.auto.s ∙ three (goal.at.shape_of-s c).After-put_u32 ∙ sym c.requires

pub returns : goal.returns
unfolding progress_of
returns c =
    let s = c.args.s.now in
    let h : 0 ≤ length s = omega arith in
    let m = c.args.m in
    let a = bytes_of 1 0 in
    let b = a ++ bytes_of 8 m.place in
    let d = b ++ bytes_of 4 m.state.steps in
    let t₁ = c.put_u8.new.s in
    let t₂ = c.put_u64.new.s in
    let t₃ = c.put_u32.new.s in
    let la = bytes_length 1 0 in
    let lb = longer a 1 8 m.place la in
    let ld = longer b 9 4 m.state.steps lb in
    let first_two = behind s 0 h a (bytes_of 8 m.place) 1 la t₁ t₂ c.put_u8.ensures c.put_u64.ensures in
    let first_three = behind s 0 h b (bytes_of 4 m.state.steps) 9 lb t₂ t₃ first_two c.put_u32.ensures in
    behind s 0 h d (bytes_of 1 m.state.stage) 13 ld t₃ c.put_u8-2.new.s first_three c.put_u8-2.ensures
