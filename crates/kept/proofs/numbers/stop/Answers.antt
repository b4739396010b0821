-- Number, place and steps are laid behind one another, and 0 behind them up to the end: nothing else is left of the bytes.
use lib.Dec.{lit≤}
use native.Mathlib.Omega.{arith}
use Prim.Native.Nat.{ℕ, ◌≤◌}
use mathlib.Core.Path.{◌≡◌, sym, ◌∙◌}
use mathlib.Core.List.{◌++◌}
use lib.ListN.{length, replicate, length-replicate}
use Rattle.octets.specs.BigEndian.{bytes_of}
use Rattle.octets.proofs.ByteLaws.{bytes_length}
use Rattle.records.proofs.LayLaws.{behind, both, longer}
use Rattle.kept.specs.Layout.{state_size, rest_size, stopped_bytes}
use Rattle.kept.proofs.NumberLaws.{inside}
use Rattle.kept.proofs.PieceLaws.{laid_whole}
use Rattle.kept.proofs.numbers.stop.Goals as goal
use Rattle.kept.proofs.numbers.stop.Goals.{After-put_u32, After-put_u64, After-put_u8, After-zero, Start}

-- the bytes are as long after each number
one : (c : After-put_u8) → length c.put_u8.new.s ≡ state_size
one c = c.put_u8.auto.s ∙ c.requires

two : (c : After-put_u64) → length c.put_u64.new.s ≡ state_size
two c = c.put_u64.auto.s ∙ one c.before.before.before.before

three : (c : After-put_u32) → length c.put_u32.new.s ≡ state_size
three c = c.put_u32.auto.s ∙ two c.before.before.before.before

pub put_u8-requires : goal.put_u8-requires
put_u8-requires c = inside 1 (length c.args.s.now) c.requires tt

pub put_u64-requires : goal.put_u64-requires
put_u64-requires c = inside 9 (length c.put_u8.new.s) (one (goal.at.put_u64-requires c).After-put_u8) tt

pub put_u32-requires : goal.put_u32-requires
put_u32-requires c = inside 13 (length c.put_u64.new.s) (two (goal.at.put_u32-requires c).After-put_u64) tt

pub zero-requires : goal.zero-requires
zero-requires c = record { from_le_to = lit≤ tt; to_in_bounds = inside state_size (length c.put_u32.new.s) (three (goal.at.zero-requires c).After-put_u32) tt }

pub shape_of-s : goal.shape_of-s
shape_of-s c = c.zero.auto.s ∙ three (goal.at.shape_of-s c).After-put_u32 ∙ sym c.requires

pub returns : goal.returns
unfolding stopped_bytes
returns c =
    let s = c.args.s.now in
    let h : 0 ≤ length s = omega arith in
    let number = c.args.number in
    let place = c.args.place in
    let steps = c.args.steps in
    let a = bytes_of 1 number in
    let b = a ++ bytes_of 8 place in
    let d = b ++ bytes_of 4 steps in
    let t₁ = c.put_u8.new.s in
    let t₂ = c.put_u64.new.s in
    let t₃ = c.put_u32.new.s in
    let la = bytes_length 1 number in
    let lb = longer a 1 8 place la in
    let ld = longer b 9 4 steps lb in
    let first_two = behind s 0 h a (bytes_of 8 place) 1 la t₁ t₂ c.put_u8.ensures c.put_u64.ensures in
    let first_three = behind s 0 h b (bytes_of 4 steps) 9 lb t₂ t₃ first_two c.put_u32.ensures in
    let four = behind s 0 h d (replicate rest_size 0) 13 ld t₃ c.zero.new.s first_three c.zero.ensures in
    let l : length (d ++ replicate rest_size 0) ≡ length s = omega (arith, both d (replicate rest_size 0) 13 rest_size ld (length-replicate {A = ℕ} rest_size 0), c.requires) in
    four ∙ laid_whole s (d ++ replicate rest_size 0) l
