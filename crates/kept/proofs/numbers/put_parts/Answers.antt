-- Each number is laid right behind the ones before it, so that all of them are laid whole.
use Prim.Native.Nat.{ℕ, ◌≤◌}
use mathlib.Core.Path.{◌≡◌, sym, ap, ◌∙◌}
use mathlib.Core.List.{◌++◌}
use lib.IntN.{ℤ}
use lib.ListN.{length}
use mir.Syntax.{w32}
use mir.Val.{of_z}
use Rattle.whole.proofs.SignLaws.{read}
use Rattle.octets.specs.BigEndian.{bytes_of, laid}
use Rattle.octets.proofs.ByteLaws.{bytes_length}
use Rattle.records.proofs.LayLaws.{behind, longer}
use Rattle.kept.specs.Layout.{state_size, volts_of, parts_of}
use Rattle.kept.proofs.NumberLaws.{inside}
use Rattle.kept.proofs.numbers.put_parts.Goals as goal
use Rattle.kept.proofs.numbers.put_parts.Goals.{After-put_i32, After-put_u16, After-put_u16-2, After-put_u32, After-put_u8, After-volts, Start}

-- the bytes are as long after each number
one : (c : After-put_u16) → length c.put_u16.new.s ≡ state_size
one c = c.put_u16.auto.s ∙ c.requires.s_len

two : (c : After-put_u8) → length c.put_u8.new.s ≡ state_size
two c = c.put_u8.auto.s ∙ one c.before.before.before.before.before

three : (c : After-put_u32) → length c.put_u32.new.s ≡ state_size
three c = c.put_u32.auto.s ∙ two c.before.before.before.before.before

four : (c : After-put_i32) → length c.put_i32.new.s ≡ state_size
four c = c.put_i32.auto.s ∙ three c.before.before.before.before.before.before

pub put_u16-requires : goal.put_u16-requires
put_u16-requires c = inside 16 (length c.args.s.now) c.requires.s_len tt

pub put_u8-requires : goal.put_u8-requires
put_u8-requires c = inside 17 (length c.put_u16.new.s) (one (goal.at.put_u8-requires c).After-put_u16) tt

pub put_u32-requires : goal.put_u32-requires
put_u32-requires c = inside 21 (length c.put_u8.new.s) (two (goal.at.put_u32-requires c).After-put_u8) tt

pub put_i32-requires : goal.put_i32-requires
put_i32-requires c = inside 25 (length c.put_u32.new.s) (three (goal.at.put_i32-requires c).After-put_u32) tt

pub volts-requires : goal.volts-requires
volts-requires c = tt

pub put_u16-requires-2 : goal.put_u16-requires-2
put_u16-requires-2 c = inside 27 (length c.put_i32.new.s) (four (goal.at.put_u16-requires-2 c).After-put_i32) tt

pub shape_of-s : goal.shape_of-s
shape_of-s c = c.put_u16-2.auto.s ∙ four (goal.at.shape_of-s c).After-put_i32 ∙ sym c.requires.s_len

pub returns : goal.returns
unfolding parts_of
returns c =
    let s = c.args.s.now in
    let h : 14 ≤ length s = inside 14 (length s) c.requires.s_len tt in
    let m = c.args.m in
    let sun = m.due.sun in
    let a = bytes_of 2 m.site in
    let b = a ++ bytes_of 1 m.tail in
    let d = b ++ bytes_of 4 sun.irradiance in
    let e = d ++ bytes_of 4 (of_z w32 sun.temperature) in
    let t₁ = c.put_u16.new.s in
    let t₂ = c.put_u8.new.s in
    let t₃ = c.put_u32.new.s in
    let t₄ = c.put_i32.new.s in
    let la = bytes_length 2 m.site in
    let lb = longer a 2 1 m.tail la in
    let ld = longer b 3 4 sun.irradiance lb in
    let le = longer d 7 4 (of_z w32 sun.temperature) ld in
    let told = c.struct_told-1.given in
    let warm = c.put_i32.ensures ∙ ap (λ (z : ℤ). laid t₃ 21 (bytes_of 4 (of_z w32 z))) (read w32 sun.temperature told.0.1.1.1.0.1) in
    let last = c.put_u16-2.ensures ∙ ap (λ (n : ℕ). laid t₄ 25 (bytes_of 2 n)) c.volts.ensures in
    let first_two = behind s 14 h a (bytes_of 1 m.tail) 2 la t₁ t₂ c.put_u16.ensures c.put_u8.ensures in
    let first_three = behind s 14 h b (bytes_of 4 sun.irradiance) 3 lb t₂ t₃ first_two c.put_u32.ensures in
    let first-four = behind s 14 h d (bytes_of 4 (of_z w32 sun.temperature)) 7 ld t₃ t₄ first_three warm in
    behind s 14 h e (bytes_of 2 (volts_of m.due.voltage)) 11 le t₄ c.put_u16-2.new.s first-four last
