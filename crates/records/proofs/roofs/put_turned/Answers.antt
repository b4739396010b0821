-- Each number is laid right behind the ones before it, so that all of them are laid whole.
use native.Mathlib.Omega.{arith}
use Prim.Native.Nat.{ℕ, ◌+◌, ◌≤◌}
use lib.ListN.{length}
use mathlib.Core.Path.{ap, ◌∙◌}
use mathlib.Core.List.{◌++◌}
use mathlib.Core.Bool.{cond}
use Rattle.octets.specs.BigEndian.{bytes_of, laid}
use Rattle.octets.proofs.ByteLaws.{bytes_length}
use Rattle.records.specs.Records.{turned_part}
use Rattle.records.proofs.LayLaws.{behind, longer, flag_byte}
use Rattle.records.proofs.roofs.put_turned.Goals as goal

pub returns : goal.returns
unfolding turned_part
returns c =
    let s = c.args.room.now in
    let at = c.args.at in
    let h : at ≤ length s = omega arith in
    let a = bytes_of 1 18 in
    let b = a ++ bytes_of 2 26 in
    let d = b ++ bytes_of 4 c.args.step in
    let e = d ++ bytes_of 1 c.args.inverter in
    let t₁ = c.put_u8.new.s in
    let t₂ = c.put_u16.new.s in
    let t₃ = c.put_u32.new.s in
    let t₄ = c.put_u8-2.new.s in
    let t₅ = c.put_u8-3.new.s in
    let la = bytes_length 1 18 in
    let lb = longer a 1 2 26 la in
    let ld = longer b 3 4 c.args.step lb in
    let le = longer d 7 1 c.args.inverter ld in
    let two = behind s at h a (bytes_of 2 26) 1 la t₁ t₂ c.put_u8.ensures c.put_u16.ensures in
    let three = behind s at h b (bytes_of 4 c.args.step) 3 lb t₂ t₃ two c.put_u32.ensures in
    let four = behind s at h d (bytes_of 1 c.args.inverter) 7 ld t₃ t₄ three c.put_u8-2.ensures in
    let five = c.put_u8-3.ensures ∙ ap (λ (n : ℕ). laid t₄ (at + 8) (bytes_of 1 n)) (flag_byte c.args.on) in
    behind s at h e (bytes_of 1 (cond c.args.on 1 0)) 8 le t₄ t₅ four five
