-- Each number is laid right behind the ones before it, so that all of them are laid whole.
use mathlib.Core.Path.{ap, ◌∙◌}
use mathlib.Core.List.{◌++◌}
use Prim.Native.Nat.{◌+◌, ◌≤◌}
use native.Mathlib.Omega.{arith}
use lib.IntN.{ℤ}
use lib.Ieee.{Float, binary64, to_bits}
use lib.ListN.{length}
use mir.Syntax.{w32}
use mir.Val.{of_z}
use Rattle.whole.proofs.SignLaws.{read}
use Rattle.octets.specs.BigEndian.{bytes_of, laid}
use Rattle.octets.proofs.ByteLaws.{bytes_length}
use Rattle.reading.specs.Kilowatts.{kw_of}
use Rattle.records.specs.Records.{given_part}
use Rattle.records.proofs.LayLaws.{behind, longer}
use Rattle.records.proofs.records.put_given.Goals as goal
use Rattle.records.proofs.records.put_given.Goals.{After-put_f64, After-put_i32, After-put_u64, After-put_u64-2, Start}

pub returns : goal.returns
unfolding given_part
returns c =
    let s = c.args.room.now in
    let at = c.args.at in
    let h : at ≤ length s = omega arith in
    let o = c.args.o in
    let kw = to_bits binary64 (kw_of o.watts) in
    let a = bytes_of 8 kw in
    let b = a ++ bytes_of 4 (of_z w32 o.vars) in
    let d = b ++ bytes_of 8 o.stored in
    let t₁ = c.put_f64.new.s in
    let t₂ = c.put_i32.new.s in
    let t₃ = c.put_u64.new.s in
    let la = bytes_length 8 kw in
    let lb = longer a 8 4 (of_z w32 o.vars) la in
    let ld = longer b 12 8 o.stored lb in
    let told = c.struct_told-1 in
    let watts = c.kw.ensures ∙ ap kw_of (read w32 o.watts told.given.0.1) in
    let one = c.put_f64.ensures ∙ ap (λ (x : Float). laid s at (bytes_of 8 (to_bits binary64 x))) watts in
    let vars = c.put_i32.ensures ∙ ap (λ (z : ℤ). laid t₁ (at + 8) (bytes_of 4 (of_z w32 z))) (read w32 o.vars told.given.1.0.1) in
    let two = behind s at h a (bytes_of 4 (of_z w32 o.vars)) 8 la t₁ t₂ one vars in
    let three = behind s at h b (bytes_of 8 o.stored) 12 lb t₂ t₃ two c.put_u64.ensures in
    behind s at h d (bytes_of 8 o.loss) 20 ld t₃ c.put_u64-2.new.s three c.put_u64-2.ensures
