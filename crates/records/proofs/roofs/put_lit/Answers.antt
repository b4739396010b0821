-- Each number is laid right behind the ones before it, so that all of them are laid whole.
use mathlib.Core.Path.{ap, ◌∙◌}
use mathlib.Core.List.{◌++◌}
use Prim.Native.Nat.{◌+◌, ◌≤◌}
use native.Mathlib.Omega.{arith}
use lib.IntN.{ℤ}
use lib.Ieee.{Float, binary64, to_bits}
use lib.ListN.{length}
use mir.Syntax.{w32}
use mir.Val.{of_z}
use Rattle.whole.proofs.SignLaws.{read}
use Rattle.octets.specs.BigEndian.{bytes_of, laid}
use Rattle.octets.proofs.ByteLaws.{bytes_length}
use Rattle.reading.specs.Kilowatts.{kw_of}
use Rattle.records.specs.Records.{lit_part}
use Rattle.records.proofs.LayLaws.{behind, longer}
use Rattle.records.proofs.roofs.put_lit.Goals as goal
use Rattle.records.proofs.roofs.put_lit.Goals.{After-put_f64, After-put_i32, After-put_u64, Start}

pub returns : goal.returns
unfolding lit_part
returns c =
    let s = c.args.room.now in
    let at = c.args.at in
    let h : at ≤ length s = omega arith in
    let g = c.args.g in
    let kw = to_bits binary64 (kw_of g.watts) in
    let a = bytes_of 8 kw in
    let b = a ++ bytes_of 4 (of_z w32 g.vars) in
    let t₁ = c.put_f64.new.s in
    let t₂ = c.put_i32.new.s in
    let la = bytes_length 8 kw in
    let lb = longer a 8 4 (of_z w32 g.vars) la in
    let told = c.struct_told-1 in
    let watts = c.kw.ensures ∙ ap kw_of (read w32 g.watts told.given.1.0.1) in
    let one = c.put_f64.ensures ∙ ap (λ (x : Float). laid s at (bytes_of 8 (to_bits binary64 x))) watts in
    let vars = c.put_i32.ensures ∙ ap (λ (z : ℤ). laid t₁ (at + 8) (bytes_of 4 (of_z w32 z))) (read w32 g.vars told.given.1.1.0.1) in
    let two = behind s at h a (bytes_of 4 (of_z w32 g.vars)) 8 la t₁ t₂ one vars in
    behind s at h b (bytes_of 8 g.dc) 12 lb t₂ c.put_u64.new.s two c.put_u64.ensures
