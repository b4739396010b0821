-- The part begins where the field's value does and has as many bytes as are there; both ends lie within the file.
use mathlib.Core.Path.{ap}
use Prim.Native.Nat.{ℕ}
use native.Mathlib.Omega.{arith}
use Rattle.parts.proofs.ReaderLaws.{part_within, part_bytes_lem}
use Rattle.parts.proofs.parts.part.Goals as goal

pub overflow_add-result : goal.overflow_add-result
overflow_add-result c = let a = c.args in omega (arith, part_within a.file.now a.place)

pub slice_bounds-result-end : goal.slice_bounds-result-end
slice_bounds-result-end c = let a = c.args in omega (arith, part_within a.file.now a.place)

pub returns : goal.returns
returns c =
    let a = c.args in
    let e = c.part_start-start.ensures in
    record {
      bytes = part_bytes_lem a.file.now a.place c.part_start-start.result c.part_size-size.result e c.part_size-size.ensures;
      lies = ap (λ (n : ℕ). (a.file.ref_ptr.0, n)) (omega (arith, e));
    }
