use borrow.Author.Count.{below_more}
use Prim.Native.Nat.{ℕ}
use mathlib.Core.Path.{◌≡◌, sym, ap, ◌∙◌}
use mathlib.Core.Bool.{false}
use native.Mathlib.Nat.{not-suc-le-zero}
use native.Mathlib.Omega.{arith}
use lib.IntN.{ℤ}
use lib.Signed.{lt_z}
use mir.Syntax.{w64}
use mir.Val.{to_z, of_z}
use Rattle.whole.proofs.SignLaws.{read, wide_fits}
use Rattle.curve.specs.Layout.{x_at}
use Rattle.curve.proofs.ValueLaws.{test_read}
use Rattle.curve.proofs.values.segment.Goals as goal

pub loop-i-init : goal.loop-i-init
loop-i-init c = (λ k l. absurd (not-suc-le-zero l))

pub overflow_cast-x_at : goal.overflow_cast-x_at
overflow_cast-x_at c = wide_fits c.x_at.result c.x_at.type_inv

pub returns-then-x-x_at : goal.returns-then-x-x_at
returns-then-x-x_at c =
    let q = c.x_at in
    let a = c.args in
    let h = c.ranges.x.sfits in record { within = omega arith; before = λ k m. ap (λ (z : ℤ). lt_z z (x_at a.bytes.now a.place k)) (sym (read w64 a.x h)) ∙ c.loop-i.invariant k m; found = λ m. sym (test_read a.x q.result (x_at a.bytes.now a.place c.loop-i.i) h q.type_inv q.ensures) ∙ c.if-x-x_at.true }

pub loop-i-preserved : goal.loop-i-preserved
loop-i-preserved c =
    let q = c.x_at in
    let a = c.args in
    let h = c.ranges.x.sfits in
    let x = to_z w64 (of_z w64 a.x) in
    let r = ap (λ (z : ℤ). lt_z z (x_at a.bytes.now a.place c.loop-i.i)) (read w64 a.x h)
    ∙ sym (test_read a.x q.result (x_at a.bytes.now a.place c.loop-i.i) h q.type_inv q.ensures) ∙ c.if-x-x_at.false in
    (below_more (λ (k : ℕ). lt_z x (x_at a.bytes.now a.place k) ≡ false) c.loop-i.i c.loop-i.invariant r)

pub returns : goal.returns
returns c =
    let a = c.args in record { within = omega arith; before = λ k m. ap (λ (z : ℤ). lt_z z (x_at a.bytes.now a.place k)) (sym (read w64 a.x c.ranges.x.sfits)) ∙ c.loop-i.invariant k (omega arith); found = λ m. absurd (omega arith) }
