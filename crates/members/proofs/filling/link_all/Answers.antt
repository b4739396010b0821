use Prim.Native.Nat.{ℕ, ◌*◌, ◌≤◌}
use mathlib.Core.Path.{◌≡◌, refl, ◌∙◌}
use native.Mathlib.Nat.{mul-le-mul}
use native.Mathlib.Omega.{arith}
use lib.ListN.{length, get_or}
use Rattle.rows.proofs.RowLaws.{filling_none, filling_length, filling_more, filling_all}
use Rattle.members.proofs.ColumnLaws.{link_at, links_are}
use Rattle.members.proofs.filling.link_all.Goals as goal
use Rattle.members.proofs.filling.link_all.Goals.{After-shared_slice_known-1, At-loop-i, Start}

abbrev at : (s : Start) → ℕ → ℕ
at s = link_at s.args.phases.now s.args.volts.now

long : (c : At-loop-i) → length c.loop-i.links ≡ length c.args.links.now
long c = filling_length (at (record { before = c.before.before; type_inv = record { links = c.items_fit3; volts = c.items_fit2; phases = c.items_fit } })) c.args.links.now c.loop-i.links c.loop-i.i c.loop-i.invariant

pub loop-i-init : goal.loop-i-init
loop-i-init c = filling_none (at c) c.args.links.now

pub overflow_mul-links : goal.overflow_mul-links
overflow_mul-links c =
    let i = c.loop-i.i in
    let a = c.args in
    let p : get_or a.phases.now i 0 ≤ 255 = omega (arith, c.shared_slice_known-1.given i) in
    let v : get_or a.volts.now i 0 ≤ 65535 = omega (arith, c.shared_slice_known-in-loop-i-1.given i) in
    let h : link_at a.phases.now a.volts.now i ≤ 255 * 65535 = mul-le-mul p v in
    omega arith

pub loop-i-preserved : goal.loop-i-preserved
loop-i-preserved c =
    filling_more (at (goal.at.loop-i-preserved c).Start) c.args.links.now c.loop-i.links c.loop-i.i c.loop-i.invariant (omega (arith, long (goal.at.loop-i-preserved c).At-loop-i)) (at (goal.at.loop-i-preserved c).Start c.loop-i.i) refl

pub returns : goal.returns
returns c =
    let a = c.args in
    filling_all (at (goal.at.returns c).Start) a.links.now c.loop-i.links c.loop-i.i c.loop-i.invariant (omega (arith, long (goal.at.returns c).At-loop-i, c.loop-i.invariant.upto))
    ∙ links_are a.phases.now a.volts.now a.links.now c.requires.phases_len
