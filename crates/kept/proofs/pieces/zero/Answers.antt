use Rattle.std.proofs.Common.{rules}
use Prim.Native.Nat.{ℕ, ◌-◌}
use lib.ListN.{replicate, length-replicate}
use Rattle.kept.proofs.PieceLaws.{laid_part}
use Rattle.kept.proofs.pieces.zero.Goals as goal

pub returns : goal.returns
returns c =
    let a = c.args in
    let n = a.to - a.from in
    laid_part a.s.now a.from n (replicate n 0) c.fill.new.self (search rules) (length-replicate {A = ℕ} n 0)
