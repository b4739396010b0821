-- As many rows are lent as there are requests, at most 64.
use native.Mathlib.Omega.{arith}
use lib.ListN.{length-take}
use Rattle.controller.proofs.passes.pass_over.Goals as goal
use Rattle.controller.proofs.passes.pass_over.Goals.{Start}

pub pass_with-requires : goal.pass_with-requires
pass_with-requires c = record { sound = c.requires; units_len = simp length-take (omega (arith, c.requires.few)) }

pub returns : goal.returns
returns c = c.pass_with.ensures
