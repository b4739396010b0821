-- The quotient is no more than what is divided, so that 64 bits hold it.
use mir.Syntax.{w64}
use mir.ValLaws.{to_z_pos}
use Prim.Native.Nat.{◌*◌, ◌/◌}
use Rattle.solar.proofs.PowerLaws.{load_small}
use Rattle.solar.proofs.powers.load.Goals as goal

pub overflow_cast-result-2 : goal.overflow_cast-result-2
overflow_cast-result-2 c = let a = c.args in record { sfits = load_small a.dc a.kva c.requires.dc_bound }

pub returns : goal.returns
returns c = let a = c.args in to_z_pos w64 (a.dc * 1000 / a.kva) (load_small a.dc a.kva c.requires.dc_bound)
