-- Only the mark and the tail are laid anew: what stands and the site part are as the state's bytes had them.
use native.Mathlib.Omega.{arith}
use Rattle.intake.proofs.TailLaws.{tail_place_lem, tail_site, tail_kept}
use Rattle.intake.proofs.tails.keep_tail.Goals as goal
use Rattle.intake.proofs.tails.keep_tail.Goals.{After-marked-m, After-put_top, Start}

pub overflow_add-k : goal.overflow_add-k
overflow_add-k c =
    omega (arith, tail_place_lem c.args.s.now c.requires.sized c.marked-m.result c.marked-m.ensures, c.requires.bytes_bound, c.requires.from_in_bounds)

pub put_top-requires : goal.put_top-requires
put_top-requires c = record { s_len = c.requires.sized.long; site_le_site_most = tail_site c.args.s.now c.requires.sized c.marked-m.result c.marked-m.ensures; tail_le_tail_most = omega (arith, c.requires.bytes_len_bound); tail_value = omega (arith, c.requires.from_in_bounds); to_in_bounds = omega arith }

pub shape_of-s : goal.shape_of-s
shape_of-s c = c.put_top.auto.s

pub returns : goal.returns
returns c =
    let a = c.args in
    tail_kept a.s.now c.requires.sized c.marked-m.result c.marked-m.ensures c.requires.s_value c.requires.s_value_2 a.bytes.now a.from c.requires.bytes_len_bound c.put_top.new.s c.put_top.ensures
