-- The numbers, the tail and 0 up to the end of its place are laid one behind the other.
use native.Mathlib.Omega.{arith}
use mathlib.Core.Path.{◌≡◌, ◌∙◌}
use lib.ListN.{length}
use lib.Seq.{slice, length-slice}
use Rattle.kept.proofs.NumberLaws.{top_laid}
use Rattle.kept.proofs.numbers.put_top.Goals as goal
use Rattle.kept.proofs.numbers.put_top.Goals.{After-copy, After-put_numbers, After-zero, Start}

pub put_numbers-requires : goal.put_numbers-requires
put_numbers-requires c = record { s_len = c.requires.s_len; site_le_site_most = c.requires.site_le_site_most; tail_le_tail_most = c.requires.tail_le_tail_most }

pub shape_of-s : goal.shape_of-s
shape_of-s c = c.zero.auto.s ∙ c.copy.auto.s ∙ c.put_numbers.auto.s

pub returns : goal.returns
returns c =
    let a = c.args in
    let bytes = a.bytes.now in
    let l : length (slice a.from a.to bytes) ≡ a.m.tail = omega (arith, length-slice a.from a.to bytes c.requires.to_in_bounds, c.requires.tail_value) in
    top_laid a.s.now a.m (slice a.from a.to bytes) c.requires.s_len l c.requires.tail_le_tail_most c.put_numbers.new.s c.copy.new.s c.zero.new.s c.put_numbers.ensures c.copy.ensures c.zero.ensures
