-- Nothing stands yet; the bytes before it are those of the mark, and the site part is as it was.
use mathlib.Core.Path.{ap, ◌∙◌}
use mathlib.Core.List.{[], ◌++◌}
use native.Mathlib.Omega.{arith}
use lib.ListN.{drop}
use Rattle.kept.specs.declared.Mark.{Mark}
use Rattle.kept.specs.Layout.{site_place, top_of, stands_of}
use Rattle.intake.proofs.KeepLaws.{kept_after}
use borrow.Author.Rules.{rules}
use Rattle.intake.proofs.running.wait.Goals as goal
use Rattle.intake.proofs.running.wait.Goals.{After-mark_after, After-put_top, After-s-1, After-slice_known-1}

pub put_top-requires : goal.put_top-requires
put_top-requires c =
    let is = c.mark_after.ensures in
    let site = ap (λ (x : Mark). x.site) is in
    let tail = ap (λ (x : Mark). x.tail) is in record { s_len = search rules; site_le_site_most = omega (arith, site, c.requires.n_le_site_most); tail_le_tail_most = omega (arith, tail); tail_value = omega (arith, tail); to_in_bounds = omega arith }

pub shape_of-s : goal.shape_of-s
shape_of-s c = c.put_top.auto.s ∙ c.clear_stands.auto.s

pub returns : goal.returns
returns c =
    let a = c.args in
    let first = a.s.now in
    kept_after first c.mark_after.result a.bytes.now [] [] [] [] c.requires.s_len (omega arith) (omega arith) (omega arith) c.clear_stands.new.s c.put_top.new.s c.clear_stands.ensures c.put_top.ensures
    ∙ ap (λ (x : Mark). top_of x [] ++ stands_of [] [] [] [] ++ drop site_place first) c.mark_after.ensures
