use Rattle.std.proofs.Common.{rules, tests}
use Rattle.std.proofs.lemmas.Iterator.{YieldsList-from_slice}
use Rattle.std.proofs.lemmas.Iterator.Search.{all_from_yields_List}
use Prim.Native.Nat.{ℕ, ◌+◌, ◌-◌}
use mathlib.Core.Path.{◌≡◌, ap, ◌∙◌}
use mathlib.Core.Bool.{Bool}
use native.Mathlib.Omega.{arith}
use lib.Dec.{leb}
use lib.ListN.{take, drop}
use Rattle.whole.specs.Over.{all_of}
use Rattle.kept.specs.Layout.{flag_place}
use Rattle.kept.specs.Formed.{flag_fits}
use Rattle.kept.proofs.PieceLaws.{part_passes, byte_at}
use Rattle.kept.proofs.tests.flags_fit.Goals as goal

pub returns : goal.returns
unfolding flag_fits
returns c =
    let s = c.args.s.now in
    let n = flag_place + c.args.n - flag_place in
    let few : ℕ → Bool = λ (x : ℕ). leb x 1 in
    all_from_yields_List few _ _ _ c.all.ensures.ran (YieldsList-from_slice (take n (drop flag_place s)) cc) (λ x b q k. search (rules, tests))
    ∙ part_passes few s flag_place n (omega arith)
    ∙ ap (all_of n) (λ t. λ (k : ℕ). few (byte_at s (flag_place + k) t))
    ∙ ap (λ (k : ℕ). all_of k (flag_fits s)) (let e : n ≡ c.args.n = omega arith in e)
