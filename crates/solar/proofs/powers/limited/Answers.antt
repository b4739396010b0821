-- The size of the var request, limited to S.
use mathlib.Core.Path.{ap, ◌∙◌}
use Prim.Native.Nat.{ℕ, min}
use Rattle.whole.proofs.SignLaws.{sized}
use Rattle.solar.proofs.powers.limited.Goals as goal
use Rattle.solar.proofs.powers.limited.Goals.{After-unsigned_abs, After-struct_told-1}

pub returns : goal.returns
returns c =
    let v = c.args.v in
    c.min.ensures
    ∙ ap (λ (n : ℕ). min n v.kva) (sized v.var_request c.unsigned_abs.result c.struct_told-1.given.1.1.1.1.1.0.1 c.unsigned_abs.ensures.value)
