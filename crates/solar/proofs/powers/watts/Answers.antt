-- The circle's watts, of the AC power beside the limited vars.
use mathlib.Core.Path.{ap, ◌∙◌}
use Prim.Native.Nat.{ℕ}
use Rattle.whole.specs.Circle.{watts_in}
use Rattle.solar.proofs.powers.watts.Goals as goal
use Rattle.solar.proofs.powers.watts.Goals.{After-limited}

pub returns : goal.returns
returns c =
    let a = c.args in
    c.watts_in.ensures ∙ ap (λ (n : ℕ). watts_in a.v.kva a.v.priority n a.ac) c.limited.ensures
