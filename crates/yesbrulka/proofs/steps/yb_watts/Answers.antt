-- The conversion's case decides the number, and only an accepted double is stored.
use mathlib.Core.Path.{sym, ap, ◌∙◌}
use lib.IntN.{ℤ}
use mir.Syntax.{w32}
use Rattle.whole.proofs.SignLaws.{read}
use Rattle.whole.specs.Call.{number_of, held_after}
use Rattle.reading.specs.Conversion.{watts_call}
use Rattle.std.proofs.Common.{Option}
use Rattle.yesbrulka.proofs.steps.yb_watts.Goals as goal

pub returns-in_default : goal.returns-in_default
returns-in_default c =
    let is = sym c.in_default.is ∙ c.converted.ensures in record { value = ap (λ (w : Option ℤ). number_of (watts_call w)) is; watts_after = ap (λ (w : Option ℤ). held_after (watts_call w) (λ (z : ℤ). z) c.args.watts.now) is }

pub returns : goal.returns
returns c =
    let is = sym c.in-Some.is ∙ c.converted.ensures in record {
      value = ap (λ (w : Option ℤ). number_of (watts_call w)) is;
      watts_after = read w32 c.in-Some.w c.in-Some.known_told-1-own.given.0.1
          ∙ ap (λ (w : Option ℤ). held_after (watts_call w) (λ (z : ℤ). z) c.args.watts.now) is;
    }
