-- By the tests: no function leads nothing; without a voltage nothing is fresh; with one the curve's value there is, which is small. Assumes nothing.
use mathlib.Core.Path.{refl, subst⁻¹, ap}
use Prim.Native.Nat.{◌≤◌, zero-le}
use native.Mathlib.Omega.{arith}
use lib.IntN.{ℤ, nat_abs}
use mir.Syntax.{w32}
use Rattle.whole.proofs.SignLaws.{read}
use Rattle.lead.proofs.FunctionLaws.{unled_is, there_is, unsaid_is, said_is}
use mathlib.Core.Bool.{not}
use Rattle.lead.proofs.leading.lead_at.Goals as goal
use Rattle.lead.proofs.leading.lead_at.Goals.{After-u8_at-after, Else-not-there, In-Some, Start}

pub returns-then-not-there : goal.returns-then-not-there
returns-then-not-there c =
    let a = c.args in record { value = unled_is a.bytes.now a.there a.at a.v (ap not c.if-not-there.true); modest = record { y_small = zero-le } }

pub overflow_add-at : goal.overflow_add-at
overflow_add-at c =
    let a = c.args in
    let w = (there_is a.bytes.now a.there a.at a.v (ap not c.if-not-there.false) c.requires).within refl in
    omega arith

pub u8_at-after-requires : goal.u8_at-after-requires
u8_at-after-requires c =
    let a = c.args in
    let w = (there_is a.bytes.now a.there a.at a.v (ap not c.if-not-there.false) c.requires).within refl in
    omega arith

pub returns-in_default : goal.returns-in_default
returns-in_default c =
    let a = c.args in record { value = unsaid_is a.bytes.now a.there a.at a.v (ap not c.if-not-there.false) c.u8_at-after.result c.u8_at-after.ensures c.in_default.is; modest = record { y_small = zero-le } }

pub value_at-requires : goal.value_at-requires
value_at-requires c =
    let a = c.args in
    there_is a.bytes.now a.there a.at a.v (ap not c.if-not-there.false) c.requires

pub returns : goal.returns
returns c =
    let a = c.args in
    let y = c.value_at.result in record {
      value = said_is a.bytes.now a.there a.at a.v (ap not c.if-not-there.false) c.u8_at-after.result c.u8_at-after.ensures
          c.in-Some.x c.in-Some.is y c.value_at.type_inv c.value_at.ensures.value;
      modest = record { y_small = subst⁻¹ (λ (z : ℤ). nat_abs z ≤ 10000) (read w32 y c.value_at.type_inv) c.value_at.ensures.result_bound };
    }
