-- The pattern's sign, field and digits are the double's sign, exponent and significand. By the field the size is beyond 10^8, below a half, or the
-- significand times 1000 rounded by a shift of at most 63 places.
use mathlib.Core.Path.{ap, ◌∙◌}
use native.Mathlib.Nat.{lt_of_le_of_lt}
use lib.Dec.{lit<}
use mir.Syntax.{w32}
use mir.ValLaws.{to_z-of_z}
use Rattle.whole.proofs.SignLaws.{signed_fits}
use Rattle.reading.proofs.DoubleLaws.{minus_of, high_bits, low_bits, over_bits, whole_bits}
use Rattle.std.proofs.Common.{Some}
use Rattle.reading.proofs.convert.watts_of_bits.Goals as goal

pub returns-then-field-gt1074 : goal.returns-then-field-gt1074
returns-then-field-gt1074 c = high_bits c.args.bits c.if-field-gt1074.true

pub returns-then-field-lt1011 : goal.returns-then-field-lt1011
returns-then-field-lt1011 c = low_bits c.args.bits c.if-field-lt1011.true

pub returns-then-size-gt100000000 : goal.returns-then-size-gt100000000
returns-then-size-gt100000000 c =
    over_bits c.args.bits c.rounded-size.result c.if-field-lt1011.false c.if-field-gt1074.false c.rounded-size.ensures c.if-size-gt100000000.true

pub signed32-requires : goal.signed32-requires
signed32-requires c =
    signed_fits w32 (minus_of c.args.bits) c.rounded-size.result (lt_of_le_of_lt c.if-size-gt100000000.false (lit< tt))

pub returns : goal.returns
returns c =
    let size = c.rounded-size in
    ap Some (to_z-of_z w32 c.signed32.result (record { sfits = c.signed32.type_inv }) ∙ c.signed32.ensures)
    ∙ whole_bits c.args.bits size.result c.if-field-lt1011.false c.if-field-gt1074.false size.ensures c.if-size-gt100000000.false
