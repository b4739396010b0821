-- Each number is converted, and the first that is refused, or an irradiance below 0, leaves the sky unknown; else it is the definition's sun.
use mir.Syntax.{w32}
use Rattle.whole.proofs.SignLaws.{size_up}
use Rattle.solar.proofs.SkyLaws.{no_irradiance, no_temperature, below_none, clear}
use Rattle.solar.proofs.skies.sky_of.Goals as goal
use Rattle.solar.proofs.skies.sky_of.Goals.{After-converted, After-converted-2, In-Some, In-Some-converted}

pub returns-in_default : goal.returns-in_default
returns-in_default c =
    no_irradiance c.args.w c.converted.result c.converted.ensures c.in_default.is

pub returns-in_default-converted : goal.returns-in_default-converted
returns-in_default-converted c =
    no_temperature c.args.w c.converted.result c.converted.ensures c.in-Some.i c.in-Some.is
    c.converted-2.result c.converted-2.ensures c.in_default-converted.is

pub returns-then-i-lt0 : goal.returns-then-i-lt0
returns-then-i-lt0 c =
    below_none c.args.w c.converted.result c.converted.ensures c.in-Some.i c.in-Some.is
    c.converted-2.result c.converted-2.ensures c.in-Some.known_told-1-own.given.0.1 c.if-i-lt0.true

pub overflow_cast-result : goal.overflow_cast-result
overflow_cast-result c =
    size_up w32 c.in-Some.i (record { sfits = c.in-Some.known_told-1-own.given.0.1 }) c.if-i-lt0.false

pub returns : goal.returns
returns c =
    clear c.args.w c.converted.result c.converted.ensures c.in-Some.i c.in-Some.is
    c.converted-2.result c.converted-2.ensures c.in-Some.known_told-1-own.given.0.1 c.if-i-lt0.false
    c.in-Some-converted.t c.in-Some-converted.is c.in-Some-converted.known_told-in-Some-converted-2-1-own.given.0.1
