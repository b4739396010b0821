-- The sun of a weather that converts is in its range.
use Rattle.std.proofs.Common.{sym, ◌∙◌}
use Rattle.solar.proofs.SkyLaws.{sky_shining}
use Rattle.cases.proofs.lights.light.Goals as goal

pub step_within-requires-clause-shining : goal.step_within-requires-clause-shining
step_within-requires-clause-shining g c = sky_shining _ c.in-Some.s (sym c.sky_of.ensures ∙ c.in-Some.is)
