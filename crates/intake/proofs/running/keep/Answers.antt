-- What stands is laid in its place and the mark before it, so that both stand before the site part as it was.
use mathlib.Core.Path.{◌∙◌}
use Rattle.intake.proofs.KeepLaws.{kept_after}
use Rattle.intake.proofs.running.keep.Goals as goal
use Rattle.intake.proofs.running.keep.Goals.{After-put_stands, After-put_top, Start}

pub shape_of-s : goal.shape_of-s
shape_of-s c = c.put_top.auto.s ∙ c.put_stands.auto.s

pub returns : goal.returns
returns c =
    let a = c.args in
    kept_after a.s.now a.k a.bytes.now a.stored.now a.requests.now a.vars.now a.on.now c.requires.s_len c.requires.stored_len_bound c.requires.vars_len_bound c.requires.on_len_bound c.put_stands.new.s c.put_top.new.s c.put_stands.ensures c.put_top.ensures
