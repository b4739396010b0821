-- Both curves are laid into a room of the function's own, and the step by those bytes is the step by the lists.
use Rattle.curve.specs.Ranges.{points_of}
use Rattle.curve.specs.Layout.{points_at}
use Rattle.solar.proofs.AnswerLaws.{answer_same}
use Rattle.solar.proofs.calls.step_over.Goals as goal
use Rattle.solar.proofs.calls.step_over.Goals.{After-lay_both}

pub returns : goal.returns
returns c =
    let a = c.args in
    let room = c.lay_both.new.room in
    answer_same a.v a.on a.w (points_at room 0) (points_at room 129) (points_of a.warm_x.now a.warm_y.now) (points_of a.eff_x.now a.eff_y.now)
    c.lay_both.ensures.room_after c.lay_both.ensures.room_after_2 c.step_in.result c.step_in.ensures
