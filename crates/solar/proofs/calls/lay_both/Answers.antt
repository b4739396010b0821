-- The second curve is laid behind the first, whose bytes stay; so both can be read back.
use Rattle.solar.proofs.LaidLaws.{twice_long, first_back, second_back}
use Rattle.solar.proofs.calls.lay_both.Goals as goal
use Rattle.solar.proofs.calls.lay_both.Goals.{After-lay, After-lay-2, Start}

pub returns : goal.returns
returns c =
    let a = c.args in
    let first = c.lay.new.room in
    let second = c.lay-2.new.room in
    let long = c.requires.room_len in record { room_len_2 = twice_long a.room.now first second long c.lay.ensures.room_len_2 c.lay-2.ensures.room_len_2; room_after = first_back a.room.now first second long c.lay.ensures.room_len_2 c.lay-2.ensures.room_len_2 a.warm_x.now a.warm_y.now c.requires.warm_x_len_bound c.lay.ensures.room_after; room_after_2 = second_back a.room.now first second long c.lay.ensures.room_len_2 c.lay-2.ensures.room_len_2 a.eff_x.now a.eff_y.now c.requires.eff_x_len_bound c.lay-2.ensures.room_after }
