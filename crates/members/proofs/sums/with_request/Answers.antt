-- A sum of at most 10^12 and a number of 32 bits fit 64 bits together; the tests are the code's on what it reads back.
use Rattle.members.proofs.RequestLaws.{request_fits, with_is}
use Rattle.whole.proofs.SignLaws.{wide_fits}
use Rattle.members.proofs.sums.with_request.Goals as goal
use Rattle.members.proofs.sums.with_request.Goals.{Start}

pub overflow_cast-result : goal.overflow_cast-result
overflow_cast-result c = wide_fits c.args.r c.ranges.r.sfits

pub overflow_add-result : goal.overflow_add-result
overflow_add-result c = request_fits c.args.a.sum c.args.r c.requires c.ranges.r.sfits

pub returns : goal.returns
returns c = with_is c.args.a c.args.r c.requires c.ranges.r.sfits
