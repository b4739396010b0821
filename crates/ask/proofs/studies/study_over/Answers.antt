-- As many rows and stores are lent as there are requests, one for each unit of the file, at most 64.
use Prim.Native.Nat.{◌≤◌}
use native.Mathlib.Omega.{arith}
use lib.ListN.{length, length-take}
use Rattle.stick.proofs.SiteProved.{sited}
use Rattle.ask.proofs.studies.study_over.Goals as goal
use Rattle.ask.proofs.studies.study_over.Goals.{Start}

-- a unit for each request
few : (s : Start) → length s.args.requests.now ≤ 64
few s = omega (arith, s.requires.requests_there, (sited s.args.file.now s.requires.accepted).few)

pub slice_bounds-rows-end : goal.slice_bounds-rows-end
slice_bounds-rows-end c = omega (arith, few (goal.at.slice_bounds-rows-end c).Start)

pub slice_bounds-stored-end : goal.slice_bounds-stored-end
slice_bounds-stored-end c = omega (arith, few (goal.at.slice_bounds-stored-end c).Start)

pub study_with-requires : goal.study_with-requires
study_with-requires c =
    let h = few (goal.at.study_with-requires c).Start in record { studying = c.requires; rows_len = simp length-take (omega (arith, c.requires.requests_there)); stored_len = simp length-take (omega (arith, c.requires.requests_there)) }
