-- Rows about units with var limits of their own, and about the editions (rules U2, U9, U11, U12, U14, U17, F5, Q29, Q43 to Q45 and C20): figures D4 and D5, and
-- what no figure pins.
use Rattle.std.specs.Prelude.{List, [], ◌∷◌, ◌++◌, ℕ, ℤ, pos, neg_ℤ}
use Rattle.octets.specs.BigEndian.{bytes_of}
use Rattle.unit.specs.declared.Unit.{Unit}
use Rattle.storage.specs.declared.Outcome.{Outcome}
use Rattle.storage.specs.Step.{stepped_as}
use Rattle.figures.specs.Rows.{Row, row, values, refused, refused_at, said, step, check, run, bytes, unit, limited}
use Rattle.figures.specs.Table.{giving, taking}
use Rattle.figures.specs.Further.{missing, ending}

-- a unit with S of 1,000 VA and no idle loss, which provides at most 600 var and absorbs at most 300, by its var request and priority
abbrev pub uneven : ℤ → ℕ → Unit
uneven vars priority = limited (unit 500000 1000 0 vars 10000 10000 10000 priority) 600 300

-- with an idle loss, asked 700 var, and no limits but S
abbrev pub lossy : ℕ → Unit
lossy idle = unit 500000 1000 idle (pos 700) 10000 10000 10000 0

-- a step of a unit of an edition
unfoldable pub step_as : ℕ → Unit → ℕ → ℤ → List ℤ
unfolding stepped_as
step_as edition u seconds request = said (λ (o : Outcome). o.watts ∷ o.vars ∷ pos o.stored ∷ pos o.loss ∷ []) (stepped_as edition u seconds request)

-- ---- files: a fleet of one such unit that is asked -700 var, and its settings, in edition 2; with a limit of 1,001; and what is of another edition
unfoldable pub second : List ℕ
unfolding bytes_of
second = bytes_of 84 0x01000602010000003c020039000000000036ee800000000000000000000000000036ee80000003e8000003e800000000fffffd44000127102710271000000002580000012c03000c01000000000000000003e800

-- the same in edition 3 with an idle loss of 1,000 W
unfoldable pub third : List ℕ
unfolding bytes_of
third = bytes_of 84 0x01000603010000003c020039000000000036ee800000000000000000000000000036ee80000003e8000003e8000003e8fffffd44000127102710271000000002580000012c03000c01000000000000000003e800

unfoldable pub beyond : List ℕ
unfolding bytes_of
beyond = bytes_of 84 0x01000602010000003c020039000000000036ee800000000000000000000000000036ee80000003e8000003e800000000fffffd4400012710271027100000000258000003e903000c01000000000000000003e800

unfoldable pub long_first : List ℕ
unfolding bytes_of
long_first = bytes_of 84 0x01000601010000003c020039000000000036ee800000000000000000000000000036ee80000003e8000003e800000000fffffd44000127102710271000000002580000012c03000c01000000000000000003e800

unfoldable pub short_second : List ℕ
unfolding bytes_of
short_second = bytes_of 76 0x01000602010000003c020031000000000036ee800000000000000000000000000036ee80000003e8000003e800000000fffffd4400012710271027100003000c01000000000000000003e800

-- a fleet field of an edition; a unit field of either length, its value left out
abbrev pub fleet_of_edition : ℕ → List ℕ
fleet_of_edition edition = 0x01 ∷ 0 ∷ 6 ∷ edition ∷ 1 ∷ 0 ∷ 0 ∷ 0 ∷ 60 ∷ []

unfoldable pub alone : ℕ → List ℕ
unfolding bytes_of
alone length = 0x02 ∷ 0 ∷ length ∷ bytes_of 57 0

unfoldable pub limits : List Row
unfolding step step_as check run second third beyond long_first short_second alone missing ending bytes
limits =
    -- D4
    row (step (uneven (pos 700) 0) 60 (pos 0)) (values (pos 0 ∷ pos 600 ∷ pos 500000 ∷ pos 0 ∷ []))
    ∷ row (step (uneven (neg_ℤ (pos 700)) 0) 60 (pos 0)) (values (pos 0 ∷ neg_ℤ (pos 300) ∷ pos 500000 ∷ pos 0 ∷ []))
    ∷ row (step (uneven (pos 700) 1) 60 (pos 1000)) (values (pos 800 ∷ pos 600 ∷ pos 452000 ∷ pos 0 ∷ []))
    ∷ row (step (uneven (neg_ℤ (pos 700)) 1) 60 (pos 1000)) (values (pos 953 ∷ neg_ℤ (pos 300) ∷ pos 442820 ∷ pos 0 ∷ []))
    -- Q45: in edition 1 the limits are not looked at, whatever they are; Q43 and Q44
    ∷ row (step_as 1 (uneven (pos 700) 0) 60 (pos 0)) (values (pos 0 ∷ pos 700 ∷ pos 500000 ∷ pos 0 ∷ []))
    ∷ row (step_as 1 (limited (uneven (neg_ℤ (pos 700)) 0) 1001 1001) 60 (pos 0)) (values (pos 0 ∷ neg_ℤ (pos 700) ∷ pos 500000 ∷ pos 0 ∷ []))
    ∷ row (step_as 2 (uneven (neg_ℤ (pos 700)) 0) 60 (pos 0)) (values (pos 0 ∷ neg_ℤ (pos 300) ∷ pos 500000 ∷ pos 0 ∷ []))
    ∷ row (step_as 2 (limited (uneven (pos 1) 0) 0 1000) 60 (pos 0)) (values (pos 0 ∷ pos 0 ∷ pos 500000 ∷ pos 0 ∷ []))
    ∷ row (step_as 2 (limited (uneven (pos 700) 0) 1001 0) 60 (pos 0)) (refused 5)
    ∷ row (step_as 2 (limited (uneven (pos 700) 0) 0 1001) 60 (pos 0)) (refused 5)
    ∷ row (step_as 0 (uneven (pos 700) 0) 60 (pos 0)) (refused 5)
    ∷ row (step_as 4 (uneven (pos 700) 0) 60 (pos 0)) (refused 5)
    -- D5
    ∷ row (step_as 3 (giving 76750) 60 (pos 900)) (values (pos 890 ∷ pos 0 ∷ pos 1750 ∷ pos 21600 ∷ []))
    ∷ row (step_as 3 taking 60 (neg_ℤ (pos 1000))) (values (neg_ℤ (pos 1010) ∷ pos 0 ∷ pos 45200 ∷ pos 17400 ∷ []))
    ∷ row (step_as 3 (giving 76750) 60 (pos 0)) (values (neg_ℤ (pos 10) ∷ pos 0 ∷ pos 76750 ∷ pos 600 ∷ []))
    -- Q29 and U9: an idle draw beyond S is 5 but in edition 3, where the idle loss may be more than is delivered
    ∷ row (step_as 2 (lossy 2000) 60 (pos 900)) (refused 5)
    ∷ row (step_as 3 (lossy 2000) 60 (pos 900)) (values (neg_ℤ (pos 1100) ∷ pos 435 ∷ pos 446000 ∷ pos 120000 ∷ []))
    -- U12: the vars beside the inverter's watts, not beside those at the grid
    ∷ row (step_as 3 (lossy 100) 60 (pos 800)) (values (pos 700 ∷ pos 600 ∷ pos 452000 ∷ pos 6000 ∷ []))
    -- F3 and F5: the unit's length by the edition, and before any fleet; the editions; a limit beyond S
    ∷ row (check (second ++ missing ++ ending 1)) (refused_at 0 94 1)
    ∷ row (check (beyond ++ ending 0)) (refused_at 5 9 0)
    ∷ row (check (long_first ++ ending 0)) (refused_at 3 9 0)
    ∷ row (check (short_second ++ ending 0)) (refused_at 3 9 0)
    ∷ row (check (alone 49)) (refused_at 4 0 0)
    ∷ row (check (alone 57)) (refused_at 3 0 0)
    ∷ row (check (fleet_of_edition 0)) (refused_at 5 0 0)
    ∷ row (check (fleet_of_edition 2)) (refused_at 8 9 0)
    ∷ row (check (fleet_of_edition 3)) (refused_at 8 9 0)
    ∷ row (check (fleet_of_edition 4)) (refused_at 5 0 0)
    -- and a step in edition 2, byte for byte
    ∷ row (run (second ++ missing ++ ending 1) 47) (refused_at 0 94 1 ++ bytes 47 0x1100250000000000000000000000000000000000fffffed4000000000036ee8000000000000000001f000400000001)
    -- in edition 3
    ∷ row (run (third ++ missing ++ ending 1) 47) (refused_at 0 94 1 ++ bytes 47 0x110025000000000000000000bff0000000000000fffffed4000000000036ee80000000000000ea601f000400000001)
    ∷ []
