-- Rows that are no figures of the rules: they pin what no figure does, so that no two modes, phases, priorities, efficiencies or refusal numbers can be
-- exchanged. Each is by the rules that it names.
use Rattle.std.specs.Prelude.{List, [], ◌∷◌, ◌++◌, ℕ, ◌+◌, ℤ, pos, neg_ℤ, replicate}
use Rattle.members.specs.Ranges.{Fleet, fleet_of}
use Rattle.octets.specs.BigEndian.{bytes_of}
use Rattle.unit.specs.declared.Unit.{Unit}
use Rattle.figures.specs.Rows.{Row, row, values, refused, refused_at, measures, pass, study, step, field, check, run, bytes, set, unit}
use Rattle.figures.specs.Table.{single, pair, missing_once}

-- a unit with S of 5 VA that is asked 4 var
abbrev pub small : ℕ → Unit
small priority = unit 500000 5 0 (pos 4) 10000 9000 8000 priority

-- a unit that idles, with a var request beyond S
abbrev pub idling : Unit
idling = unit 2000 1000 10 (neg_ℤ (pos 2000)) 9000 8000 7000 0

-- seven units like those of the table, of weight 1, the fifth of which holds so much; and a list of six numbers and the fifth's
abbrev pub seven : ℕ → Fleet
seven fifth = fleet_of (replicate 7 10000000) (replicate 7 1000000) (replicate 4 5000000 ++ fifth ∷ replicate 2 5000000) (replicate 7 1000000) (replicate 7 1)

abbrev pub six_of : ℤ → ℤ → List ℤ
six_of others fifth = replicate 4 others ++ fifth ∷ replicate 2 others

-- two units with a reserve of 1 MJ each, the second below it; the first holds so much
abbrev pub spent : ℕ → Fleet
spent first = fleet_of (replicate 2 10000000) (replicate 2 1000000) (first ∷ 400000 ∷ []) (replicate 2 1000000) (replicate 2 1)

-- ---- files: a fleet of one unit and its settings, 76 bytes; a missing reading; a power of a quiet NaN; an end field
unfoldable pub opening : List ℕ
unfolding bytes_of
opening = bytes_of 76 0x01000601010000003c020031000000000036ee800000000000000000000000000036ee80000003e8000003e8000003e80000000000012710271027100003000c01000000000000000003e800

unfoldable pub missing : List ℕ
unfolding bytes_of
missing = bytes_of 3 0x050000

unfoldable pub nan : List ℕ
unfolding bytes_of
nan = bytes_of 27 0x0400183ff00000000000007ff80000000000003ff0000000000000

unfoldable pub ending : ℕ → List ℕ
unfolding bytes_of
ending steps = bytes_of 7 (0x7f000400000000 + steps)

-- the opening, one step, and then these bytes
abbrev pub then : List ℕ → List ℕ
then bytes = opening ++ missing ++ bytes

-- two units, mode 1, phase 2, 90 s a step: a power, a missing reading, a power
unfoldable pub season : List ℕ
unfolding bytes_of
season = bytes_of 192 0x01000601020000005a02003100000000000927c000000000000027100000000000061a8000000384000003e80000000afffffed4000223281f401b5800020031000000000007a120000000000000000000000000000493e0000001f40000025800000000000001f400012710251c23280103000c01000002bc0000001403e8020400183fe00000000000003ff0000000000000401000000000000005000004001800000000000000003fdc00000000000000000000000000007f000400000003

unfoldable pub further : List Row
unfolding measures pass study step field check run opening missing nan ending season missing_once bytes_of bytes
further =
    -- P1, P3 and P8: the modes, over a measure of 100 W and a target of 300 W
    row (pass (set 1 (pos 300) 20 1000) (pos 100) single (pos 0 ∷ [])) (values (neg_ℤ (pos 200) ∷ pos 0 ∷ pos 0 ∷ []))
    ∷ row (pass (set 2 (pos 300) 20 1000) (pos 100) single (pos 0 ∷ [])) (values (pos 400 ∷ pos 1 ∷ pos 400 ∷ []))
    ∷ row (pass (set 3 (pos 300) 20 1000) (pos 100) single (pos 0 ∷ [])) (values (neg_ℤ (pos 200) ∷ pos 1 ∷ neg_ℤ (pos 200) ∷ []))
    -- P6: seven units, of which the fifth is at its reserve, or full: all seven share, six are asked; a joule more, or less, and it is asked too
    ∷ row (pass (set 1 (pos 1000) 20 1000) (pos 650) (seven 1000000) (replicate 7 (pos 500))) (values (neg_ℤ (pos 350) ∷ pos 1 ∷ six_of (pos 450) (pos 0)))
    ∷ row (pass (set 2 (pos 1000) 20 1000) (neg_ℤ (pos 293)) (seven 999999) (replicate 7 (pos 500))) (values (pos 707 ∷ pos 1 ∷ six_of (pos 601) (pos 0)))
    ∷ row (pass (set 1 (pos 1000) 20 1000) (pos 1707) (seven 1000001) (replicate 7 (pos 500))) (values (pos 707 ∷ pos 1 ∷ six_of (pos 601) (pos 601)))
    ∷ row (pass (set 3 (pos 1000) 20 1000) (pos 293) (seven 10000000) (replicate 7 (neg_ℤ (pos 500)))) (values (neg_ℤ (pos 707) ∷ pos 1 ∷ six_of (neg_ℤ (pos 601)) (pos 0)))
    ∷ row (pass (set 3 (pos 1000) 20 1000) (pos 293) (seven 9999999) (replicate 7 (neg_ℤ (pos 500)))) (values (neg_ℤ (pos 707) ∷ pos 1 ∷ six_of (neg_ℤ (pos 601)) (neg_ℤ (pos 601))))
    -- P4: two units that together hold no more than their reserves are asked nothing, though the first could give; with a joule more it is asked
    ∷ row (pass (set 1 (pos 0) 20 1000) (pos 5000) (spent 1600000) (pos 500 ∷ pos 0 ∷ [])) (values (pos 5000 ∷ pos 1 ∷ replicate 2 (pos 0)))
    ∷ row (pass (set 1 (pos 0) 20 1000) (pos 5000) (spent 1600001) (pos 500 ∷ pos 0 ∷ [])) (values (pos 5000 ∷ pos 1 ∷ pos 3000 ∷ pos 0 ∷ []))
    -- P5 comes first: within the band the fifth keeps what it was asked
    ∷ row (pass (set 1 (pos 1000) 20 1000) (pos 1010) (seven 0) (replicate 7 (pos 500))) (values (pos 10 ∷ pos 0 ∷ replicate 7 (pos 500)))
    -- S16: in a study the fifth stays at 0
    ∷ row (study (record { settings = set 1 (pos 700) 20 1000; load = pos 1000; budget = 10 }) (seven 1000000) (replicate 7 (pos 5))) (values (pos 1 ∷ pos 3 ∷ six_of (pos 49) (pos 0)))
    -- M6 to M8: the phase choices 0 to 6 among 1, 2 and -4 kW, and among 2, -4 and 1 kW; and with a NaN that is not chosen
    ∷ row (measures (0 ∷ 1 ∷ 2 ∷ 3 ∷ 4 ∷ 5 ∷ 6 ∷ []) 0x3ff0_0000_0000_0000 0x4000_0000_0000_0000 0xc010_0000_0000_0000)
    (values (neg_ℤ (pos 1000) ∷ []) ++ values (pos 1000 ∷ []) ++ values (pos 2000 ∷ []) ++ values (neg_ℤ (pos 4000) ∷ []) ++ values (pos 2000 ∷ []) ++ values (neg_ℤ (pos 4000) ∷ []) ++ refused 5)
    ∷ row (measures (2 ∷ 3 ∷ 4 ∷ 5 ∷ []) 0x4000_0000_0000_0000 0xc010_0000_0000_0000 0x3ff0_0000_0000_0000)
    (values (neg_ℤ (pos 4000) ∷ []) ++ values (pos 1000 ∷ []) ++ values (pos 2000 ∷ []) ++ values (neg_ℤ (pos 4000) ∷ []))
    ∷ row (measures (3 ∷ 1 ∷ []) 0x7ff8_0000_0000_0000 0x4000_0000_0000_0000 0x3ff0_0000_0000_0000) (refused 6 ++ refused 6)
    -- U3 and U12: the priorities; U8 to U12: a unit that idles for 75 s
    ∷ row (step (small 0) 60 (pos 4)) (values (pos 4 ∷ pos 3 ∷ pos 499700 ∷ pos 60 ∷ []))
    ∷ row (step (small 1) 60 (pos 4)) (values (pos 3 ∷ pos 4 ∷ pos 499775 ∷ pos 45 ∷ []))
    ∷ row (step idling 75 (pos 0)) (values (neg_ℤ (pos 12) ∷ neg_ℤ (pos 999) ∷ pos 2000 ∷ pos 900 ∷ []))
    -- N5 and N10 in calls, in the order of N15: the requests stay
    ∷ row (pass (set 4 (pos 0) 20 1000) (pos 100) single (pos 1 ∷ pos 1 ∷ [])) (refused 10 ++ pos 1 ∷ pos 1 ∷ [])
    ∷ row (pass (set 4 (pos 0) 20 1000) (pos 100) pair (pos 1 ∷ neg_ℤ (pos 1) ∷ [])) (refused 5 ++ pos 1 ∷ neg_ℤ (pos 1) ∷ [])
    ∷ row (pass (set 1 (pos 0) 20 1000) (pos 100) pair (pos 1 ∷ neg_ℤ (pos 1) ∷ [])) (refused 10 ++ pos 1 ∷ neg_ℤ (pos 1) ∷ [])
    ∷ row (pass (set 1 (pos 0) 20 1000) (pos 100) pair (pos 101 ∷ pos 1 ∷ [])) (refused 10 ++ pos 101 ∷ pos 1 ∷ [])
    ∷ row (study (record { settings = set 1 (pos 0) 20 1000; load = neg_ℤ (pos 1); budget = 5 }) pair (pos 3 ∷ [])) (refused 10 ++ pos 3 ∷ [])
    ∷ row (study (record { settings = set 1 (pos 0) 20 1000; load = pos 1000; budget = 0 }) pair (pos 3 ∷ pos 3 ∷ [])) (refused 5 ++ pos 3 ∷ pos 3 ∷ [])
    ∷ row (step (small 2) 60 (pos 1001)) (refused 5)
    ∷ row (step (small 1) 60 (pos 1001)) (refused 10)
    -- N1 to N9, N16 and N19: each refusal of a file with its place and its steps, and an accepted file
    ∷ row (check (then (0x04 ∷ 0 ∷ []))) (refused_at 1 79 1)
    ∷ row (check (then (0x04 ∷ 0 ∷ 24 ∷ 0 ∷ []))) (refused_at 1 79 1)
    ∷ row (check (then (0x70 ∷ 0 ∷ 0 ∷ []))) (refused_at 2 79 1)
    ∷ row (check (then (0x05 ∷ 0 ∷ 1 ∷ []))) (refused_at 3 79 1)
    ∷ row (check (then opening)) (refused_at 4 79 1)
    ∷ row (check (bytes_of 9 0x010006010100015181)) (refused_at 5 0 0)
    ∷ row (check (then nan)) (refused_at 6 79 1)
    ∷ row (check (then (ending 2))) (refused_at 7 79 1)
    ∷ row (check (then [])) (refused_at 8 79 1)
    ∷ row (check []) (refused_at 8 0 0)
    ∷ row (check (then (ending 1 ++ 0 ∷ []))) (refused_at 9 86 1)
    ∷ row (check (then (ending 1))) (refused_at 0 86 1)
    -- N12: a step when 65,534 and when 65,535 are accepted
    ∷ row (field 65534 missing) (values (pos 65535 ∷ []))
    ∷ row (field 65535 missing) (refused_at 12 0 65535)
    -- N11 and N17: a room one byte too short stays as it was; O6: bytes past the result stay
    ∷ row (run missing_once 46) (refused_at 11 86 1 ++ replicate 46 (pos 255))
    ∷ row (run (then []) 2) (refused_at 8 79 1 ++ replicate 2 (pos 255))
    -- T1 to T5 and O1 to O6: a power, a missing reading and a power, byte for byte, in a room two bytes too long
    ∷ row (run season 249)
    (refused_at 0 192 3
    ++ bytes 247 0x1100250000000000000000c83fc999999999999afffffed4000000000005a57a0000000000002eb61100250000000001000000643fb999999999999a000001f40000000000046cd000000000000003e81100250000000100000000c83fc999999999999afffffed400000000000530740000000000002eb61100250000000101000000643fb999999999999a000001f400000000000445c000000000000003e811002500000002000000001a3f9a9fbe76c8b439fffffed40000000000051cdd0000000000000a7311002500000002010000000d3f8a9fbe76c8b439000001f400000000000440ac00000000000000821f000400000003
    ++ replicate 2 (pos 255))
    ∷ []
