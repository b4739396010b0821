-- The figures A1 to E1, the whole case and the result of no steps (rules M, P, S, U and O) as one table. Values that a figure leaves free are chosen so
-- that they tell: a target and a reserve that are not 0, a charge efficiency that is not the discharge efficiency.
use Rattle.std.specs.Prelude.{List, [], ◌∷◌, ◌++◌, ℕ, ℤ, pos, neg_ℤ, length, replicate}
use Rattle.whole.specs.Largest.{leg_of}
use Rattle.octets.specs.BigEndian.{bytes_of}
use Rattle.members.specs.Ranges.{Fleet, fleet_of}
use Rattle.unit.specs.declared.Unit.{Unit}
use Rattle.figures.specs.Rows.{Row, row, values, refused, refused_at, kilowatts, pass, study, step, run, bytes, set, unit}

-- the leg of the circle itself
unfoldable pub leg : ℕ → ℕ → List ℤ
unfolding leg_of
leg S y = pos (leg_of S y) ∷ []

-- units of these ratings and weights, each rated at 10 MJ with a reserve of 1 MJ and 5 MJ stored
abbrev pub units : List ℕ → List ℕ → Fleet
units ratings weights =
    let n = length ratings in
    fleet_of (replicate n 10000000) (replicate n 1000000) (replicate n 5000000) ratings weights

-- three units of weight 1; two of weights 2 and 1; one; and C1's two with ratings of 100 and 1,000 W
abbrev pub three : Fleet
three = units (replicate 3 1000000) (replicate 3 1)

abbrev pub two : Fleet
two = units (replicate 2 1000000) (2 ∷ 1 ∷ [])

abbrev pub single : Fleet
single = units (1000000 ∷ []) (1 ∷ [])

abbrev pub pair : Fleet
pair = units (100 ∷ 1000 ∷ []) (1 ∷ 1 ∷ [])

-- C1 with a budget: load 1,000 W, target 700 W, band 20 W, factor 1,000; the requests that are lent are not 0
abbrev pub c1 : ℕ → List ℤ
c1 budget = study (record { settings = set 1 (pos 700) 20 1000; load = pos 1000; budget = budget }) pair (pos 5 ∷ neg_ℤ (pos 6) ∷ [])

-- the units of D1 and D2, of D3, and of E1: inverter 9,000 and idle loss 10 W; and a circle
abbrev pub giving : ℕ → Unit
giving stored = unit stored 1000 10 (pos 0) 9000 7000 8000 0

abbrev pub taking : Unit
taking = unit 2000 1000 10 (pos 0) 9000 8000 7000 0

abbrev pub round : ℕ → Unit
round S = unit 500000 S 0 (pos S) 10000 10000 10000 0

-- the run files of the whole case and of one with no steps: a unit of 3,600,000 J, all of it stored, with R and S of 1,000, 60 s a step
unfoldable pub missing_once : List ℕ
unfolding bytes_of
missing_once = bytes_of 86 0x01000601010000003c020031000000000036ee800000000000000000000000000036ee80000003e8000003e8000003e80000000000012710271027100003000c01000000000000000003e8000500007f000400000001

unfoldable pub no_steps : List ℕ
unfolding bytes_of
no_steps = bytes_of 83 0x01000601010000003c020031000000000036ee800000000000000000000000000036ee80000003e8000003e8000003e80000000000012710271027100003000c01000000000000000003e8007f000400000000

unfoldable pub table : List Row
unfolding kilowatts leg pass study step run missing_once no_steps bytes
table =
    -- A1 to A4
    row (kilowatts 0x3ff8_0000_0000_0000) (values (pos 1500 ∷ []))
    ∷ row (kilowatts 0x3fb0_0000_0000_0000) (values (pos 62 ∷ []))
    ∷ row (kilowatts 0xbfb0_0000_0000_0000) (values (neg_ℤ (pos 62) ∷ []))
    ∷ row (kilowatts 0x3fc8_0000_0000_0000) (values (pos 188 ∷ []))
    ∷ row (kilowatts 0xbfc8_0000_0000_0000) (values (neg_ℤ (pos 188) ∷ []))
    ∷ row (kilowatts 0x3f40_0000_0000_0000) (values (pos 0 ∷ []))
    ∷ row (kilowatts 0x3f50_0000_0000_0000) (values (pos 1 ∷ []))
    ∷ row (kilowatts 0x40f8_6a00_0000_0000) (values (pos 100000000 ∷ []))
    ∷ row (kilowatts 0x40f8_6a01_0000_0000) (refused 6)
    -- B1: need 100 and -100 over three units
    ∷ row (pass (set 1 (pos 1000) 0 1000) (pos 1100) three (replicate 3 (pos 0))) (values (pos 100 ∷ pos 1 ∷ replicate 3 (pos 33)))
    ∷ row (pass (set 3 (pos 1000) 0 1000) (pos 900) three (replicate 3 (pos 0))) (values (neg_ℤ (pos 100) ∷ pos 1 ∷ replicate 3 (neg_ℤ (pos 33))))
    -- B2: weights 2 and 1; B3: factor 500
    ∷ row (pass (set 1 (pos 1000) 0 1000) (pos 1100) two (replicate 2 (pos 0))) (values (pos 100 ∷ pos 1 ∷ pos 66 ∷ pos 33 ∷ []))
    ∷ row (pass (set 1 (pos 1000) 0 500) (pos 1100) three (replicate 3 (pos 0))) (values (pos 100 ∷ pos 1 ∷ replicate 3 (pos 16)))
    -- B4: need 10 and 11 with a band of 20
    ∷ row (pass (set 1 (pos 1000) 20 1000) (pos 1010) single (pos 0 ∷ [])) (values (pos 10 ∷ pos 0 ∷ pos 0 ∷ []))
    ∷ row (pass (set 1 (pos 1000) 20 1000) (pos 1011) single (pos 0 ∷ [])) (values (pos 11 ∷ pos 1 ∷ pos 11 ∷ []))
    -- B5: a unit that charges 600, a measure 500 and 700 above the target
    ∷ row (pass (set 1 (pos 1000) 20 1000) (pos 1500) single (neg_ℤ (pos 600) ∷ [])) (values (neg_ℤ (pos 100) ∷ pos 0 ∷ neg_ℤ (pos 600) ∷ []))
    ∷ row (pass (set 1 (pos 1000) 20 1000) (pos 1700) single (neg_ℤ (pos 600) ∷ [])) (values (pos 100 ∷ pos 1 ∷ pos 0 ∷ []))
    -- C1 after one to four passes, then settled, and the need that is left
    ∷ row (c1 1) (values (pos 0 ∷ pos 1 ∷ pos 100 ∷ pos 150 ∷ []))
    ∷ row (c1 2) (values (pos 0 ∷ pos 2 ∷ pos 100 ∷ pos 175 ∷ []))
    ∷ row (c1 3) (values (pos 0 ∷ pos 3 ∷ pos 100 ∷ pos 187 ∷ []))
    ∷ row (c1 4) (values (pos 0 ∷ pos 4 ∷ pos 100 ∷ pos 193 ∷ []))
    ∷ row (c1 10) (values (pos 1 ∷ pos 4 ∷ pos 100 ∷ pos 193 ∷ []))
    ∷ row (pass (set 1 (pos 700) 20 1000) (pos 707) pair (pos 100 ∷ pos 193 ∷ [])) (values (pos 7 ∷ pos 0 ∷ pos 100 ∷ pos 193 ∷ []))
    -- D1 to D3
    ∷ row (step (giving 76750) 60 (pos 900)) (values (pos 900 ∷ pos 0 ∷ pos 1000 ∷ pos 21750 ∷ []))
    ∷ row (step (giving 76749) 60 (pos 900)) (values (pos 899 ∷ pos 0 ∷ pos 1074 ∷ pos 21735 ∷ []))
    ∷ row (step taking 60 (neg_ℤ (pos 1000))) (values (neg_ℤ (pos 1000) ∷ pos 0 ∷ pos 44720 ∷ pos 17280 ∷ []))
    -- E1, by itself and in a step
    ∷ row (leg 5 3) (pos 4 ∷ [])
    ∷ row (leg 10 7) (pos 7 ∷ [])
    ∷ row (step (round 5) 60 (pos 3)) (values (pos 3 ∷ pos 4 ∷ pos 499820 ∷ pos 0 ∷ []))
    ∷ row (step (round 10) 60 (pos 7)) (values (pos 7 ∷ pos 7 ∷ pos 499580 ∷ pos 0 ∷ []))
    -- the whole case, and the result of no steps
    ∷ row (run missing_once 47) (refused_at 0 86 1 ++ bytes 47 0x110025000000000000000000bff000000000000000000000000000000036ee80000000000000ea601f000400000001)
    ∷ row (run no_steps 7) (refused_at 0 83 0 ++ bytes 7 0x1f000400000000)
    ∷ []
