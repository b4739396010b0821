-- Rows about sites that buy by current (rules P2, P5, P7, P8, P10, M9, F10 and F11): figure B7, and what no figure pins.
use Rattle.std.specs.Prelude.{List, [], ◌∷◌, ◌++◌, ℕ, ℤ, pos, neg_ℤ, replicate}
use Rattle.std.specs.Float.{binary64}
use Rattle.std.specs.Float.Ieee.{of_bits}
use Rattle.octets.specs.BigEndian.{bytes_of}
use Rattle.reading.specs.Conversion.{milli_of, watts_call}
use Rattle.members.specs.Ranges.{Fleet}
use Rattle.figures.specs.Rows.{Row, row, values, refused, refused_at, said, one, pass, pass_current, check, run, bytes, set}
use Rattle.figures.specs.Table.{units, single}
use Rattle.figures.specs.Further.{missing, ending}

-- the conversion of a double in amperes
unfoldable pub amperes : ℕ → List ℤ
unfolding milli_of of_bits
amperes bits = said one (watts_call (milli_of (of_bits binary64 bits)))

-- a pass over two units of weight 1, the first with one phase of 230 V, the second with three
abbrev pub equal : Fleet
equal = units (replicate 2 1000000) (replicate 2 1)

unfoldable pub uneven : ℕ → ℕ → ℤ → List ℤ → List ℤ
unfolding pass_current
uneven mode band measure rs = pass_current (set mode (pos 0) band 1000) measure equal (1 ∷ 3 ∷ []) (230 ∷ 230 ∷ []) rs

-- files: a fleet of one unit and settings of mode 4, 76 bytes; its connection, one phase of 230 V; a current of 1.5 A; a power of 1.5 kW
unfoldable pub by_current : List ℕ
unfolding bytes_of
by_current = bytes_of 76 0x01000601010000003c020031000000000036ee800000000000000000000000000036ee80000003e8000003e8000003e80000000000012710271027100003000c04000000000000000003e800

unfoldable pub by_watts : List ℕ
unfolding bytes_of
by_watts = bytes_of 76 0x01000601010000003c020031000000000036ee800000000000000000000000000036ee80000003e8000003e8000003e80000000000012710271027100003000c01000000000000000003e800

unfoldable pub joined : List ℕ
unfolding bytes_of
joined = bytes_of 6 0x0a00030100e6

unfoldable pub current : List ℕ
unfolding bytes_of
current = bytes_of 27 0x0900183ff800000000000000000000000000000000000000000000

unfoldable pub power : List ℕ
unfolding bytes_of
power = bytes_of 27 0x0400183ff800000000000000000000000000000000000000000000

-- a current of a quiet NaN
unfoldable pub nan : List ℕ
unfolding bytes_of
nan = bytes_of 27 0x0900187ff800000000000000000000000000000000000000000000

unfoldable pub currents : List Row
unfolding amperes uneven pass pass_current check run by_current by_watts joined current power nan missing ending bytes
currents =
    -- M9: 1.5 A; the tie of 0.0625 A; -0.0001 A is 0 mA, -1 A is refused; 100,000 A, and beyond
    row (amperes 0x3ff8_0000_0000_0000) (values (pos 1500 ∷ []))
    ∷ row (amperes 0x3fb0_0000_0000_0000) (values (pos 62 ∷ []))
    ∷ row (amperes 0xbf1a_36e2_eb1c_432d) (values (pos 0 ∷ []))
    ∷ row (amperes 0xbff0_0000_0000_0000) (refused 6)
    ∷ row (amperes 0x40f8_6a00_0000_0000) (values (pos 100000000 ∷ []))
    ∷ row (amperes 0x40f8_6a01_0000_0000) (refused 6)
    -- B7
    ∷ row (uneven 4 1000 (pos 999) (replicate 2 (pos 0))) (values (pos 999 ∷ pos 1 ∷ pos 114 ∷ pos 344 ∷ []))
    ∷ row (uneven 4 1000 (pos 500) (replicate 2 (pos 0))) (values (pos 500 ∷ pos 0 ∷ replicate 2 (pos 0)))
    -- P2 and P10: F is added after the conversion, and not to what is reported; needs of -70 and 390 W
    ∷ row (uneven 4 0 (pos 1000) (neg_ℤ (pos 100) ∷ neg_ℤ (pos 200) ∷ [])) (values (pos 1000 ∷ pos 1 ∷ replicate 2 (pos 0)))
    -- P5: one unit within its band of 161 W does not end the pass; both within theirs, of 260 and 780 W, do
    ∷ row (uneven 4 700 (pos 1000) (neg_ℤ (pos 100) ∷ neg_ℤ (pos 200) ∷ [])) (values (pos 1000 ∷ pos 1 ∷ replicate 2 (pos 0)))
    ∷ row (uneven 4 1131 (pos 1000) (neg_ℤ (pos 100) ∷ neg_ℤ (pos 200) ∷ [])) (values (pos 1000 ∷ pos 0 ∷ neg_ℤ (pos 100) ∷ neg_ℤ (pos 200) ∷ []))
    -- P8: mode 5 charges; a measure of 1,000 mA and a target of 2,000 mA are needs of -230 and -690 W
    ∷ row (pass_current (set 5 (pos 2000) 0 1000) (pos 1000) equal (1 ∷ 3 ∷ []) (230 ∷ 230 ∷ []) (replicate 2 (pos 0))) (values (neg_ℤ (pos 1000) ∷ pos 1 ∷ neg_ℤ (pos 115) ∷ neg_ℤ (pos 345) ∷ []))
    -- Q17: each kind of pass has its modes
    ∷ row (uneven 1 0 (pos 999) (replicate 2 (pos 0))) (refused 5 ++ replicate 2 (pos 0))
    ∷ row (pass (set 4 (pos 0) 0 1000) (pos 999) single (pos 0 ∷ [])) (refused 5 ++ pos 0 ∷ [])
    -- F4, F10 and F11: connections that are due, twice, and where they may be; readings that do not fit, before their doubles
    ∷ row (check (by_current ++ joined ++ current ++ ending 1)) (refused_at 0 116 1)
    ∷ row (check (by_current ++ current ++ ending 1)) (refused_at 4 76 0)
    ∷ row (check (by_current ++ ending 0)) (refused_at 4 76 0)
    ∷ row (check (by_current ++ joined ++ joined)) (refused_at 4 82 0)
    ∷ row (check (by_watts ++ joined ++ power ++ ending 1)) (refused_at 0 116 1)
    ∷ row (check (by_watts ++ power ++ joined)) (refused_at 4 103 1)
    ∷ row (check (by_current ++ joined ++ missing ++ power)) (refused_at 5 85 1)
    ∷ row (check (by_watts ++ nan)) (refused_at 5 76 0)
    ∷ row (check (by_current ++ joined ++ nan)) (refused_at 6 82 0)
    -- a run: 1,500 mA are 345 W
    ∷ row (run (by_current ++ joined ++ current ++ ending 1) 47)
    (refused_at 0 116 1 ++ bytes 47 0x1100250000000000000001593fd6147ae147ae1400000000000000000035b344000000000000ea601f000400000001)
    ∷ []
