-- Rows about curves, inverters, weather and roofs (rules K, W, I, T6 and O9), among them the two example curves of an inverter's paper at their points and
-- midway, and an inverter at cut-in and cut-out.
use Rattle.std.specs.Prelude.{List, [], ◌∷◌, ◌++◌, map, ℕ, ℤ, pos, neg_ℤ, replicate, take, drop}
use Rattle.std.specs.Float.{binary64}
use Rattle.std.specs.Float.Ieee.{of_bits}
use Rattle.octets.specs.BigEndian.{bytes_of}
use Rattle.curve.specs.Curve.{Point, curve_at}
use Rattle.curve.specs.Ranges.{points_of}
use Rattle.solar.specs.declared.Inverter.{Inverter}
use Rattle.solar.specs.declared.Given.{Given}
use Rattle.solar.specs.Answers.{Lists, lists_of, lit_of}
use Rattle.figures.specs.Rows.{Row, row, values, refused, refused_at, said, flag, check, run, bytes}
use Rattle.figures.specs.Further.{opening, missing, ending}

-- the curves by temperature and by DC power per kVA; and one that falls and one that rises by thirds
abbrev pub warm_x_of : List ℤ
warm_x_of = pos 0 ∷ pos 25000 ∷ pos 75000 ∷ pos 100000 ∷ []

abbrev pub warm_y_of : List ℤ
warm_y_of = pos 12000 ∷ pos 10000 ∷ pos 8000 ∷ pos 6000 ∷ []

abbrev pub efficiency_x : List ℤ
efficiency_x = pos 100 ∷ pos 200 ∷ pos 400 ∷ pos 1000 ∷ []

abbrev pub efficiency_y : List ℤ
efficiency_y = pos 8600 ∷ pos 9000 ∷ pos 9300 ∷ pos 9700 ∷ []

unfoldable pub curve : List ℤ → List ℤ → List ℤ → List ℤ
unfolding points_of curve_at
curve xs ys at = map (curve_at (points_of xs ys)) at

-- one step of an inverter with those curves, which was on (1) or not (0), in an irradiance and a temperature by their bits: whether it is on, watts, vars
-- and DC power
abbrev pub lists : Lists
lists = lists_of warm_x_of warm_y_of efficiency_x efficiency_y

unfoldable pub light_with : Lists → Inverter → ℕ → ℕ → ℕ → List ℤ
unfolding lit_of of_bits
light_with l v on i t =
    said (λ (g : Given). flag g.on ∷ g.watts ∷ g.vars ∷ pos g.dc ∷ [])
    (lit_of v l on (record { irradiance = of_bits binary64 i; temperature = of_bits binary64 t }))

-- at 25 °C
abbrev pub light : Inverter → ℕ → ℕ → List ℤ
light v on i = light_with lists v on i 0x4039_0000_0000_0000

-- array power, S, limit, var request and priority of an inverter with a cut-in of 1,000 and a cut-out of 500 parts
abbrev pub plate : ℕ → ℕ → ℕ → ℤ → ℕ → Inverter
plate array kva limit vars priority =
    record { array = array; kva = kva; cut_in = 1000; cut_out = 500; limit = limit; var_request = vars; priority = priority }

abbrev pub plain : Inverter
plain = plate 100 100 10000 (pos 0) 0

-- ---- files: an inverter with its two curves, 286 bytes; a weather of 1 kW/m² and 50 °C; one of an irradiance below 0
unfoldable pub roof : List ℕ
unfolding bytes_of
roof = bytes_of 286 0x060013000000640000006403e801f41838ffffffa60007008102000061a800002710000124f800001f4000000000000000000000000000000000000000000000000000000000000000000000000000000000000000000000000000000000000000000000000000000000000000000000000000000000000000000000000000000000000000000000000000000000000000000000000000000000070081020000000000002328000003e8000025e400000000000000000000000000000000000000000000000000000000000000000000000000000000000000000000000000000000000000000000000000000000000000000000000000000000000000000000000000000000000000000000000000000000000000000000000000000000

unfoldable pub weather : List ℕ
unfolding bytes_of
weather = bytes_of 19 0x0800103ff00000000000004049000000000000

unfoldable pub below : List ℕ
unfolding bytes_of
below = bytes_of 19 0x080010bf847ae147ae147b4049000000000000

-- with a second point that is not right of the first
unfoldable pub crossed : List ℕ
unfolding roof
crossed = take 34 roof ++ (0 ∷ 0 ∷ 97 ∷ 168 ∷ drop 38 roof)

unfoldable pub roofs : List Row
unfolding curve light_with check run opening missing ending roof weather below crossed bytes
roofs =
    -- K2 and K3: at the points, midway, between, and beyond the ends; a change is cut toward zero, down and up
    row (curve warm_x_of warm_y_of (neg_ℤ (pos 1) ∷ pos 0 ∷ pos 25000 ∷ pos 50000 ∷ pos 75000 ∷ pos 100000 ∷ pos 100001 ∷ []))
    (pos 12000 ∷ pos 12000 ∷ pos 10000 ∷ pos 9000 ∷ pos 8000 ∷ pos 6000 ∷ pos 6000 ∷ [])
    ∷ row (curve efficiency_x efficiency_y (pos 0 ∷ pos 100 ∷ pos 301 ∷ pos 925 ∷ pos 2000 ∷ [])) (pos 8600 ∷ pos 8600 ∷ pos 9151 ∷ pos 9650 ∷ pos 9700 ∷ [])
    ∷ row (curve (pos 0 ∷ pos 3 ∷ []) (pos 10 ∷ pos 0 ∷ []) (pos 1 ∷ pos 2 ∷ [])) (pos 7 ∷ pos 4 ∷ [])
    ∷ row (curve (neg_ℤ (pos 3) ∷ pos 0 ∷ []) (neg_ℤ (pos 10) ∷ pos 0 ∷ []) (neg_ℤ (pos 2) ∷ [])) (neg_ℤ (pos 7) ∷ [])
    -- I1 and I4: in full sun at 25 and at 50 °C
    ∷ row (light plain 0 0x3ff0_0000_0000_0000) (values (pos 1 ∷ pos 97 ∷ pos 0 ∷ pos 100 ∷ []))
    ∷ row (light_with lists plain 0 0x3ff0_0000_0000_0000 0x4049_0000_0000_0000) (values (pos 1 ∷ pos 86 ∷ pos 0 ∷ pos 90 ∷ []))
    -- I2 and I3: at cut-in, off and on; one watt above; between cut-out and cut-in, off and on; at cut-out; below it
    ∷ row (light plain 0 0x3fb9_9999_9999_999a) (values (pos 0 ∷ pos 0 ∷ pos 0 ∷ pos 10 ∷ []))
    ∷ row (light plain 1 0x3fb9_9999_9999_999a) (values (pos 1 ∷ pos 8 ∷ pos 0 ∷ pos 10 ∷ []))
    ∷ row (light (plate 110 100 10000 (pos 0) 0) 0 0x3fb9_9999_9999_999a) (values (pos 1 ∷ pos 9 ∷ pos 0 ∷ pos 11 ∷ []))
    ∷ row (light plain 0 0x3fb1_eb85_1eb8_51ec) (values (pos 0 ∷ pos 0 ∷ pos 0 ∷ pos 7 ∷ []))
    ∷ row (light plain 1 0x3fb1_eb85_1eb8_51ec) (values (pos 1 ∷ pos 6 ∷ pos 0 ∷ pos 7 ∷ []))
    ∷ row (light plain 1 0x3fa9_9999_9999_999a) (values (pos 1 ∷ pos 4 ∷ pos 0 ∷ pos 5 ∷ []))
    ∷ row (light plain 1 0x3fa4_7ae1_47ae_147b) (values (pos 0 ∷ pos 0 ∷ pos 0 ∷ pos 4 ∷ []))
    -- I4 and I5: the limit; watts first, vars first; vars beside watts that the limit has cut
    ∷ row (light (plate 100 100 5000 (pos 0) 0) 0 0x3ff0_0000_0000_0000) (values (pos 1 ∷ pos 50 ∷ pos 0 ∷ pos 100 ∷ []))
    ∷ row (light (plate 100 50 10000 (neg_ℤ (pos 60)) 0) 0 0x3fd9_9999_9999_999a) (values (pos 1 ∷ pos 38 ∷ neg_ℤ (pos 32) ∷ pos 40 ∷ []))
    ∷ row (light (plate 100 50 10000 (neg_ℤ (pos 30)) 1) 0 0x3ff0_0000_0000_0000) (values (pos 1 ∷ pos 40 ∷ neg_ℤ (pos 30) ∷ pos 100 ∷ []))
    ∷ row (light (plate 100 100 6200 (pos 90) 0) 0 0x3ff0_0000_0000_0000) (values (pos 1 ∷ pos 62 ∷ pos 78 ∷ pos 100 ∷ []))
    -- W2: an irradiance of -0.0001 is 0, one of -0.01 is refused; N15: a list too short, an unknown state and a NaN
    ∷ row (light plain 1 0xbf1a_36e2_eb1c_432d) (values (pos 0 ∷ pos 0 ∷ pos 0 ∷ pos 0 ∷ []))
    ∷ row (light plain 0 0xbf84_7ae1_47ae_147b) (refused 6)
    ∷ row (light_with (lists_of warm_x_of (pos 1 ∷ []) efficiency_x efficiency_y) plain 2 0x7ff8_0000_0000_0000 0) (refused 10)
    ∷ row (light plain 2 0x7ff8_0000_0000_0000) (refused 5)
    ∷ row (light plain 1 0x7ff8_0000_0000_0000) (refused 6)
    -- F4, F6, N4 to N6: an inverter without its curves; an end where a weather waits; a curve that does not rise; a weather below 0
    ∷ row (check (opening ++ take 22 roof ++ missing ++ ending 1)) (refused_at 4 98 0)
    ∷ row (check (opening ++ roof ++ missing ++ weather ++ ending 1)) (refused_at 4 384 1)
    ∷ row (check (opening ++ missing ++ roof ++ ending 1)) (refused_at 4 79 1)
    ∷ row (check (opening ++ crossed ++ ending 0)) (refused_at 5 98 0)
    ∷ row (check (opening ++ below ++ missing ++ ending 1)) (refused_at 6 76 0)
    ∷ row (check (opening ++ roof ++ roof ++ weather ++ missing ++ ending 1)) (refused_at 0 677 1)
    -- T6 and O9: a step with weather and one without, byte for byte
    ∷ row (run (opening ++ roof ++ weather ++ missing ++ missing ++ ending 2) 146)
    (refused_at 0 394 2
    ++ bytes 145 0x110025000000000000000000bff000000000000000000000000000000036ee80000000000000ea6012001a0000000000013fafbe76c8b43958ffffffb2000000000000005a110025000000010000000000bff000000000000000000000000000000036ee80000000000000ea6012001a00000001000000000000000000000000000000000000000000001f000400000002
    ++ replicate 1 (pos 255))
    ∷ []
