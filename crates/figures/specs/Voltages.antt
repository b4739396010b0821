-- Rows about vars that a voltage leads (rules L1 to L6, F3, F4 and Q50 to Q53): no figure pins them.
use Rattle.std.specs.Prelude.{List, [], ◌∷◌, ◌++◌, ℕ, ◌+◌, ◌*◌, ℤ, pos, neg_ℤ, take, drop, None, Option, Some}
use Rattle.octets.specs.BigEndian.{bytes_of}
use Rattle.curve.specs.Ranges.{points_of}
use Rattle.unit.specs.declared.Unit.{Unit}
use Rattle.lead.specs.Lead.{Leading, unled, led, lead_of}
use Rattle.guided.specs.Units.{led_step, vars_kept}
use Rattle.figures.specs.Rows.{Row, row, refused_at, check, run, bytes, unit, limited}
use Rattle.figures.specs.Further.{missing, ending}

-- a function by its base: half of it at 0.9 per unit and below, nothing at 1, half of it the other way at 1.1 and above
unfoldable pub leading : ℕ → Leading
unfolding points_of
leading base = led (record { base = base; curve = points_of (pos 9000 ∷ pos 10000 ∷ pos 11000 ∷ []) (pos 5000 ∷ pos 0 ∷ neg_ℤ (pos 5000) ∷ []) })

-- a step of 60 s of a unit: watts, vars, and the vars kept as last requested
unfoldable pub led_by : Leading → Option ℕ → Unit → ℤ → ℤ → List ℤ
unfolding lead_of led_step vars_kept
led_by f v u last request = let l = lead_of f v in let o = led_step l u last 60 request in o.watts ∷ o.vars ∷ vars_kept l u last 60 request ∷ []

-- units with S of 1,000 VA, no losses and a var request of -50: by watts first and by vars first; that gives and takes at most 100 var; with nothing in store
abbrev pub plainly : ℕ → Unit
plainly priority = unit 500000 1000 0 (neg_ℤ (pos 50)) 10000 10000 10000 priority

abbrev pub empty : Unit
empty = unit 1000 1000 0 (neg_ℤ (pos 50)) 10000 10000 10000 0

-- ---- files: a fleet of one such unit, whose var request is 0, and its settings, 76 bytes; that function with its curve, by its base; one whose x do not rise; a voltage
unfoldable pub lone : List ℕ
unfolding bytes_of
lone = bytes_of 76 0x01000601010000003c020031000000000036ee800000000000000000000000000036ee80000003e8000003e8000000000000000000012710271027100003000c01000000000000000003e800

unfoldable pub function : ℕ → List ℕ
unfolding bytes_of
function base = bytes_of 3 0x0b0001 ++ bytes_of 1 base
    ++ bytes_of 132 0x070081030000232800001388000027100000000000002af8ffffec780000000000000000000000000000000000000000000000000000000000000000000000000000000000000000000000000000000000000000000000000000000000000000000000000000000000000000000000000000000000000000000000000000000000000000

unfoldable pub unordered : List ℕ
unfolding bytes_of
unordered = bytes_of 4 0x0b000100
    ++ bytes_of 132 0x070081030000232800001388000027100000000000002710ffffec780000000000000000000000000000000000000000000000000000000000000000000000000000000000000000000000000000000000000000000000000000000000000000000000000000000000000000000000000000000000000000000000000000000000000000

unfoldable pub volts : ℕ → List ℕ
unfolding bytes_of
volts x = bytes_of 3 0x0c0002 ++ bytes_of 2 x

-- the vars of step k of the run of a file with three steps
unfoldable pub vars_in : List ℕ → ℕ → List ℤ
unfolding run
vars_in file k = take 4 (drop (3 + 40 * k + 20) (run file 127))

unfoldable pub three_steps : List ℕ
unfolding lone function missing volts ending
three_steps = lone ++ function 0 ++ missing ++ volts 9500 ++ missing ++ missing ++ ending 3

unfoldable pub voltages : List Row
unfolding leading led_by lone function unordered volts vars_in three_steps check missing ending bytes
voltages =
    -- L2: base S, a quarter of it; what the circle leaves after 600 W; cut toward zero; both ends of the curve, and beyond them
    row (led_by (leading 0) (Some 9500) (plainly 0) (pos 7) (pos 600)) (pos 600 ∷ pos 250 ∷ pos 250 ∷ [])
    ∷ row (led_by (leading 1) (Some 9500) (plainly 0) (pos 7) (pos 600)) (pos 600 ∷ pos 200 ∷ pos 200 ∷ [])
    ∷ row (led_by (leading 0) (Some 10333) (plainly 0) (pos 7) (pos 600)) (pos 600 ∷ neg_ℤ (pos 166) ∷ neg_ℤ (pos 166) ∷ [])
    ∷ row (led_by (leading 0) (Some 0) (plainly 0) (pos 7) (pos 600)) (pos 600 ∷ pos 500 ∷ pos 500 ∷ [])
    ∷ row (led_by (leading 0) (Some 20000) (plainly 0) (pos 7) (pos 600)) (pos 600 ∷ neg_ℤ (pos 500) ∷ neg_ℤ (pos 500) ∷ [])
    -- and of the watts that the store has cut: nothing is given, and all of S is left
    ∷ row (led_by (leading 1) (Some 9500) empty (pos 7) (pos 600)) (pos 0 ∷ pos 250 ∷ pos 250 ∷ [])
    -- L3: without a voltage the last ones, not 0 and not the own request
    ∷ row (led_by (leading 0) None (plainly 0) (pos 7) (pos 600)) (pos 600 ∷ pos 7 ∷ pos 7 ∷ [])
    -- L4: what was requested is kept, not what a limit left of it
    ∷ row (led_by (leading 0) (Some 9000) (limited (plainly 0) 100 100) (pos 7) (pos 600)) (pos 600 ∷ pos 100 ∷ pos 500 ∷ [])
    -- L5: vars first by the priority, but watts first by the second base, in a step without a voltage too
    ∷ row (led_by (leading 0) None (plainly 1) (pos 900) (pos 600)) (pos 435 ∷ pos 900 ∷ pos 900 ∷ [])
    ∷ row (led_by (leading 1) None (plainly 1) (pos 900) (pos 600)) (pos 600 ∷ pos 800 ∷ pos 900 ∷ [])
    -- L9: without a function the own request, and what is kept stands
    ∷ row (led_by unled (Some 9500) (plainly 0) (pos 7) (pos 600)) (pos 600 ∷ neg_ℤ (pos 50) ∷ pos 7 ∷ [])
    -- a run: the own request, a voltage, and behind it none
    ∷ row (check three_steps) (refused_at 0 233 3)
    ∷ row (vars_in three_steps 0) (bytes 4 0)
    ∷ row (vars_in three_steps 1) (bytes 4 250)
    ∷ row (vars_in three_steps 2) (bytes 4 250)
    -- F4 and Q50 to Q53: a voltage without a function, twice, above 20,000, without a reading; a second function; a base of 2; x that do not rise
    ∷ row (check (lone ++ volts 9500)) (refused_at 4 76 0)
    ∷ row (check (lone ++ function 0 ++ volts 9500 ++ volts 9500)) (refused_at 4 217 0)
    ∷ row (check (lone ++ function 0 ++ volts 20001)) (refused_at 5 212 0)
    ∷ row (check (lone ++ function 1 ++ volts 20000 ++ missing ++ ending 1)) (refused_at 0 227 1)
    ∷ row (check (lone ++ function 0 ++ volts 9500 ++ ending 0)) (refused_at 4 217 0)
    ∷ row (check (lone ++ function 0 ++ function 0)) (refused_at 4 212 0)
    ∷ row (check (lone ++ function 2)) (refused_at 5 76 0)
    ∷ row (check (lone ++ unordered)) (refused_at 5 80 0)
    ∷ []
