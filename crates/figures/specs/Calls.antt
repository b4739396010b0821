-- Rows about a rescue (rules H2 to H6, H8 and H10), about what a file says when it is asked (rules C3, C6, C8 to C12, C18 and C31), about the state of a fed run
-- (rules E1, E2 and E9), a curve of one point and the mode of a study (rules Q35 and S1): no figure pins them.
use Rattle.std.specs.Prelude.{List, [], ◌∷◌, ◌++◌, map, ℕ, false, true, ℤ, pos, neg_ℤ, replicate, take, drop, Some}
use Rattle.octets.specs.BigEndian.{bytes_of}
use Rattle.unit.specs.declared.Unit.{Unit}
use Rattle.reading.specs.Conversion.{milli_of}
use Rattle.unit.specs.Ranges.{idle_loss_of}
use Rattle.solar.specs.Weather.{sun}
use Rattle.site.specs.Site.{due}
use Rattle.fields.specs.Fields.{flags, at_voltage, state_of}
use Rattle.season.specs.Answers.{room_of}
use Rattle.kept.specs.declared.Mark.{Mark}
use Rattle.kept.specs.Layout.{numbers_of, sun_kept}
use Rattle.kept.specs.Formed.{flag_fits}
use Rattle.rescue.specs.Answers.{rescue_of, output_of, changes_of, list_bytes, rescue_answer}
use Rattle.feed.specs.Answers.{own_number, start_number}
use Rattle.settling.specs.declared.Studied.{Studied}
use Rattle.site.specs.declared.Head.{Head}
use Rattle.ask.specs.declared.Connection.{Connection}
use Rattle.ask.specs.Says.{units_said, inverters_said, seconds_said, head_answer, unit_answer, connection_answer, file_study, file_study_leaves}
use Rattle.figures.specs.Rows.{Row, row, values, refused, refused_at, said, flag, answered, study, check, bytes, set}
use Rattle.figures.specs.Further.{opening, missing, ending, nan, then, seven, six_of}
use Rattle.figures.specs.Roofs.{roof, weather}
use Rattle.figures.specs.Currents.{by_current, joined}

-- a rescue of a file that begins with 76 bytes of fleet and settings: the answer, the output behind these bytes, the list
unfoldable pub rescue : List ℕ → List ℤ
unfolding rescue_of output_of changes_of list_bytes
rescue file = answered (rescue_of file) ++ map pos (drop 76 (output_of file)) ++ map pos (list_bytes (changes_of file))

-- one into rooms of so many bytes
unfoldable pub rescue_into : List ℕ → ℕ → ℕ → List ℤ
unfolding rescue_answer
rescue_into file out list = answered (rescue_answer file out list)

-- units, inverters, seconds and the bytes of the result
unfoldable pub told : List ℕ → List ℤ
unfolding units_said inverters_said seconds_said room_of
told file = pos (units_said file) ∷ pos (inverters_said file) ∷ pos (seconds_said file) ∷ pos (room_of file) ∷ []

-- a unit's values, and a unit's connection
unfoldable pub unit_told : List ℕ → ℕ → List ℤ
unfolding unit_answer
unit_told file i =
    said (λ (u : Unit). map pos (u.rated ∷ u.reserve ∷ u.stored ∷ u.rating ∷ u.kva ∷ idle_loss_of u ∷ [])
    ++ u.var_request ∷ map pos (u.weight ∷ u.inverter ∷ u.charge ∷ u.discharge ∷ u.priority ∷ []))
    (unit_answer file i)

unfoldable pub connection_told : List ℕ → ℕ → List ℤ
unfolding connection_answer
connection_told file i = said (λ (c : Connection). pos c.phases ∷ pos c.volts ∷ []) (connection_answer file i)

-- the head's mode and target; and a study over a file: 1 where it settled, the changing passes, and then what the requests are
unfoldable pub head_told : List ℕ → List ℤ
unfolding head_answer
head_told file = said (λ (h : Head). pos h.settings.mode ∷ h.settings.target ∷ []) (head_answer file)

unfoldable pub study_told : List ℕ → ℤ → ℕ → List ℤ → List ℤ
unfolding file_study file_study_leaves
study_told file load budget rs =
    said (λ (r : Studied). flag r.settled ∷ pos r.passes ∷ []) (file_study file load budget rs) ++ file_study_leaves file load budget rs

-- a current of a quiet NaN
unfoldable pub unknown : List ℕ
unfolding bytes_of
unknown = bytes_of 27 0x0900187ff800000000000000000000000000000000000000000000

-- behind a voltage, with two steps, 100 bytes taken, 90 of them in the site part and five in the tail: 700 W/m2, -5 degrees, 0.95 per unit
abbrev pub mark : Mark
mark = record {
  place = 100;
  state = state_of at_voltage 1 1 63 2 (flags false true);
  site = 90;
  tail = 5;
  due = due (sun 700 (neg_ℤ (pos 5000))) (Some 9500);
}

-- readings that do not convert
unfoldable pub mended : List Row
unfolding milli_of rescue opening ending nan by_current joined unknown bytes
mended =
    -- H3, H4, H6 and H10: a power that does not convert, and no end field
    row (rescue (opening ++ nan)) (refused_at 0 103 1 ++ bytes 10 0x0500007f000400000001 ++ bytes 34 0x000000000000004c0100000000000000180000000000000067020000000000000000)
    -- H3: a current that does not convert
    ∷ row (rescue (by_current ++ joined ++ unknown ++ ending 1))
    (refused_at 0 116 1 ++ bytes 16 0x0a00030100e60500007f000400000001 ++ bytes 17 0x0000000000000052010000000000000018)
    ∷ []

-- other damage
unfoldable pub rescues : List Row
unfolding rescue opening missing ending weather bytes
rescues =
    -- H4: a weather without its reading; where steps may begin, a reading of another length
    row (rescue (opening ++ weather)) (refused_at 0 95 0 ++ bytes 7 0x7f000400000000 ++ bytes 17 0x000000000000004c020000000000000013)
    ∷ row (rescue (opening ++ 0x04 ∷ 0 ∷ 0 ∷ [])) (refused_at 0 79 0 ++ bytes 7 0x7f000400000000 ++ bytes 17 0x000000000000004c020000000000000003)
    -- H5: two bytes behind the end
    ∷ row (rescue (opening ++ missing ++ ending 1 ++ 1 ∷ 2 ∷ [])) (refused_at 0 88 1 ++ bytes 10 0x0500007f000400000001 ++ bytes 17 0x0000000000000056030000000000000002)
    ∷ []

-- what is refused
unfoldable pub unsaved : List Row
unfolding rescue_into opening weather bytes
unsaved =
    -- H2: where steps may begin, a curve of another length
    row (rescue_into (opening ++ 0x07 ∷ 0 ∷ 0 ∷ []) 83 17) (refused_at 3 76 0)
    -- H8: a room for the list that is one byte too short, and one for the output
    ∷ row (rescue_into (opening ++ weather) 83 16) (refused_at 11 95 0)
    ∷ row (rescue_into (opening ++ weather) 82 17) (refused_at 11 95 0)
    ∷ []

-- questions and states
unfoldable pub calls : List Row
unfolding told unit_told connection_told head_told study_told numbers_of sun_kept flag_fits own_number check study roof opening missing ending by_current joined bytes
calls =
    -- C6, C8, C9 and C18: an accepted file, and one that is not
    row (told (then (ending 1))) (pos 1 ∷ pos 0 ∷ pos 60 ∷ pos 47 ∷ [])
    ∷ row (told (then [])) (pos 0 ∷ pos 0 ∷ pos 0 ∷ pos 0 ∷ [])
    -- C3 and C11: a unit; one that there is not; one of a file that is refused
    ∷ row (unit_told (then (ending 1)) 0)
    (values (map pos (3600000 ∷ 0 ∷ 3600000 ∷ 1000 ∷ 1000 ∷ 1000 ∷ 0 ∷ 1 ∷ 10000 ∷ 10000 ∷ 10000 ∷ 0 ∷ [])))
    ∷ row (unit_told (then (ending 1)) 1) (refused 10)
    ∷ row (unit_told (then []) 0) (refused_at 8 79 1)
    -- C10 and C12: the head of a file that is refused; a study over it, and one with a budget of 0
    ∷ row (head_told (then [])) (refused_at 8 79 1)
    ∷ row (study_told (then []) (pos 1000) 0 (pos 5 ∷ [])) (refused_at 8 79 1 ++ pos 5 ∷ [])
    ∷ row (study_told (then (ending 1)) (pos 1000) 0 (pos 5 ∷ [])) (refused 5 ++ pos 5 ∷ [])
    -- C31: a connection; one of a unit that there is not; one of a file without connections; one of a file that is refused
    ∷ row (connection_told (by_current ++ joined ++ ending 0) 0) (values (pos 1 ∷ pos 230 ∷ []))
    ∷ row (connection_told (by_current ++ joined ++ ending 0) 1) (refused 10)
    ∷ row (connection_told (then (ending 1)) 0) (refused 10)
    ∷ row (connection_told (then []) 0) (refused_at 8 79 1)
    -- E1: the first 27 bytes of a state, and its sun read back
    ∷ row (map pos (numbers_of mark)) (bytes 27 0x000000000000000064000000020b005a05000002bcffffec78251c)
    ∷ row (pos (sun_kept (numbers_of mark)).irradiance ∷ (sun_kept (numbers_of mark)).temperature ∷ []) (pos 700 ∷ neg_ℤ (pos 5000) ∷ [])
    -- E2: bytes that are no state; E9: a flag is 0 or 1
    ∷ row (pos (own_number []) ∷ pos (start_number []) ∷ []) (pos 10 ∷ pos 10 ∷ [])
    ∷ row (flag (flag_fits (replicate 989 0 ++ 1 ∷ []) 0) ∷ flag (flag_fits (replicate 989 0 ++ 2 ∷ []) 0) ∷ []) (pos 1 ∷ pos 0 ∷ [])
    -- Q35: a curve of one point; S1: a study by settings of mode 2 is the one of mode 1
    ∷ row (check (opening ++ take 22 roof ++ 0x07 ∷ 0 ∷ 129 ∷ 1 ∷ replicate 128 0 ++ ending 0)) (refused_at 5 98 0)
    ∷ row (study (record { settings = set 2 (pos 700) 20 1000; load = pos 1000; budget = 10 }) (seven 1000000) (replicate 7 (pos 5))) (values (pos 1 ∷ pos 3 ∷ six_of (pos 49) (pos 0)))
    ∷ []
