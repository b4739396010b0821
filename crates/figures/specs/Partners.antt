-- Rows about a partner's result (rules J): the unit of O8 with one missing reading, whose result has 47 bytes; with two, 87; and two steps with an inverter.
use Rattle.std.specs.Prelude.{List, [], ◌∷◌, ◌++◌, ℕ, ◌+◌, ℤ, pos, take, drop}
use Rattle.octets.specs.BigEndian.{bytes_of}
use Rattle.partner.specs.declared.Verdict.{Verdict}
use Rattle.partner.specs.Verdict.{partner_answer}
use Rattle.figures.specs.Rows.{Row, row, values, refused_at, said}
use Rattle.figures.specs.Table.{missing_once, no_steps}
use Rattle.figures.specs.Further.{opening, missing, ending}
use Rattle.figures.specs.Roofs.{roof, weather}

-- a verdict: its number, and where what is shown begins and how long it is
unfoldable pub partner : List ℕ → List ℕ → List ℤ
unfolding partner_answer
partner run result = said (λ (v : Verdict). pos v.number ∷ pos v.start ∷ pos v.len ∷ []) (partner_answer run result)

abbrev pub verdict : ℕ → ℕ → ℕ → List ℤ
verdict number start len = values (pos number ∷ pos start ∷ pos len ∷ [])

-- the result of one step
unfoldable pub once : List ℕ
unfolding bytes_of
once = bytes_of 47 0x110025000000000000000000bff000000000000000000000000000000036ee80000000000000ea601f000400000001

-- a site with an inverter and two steps, whose readings stand at 381 and 384, and its result: fields at 0, 40, 69, 109 and 138
unfoldable pub lit : List ℕ
unfolding opening roof weather missing ending
lit = opening ++ roof ++ weather ++ missing ++ missing ++ ending 2

unfoldable pub twice : List ℕ
unfolding bytes_of
twice = bytes_of 145 0x110025000000000000000000bff000000000000000000000000000000036ee80000000000000ea6012001a0000000000013fafbe76c8b43958ffffffb2000000000000005a110025000000010000000000bff000000000000000000000000000000036ee80000000000000ea6012001a00000001000000000000000000000000000000000000000000001f000400000002

-- two steps without it, at 76 and 79, and their result: fields at 0, 40 and 80
unfoldable pub plain : List ℕ
unfolding opening missing ending
plain = opening ++ missing ++ missing ++ ending 2

unfoldable pub both : List ℕ
unfolding twice
both = take 40 twice ++ take 40 (drop 69 twice) ++ drop 138 twice

-- these bytes with another one at a place
abbrev pub other : ℕ → ℕ → List ℕ → List ℕ
other at byte bytes = take at bytes ++ byte ∷ drop (at + 1) bytes

unfoldable pub partners : List Row
unfolding partner once twice lit plain both missing_once no_steps opening missing bytes_of
partners =
    -- J6 and J1: right; a run file that is refused
    row (partner missing_once once) (verdict 0 0 0)
    ∷ row (partner plain both) (verdict 0 0 0)
    ∷ row (partner no_steps (bytes_of 7 0x1f000400000000)) (verdict 0 0 0)
    ∷ row (partner (opening ++ missing) once) (refused_at 8 79 1)
    -- J3: the last byte of a field, and the first; a field that is cut short; the result of another run
    ∷ row (partner missing_once (other 39 0x61 once)) (verdict 1 0 40)
    ∷ row (partner missing_once (other 40 0x1e once)) (verdict 1 40 7)
    ∷ row (partner missing_once (take 20 once)) (verdict 1 0 20)
    ∷ row (partner missing_once (take 43 once)) (verdict 1 40 3)
    ∷ row (partner missing_once (bytes_of 7 0x1f000400000000)) (verdict 1 0 7)
    ∷ row (partner no_steps once) (verdict 1 0 7)
    -- an inverter's field; the field of a step twice
    ∷ row (partner lit (other 110 1 twice)) (verdict 1 109 29)
    ∷ row (partner plain (take 40 both ++ both)) (verdict 1 40 40)
    -- J4: the reading of the step that lacks its result, and the end field
    ∷ row (partner missing_once []) (verdict 2 76 3)
    ∷ row (partner plain (take 40 both)) (verdict 2 79 3)
    ∷ row (partner plain (take 80 both)) (verdict 2 82 7)
    -- J5: bytes behind the end
    ∷ row (partner missing_once (once ++ 0 ∷ 1 ∷ [])) (verdict 1 47 2)
    ∷ []
