-- One step of every inverter of a site (rules T2, T6 and O9), by what leads it: which are on afterwards, the vars last requested, and the step's records.
use Rattle.std.specs.Prelude.{ℕ, zero, suc, ◌*◌, Bool, false, List, [], ◌++◌, map, ℤ, pos, length, get_or, replicate}
use Rattle.whole.specs.Over.{each}
use Rattle.solar.specs.declared.Sun.{Sun}
use Rattle.solar.specs.declared.Given.{Given}
use Rattle.solar.specs.Roof.{Roof}
use Rattle.lead.specs.declared.Lead.{Lead}
use Rattle.guided.specs.Roofs.{lit_step, vars_kept}
use Rattle.site.specs.Site.{roof_of}
use Rattle.records.specs.Records.{roof_record_of, roof_record_bytes}

-- T2: at first all are off, and the own var request of each counts as last requested
abbrev pub all_off : List Roof → List Bool
all_off roofs = replicate (length roofs) false

unfoldable pub own_vars : List Roof → List ℤ
own_vars roofs = map (λ (r : Roof). r.inverter.var_request) roofs

-- what roof i gives, which was on or not, with v as the vars last requested of it, and the vars then kept
unfoldable pub lit : List Roof → Lead → Sun → ℕ → Bool → ℤ → Given
unfolding lit_step
lit roofs l s i on v = lit_step l (roof_of roofs i) v on s

unfoldable pub kept_vars : List Roof → Lead → Sun → ℕ → Bool → ℤ → ℤ
unfolding vars_kept
kept_vars roofs l s i on v = vars_kept l (roof_of roofs i) v on s

-- which are on afterwards, and the vars last requested
unfoldable pub on_after : List Roof → Lead → Sun → List Bool → List ℤ → List Bool
unfolding each lit
on_after roofs l s on vs = each (λ (i : ℕ) (was : Bool). (lit roofs l s i was (get_or vs i (pos 0))).on) on

unfoldable pub vars_after : List Roof → Lead → Sun → List Bool → List ℤ → List ℤ
unfolding each kept_vars
vars_after roofs l s on vs = each (λ (i : ℕ) (v : ℤ). kept_vars roofs l s i (get_or on i false) v) vs

-- the records of the first n in a step
unfoldable pub roof_records : ℕ → List Roof → Lead → ℕ → Sun → List Bool → List ℤ → List ℕ
unfolding roof_record_of lit
roof_records zero roofs l step s on vs = []
roof_records (suc n) roofs l step s on vs =
    roof_records n roofs l step s on vs ++ roof_record_of step n (lit roofs l s n (get_or on n false) (get_or vs n (pos 0)))

-- the records of a step, and their bytes
abbrev pub roofs_by : List Roof → Lead → ℕ → Sun → List Bool → List ℤ → List ℕ
roofs_by roofs l step s on vs = roof_records (length roofs) roofs l step s on vs

abbrev pub roofs_bytes : List Roof → ℕ
roofs_bytes roofs = roof_record_bytes * length roofs
