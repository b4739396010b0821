use Prim.Native.Nat.{ℕ, ◌≤◌}
use mathlib.Core.Path.{◌≡◌, refl, sym, ap, ap₂, ◌∙◌, subst⁻¹}
use mathlib.Core.Bool.{Bool, ◌&&◌, not}
use native.Mathlib.Nat.{le_trans, le_of_eq}
use native.Mathlib.Omega.{arith}
use lib.Dec.{lit≤}
use lib.IntN.{ℤ, nat_abs}
use lib.ListN.{length, get_or}
use mir.Syntax.{w64}
use borrow.Author.Tests.{not-true, not-false}
use Rattle.whole.specs.Over.{all_of}
use Rattle.whole.proofs.OverLaws.{all_next}
use Rattle.whole.proofs.SignLaws.{read}
use Rattle.rows.specs.Rows.{no_row, unit_by}
use Rattle.rules.specs.Rules.{in_band, band_in_watts}
use Rattle.members.specs.Posts.{fleet_by, own_by, all_in_band_by}
use Rattle.members.proofs.ColumnLaws.{link_at_lem, own_at}
use Rattle.members.proofs.CallLaws.{one_fails}
use Rattle.members.proofs.calls.units_in_band.Goals as goal
use Rattle.members.proofs.calls.units_in_band.Goals.{After-in_band, At-loop-row, Start}

abbrev at : (s : Start) → ℕ → Bool
at s k =
    let a = s.args in
    let f = fleet_by a.units.now a.stored.now in
    in_band (band_in_watts a.w.current (get_or f.link k 0) a.band) (own_by a.w f k)

-- the link that was read is the unit's
link_is : (s : Start) (i : ℕ) → (unit_by (get_or s.args.units.now i no_row)).link ≡ get_or (fleet_by s.args.units.now s.args.stored.now).link i 0
link_is s i = sym (link_at_lem s.args.units.now s.args.stored.now i)

link_ok : (s : Start) (i : ℕ) → (unit_by (get_or s.args.units.now i no_row)).link ≤ 120000
link_ok s i = le_trans (le_of_eq (link_is s i)) (s.requires.link_small i)

-- and so is the test
test_is : (c : After-in_band) → c.in_band.result ≡ at c.before.before.before.before.before.before.before.before c.loop-row.row-index
test_is c =
    let a = c.args in
    let band = c.own_band-own.ensures ∙ ap (λ (link : ℕ). band_in_watts a.w.current link a.band) (link_is c.before.before.before.before.before.before.before.before c.loop-row.row-index) in
    let need = read w64 c.own_need.result c.own_need.type_inv ∙ c.own_need.ensures.value
    ∙ own_at a.w a.units.now a.stored.now c.loop-row.row-index _ refl in
    c.in_band.ensures ∙ ap₂ in_band band need

pub loop-row-init : goal.loop-row-init
unfolding all_of
loop-row-init c = (refl)

pub own_band-own-requires : goal.own_band-own-requires
own_band-own-requires c = link_ok (goal.at.own_band-own-requires c).Start c.loop-row.row-index

pub own_need-requires : goal.own_need-requires
own_need-requires c = record { modest = c.requires.modest; link_bound = link_ok (goal.at.own_need-requires c).Start c.loop-row.row-index }

pub in_band-requires : goal.in_band-requires
in_band-requires c =
    subst⁻¹ (λ (z : ℤ). nat_abs z ≤ 10000000000000) (read w64 c.own_need.result c.own_need.type_inv) (le_trans c.own_need.ensures.result_bound (lit≤ tt))

pub returns-then-not-in_band : goal.returns-then-not-in_band
unfolding all_in_band_by
returns-then-not-in_band c =
    sym (one_fails (length c.args.units.now) (at (goal.at.returns-then-not-in_band c).Start) c.loop-row.row-index (omega arith) (sym (test_is (goal.at.returns-then-not-in_band c).After-in_band) ∙ not-true c.in_band.result (ap not c.if-not-in_band.true)))

pub loop-row-preserved : goal.loop-row-preserved
loop-row-preserved c =
    (all_next c.loop-row.row-index (at (goal.at.loop-row-preserved c).Start) ∙ ap₂ ◌&&◌ c.loop-row.invariant (sym (test_is (goal.at.loop-row-preserved c).After-in_band) ∙ not-false c.in_band.result (ap not c.if-not-in_band.false)))

pub returns : goal.returns
unfolding all_in_band_by
returns c =
    let e : c.loop-row.row-index ≡ length c.args.units.now = omega arith in
    sym c.loop-row.invariant ∙ ap (λ (n : ℕ). all_of n (at (goal.at.returns c).Start)) e
