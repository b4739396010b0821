use Prim.Native.Nat.{ℕ, ◌≤◌}
use mathlib.Core.Path.{◌≡◌, refl, sym, ap, ◌∙◌, subst⁻¹}
use mathlib.Core.Bool.{true, false}
use native.Mathlib.Nat.{lt_of_le_of_lt}
use native.Mathlib.Omega.{arith}
use lib.Dec.{lit<}
use lib.IntN.{ℤ, pos, nat_abs}
use lib.ListN.{length, replicate}
use Rattle.whole.proofs.OverLaws.{each_length}
use Rattle.members.specs.Ranges.{Fleet}
use Rattle.members.specs.Posts.{fleet_by}
use Rattle.rules.proofs.RuleLaws.{back64, read_sized}
use Rattle.settling.specs.Posts.{Measured}
use Rattle.settling.proofs.StudyLaws.{cleared, load_read, pass_sound, asked_for, way_starts, way_ends, way_settles, way_goes_on}
use Rattle.settling.proofs.study.settle_within.Goals as goal
use Rattle.settling.proofs.study.settle_within.Goals.{After-clear, After-clear-arg-1, After-given-1, After-measure-m, After-pass_within-p, After-requests-1, After-shaved-s, At-loop-passes, Start}

abbrev fleet : Start → Fleet
fleet s = fleet_by s.args.units.now s.args.stored.now

-- the start, from the place after the requests were cleared; as many are cleared as were lent
abbrev start : After-clear → Start
start k = k.before.before.before.before.before.before.before

count : (k : After-clear) → length k.clear.new.requests ≡ length (start k).args.requests.now
count k = ap length k.clear.ensures.requests_after ∙ each_length (λ (i : ℕ) (r : ℤ). pos 0) (start k).args.requests.now

pub shaved-s-requires : goal.shaved-s-requires
shaved-s-requires c = tt

pub loop-passes-init : goal.loop-passes-init
loop-passes-init c =
    let s = start (goal.at.loop-passes-init c).After-clear in
    let q = s.args.q in
    way_starts c.shaved-s.result (back64 q.load) (fleet s) q.budget (length c.clear.new.requests) c.clear.new.requests
    (c.clear.ensures.requests_after ∙ cleared s.args.requests.now ∙ ap (λ (n : ℕ). replicate n (pos 0)) (sym (count (goal.at.loop-passes-init c).After-clear))) refl

pub measure-m-requires : goal.measure-m-requires
measure-m-requires c =
    let s = start (goal.at.measure-m-requires c).After-clear in
    let h = s.requires.trying in record { requests_len_bound = omega (arith, c.loop-passes.invariant.units, count (goal.at.measure-m-requires c).After-clear, h.sound.few); load_bound = subst⁻¹ (λ (z : ℤ). nat_abs z ≤ 100000000) (load_read s.args.q (fleet s) (length s.args.requests.now) h) h.load_small }

pub pass_within-p-requires : goal.pass_within-p-requires
pass_within-p-requires c =
    let s = start (goal.at.pass_within-p-requires c).After-clear in record { sound = pass_sound s.args.q (fleet s) (length s.args.requests.now) s.requires.trying c.shaved-s.result c.shaved-s.ensures (length c.loop-passes.requests) (c.loop-passes.invariant.units ∙ count (goal.at.pass_within-p-requires c).After-clear) c.measure-m.result c.measure-m.ensures.small; totals_of = s.requires.totals_of }

pub returns-then-not-p : goal.returns-then-not-p
returns-then-not-p c =
    let s = start (goal.at.returns-then-not-p c).After-clear in
    let q = s.args.q in
    let n = length c.clear.new.requests in
    let m = c.measure-m.result in
    let em = c.measure-m.ensures in
    let eb = read_sized m (lt_of_le_of_lt em.small (lit< tt)) in
    let after = c.pass_within-p.new.requests in
    asked_for q (fleet s) (length s.args.requests.now) s.requires.trying c.shaved-s.result c.shaved-s.ensures n (count (goal.at.returns-then-not-p c).After-clear) after (record { settled = true; passes = c.loop-passes.passes })
    (way_settles c.shaved-s.result (back64 q.load) (fleet s) q.budget n c.loop-passes.requests c.loop-passes.passes c.loop-passes.invariant c.loop-passes-test.true (back64 m)
    (subst⁻¹ (Measured (back64 q.load) c.loop-passes.requests) eb em) after c.pass_within-p.result c.pass_within-p.ensures c.if-not-p.true)

pub loop-passes-preserved : goal.loop-passes-preserved
loop-passes-preserved c =
    let s = start (goal.at.loop-passes-preserved c).After-clear in
    let q = s.args.q in
    let m = c.measure-m.result in
    let em = c.measure-m.ensures in
    let eb = read_sized m (lt_of_le_of_lt em.small (lit< tt)) in
    way_goes_on c.shaved-s.result (back64 q.load) (fleet s) q.budget (length c.clear.new.requests) c.loop-passes.requests c.loop-passes.passes c.loop-passes.invariant c.loop-passes-test.true (back64 m)
    (subst⁻¹ (Measured (back64 q.load) c.loop-passes.requests) eb em) c.pass_within-p.new.requests c.pass_within-p.result c.pass_within-p.ensures c.if-not-p.false

pub returns : goal.returns
returns c =
    let s = start (goal.at.returns c).After-clear in
    let q = s.args.q in
    let n = length c.clear.new.requests in
    asked_for q (fleet s) (length s.args.requests.now) s.requires.trying c.shaved-s.result c.shaved-s.ensures n (count (goal.at.returns c).After-clear) c.loop-passes.requests (record { settled = false; passes = q.budget })
    (way_ends c.shaved-s.result (back64 q.load) (fleet s) q.budget n c.loop-passes.requests c.loop-passes.passes c.loop-passes.invariant c.loop-passes-test.false)
