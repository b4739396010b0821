-- The site part grows; then the run goes over the fields, or nothing stands yet.
use native.Mathlib.Omega.{arith}
use Prim.Native.Nat.{ℕ, ◌+◌, ◌-◌, ◌≤◌}
use mathlib.Core.Path.{◌≡◌, sym, ap, ap₂, ◌∙◌, subst}
use mathlib.Core.Bool.{true, false}
use mathlib.Core.List.{List, [], ◌++◌}
use lib.ListN.{length, drop}
use lib.Seq.{slice}
use Rattle.octets.specs.BigEndian.{laid}
use Rattle.records.proofs.LayLaws.{nothing}
use Rattle.kept.specs.declared.Mark.{Mark}
use Rattle.kept.specs.Kept.{begun}
use Rattle.kept.specs.Layout.{site_place, state_in, top_of, stands_of, mark_in, kept_in}
use Rattle.taking.specs.Chunk.{results_by}
use Rattle.taking.proofs.LeadLaws.{before_too}
use Rattle.intake.specs.Posts.{Grown, Ahead, mark_after, left_by, records_over}
use Rattle.intake.proofs.OpenLaws.{open_sized}
use Rattle.intake.proofs.TakeLaws.{place_there, place_fits_is, goes_ahead, left_same, records_there, waits_same, no_results, grown_long}
use Rattle.intake.proofs.absorbing.absorb.Goals as goal
use Rattle.intake.proofs.absorbing.absorb.Goals.{After-begun_at, After-grow-site, After-head_end-head, After-marked-m, After-run, After-wait, Else-begun_at, Start, Then-begun_at}

abbrev first : After-marked-m → Start
first k = k.before.before.before.before.before

abbrev marked : After-grow-site → After-marked-m
marked g = (record { before = g.before.before.before.before; type_inv = record { room = g.slice_known-2-1.given; bytes = g.shared_slice_known-1.given } })

mark_is : (k : After-marked-m) → k.marked-m.result ≡ mark_in (first k).args.s.now
mark_is k = k.marked-m.ensures

mark_there : (k : After-marked-m) → k.marked-m.result.tail ≤ k.marked-m.result.place
unfolding mark_in
mark_there k = let s = first k in subst (λ (x : Mark). x.tail ≤ x.place) (sym (mark_is k)) (place_there s.args.s.now s.requires.fact)

mark_fits_lem : (k : After-marked-m) → k.marked-m.result.place ≤ 4000000
unfolding mark_in
mark_fits_lem k = let s = first k in subst (λ (x : Mark). x.place ≤ 4000000) (sym (mark_is k)) (place_fits_is s.args.s.now s.requires.fact)

pub marked-m-requires : goal.marked-m-requires
marked-m-requires c = open_sized c.args.s.now c.requires.fact

pub head_end-head-requires : goal.head_end-head-requires
head_end-head-requires c = let s = first c in record { since = state_in s.args.s.now; upto = s.args.next; leads = s.requires.leads }

pub grow-site-requires : goal.grow-site-requires
grow-site-requires c =
    let s = first (goal.at.grow-site-requires c).After-marked-m in record { fact = s.requires.fact; m_value = mark_is (goal.at.grow-site-requires c).After-marked-m; head_value = c.head_end-head.ensures; leads = s.requires.leads }

pub begun_at-requires : goal.begun_at-requires
begun_at-requires c = tt

-- what was grown
grown : (g : After-grow-site) → let a = (first (marked g)).args in Grown a.s.now g.grow-site.new.s a.bytes.now a.next g.grow-site.result
grown g = g.grow-site.ensures

ahead : (t : Then-begun_at) → let a = (first (marked (record { before = t.before.before.before.before.before; type_inv = record { room = t.slice_known-2-1.given; bytes = t.shared_slice_known-1.given } }))).args in
    Ahead t.grow-site.new.s (marked (record { before = t.before.before.before.before.before; type_inv = record { room = t.slice_known-2-1.given; bytes = t.shared_slice_known-1.given } })).marked-m.result t.grow-site.result a.bytes.now t.head_end-head.result a.next
ahead t =
    let k = marked (record { before = t.before.before.before.before.before; type_inv = record { room = t.slice_known-2-1.given; bytes = t.shared_slice_known-1.given } }) in
    let s = first k in
    let a = s.args in
    let w = a.bytes.now in
    let f : begun a.next ≡ true = sym t.begun_at.ensures ∙ t.if-begun_at.true in
    subst (λ (x : Mark). Ahead t.grow-site.new.s x t.grow-site.result w t.head_end-head.result a.next) (sym (mark_is k))
    (subst (λ (h : ℕ). Ahead t.grow-site.new.s (mark_in a.s.now) t.grow-site.result w h a.next) (sym t.head_end-head.ensures)
    (goes_ahead a.s.now s.requires.fact w a.next s.requires.leads t.grow-site.new.s t.grow-site.result (grown (record { before = t.before.before.before.before.before; type_inv = record { room = t.slice_known-2-1.given; bytes = t.shared_slice_known-1.given } })) f (place_there a.s.now s.requires.fact) (omega (arith, place_fits_is a.s.now s.requires.fact, s.well_formed))))

records_are : (t : Then-begun_at) → let a = (first (marked (record { before = t.before.before.before.before.before; type_inv = record { room = t.slice_known-2-1.given; bytes = t.shared_slice_known-1.given } }))).args in
    records_over (marked (record { before = t.before.before.before.before.before; type_inv = record { room = t.slice_known-2-1.given; bytes = t.shared_slice_known-1.given } })).marked-m.result t.grow-site.new.s (slice site_place (site_place + t.grow-site.result) t.grow-site.new.s) a.bytes.now t.head_end-head.result
    ≡ results_by (kept_in a.s.now) a.bytes.now a.next
records_are t =
    let k = marked (record { before = t.before.before.before.before.before; type_inv = record { room = t.slice_known-2-1.given; bytes = t.shared_slice_known-1.given } }) in
    let s = first k in
    let a = s.args in
    let w = a.bytes.now in
    let f : begun a.next ≡ true = sym t.begun_at.ensures ∙ t.if-begun_at.true in
    ap₂ (λ (x : Mark) (h : ℕ). records_over x t.grow-site.new.s (slice site_place (site_place + t.grow-site.result) t.grow-site.new.s) w h) (mark_is k) t.head_end-head.ensures
    ∙ records_there a.s.now s.requires.fact w a.next s.requires.leads t.grow-site.new.s t.grow-site.result (grown (record { before = t.before.before.before.before.before; type_inv = record { room = t.slice_known-2-1.given; bytes = t.shared_slice_known-1.given } })) f

pub run-requires : goal.run-requires
run-requires c =
    let s = first (marked (goal.at.run-requires c).After-grow-site) in record { ahead = ahead (goal.at.run-requires c).Then-begun_at; head_in_bounds = omega (arith, s.requires.next_in_bounds, ap length (records_are (goal.at.run-requires c).Then-begun_at)) }

pub shape_of-s-then-begun_at : goal.shape_of-s-then-begun_at
shape_of-s-then-begun_at c = c.run.auto.s ∙ c.grow-site.auto.s

pub shape_of-room-then-begun_at : goal.shape_of-room-then-begun_at
shape_of-room-then-begun_at c = c.run.auto.room

pub returns-then-begun_at : goal.returns-then-begun_at
returns-then-begun_at c =
    let k = marked (goal.at.returns-then-begun_at c).After-grow-site in
    let s = first k in
    let a = s.args in
    let w = a.bytes.now in
    let f : begun a.next ≡ true = sym c.begun_at.ensures ∙ c.if-begun_at.true in record {
      value = c.run.ensures.value ∙ ap (λ (x : List ℕ). a.out + length x) (records_are (goal.at.returns-then-begun_at c).Then-begun_at);
      s_after = c.run.ensures.s_after
          ∙ ap₂ (λ (x : Mark) (h : ℕ). left_by x c.grow-site.new.s c.grow-site.result w h a.next) (mark_is k) c.head_end-head.ensures
          ∙ left_same a.s.now s.requires.fact w a.next s.requires.leads c.grow-site.new.s c.grow-site.result (grown (goal.at.returns-then-begun_at c).After-grow-site) f;
      room_after = c.run.ensures.room_after ∙ ap (laid a.room.now a.out) (records_are (goal.at.returns-then-begun_at c).Then-begun_at);
    }

pub wait-requires : goal.wait-requires
wait-requires c =
    let k = marked (goal.at.wait-requires c).After-grow-site in
    let s = first k in
    let a = s.args in record { s_len = grown_long a.s.now s.requires.fact a.bytes.now a.next s.requires.leads c.grow-site.new.s c.grow-site.result (grown (goal.at.wait-requires c).After-grow-site); n_le_site_most = (grown (goal.at.wait-requires c).After-grow-site).fits; tail_le_place = mark_there k; bytes_bound = omega (arith, mark_fits_lem k, s.well_formed) }

pub shape_of-s : goal.shape_of-s
shape_of-s c = c.wait.auto.s ∙ c.grow-site.auto.s

pub returns : goal.returns
unfolding mark_in
returns c =
    let k = marked (goal.at.returns c).After-grow-site in
    let s = first k in
    let a = s.args in
    let w = a.bytes.now in
    let f : begun a.next ≡ false = sym c.begun_at.ensures ∙ c.if-begun_at.false in
    let y : begun (state_in a.s.now) ≡ false = before_too w s.requires.leads f in
    let none = no_results a.s.now s.requires.fact w a.next s.requires.leads c.grow-site.new.s c.grow-site.result (grown (goal.at.returns c).After-grow-site) f y in record {
      value = omega (arith, ap length none);
      s_after = c.wait.ensures
          ∙ ap (λ (x : Mark). top_of (mark_after x a.next c.grow-site.result x.due (length w)) [] ++ stands_of [] [] [] [] ++ drop site_place c.grow-site.new.s) (mark_is k)
          ∙ waits_same a.s.now s.requires.fact w a.next s.requires.leads c.grow-site.new.s c.grow-site.result (grown (goal.at.returns c).After-grow-site) f y;
      room_after = nothing a.room.now a.out ∙ ap (laid a.room.now a.out) (sym none);
    }
