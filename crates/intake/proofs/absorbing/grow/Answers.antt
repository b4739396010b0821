-- Where the steps have begun nothing changes; else the fields before the steps are laid behind the site part, and the end field where the steps begin.
use native.Mathlib.Omega.{arith}
use Prim.Native.Nat.{ℕ, ◌+◌, ◌-◌, ◌≤◌}
use mathlib.Core.Path.{◌≡◌, sym, ap, ap₂, ◌∙◌, subst}
use mathlib.Core.Bool.{false}
use lib.Seq.{slice}
use Rattle.octets.specs.BigEndian.{laid}
use Rattle.kept.specs.declared.Mark.{Mark}
use Rattle.kept.specs.Kept.{begun}
use Rattle.kept.specs.Layout.{site_place, site_most, site_bytes, state_in, mark_in}
use Rattle.taking.specs.Chunk.{closing, head_in}
use Rattle.intake.specs.Posts.{Grown}
use Rattle.intake.proofs.OpenLaws.{open_sized}
use Rattle.intake.proofs.GrowLaws.{head_upto, grown_begun, head_room, grown_head, closing_room, grown_closed}
use Rattle.intake.proofs.absorbing.grow.Goals as goal
use Rattle.intake.proofs.absorbing.grow.Goals.{After-begun_at, After-begun_at-2, After-close, After-copy, Else-begun_at, Start, Then-begun_at-2}

-- the mark's site part and state are the state's
site_is : (s : Start) → s.args.m.site ≡ site_bytes s.args.s.now
unfolding mark_in
site_is s = ap (λ (k : Mark). k.site) s.requires.m_value

begun_is : (s : Start) → begun s.args.m.state ≡ begun (state_in s.args.s.now)
unfolding mark_in
begun_is s = ap (λ (k : Mark). begun k.state) s.requires.m_value

pub begun_at-requires : goal.begun_at-requires
begun_at-requires c = tt

pub returns-then-begun_at : goal.returns-then-begun_at
returns-then-begun_at c =
    let a = c.args in
    subst (Grown a.s.now a.s.now a.bytes.now a.next) (sym (site_is (goal.at.returns-then-begun_at c).Start))
    (grown_begun a.s.now c.requires.fact a.bytes.now a.next c.requires.leads (sym (begun_is (goal.at.returns-then-begun_at c).Start) ∙ sym c.begun_at.ensures ∙ c.if-begun_at.true))

-- not begun: there is room
waits : (c : Else-begun_at) → begun (state_in c.args.s.now) ≡ false
waits c = sym (begun_is c.before.before.before.before.before.before) ∙ sym c.begun_at.ensures ∙ c.if-begun_at.false

roomy : (c : Else-begun_at) → let a = c.args in a.m.site + a.head ≤ site_most
roomy c =
    let a = c.args in
    omega (arith, site_is c.before.before.before.before.before.before, c.requires.head_value, head_room a.s.now c.requires.fact a.bytes.now a.next c.requires.leads (waits c))

pub overflow_add-end : goal.overflow_add-end
overflow_add-end c = omega (arith, roomy (goal.at.overflow_add-end c).Else-begun_at)

pub overflow_add-m : goal.overflow_add-m
overflow_add-m c = omega (arith, roomy (goal.at.overflow_add-m c).Else-begun_at)

pub copy-requires : goal.copy-requires
copy-requires c =
    let a = c.args in record { from_le_to = omega arith; to_in_bounds = omega (arith, c.requires.head_value, head_upto a.s.now c.requires.fact a.bytes.now a.next c.requires.leads); from_in_bounds = omega (arith, roomy (goal.at.copy-requires c).Else-begun_at, (open_sized a.s.now c.requires.fact).long) }

-- the copy, and the start
abbrev copied : After-begun_at-2 → After-copy
copied b = (record { before = b.before.before.before.before; type_inv = record { bytes = b.shared_slice_known-1.given } })

abbrev first : After-copy → Start
first k = k.before.before.before.before.before.before.before.before.before.before

laid_first : (k : After-copy) → let a = (first k).args in k.copy.new.s ≡ laid a.s.now (site_place + site_bytes a.s.now) (slice 0 (head_in a.bytes.now) a.bytes.now)
laid_first k =
    let s = first k in
    let a = s.args in
    k.copy.ensures
    ∙ ap₂ (λ (n j : ℕ). laid a.s.now (site_place + n) (slice 0 j a.bytes.now)) (site_is s) s.requires.head_value

ends_roomy : (c : Then-begun_at-2) → let a = (first (copied (record { before = c.before.before; type_inv = record { s = c.slice_known-2-1.given; bytes = c.shared_slice_known-1.given } }))).args in a.m.site + a.head + 7 ≤ site_most
ends_roomy c =
    let k = copied (record { before = c.before.before; type_inv = record { s = c.slice_known-2-1.given; bytes = c.shared_slice_known-1.given } }) in
    let s = first k in
    let a = s.args in
    omega (arith, site_is s, s.requires.head_value, closing_room a.s.now s.requires.fact a.bytes.now a.next s.requires.leads (waits (record { before = k.before.before.before.before.before; type_inv = record { bytes = k.shared_slice_known-1.given; s = k.slice_known-1.given } })) (sym c.begun_at-2.ensures ∙ c.if-begun_at-2.true))

pub begun_at-requires-2 : goal.begun_at-requires-2
begun_at-requires-2 c = tt

pub overflow_add-end-then-begun_at-2 : goal.overflow_add-end-then-begun_at-2
overflow_add-end-then-begun_at-2 c = omega (arith, ends_roomy (goal.at.overflow_add-end-then-begun_at-2 c).Then-begun_at-2)

pub close-requires : goal.close-requires
close-requires c =
    let k = copied (goal.at.close-requires c).After-begun_at-2 in
    let s = first k in
    omega (arith, ends_roomy (goal.at.close-requires c).Then-begun_at-2, (open_sized s.args.s.now s.requires.fact).long, k.copy.auto)

pub overflow_add-result : goal.overflow_add-result
overflow_add-result c = omega (arith, ends_roomy (goal.at.overflow_add-result c).Then-begun_at-2)

pub shape_of-s-then-begun_at-2 : goal.shape_of-s-then-begun_at-2
shape_of-s-then-begun_at-2 c = c.close.auto.s ∙ c.copy.auto.s

pub returns-then-begun_at-2 : goal.returns-then-begun_at-2
returns-then-begun_at-2 c =
    let k = copied (goal.at.returns-then-begun_at-2 c).After-begun_at-2 in
    let s = first k in
    let a = s.args in
    let w = a.bytes.now in
    let e = waits (record { before = k.before.before.before.before.before; type_inv = record { bytes = k.shared_slice_known-1.given; s = k.slice_known-1.given } }) in
    let n : site_bytes a.s.now + head_in w + 7 ≡ a.m.site + a.head + 7 = omega (arith, site_is s, s.requires.head_value) in
    subst (Grown a.s.now c.close.new.s w a.next) n
    (grown_closed a.s.now s.requires.fact w a.next s.requires.leads e (sym c.begun_at-2.ensures ∙ c.if-begun_at-2.true) k.copy.new.s c.close.new.s (laid_first k)
    (c.close.ensures ∙ ap₂ (λ (x y : ℕ). laid k.copy.new.s (site_place + (x + y)) closing) (site_is s) s.requires.head_value))

pub shape_of-s : goal.shape_of-s
shape_of-s c = c.copy.auto.s

pub returns : goal.returns
returns c =
    let k = copied (goal.at.returns c).After-begun_at-2 in
    let s = first k in
    let a = s.args in
    let w = a.bytes.now in
    let n : site_bytes a.s.now + head_in w ≡ a.m.site + a.head = omega (arith, site_is s, s.requires.head_value) in
    subst (Grown a.s.now k.copy.new.s w a.next) n
    (grown_head a.s.now s.requires.fact w a.next s.requires.leads (waits (record { before = k.before.before.before.before.before; type_inv = record { bytes = k.shared_slice_known-1.given; s = k.slice_known-1.given } })) (sym c.begun_at-2.ensures ∙ c.if-begun_at-2.false) k.copy.new.s (laid_first k))
