use mathlib.Core.Path.{◌≡◌, sym, ap, ap₂, ◌∙◌, subst, subst⁻¹}
use mathlib.Core.List.{List}
use Prim.Native.Nat.{ℕ, ◌+◌, ◌-◌, ◌*◌, ◌≤◌, ◌<◌}
use native.Mathlib.Nat.{le_trans, le_of_eq, lt_of_le_of_lt, le_refl, le-add_left, le-add_right, add-le-add, mul-le-mul_left}
use native.Mathlib.Omega.{arith}
use lib.Dec.{lit≤}
use lib.ListN.{length}
use mir.Syntax.{w16}
use mir.Facts.{Fits-le, Fits-lit, Fits-widen}
use Rattle.octets.specs.BigEndian.{laid}
use Rattle.parts.specs.Header.{tag_at, length_at}
use Rattle.site.specs.declared.Step.{Step}
use Rattle.site.specs.Site.{Plant, count}
use Rattle.stick.specs.Site.{steps_of}
use Rattle.stick.proofs.SiteProved.{steps_count, steps_most}
use Rattle.roofs.specs.Posts.{RoofsThere}
use Rattle.roofs.proofs.LoopLaws.{here_count}
use Rattle.fleet.specs.Step.{Stands}
use Rattle.stretch.specs.Stretch.{stands_after, records_from, all_bytes}
use Rattle.stretch.specs.Posts.{closed_by, plant_by, stands_by}
use Rattle.stretch.proofs.HoldLaws.{vars_long}
use Rattle.partner.proofs.GoingLaws.{Turn, Brought, Stopped, shows, sets_out, turn, taken, stops, goes_on, arrives}
use Rattle.partner.proofs.judging.steps_judged.Goals as goal
use Rattle.partner.proofs.judging.steps_judged.Goals.{After-alike-d, After-field_in-part, After-loop-t, After-on_field-next, After-struct_known-1, After-struct_known-2-1, After-struct_known-in-loop-t-1, After-struct_known-in-loop-t-2-1, After-struct_known-then-d-brought-1, After-u16_at, After-wrong, At-loop-t, In-loop-t, Start, Then-d-brought}

-- ---- a field of k bytes at a place, where r is read as its length
past_is : (at k r : ℕ) → r ≡ k → at + (3 + r) ≡ at + 3 + k
past_is at k r e = omega arith

length_there : (at n : ℕ) → at + 3 ≤ n → at + 1 + 2 ≤ n
length_there at n h = omega arith

nearer : (at r n : ℕ) → at + (3 + r) ≤ n → n - (at + (3 + r)) < n - at
nearer at r n h = omega arith

-- where the function starts, seen from the loop's head; its plant, and the bytes of a step's records, as the code counts them
abbrev start : At-loop-t → Start
start l = l.before.before.before.before.before.before.before.before

abbrev plant : Start → Plant
plant s = plant_by s.args.t s.args.rows.now s.args.run.now (length s.args.on.now)

abbrev size : Start → ℕ
size s = 40 * length s.args.requests.now + 29 * length s.args.on.now

units_are : (s : Start) → length s.args.requests.now ≡ count (plant s).site
units_are s = s.requires.set_out.held.units.asks

sized : (s : Start) → all_bytes (plant s) ≡ size s
sized s = ap₂ (λ (n m : ℕ). 40 * n + 29 * m) (sym (units_are s)) (here_count (length s.args.on.now) s.args.run.now s.args.t.first)

few_units : (s : Start) → length s.args.requests.now ≤ 64
few_units s = omega (arith, units_are s, s.requires.set_out.planted.ready.sited.few)

few_roofs : (s : Start) → length s.args.on.now ≤ 64
few_roofs s = s.requires.set_out.planted.roofs.few

room_sized : (s : Start) → length s.args.room.now ≡ size s
room_sized s = s.requires.room_len ∙ ap all_bytes (sym s.requires.set_out.plant_is) ∙ sized s

few_bytes : (s : Start) → size s ≤ 4416
few_bytes s = add-le-add (mul-le-mul_left 40 (few_units s)) (mul-le-mul_left 29 (few_roofs s))

few_steps : (s : Start) → length (steps_of s.args.run.now) ≤ 65535
few_steps s = omega (arith, steps_count s.args.run.now s.requires.accepted, steps_most s.args.run.now)

-- where a field follows, from the loop's head; what its tag is; and the same seen from where the field is taken
follows : (l : At-loop-t) → Turn (start l).args.run.now (size (start l)) l.loop-t.room l.loop-t.w l.loop-t.at
follows l =
    let s = start l in
    turn (plant s) s.args.run.now s.args.res.now (size s) (length s.args.on.now) (sized s) (few_steps s)
    l.loop-t.stored l.loop-t.requests l.loop-t.vars l.loop-t.on l.loop-t.room l.loop-t.w l.loop-t.at l.loop-t.invariant

-- its header is there
there : (l : At-loop-t) → l.loop-t.at + 3 ≤ length (start l).args.run.now
there l = le_trans (le-add_right (l.loop-t.at + 3) (length_at (start l).args.run.now l.loop-t.at)) (follows l).field.within

-- each list is as long as it was
stores_long : (l : At-loop-t) → length l.loop-t.stored ≡ length (start l).args.stored.now
stores_long l = l.loop-t.invariant.held.units.stores ∙ sym (start l).requires.set_out.held.units.stores

asks_long : (l : At-loop-t) → length l.loop-t.requests ≡ length (start l).args.requests.now
asks_long l = l.loop-t.invariant.held.units.asks ∙ sym (start l).requires.set_out.held.units.asks

all_vars_long : (l : At-loop-t) → length l.loop-t.vars ≡ length (start l).args.vars.now
all_vars_long l =
    vars_long l.loop-t.invariant.held ∙ ap (λ (n : ℕ). count (plant (start l)).site + n) l.loop-t.invariant.on_long ∙ sym (vars_long (start l).requires.set_out.held)

abbrev head : In-loop-t → At-loop-t
head t = (record { before = t.before.before.before; type_inv = record { res = t.shared_slice_known-2-1.given; run = t.shared_slice_known-1.given } })

on_way : (t : In-loop-t) → tag_at (start (head t)).args.run.now (head t).loop-t.at ≡ 127 → ⊥
on_way t e = t.loop-t-test.true (t.u8_at.ensures ∙ e)

abbrev taking : After-on_field-next → In-loop-t
taking o = (record { before = o.before.before.before.before.before.before.before.before; type_inv = record { res = o.shared_slice_known-2-1.given; run = o.shared_slice_known-1.given } })

pub overflow_mul-size : goal.overflow_mul-size
overflow_mul-size c = omega (arith, few_units (goal.at.overflow_mul-size c).Start)

pub overflow_mul-size-2 : goal.overflow_mul-size-2
overflow_mul-size-2 c = omega (arith, few_roofs (goal.at.overflow_mul-size-2 c).Start)

pub overflow_add-size : goal.overflow_add-size
overflow_add-size c = omega (arith, few_units (goal.at.overflow_add-size c).Start, few_roofs (goal.at.overflow_add-size c).Start)

pub loop-t-init : goal.loop-t-init
loop-t-init c =
    let a = c.args in
    sets_out a.run.now a.res.now c.requires.accepted a.t a.rows.now a.stored.now a.requests.now a.vars.now a.on.now c.requires.set_out a.room.now (size (goal.at.loop-t-init c).Start) c.requires.room_len (sized (goal.at.loop-t-init c).Start)

pub u8_at-requires : goal.u8_at-requires
u8_at-requires c = le_trans (add-le-add (le_refl c.loop-t.at) (lit≤ tt)) (there c)

pub on_field-next-requires : goal.on_field-next-requires
on_field-next-requires c =
    let l = head (goal.at.on_field-next-requires c).In-loop-t in
    let s = start l in
    let a = s.args in
    let g = l.loop-t.invariant in
    let f = follows l in record {
      planted = record { ready = s.requires.set_out.planted.ready; roofs = subst⁻¹ (RoofsThere a.run.now a.t.first) g.on_long s.requires.set_out.planted.roofs; leading = s.requires.set_out.planted.leading };
      holding = g.held;
      step_field = f.field;
      shining = g.shines;
      at_bound = f.few;
      at_in_bounds = subst (λ (n : ℕ). 0 + n * length (closed_by a.run.now l.loop-t.w.due l.loop-t.at) ≤ length l.loop-t.room)
          (ap₂ (λ (n m : ℕ). 40 * n + 29 * m) (units_are s) (sym g.on_long))
          f.fits;
    }

-- ---- behind the field: the room, what it holds, and what the code may count on
abbrev then_room : After-on_field-next → List ℕ
then_room o = o.on_field-next.new.room

abbrev stands : At-loop-t → Stands
stands l = stands_by l.loop-t.stored l.loop-t.requests l.loop-t.vars l.loop-t.on

abbrev closed : At-loop-t → List Step
closed l = closed_by (start l).args.run.now l.loop-t.w.due l.loop-t.at

laid_there : (o : After-on_field-next)
    → let l = head (taking o) in then_room o ≡ laid l.loop-t.room 0 (records_from (plant (start l)) l.loop-t.w.step (stands l) (closed l))
laid_there o =
    let l = head (taking o) in
    let a = (start l).args in
    subst (λ (n : ℕ). then_room o ≡ laid l.loop-t.room 0 (records_from (plant_by a.t a.rows.now a.run.now n) l.loop-t.w.step (stands l) (closed l)))
    l.loop-t.invariant.on_long o.on_field-next.ensures.room_after

brought : (o : After-on_field-next) → let l = head (taking o) in Brought (size (start l)) l.loop-t.w o.on_field-next.result (then_room o)
brought o =
    let t = taking o in
    let l = head t in
    let s = start l in
    taken (plant s) s.args.run.now s.args.res.now (size s) (length s.args.on.now) (sized s) (few_steps s)
    l.loop-t.stored l.loop-t.requests l.loop-t.vars l.loop-t.on l.loop-t.room l.loop-t.w l.loop-t.at l.loop-t.invariant
    (on_way t) o.on_field-next.result (then_room o) o.on_field-next.ensures.step_value (laid_there o)

-- the field, seen from where the place of its records is counted, and how many bytes they have; and from where they are held beside the partner's
abbrev counting : After-struct_known-1 → After-on_field-next
counting k = (record { before = k.before.before.before.before.before.before.before.before.before.before; type_inv = record { res = k.shared_slice_known-2-1.given; run = k.shared_slice_known-1.given } })

abbrev bringing : After-struct_known-in-loop-t-2-1 → After-on_field-next
bringing k = counting (record { before = k.before.before.before; type_inv = record { room = k.slice_known-in-loop-t-3-1.given; on = k.slice_known-in-loop-t-2-1.given; stored = k.slice_known-in-loop-t-1.given; res = k.shared_slice_known-2-1.given; run = k.shared_slice_known-1.given } })

abbrev held : After-alike-d → After-on_field-next
held h = bringing (record { before = h.before.before; type_inv = record { on = h.slice_known-in-loop-t-2-1.given; stored = h.slice_known-in-loop-t-1.given; res = h.shared_slice_known-2-1.given; run = h.shared_slice_known-1.given } })

pub overflow_cast-out : goal.overflow_cast-out
overflow_cast-out c = omega (arith, (follows (head (taking (counting c)))).few_so_far)

pub overflow_mul-out : goal.overflow_mul-out
overflow_mul-out c = let l = head (taking (counting c)) in record { fits = lt_of_le_of_lt l.loop-t.invariant.near (start l).well_formed.1.1.1.0.0 }

pub overflow_sub-brought : goal.overflow_sub-brought
overflow_sub-brought c = (brought (bringing c)).no_fewer

pub overflow_cast-brought : goal.overflow_cast-brought
overflow_cast-brought c = omega (arith, (brought (bringing c)).few)

pub overflow_mul-brought : goal.overflow_mul-brought
overflow_mul-brought c =
    let o = bringing c in
    let b = brought o in
    Fits-le (le_trans b.fits (le_trans (le_of_eq b.long) (few_bytes (start (head (taking o)))))) (Fits-lit tt)

pub alike-d-requires : goal.alike-d-requires
alike-d-requires c = let o = bringing (goal.at.alike-d-requires c).After-struct_known-in-loop-t-2-1 in record { n_in_bounds = (brought o).fits; at_in_bounds = (head (taking o)).loop-t.invariant.near }

-- ---- not all of its bytes are there
stopped : (c : Then-d-brought)
    → let l = head (taking (held (record { before = c.before.before; type_inv = record { on = c.slice_known-in-loop-t-2-1.given; stored = c.slice_known-in-loop-t-1.given; res = c.shared_slice_known-2-1.given; run = c.shared_slice_known-1.given } }))) in
    let s = start l in
    Stopped s.args.run.now s.args.res.now l.loop-t.at (size s * l.loop-t.w.step) (length s.args.requests.now) c.alike-d.result
stopped c =
    let o = held (record { before = c.before.before; type_inv = record { on = c.slice_known-in-loop-t-2-1.given; stored = c.slice_known-in-loop-t-1.given; res = c.shared_slice_known-2-1.given; run = c.shared_slice_known-1.given } }) in
    let t = taking o in
    let l = head t in
    let s = start l in
    stops (plant s) s.args.run.now s.args.res.now (size s) (length s.args.on.now) (sized s) (few_steps s)
    l.loop-t.stored l.loop-t.requests l.loop-t.vars l.loop-t.on l.loop-t.room l.loop-t.w l.loop-t.at l.loop-t.invariant
    (on_way t) o.on_field-next.result (then_room o) o.on_field-next.ensures.step_value (laid_there o)
    c.alike-d.result c.alike-d.ensures c.if-d-brought.true (length s.args.requests.now) (units_are s)

pub field_in-part-requires : goal.field_in-part-requires
field_in-part-requires c = few_units (start (head (taking (held (goal.at.field_in-part-requires c).After-alike-d))))

starts : (c : After-struct_known-then-d-brought-1)
    → let l = head (taking (held (record { before = c.before.before.before.before; type_inv = record { on = c.slice_known-in-loop-t-2-1.given; stored = c.slice_known-in-loop-t-1.given; res = c.shared_slice_known-2-1.given; run = c.shared_slice_known-1.given } }))) in
    let s = start l in
    size s * l.loop-t.w.step + c.field_in-part.result.start ≤ length s.args.res.now
starts c =
    let l = head (taking (held (record { before = c.before.before.before.before; type_inv = record { on = c.slice_known-in-loop-t-2-1.given; stored = c.slice_known-in-loop-t-1.given; res = c.shared_slice_known-2-1.given; run = c.shared_slice_known-1.given } }))) in
    let s = start l in
    subst⁻¹ (λ (n : ℕ). size s * l.loop-t.w.step + n ≤ length s.args.res.now) c.field_in-part.ensures.start_value (stopped (record { before = c.before.before.before; type_inv = record { on = c.slice_known-in-loop-t-2-1.given; stored = c.slice_known-in-loop-t-1.given; res = c.shared_slice_known-2-1.given; run = c.shared_slice_known-1.given } })).starts

pub overflow_add-out : goal.overflow_add-out
overflow_add-out c = record { fits = lt_of_le_of_lt (starts c) (start (head (taking (held (goal.at.overflow_add-out c).After-alike-d)))).well_formed.1.1.1.0.0 }

pub wrong-requires : goal.wrong-requires
wrong-requires c = record { place_in_bounds = there (head (taking (held (goal.at.wrong-requires c).After-alike-d))); start_le_len = starts c }

-- the field, seen from there
abbrev wronged : After-wrong → After-on_field-next
wronged x = held (record { before = x.before.before.before.before.before; type_inv = record { on = x.slice_known-in-loop-t-2-1.given; stored = x.slice_known-in-loop-t-1.given; res = x.shared_slice_known-2-1.given; run = x.shared_slice_known-1.given } })

pub shape_of-stored-then-d-brought : goal.shape_of-stored-then-d-brought
shape_of-stored-then-d-brought c = let o = wronged c in o.on_field-next.auto.stored ∙ stores_long (head (taking o))

pub shape_of-requests-then-d-brought : goal.shape_of-requests-then-d-brought
shape_of-requests-then-d-brought c = let o = wronged c in o.on_field-next.auto.requests ∙ asks_long (head (taking o))

pub shape_of-vars-then-d-brought : goal.shape_of-vars-then-d-brought
shape_of-vars-then-d-brought c = let o = wronged c in o.on_field-next.auto.vars ∙ all_vars_long (head (taking o))

pub shape_of-on-then-d-brought : goal.shape_of-on-then-d-brought
shape_of-on-then-d-brought c = let o = wronged c in o.on_field-next.auto.on ∙ (head (taking o)).loop-t.invariant.on_long

pub shape_of-room-then-d-brought : goal.shape_of-room-then-d-brought
shape_of-room-then-d-brought c = let o = wronged c in (brought o).long ∙ sym (room_sized (start (head (taking o))))

pub returns-then-d-brought : goal.returns-then-d-brought
returns-then-d-brought c =
    shows (stopped (goal.at.returns-then-d-brought c).Then-d-brought) c.wrong.result c.field_in-part.result.start c.field_in-part.result.size c.field_in-part.ensures.start_value c.field_in-part.ensures.size_value c.wrong.ensures

-- ---- all of them are there
pub overflow_add-at : goal.overflow_add-at
overflow_add-at c =
    let l = head (taking (held (goal.at.overflow_add-at c).After-alike-d)) in
    record { fits = lt_of_le_of_lt (le_trans (le-add_right (l.loop-t.at + 1) 2) (length_there l.loop-t.at (length (start l).args.run.now) (there l))) (start l).well_formed.0.0 }

pub u16_at-requires : goal.u16_at-requires
u16_at-requires c = let l = head (taking (held (goal.at.u16_at-requires c).After-alike-d)) in length_there l.loop-t.at (length (start l).args.run.now) (there l)

pub overflow_cast-at : goal.overflow_cast-at
overflow_cast-at c = Fits-widen {w = w16} tt (record { fits = c.u16_at.type_inv })

-- the place behind the field, as the code counts it, and that it is within the file
abbrev passing : After-u16_at → At-loop-t
passing c = head (taking (held (record { before = c.before.before.before; type_inv = record { on = c.slice_known-in-loop-t-2-1.given; stored = c.slice_known-in-loop-t-1.given; res = c.shared_slice_known-2-1.given; run = c.shared_slice_known-1.given } })))

passed : (c : After-u16_at) → (passing c).loop-t.at + (3 + c.u16_at.result) ≡ (passing c).loop-t.at + 3 + length_at (start (passing c)).args.run.now (passing c).loop-t.at
passed c = let l = passing c in past_is l.loop-t.at (length_at (start l).args.run.now l.loop-t.at) c.u16_at.result c.u16_at.ensures

within : (c : After-u16_at) → (passing c).loop-t.at + (3 + c.u16_at.result) ≤ length (start (passing c)).args.run.now
within c = le_trans (le_of_eq (passed c)) (follows (passing c)).field.within

pub overflow_add-at-in-loop-t : goal.overflow_add-at-in-loop-t
overflow_add-at-in-loop-t c = record { fits = lt_of_le_of_lt (le_trans (le-add_left (3 + c.u16_at.result) (passing c).loop-t.at) (within c)) (start (passing c)).well_formed.0.0 }

pub overflow_add-at-in-loop-t-2 : goal.overflow_add-at-in-loop-t-2
overflow_add-at-in-loop-t-2 c = record { fits = lt_of_le_of_lt (within c) (start (passing c)).well_formed.0.0 }

pub loop-t-smaller : goal.loop-t-smaller
loop-t-smaller c = let l = passing c in nearer l.loop-t.at c.u16_at.result (length (start l).args.run.now) (within c)

pub loop-t-preserved : goal.loop-t-preserved
loop-t-preserved c =
    let o = held (goal.at.loop-t-preserved c).After-alike-d in
    let t = taking o in
    let l = head t in
    let s = start l in
    let a = s.args in
    goes_on (plant s) a.run.now a.res.now (size s) (length a.on.now) (sized s) (few_steps s)
    l.loop-t.stored l.loop-t.requests l.loop-t.vars l.loop-t.on l.loop-t.room l.loop-t.w l.loop-t.at l.loop-t.invariant
    (on_way t) o.on_field-next.result (then_room o) o.on_field-next.ensures.step_value (laid_there o)
    c.alike-d.result c.alike-d.ensures c.if-d-brought.false
    o.on_field-next.new.stored
    o.on_field-next.new.requests
    o.on_field-next.new.vars
    o.on_field-next.new.on
    (l.loop-t.at + (3 + c.u16_at.result))
    o.on_field-next.ensures.due_value
    o.on_field-next.ensures.holding_2
    (subst (λ (n : ℕ). stands_by o.on_field-next.new.stored o.on_field-next.new.requests o.on_field-next.new.vars o.on_field-next.new.on ≡ stands_after (plant_by a.t a.rows.now a.run.now n) (stands l) (closed l))
    l.loop-t.invariant.on_long o.on_field-next.ensures.on_after)
    (passed c)

-- ---- at the end field
abbrev ended : After-struct_known-2-1 → At-loop-t
ended k = (record { before = k.before.before.before.before; type_inv = record { res = k.shared_slice_known-2-1.given; run = k.shared_slice_known-1.given } })

pub overflow_cast-w : goal.overflow_cast-w
overflow_cast-w c = omega (arith, (follows (ended c)).few_so_far)

pub overflow_mul-size-3 : goal.overflow_mul-size-3
overflow_mul-size-3 c = let l = ended c in record { fits = lt_of_le_of_lt l.loop-t.invariant.near (start l).well_formed.1.1.1.0.0 }

pub end_judged-requires : goal.end_judged-requires
end_judged-requires c = let l = ended c in record { place_in_bounds = there l; out_in_bounds = l.loop-t.invariant.near }

pub shape_of-stored : goal.shape_of-stored
shape_of-stored c = stores_long (ended (goal.at.shape_of-stored c).After-struct_known-2-1)

pub shape_of-requests : goal.shape_of-requests
shape_of-requests c = asks_long (ended (goal.at.shape_of-requests c).After-struct_known-2-1)

pub shape_of-vars : goal.shape_of-vars
shape_of-vars c = all_vars_long (ended (goal.at.shape_of-vars c).After-struct_known-2-1)

pub shape_of-on : goal.shape_of-on
shape_of-on c = (ended (goal.at.shape_of-on c).After-struct_known-2-1).loop-t.invariant.on_long

pub shape_of-room : goal.shape_of-room
shape_of-room c = let l = ended (goal.at.shape_of-room c).After-struct_known-2-1 in l.loop-t.invariant.room_long ∙ sym (room_sized (start l))

pub returns : goal.returns
returns c =
    let l = ended (goal.at.returns c).After-struct_known-2-1 in
    let s = start l in
    arrives (plant s) s.args.run.now s.args.res.now (size s) (length s.args.on.now) (sized s) (few_steps s)
    l.loop-t.stored l.loop-t.requests l.loop-t.vars l.loop-t.on l.loop-t.room l.loop-t.w l.loop-t.at l.loop-t.invariant
    (sym c.u8_at.ensures ∙ c.loop-t-test.false) c.end_judged.result c.end_judged.ensures
