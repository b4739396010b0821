-- The first field is put together from the tail and the chunk and taken in before the others; where it is not whole, all becomes the tail.
use native.Mathlib.Nat.{le_trans, le_of_eq, zero-add, sub-zero}
use native.Mathlib.Omega.{arith}
use Prim.Native.Nat.{ℕ, ◌+◌, ◌-◌, ◌≤◌, zero-le}
use mathlib.Core.Path.{◌≡◌, refl, sym, ap, ◌∙◌}
use mathlib.Core.List.{List, ◌++◌}
use lib.ListN.{length, take}
use Rattle.octets.specs.BigEndian.{laid}
use Rattle.stick.specs.Check.{field_at}
use Rattle.chunks.specs.Sizes.{largest_field}
use Rattle.kept.specs.Layout.{tail_part, kept_in, bytes_for}
use Rattle.intake.proofs.OpenLaws.{open_sized}
use Rattle.intake.proofs.JointLaws.{take_most}
use Rattle.intake.proofs.FeedLaws.{Fits, Stays, joint_fits, joint_stays}
use Rattle.std.proofs.Common.{Err, Ok}
use Rattle.intake.proofs.feeding.take_joined.Goals as goal
use Rattle.intake.proofs.feeding.take_joined.Goals.{After-field, After-join-n, After-take_both, After-take_rest, In-Ok, In-Err, Start}

-- the start of the function, and what is put together
abbrev first : After-join-n → Start
first j = j.before.before.before.before.before.before.before.before

abbrev made : After-field → After-join-n
made f = (record { before = f.before.before.before.before; type_inv = record { room = f.slice_known-2-1.given; chunk = f.shared_slice_known-1.given } })

abbrev bytes : Start → List ℕ
bytes s = tail_part s.args.s.now ++ s.args.chunk.now

few : (j : After-join-n) → j.join-n.result ≤ largest_field
few j = le_trans (le_of_eq j.join-n.ensures.value) (take_most largest_field (bytes (first j)))

within : (j : After-join-n) → j.join-n.result ≤ length j.join-n.new.joint
within j = le_trans (few j) (le_of_eq (sym j.join-n.auto.joint))

abbrev read : After-join-n → List ℕ
read j = take (j.join-n.result - 0) j.join-n.new.joint

joint_read : (j : After-join-n) → read j ≡ take largest_field ((kept_in (first j).args.s.now).tail ++ (first j).args.chunk.now)
unfolding kept_in
joint_read j = ap (λ (k : ℕ). take k j.join-n.new.joint) (sub-zero j.join-n.result) ∙ j.join-n.ensures.joint_after

next_is : (n : In-Ok) → let j = made (record { before = n.before.before; type_inv = record { room = n.slice_known-2-1.given; chunk = n.shared_slice_known-1.given } }) in field_at (first j).args.m.state (read j) 0 ≡ Ok n.in-Ok.mid
next_is n = sym f.field.ensures.value ∙ n.in-Ok.is
  where
    f : After-field
    f = (record { before = n.before.before; type_inv = record { room = n.slice_known-2-1.given; chunk = n.shared_slice_known-1.given } })

stop_is : (n : In-Err) → let j = made (record { before = n.before.before; type_inv = record { room = n.slice_known-2-1.given; chunk = n.shared_slice_known-1.given } }) in field_at (first j).args.m.state (read j) 0 ≡ Err n.in-Err.field-0
stop_is n = sym f.field.ensures.value ∙ n.in-Err.is
  where
    f : After-field
    f = (record { before = n.before.before; type_inv = record { room = n.slice_known-2-1.given; chunk = n.shared_slice_known-1.given } })

fits : (n : In-Ok) → let j = made (record { before = n.before.before; type_inv = record { room = n.slice_known-2-1.given; chunk = n.shared_slice_known-1.given } }) in let a = (first j).args in Fits (kept_in a.s.now) a.chunk.now (read j) n.in-Ok.mid a.m.tail a.r.at a.r.state
fits n =
    let j = made (record { before = n.before.before; type_inv = record { room = n.slice_known-2-1.given; chunk = n.shared_slice_known-1.given } }) in
    let s = first j in
    let a = s.args in
    joint_fits a.s.now a.chunk.now a.m a.r s.requires.gone s.requires.le_tail (read j) (joint_read j) n.in-Ok.mid (next_is n)

stays : (n : In-Err) → let j = made (record { before = n.before.before; type_inv = record { room = n.slice_known-2-1.given; chunk = n.shared_slice_known-1.given } }) in let a = (first j).args in Stays a.s.now a.chunk.now (read j) a.m.state
stays n =
    let j = made (record { before = n.before.before; type_inv = record { room = n.slice_known-2-1.given; chunk = n.shared_slice_known-1.given } }) in
    let s = first j in
    let a = s.args in
    joint_stays a.s.now a.chunk.now a.m a.r s.requires.gone s.requires.le_tail (read j) (joint_read j) n.in-Err.field-0 (stop_is n)

pub slice_bounds-join-end : goal.slice_bounds-join-end
slice_bounds-join-end c = refl

pub join-n-requires : goal.join-n-requires
join-n-requires c = record { joint_len = omega arith; sized = open_sized c.args.s.now c.requires.gone.is_open_is }

pub slice_bounds-field-count : goal.slice_bounds-field-count
slice_bounds-field-count c = zero-le

pub slice_bounds-field-start : goal.slice_bounds-field-start
slice_bounds-field-start c = zero-le

pub slice_bounds-field-end : goal.slice_bounds-field-end
slice_bounds-field-end c = within (goal.at.slice_bounds-field-end c).After-join-n

pub field-requires : goal.field-requires
field-requires c = zero-le

pub enum_known-mid : goal.enum_known-mid
enum_known-mid c = c.in-Ok.in-Ok-own.keys1

pub slice_bounds-take_both-count : goal.slice_bounds-take_both-count
slice_bounds-take_both-count c = zero-le

pub slice_bounds-take_both-start : goal.slice_bounds-take_both-start
slice_bounds-take_both-start c = zero-le

pub slice_bounds-take_both-end : goal.slice_bounds-take_both-end
slice_bounds-take_both-end c = within (made (goal.at.slice_bounds-take_both-end c).After-field)

pub take_both-requires : goal.take_both-requires
unfolding kept_in
take_both-requires c =
    let j = made (goal.at.take_both-requires c).After-field in
    let s = first j in
    let f = fits (goal.at.take_both-requires c).In-Ok in record { fact = s.requires.gone.is_open_is; in_bounds = f.header_there; joint_in_bounds = f.first_there; tail_bound = f.beyond_tail; joint_bound = f.others_behind; at_bound = f.within; chunk_bound = f.short; leads = f.first_leads; leads_2 = f.others_lead; next_in_bounds = le_trans (le_of_eq (ap length f.results_are)) s.requires.chunk_in_bounds }

pub enum_told-1 : goal.enum_told-1
enum_told-1 c = c.in-Err.in-Err-own.keys2

pub slice_bounds-take_rest-count : goal.slice_bounds-take_rest-count
slice_bounds-take_rest-count c = zero-le

pub slice_bounds-take_rest-start : goal.slice_bounds-take_rest-start
slice_bounds-take_rest-start c = zero-le

pub slice_bounds-take_rest-end : goal.slice_bounds-take_rest-end
slice_bounds-take_rest-end c = within (made (goal.at.slice_bounds-take_rest-end c).After-field)

pub take_rest-requires : goal.take_rest-requires
take_rest-requires c =
    let j = made (goal.at.take_rest-requires c).After-field in
    let s = first j in
    let f = stays (goal.at.take_rest-requires c).In-Err in record { fact = s.requires.gone.is_open_is; from_le_to = zero-le; to_in_bounds = zero-le; bytes_len_bound = f.short; leads = f.leads; next_in_bounds = le_trans (le_of_eq (zero-add _ ∙ ap length f.results_are)) s.requires.chunk_in_bounds }

pub shape_of-s-in-Ok : goal.shape_of-s-in-Ok
shape_of-s-in-Ok c = c.take_both.auto.s

pub shape_of-room-in-Ok : goal.shape_of-room-in-Ok
shape_of-room-in-Ok c = c.take_both.auto.room

pub returns-in-Ok : goal.returns-in-Ok
returns-in-Ok c =
    let a = (first (made (goal.at.returns-in-Ok c).After-field)).args in
    let f = fits (goal.at.returns-in-Ok c).In-Ok in record { s_after = c.take_both.ensures.s_after ∙ ap bytes_for f.kept_is; room_after = c.take_both.ensures.room_after ∙ ap (laid a.room.now 0) f.results_are }

pub shape_of-s-in-Err : goal.shape_of-s-in-Err
shape_of-s-in-Err c = c.take_rest.auto.s

pub shape_of-room-in-Err : goal.shape_of-room-in-Err
shape_of-room-in-Err c = c.take_rest.auto.room

pub returns-in-Err : goal.returns-in-Err
returns-in-Err c =
    let a = (first (made (goal.at.returns-in-Err c).After-field)).args in
    let f = stays (goal.at.returns-in-Err c).In-Err in record { s_after = c.take_rest.ensures.s_after ∙ ap bytes_for f.kept_is; room_after = c.take_rest.ensures.room_after ∙ ap (laid a.room.now 0) f.results_are }
