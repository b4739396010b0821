-- The first field is put together from the tail and the chunk, and is what it is in the two; the others lie in the chunk, by the tail's bytes further on.
use native.Mathlib.Nat.{le_trans, le_of_eq, sub-zero}
use native.Mathlib.Omega.{arith}
use Prim.Native.Nat.{ℕ, ◌+◌, ◌-◌, ◌≤◌, ◌<◌, zero-le}
use mathlib.Core.Path.{◌≡◌, refl, sym, ap, ap₂, ◌∙◌}
use mathlib.Core.Bool.{false}
use mathlib.Core.List.{List, ◌++◌}
use lib.Dec.{eqb}
use lib.ListN.{length, take}
use Rattle.parts.specs.Header.{past}
use Rattle.fields.specs.declared.State.{State}
use Rattle.fields.specs.Fields.{head_of}
use Rattle.stick.specs.Check.{field_at, reached, reach_of}
use Rattle.chunks.specs.Sizes.{largest_field}
use Rattle.chunks.specs.Holds.{moved}
use Rattle.chunks.proofs.FieldChunks.{Few}
use Rattle.kept.specs.declared.Mark.{Mark}
use Rattle.kept.specs.Layout.{tail_part, state_in, mark_in, kept_in}
use Rattle.taking.specs.Chunk.{gone_by}
use Rattle.intake.proofs.OpenLaws.{open_sized, open_few, open_tail, open_waits}
use Rattle.intake.proofs.JointLaws.{take_most, stops_first, three, tail_first, past_within, goes_first}
use Rattle.std.proofs.Common.{Err, Ok, Result}
use Rattle.intake.proofs.joints.gone_on.Goals as goal
use Rattle.intake.proofs.joints.gone_on.Goals.{After-field, After-field-arg-1, After-join-n, After-st-1, In-Ok, In-Err, Start}

-- the start of the function, and what is put together
abbrev first : After-join-n → Start
first j = j.before.before.before.before.before.before

abbrev bytes : Start → List ℕ
bytes s = tail_part s.args.s.now ++ s.args.chunk.now

few : (j : After-join-n) → j.join-n.result ≤ largest_field
few j = le_trans (le_of_eq j.join-n.ensures.value) (take_most largest_field (bytes (first j)))

within : (j : After-join-n) → j.join-n.result ≤ length j.join-n.new.joint
within j = le_trans (few j) (le_of_eq (sym j.join-n.auto.joint))

joint_read : (j : After-join-n) → take (j.join-n.result - 0) j.join-n.new.joint ≡ take largest_field (bytes (first j))
joint_read j = ap (λ (k : ℕ). take k j.join-n.new.joint) (sub-zero j.join-n.result) ∙ j.join-n.ensures.joint_after

-- the mark's state and tail are the state's
state_is : (s : Start) → s.args.m.state ≡ state_in s.args.s.now
unfolding mark_in
state_is s = ap (λ (k : Mark). k.state) s.requires.m_value

tail_is : (s : Start) → s.args.m.tail ≡ length (tail_part s.args.s.now)
unfolding mark_in
tail_is s = ap (λ (k : Mark). k.tail) s.requires.m_value ∙ sym (open_tail s.args.s.now s.requires.fact)

some_tail : (s : Start) → 0 < length (tail_part s.args.s.now)
some_tail s = omega (arith, s.requires.le_tail, tail_is s)

few_said : (s : Start) → Few (state_in s.args.s.now)
few_said s = open_few s.args.s.now s.requires.fact

waited : (s : Start) → (eqb (state_in s.args.s.now).stage 0 ≡ false) × (head_of (state_in s.args.s.now) (tail_part s.args.s.now) 0 ≡ 1)
waited s = open_waits s.args.s.now s.requires.fact (omega (arith, some_tail s, open_tail s.args.s.now s.requires.fact))

-- the first field, as it is read
abbrev field_of : After-field → Result State ℕ
field_of f = let s = first (record { before = f.before.before.before.before; type_inv = record { chunk = f.shared_slice_known-2-1.given; s = f.shared_slice_known-1.given } }) in field_at (state_in s.args.s.now) (take largest_field (bytes s)) 0

stop_is : (n : In-Err) → field_of (record { before = n.before.before; type_inv = record { chunk = n.shared_slice_known-2-1.given; s = n.shared_slice_known-1.given } }) ≡ Err n.in-Err.number
stop_is n =
    sym (sym n.in-Err.is ∙ n.field.ensures.value ∙ ap₂ (λ (st : State) (l : List ℕ). field_at st l 0) (state_is (first (record { before = n.before.before.before.before.before; type_inv = record { chunk = n.shared_slice_known-2-1.given; s = n.shared_slice_known-1.given } }))) (joint_read (record { before = n.before.before.before.before.before; type_inv = record { chunk = n.shared_slice_known-2-1.given; s = n.shared_slice_known-1.given } })))

next_is : (n : In-Ok) → field_of (record { before = n.before.before; type_inv = record { chunk = n.shared_slice_known-2-1.given; s = n.shared_slice_known-1.given } }) ≡ Ok n.in-Ok.next
next_is n =
    sym (sym n.in-Ok.is ∙ n.field.ensures.value ∙ ap₂ (λ (st : State) (l : List ℕ). field_at st l 0) (state_is (first (record { before = n.before.before.before.before.before; type_inv = record { chunk = n.shared_slice_known-2-1.given; s = n.shared_slice_known-1.given } }))) (joint_read (record { before = n.before.before.before.before.before; type_inv = record { chunk = n.shared_slice_known-2-1.given; s = n.shared_slice_known-1.given } })))

pub slice_bounds-join-end : goal.slice_bounds-join-end
slice_bounds-join-end c = refl

pub join-n-requires : goal.join-n-requires
join-n-requires c = record { joint_len = omega arith; sized = open_sized c.args.s.now c.requires.fact }

pub slice_bounds-field-count : goal.slice_bounds-field-count
slice_bounds-field-count c = zero-le

pub slice_bounds-field-start : goal.slice_bounds-field-start
slice_bounds-field-start c = zero-le

pub slice_bounds-field-end : goal.slice_bounds-field-end
slice_bounds-field-end c = within (goal.at.slice_bounds-field-end c).After-join-n

pub field-requires : goal.field-requires
field-requires c = zero-le

pub enum_known-number : goal.enum_known-number
enum_known-number c = c.in-Err.in-Err-own.keys1

pub enum_known-next : goal.enum_known-next
enum_known-next c = c.in-Ok.in-Ok-own.keys2

pub slice_bounds-beyond-count : goal.slice_bounds-beyond-count
slice_bounds-beyond-count c = zero-le

pub slice_bounds-beyond-start : goal.slice_bounds-beyond-start
slice_bounds-beyond-start c = zero-le

pub slice_bounds-beyond-end : goal.slice_bounds-beyond-end
slice_bounds-beyond-end c = within (goal.at.slice_bounds-beyond-end c).After-join-n

pub beyond-requires : goal.beyond-requires
beyond-requires c =
    let s = first (goal.at.beyond-requires c).After-join-n in
    let st = state_in s.args.s.now in
    let tail = tail_part s.args.s.now in
    let chunk = s.args.chunk.now in
    let e = next_is (goal.at.beyond-requires c).In-Ok in
    let w = waited s in
    let same = joint_read (goal.at.beyond-requires c).After-join-n in record { in_bounds = omega (arith, ap length same, three st (few_said s) tail chunk (some_tail s) w.0 w.1 c.in-Ok.next e); tail_bound = omega (arith, ap (λ (l : List ℕ). past l 0) same, tail_is s, tail_first st (few_said s) tail chunk (some_tail s) w.0 w.1 c.in-Ok.next e); joint_bound = omega (arith, ap (λ (l : List ℕ). past l 0) same, tail_is s, past_within st (few_said s) tail chunk (some_tail s) w.0 w.1 c.in-Ok.next e); tail_le_tail_most = omega (arith, tail_is s, open_tail s.args.s.now s.requires.fact, (open_sized s.args.s.now s.requires.fact).tail_fits_is) }

pub returns-in-Err : goal.returns-in-Err
unfolding gone_by kept_in
returns-in-Err c =
    let s = first (goal.at.returns-in-Err c).After-join-n in
    let w = waited s in
    ap (reached c.in-Err.number 0) (state_is s)
    ∙ stops_first (state_in s.args.s.now) (few_said s) (tail_part s.args.s.now) s.args.chunk.now (some_tail s) w.0 w.1 c.in-Err.number (stop_is c)

pub returns-in-Ok : goal.returns-in-Ok
unfolding gone_by kept_in
returns-in-Ok c =
    let s = first (goal.at.returns-in-Ok c).After-join-n in
    let w = waited s in
    let chunk = s.args.chunk.now in
    let next = c.in-Ok.next in
    c.beyond.ensures
    ∙ ap₂ (λ (t : ℕ) (l : List ℕ). moved t (reach_of (length chunk) next chunk (past l 0 - t))) (tail_is s) (joint_read (goal.at.returns-in-Ok c).After-join-n)
    ∙ goes_first (state_in s.args.s.now) (few_said s) (tail_part s.args.s.now) chunk (some_tail s) w.0 w.1 next (next_is (goal.at.returns-in-Ok c).In-Ok)
