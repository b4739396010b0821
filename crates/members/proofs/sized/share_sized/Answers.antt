use Prim.Native.Nat.{ℕ}
use mathlib.Core.Path.{◌≡◌, ap, ap₂, ◌∙◌}
use native.Mathlib.Nat.{lt_of_le_of_lt, le_trans, le_of_eq}
use native.Mathlib.Omega.{arith}
use lib.Dec.{lit<}
use lib.IntN.{ℤ, nat_abs}
use lib.ListN.{length}
use Rattle.whole.specs.Over.{each}
use Rattle.whole.specs.Signed.{negative, signed}
use Rattle.whole.proofs.SignLaws.{sign_size}
use Rattle.rules.proofs.RuleLaws.{back64, read_sized}
use Rattle.members.proofs.PlaceLaws.{reached_none, reached_length, reached_step, reached_requests, reached_flag}
use Rattle.members.proofs.ShareLaws.{row_there, may_size, row_sized, sized_is}
use Rattle.members.proofs.sized.share_sized.Goals as goal
use Rattle.members.proofs.sized.share_sized.Goals.{After-old-1, After-unsigned_abs-size, At-loop-i, Start}

abbrev begun : After-unsigned_abs-size → Start
begun z = z.before.before.before.before.before.before

-- the function that the loop maps
abbrev at : After-unsigned_abs-size → ℕ → ℤ → ℤ
at z = let a = (begun z).args in row_sized a.charging z.below_zero64-below.result a.factor z.unsigned_abs-size.result a.weights a.units.now a.stored.now

long : (c : At-loop-i) → length c.loop-i.requests ≡ length (begun (record { before = c.before.before; type_inv = record { stored = c.shared_slice_known-1.given } })).args.requests.now
long c = reached_length (at (record { before = c.before.before; type_inv = record { stored = c.shared_slice_known-1.given } })) (begun (record { before = c.before.before; type_inv = record { stored = c.shared_slice_known-1.given } })).args.requests.now c.loop-i.requests c.loop-i.changed c.loop-i.i c.loop-i.invariant

-- the sign and the size are the plain need's
plain_read : (s : Start) → back64 s.args.w.plain ≡ s.args.w.plain
plain_read s = read_sized s.args.w.plain (lt_of_le_of_lt s.requires.sharing.linked.modest.plain_small (lit< tt))

plain_is : (z : After-unsigned_abs-size) → signed z.below_zero64-below.result z.unsigned_abs-size.result ≡ (begun z).args.w.plain
plain_is z =
    let e = plain_read (begun z) in
    ap₂ signed (z.below_zero64-below.ensures ∙ ap negative e) (z.unsigned_abs-size.ensures.value ∙ ap nat_abs e) ∙ sign_size (begun z).args.w.plain

pub loop-i-init : goal.loop-i-init
loop-i-init c = reached_none (at c) (begun c).args.requests.now

pub next_sized-next-requires : goal.next_sized-next-requires
next_sized-next-requires c =
    let s = begun (goal.at.next_sized-next-requires c).After-unsigned_abs-size in
    let a = s.args in
    let p = s.requires.sharing in
    let small = le_trans (le_of_eq (c.unsigned_abs-size.ensures.value ∙ ap nat_abs (plain_read s))) (p.linked.modest.current_small s.requires.current_value) in record { i_in_bounds = row_there a.factor a.w a.weights a.units.now a.stored.now (length a.requests.now) p c.loop-i.i (omega (arith, long (goal.at.next_sized-next-requires c).At-loop-i)); sharable_by_size = may_size a.factor a.w a.weights a.units.now a.stored.now (length a.requests.now) p c.loop-i.i c.unsigned_abs-size.result small s.requires.le_weights }

pub loop-i-preserved : goal.loop-i-preserved
loop-i-preserved c =
    reached_step (at (goal.at.loop-i-preserved c).After-unsigned_abs-size) (begun (goal.at.loop-i-preserved c).After-unsigned_abs-size).args.requests.now c.loop-i.requests c.loop-i.changed c.loop-i.i c.loop-i.invariant (omega (arith, long (goal.at.loop-i-preserved c).At-loop-i))
    c.next_sized-next.result c.old-1.given c.next_sized-next.type_inv c.next_sized-next.ensures

pub returns : goal.returns
returns c =
    let s = begun (goal.at.returns c).After-unsigned_abs-size in
    let a = s.args in
    let rs = a.requests.now in
    let same = sized_is a.charging a.factor a.w a.weights a.units.now a.stored.now c.below_zero64-below.result c.unsigned_abs-size.result s.requires.current_value s.requires.other_value (plain_is (goal.at.returns c).After-unsigned_abs-size) in
    let e : c.loop-i.i ≡ length rs = omega (arith, long (goal.at.returns c).At-loop-i, c.loop-i.invariant.upto) in record { requests_after = reached_requests (at (goal.at.returns c).After-unsigned_abs-size) rs c.loop-i.requests c.loop-i.changed c.loop-i.i c.loop-i.invariant e ∙ ap (λ (f : ℕ → ℤ → ℤ). each f rs) same; value = reached_flag (at (goal.at.returns c).After-unsigned_abs-size) rs c.loop-i.requests c.loop-i.changed c.loop-i.i c.loop-i.invariant e }
