-- What a call wrote, it had room for: where there is too little room a call is refused. Assumes nothing.
use mathlib.Core.Path.{◌≡◌, refl}
use mathlib.Core.Bool.{Bool, true, false, cond, not}
use mathlib.Core.List.{List}
use Prim.Native.Nat.{ℕ, ◌≤◌}
use native.Mathlib.Omega.{arith}
use lib.Dec.{eqb, ltb}
use borrow.Author.Tests.{ltb-false, eqb-false}
use Rattle.kept.specs.Layout.{kept_in}
use Rattle.std.proofs.Common.{Ok}
use Rattle.feed.specs.Answers.{written_by, own_number, fault_of, room_for, feed_number}
use Rattle.feed.proofs.WrittenLaws.{written_is}

-- a number of a call, by the outcomes of its three tests
abbrev answer : Bool → ℕ → Bool → ℕ → Bool → ℕ
answer a own b fault c = cond (not a) own (cond (not b) fault (cond c 11 0))

enough : (own fault need room : ℕ) (a b c : Bool) → eqb own 0 ≡ a → eqb fault 0 ≡ b → ltb room need ≡ c → answer a own b fault c ≡ 0 → need ≤ room
enough own fault need room false b c ea eb ec h = let f = eqb-false own 0 ea h in omega arith
enough own fault need room true false c ea eb ec h = let f = eqb-false fault 0 eb h in omega arith
enough own fault need room true true true ea eb ec h = omega arith
enough own fault need room true true false ea eb ec h = ltb-false room need ec

-- what was written, the room held
pub fits : (s chunk : List ℕ) (room n : ℕ) → Ok n ≡ written_by (feed_number s chunk room) (room_for s chunk) → n ≤ room
unfolding feed_number
fits s chunk room n e =
    let own = own_number s in
    let fault = fault_of (kept_in s) chunk in
    let need = room_for s chunk in
    let (zero, is) = written_is (feed_number s chunk room) need n e in
    let held : need ≤ room = enough own fault need room (eqb own 0) (eqb fault 0) (ltb room need) refl refl refl zero in
    omega arith
