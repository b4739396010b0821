-- One unit in the sums over a fleet: the code's test of bits says whether its request is met, its watts are added in 64 bits, and the sums stay in their bounds. Assumes nothing.
use mathlib.Core.Path.{◌≡◌, refl, ap, ap₂, ◌∙◌}
use mathlib.Core.Bool.{Bool, not, ◌&&◌, ◌||◌}
use Prim.Native.Nat.{ℕ, ◌+◌, ◌*◌, ◌^◌, ◌≤◌, ◌<◌}
use native.Mathlib.Nat.{le_trans, lt_of_le_of_lt, lt_trans, add-le-add, le_of_lt}
use native.Mathlib.Omega.{arith}
use lib.Dec.{eqb, lit<}
use lib.IntN.{ℤ, pos, nat_abs, ◌+ℤ◌}
use lib.Signed.{mag}
use mir.Syntax.{w32, w64}
use mir.Val.{SFits, to_z, of_z}
use mir.ValLaws.{to_z_pos}
use Rattle.whole.proofs.SignLaws.{read, size_sum, wide_is, wide_size, plus_fits, plus_is}
use Rattle.rules.proofs.RuleLaws.{back32, back64, read_sized}
use Rattle.members.proofs.DifferLaws.{bits_differ}
use Rattle.members.specs.Sums.{differ}
use Rattle.storage.specs.declared.Outcome.{Outcome}
use Rattle.tally.specs.declared.Sums.{Sums}
use Rattle.tally.specs.Posts.{Within}
use Rattle.peaks.specs.Figures.{not_met}
use Rattle.peaks.specs.Posts.{with_unit}

-- ---- whether a request is not met
module _ (request watts : ℤ) (grid : ℕ) (hr : mag request < 2 ^ 31) (hw : mag watts < 2 ^ 31) (hg : grid < 2 ^ 32) where
  grid_is : to_z w64 grid ≡ pos grid
  grid_is = to_z_pos w64 grid (lt_trans hg (lit< tt))

  room : nat_abs watts + nat_abs (pos grid) < 2 ^ 63
  room = lt_of_le_of_lt (add-le-add (wide_size watts hw) (le_of_lt hg)) (lit< tt)

  pub carried_fits : SFits w64 (back64 (back32 watts) +ℤ to_z w64 grid)
  carried_fits = plus_fits w64 watts (pos grid) (back64 (back32 watts)) (to_z w64 grid) (wide_is watts hw) grid_is room

  carried_bits : of_z w64 (back64 (back32 watts) +ℤ to_z w64 grid) ≡ of_z w64 (watts +ℤ pos grid)
  carried_bits = ap₂ (λ (x y : ℤ). of_z w64 (x +ℤ y)) (wide_is watts hw) grid_is

  carried_small : mag (watts +ℤ pos grid) < 2 ^ 63
  carried_small = (plus_fits w64 watts (pos grid) watts (pos grid) refl refl room).sfits

  pub missed_is : (not (eqb (of_z w32 request) 0) && not (eqb (of_z w64 (back32 request)) (of_z w64 (back64 (back32 watts) +ℤ to_z w64 grid)))) ≡ not_met request (watts +ℤ pos grid)
  missed_is =
      ap₂ ◌&&◌ (bits_differ w32 request (pos 0) hr (lit< tt))
      (ap₂ (λ (x y : ℕ). not (eqb x y)) (ap (of_z w64) (read w32 request hr)) carried_bits
      ∙ bits_differ w64 request (watts +ℤ pos grid) (lt_trans hr (lit< tt)) carried_small)

-- ---- one unit more
module _ (n : ℕ) (s : Sums) (missed : Bool) (o : Outcome) (few : n < 64) (h : Within n s) (hw : mag o.watts < 2 ^ 31) where
  small : nat_abs s.power ≤ 64 * 2147483648
  small = let p = h.power_small in omega arith

  power_is : back64 s.power ≡ s.power
  power_is = read_sized s.power (lt_of_le_of_lt small (lit< tt))

  room_more : nat_abs s.power + nat_abs o.watts < 2 ^ 63
  room_more = lt_of_le_of_lt (add-le-add small (wide_size o.watts hw)) (lit< tt)

  pub power_fits : SFits w64 (back64 s.power +ℤ back64 (back32 o.watts))
  power_fits = plus_fits w64 s.power o.watts (back64 s.power) (back64 (back32 o.watts)) power_is (wide_is o.watts hw) room_more

  pub unit_is : record {
    power = back64 (back64 s.power +ℤ back64 (back32 o.watts));
    stored = s.stored + o.stored;
    loss = s.loss + o.loss;
    missed = s.missed || missed;
  } ≡ with_unit s missed o
  unfolding with_unit
  unit_is =
      ap (λ (z : ℤ). record { power = z; stored = s.stored + o.stored; loss = s.loss + o.loss; missed = s.missed || missed })
      (plus_is w64 s.power o.watts (back64 s.power) (back64 (back32 o.watts)) power_is (wide_is o.watts hw) room_more)

  pub unit_within : o.stored ≤ 10000000000000 → o.loss ≤ 200000000000000 → Within (n + 1) (with_unit s missed o)
  unfolding with_unit
  unit_within hs hl =
      let p = h.power_small in
      let q = h.stored_small in
      let r = h.loss_small in
      let t : nat_abs (s.power +ℤ o.watts) ≤ nat_abs s.power + nat_abs o.watts = size_sum s.power o.watts in
      let w = wide_size o.watts hw in
      record { power_small = omega arith; stored_small = omega arith; loss_small = omega arith }
