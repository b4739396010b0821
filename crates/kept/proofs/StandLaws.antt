-- What stands, read into lists and laid in bytes: what a loop over units, inverters or vars has reached, and how long the parts are. Assumes nothing.
use mathlib.Core.Path.{◌≡◌, refl, sym, ap, ap₂, ◌∙◌}
use mathlib.Core.Bool.{Bool, true, false, cond}
use mathlib.Core.List.{List, [], ◌∷◌, ◌++◌, append_assoc}
use Prim.Native.Nat.{ℕ, zero, suc, ◌+◌, ◌-◌, ◌*◌, ◌≤◌, ◌<◌}
use native.Mathlib.Nat.{add_assoc}
use native.Mathlib.Numerals.{add-one}
use native.Mathlib.Omega.{arith}
use lib.IntN.{ℤ, pos}
use lib.ListN.{length, get_or, drop, set, replicate, length-append}
use lib.Seq.{drop-cons, set_at, append_snoc}
use mir.Syntax.{w32}
use mir.Val.{of_z}
use Rattle.octets.specs.BigEndian.{bytes_of, laid}
use Rattle.octets.proofs.ByteLaws.{bytes_length}
use Rattle.octets.proofs.LaidLaws.{laid_length}
use Rattle.records.proofs.LayLaws.{nothing, behind, both, longer}
use Rattle.kept.specs.Layout.{held_place, flag_place, vars_place, site_place, state_size, filled, up_to, held_of, flags_of, vars_of, stands_of}
use Rattle.kept.proofs.PieceLaws.{laid_filled, filled_long}

-- ---- a list filled from its beginning by the place alone
pub up_to_length : {A : Type 0} (n : ℕ) (g : ℕ → A) → length (up_to n g) ≡ n
unfolding up_to
up_to_length zero g = refl
up_to_length (suc n) g = length-append (up_to n g) (g n ∷ []) ∙ ap (λ (k : ℕ). k + 1) (up_to_length n g) ∙ add-one n

pub up_to_next : {A : Type 0} (n : ℕ) (g : ℕ → A) → up_to (n + 1) g ≡ up_to n g ++ (g n ∷ [])
unfolding up_to
up_to_next n g = ap (λ (k : ℕ). up_to k g) (add-one n)

pub record Filled {A : Type 0} (g : ℕ → A) (l now : List A) (i : ℕ) : Type 0 where
  pub upto : i ≤ length l
  pub is : now ≡ up_to i g ++ drop i l

module _ {A : Type 0} (g : ℕ → A) (l : List A) where
  pub filled_none : Filled g l l 0
  unfolding up_to
  filled_none = record { upto = omega arith; is = refl }

  module _ (now : List A) (i : ℕ) (w : Filled g l now i) where
    pub filled_more : i < length l → (v : A) → v ≡ g i → Filled g l (set now i v) (i + 1)
    filled_more h v e =
        record {
          upto = omega arith;
          is =
              ap (λ (t : List A). set t i v) (w.is ∙ ap (λ (t : List A). up_to i g ++ t) (drop-cons l i v h))
              ∙ set_at (up_to i g) (get_or l i v) (drop (suc i) l) v i (up_to_length i g)
              ∙ sym (append_snoc (up_to i g) v (drop (suc i) l))
              ∙ ap₂ (λ (x : A) (k : ℕ). up_to i g ++ (x ∷ []) ++ drop k l) e (sym (add-one i))
              ∙ ap (λ (t : List A). t ++ drop (i + 1) l) (sym (up_to_next i g));
        }

-- ---- what units hold and are asked, in bytes
pub held_length : (n : ℕ) (stored : List ℕ) (rs : List ℤ) → length (held_of n stored rs) ≡ 12 * n
unfolding held_of
held_length zero stored rs = refl
held_length (suc n) stored rs =
    let a = bytes_of 8 (get_or stored n 0) in
    let b = bytes_of 4 (of_z w32 (get_or rs n (pos 0))) in
    let l : length (held_of n stored rs) ≡ 12 * n = held_length n stored rs in
    let m : length (held_of n stored rs ++ (a ++ b)) ≡ 12 * n + 12 =
    both (held_of n stored rs) (a ++ b) (12 * n) 12 l (both a b 8 4 (bytes_length 8 (get_or stored n 0)) (bytes_length 4 (of_z w32 (get_or rs n (pos 0))))) in
    omega arith

pub held_next : (n : ℕ) (stored : List ℕ) (rs : List ℤ)
    → held_of (n + 1) stored rs ≡ held_of n stored rs ++ (bytes_of 8 (get_or stored n 0) ++ bytes_of 4 (of_z w32 (get_or rs n (pos 0))))
unfolding held_of
held_next n stored rs = ap (λ (k : ℕ). held_of k stored rs) (add-one n)

pub record Holding (s now : List ℕ) (stored : List ℕ) (rs : List ℤ) (i : ℕ) : Type 0 where
  pub upto : i ≤ length stored
  pub is : now ≡ laid s held_place (held_of i stored rs)

module _ (s stored : List ℕ) (rs : List ℤ) where
  pub holding_none : Holding s s stored rs 0
  unfolding held_of
  holding_none = record { upto = omega arith; is = nothing s held_place }

  module _ (h : held_place + 12 * length stored ≤ length s) (now : List ℕ) (i : ℕ) (w : Holding s now stored rs i) where
    pub holding_more : i < length stored → (t u : List ℕ) → t ≡ laid now (held_place + 12 * i) (bytes_of 8 (get_or stored i 0))
        → u ≡ laid t (held_place + 12 * i + 8) (bytes_of 4 (of_z w32 (get_or rs i (pos 0)))) → Holding s u stored rs (i + 1)
    holding_more l t u e f =
        let at : held_place ≤ length s = omega arith in
        let held = held_of i stored rs in
        let a = bytes_of 8 (get_or stored i 0) in
        let b = bytes_of 4 (of_z w32 (get_or rs i (pos 0))) in
        let n = held_length i stored rs in
        let one : t ≡ laid s held_place (held ++ a) = behind s held_place at held a (12 * i) n now t w.is e in
        let g : u ≡ laid t (held_place + (12 * i + 8)) b = f ∙ ap (λ (k : ℕ). laid t k b) (add_assoc held_place (12 * i) 8) in
        let two : u ≡ laid s held_place (held ++ a ++ b) = behind s held_place at (held ++ a) b (12 * i + 8) (longer held (12 * i) 8 (get_or stored i 0) n) t u one g in
        record { upto = omega arith; is = two ∙ ap (laid s held_place) (append_assoc held a b ∙ sym (held_next i stored rs)) }

-- ---- which inverters are on, in bytes
pub flags_length : (n : ℕ) (on : List Bool) → length (flags_of n on) ≡ n
unfolding flags_of
flags_length zero on = refl
flags_length (suc n) on = longer (flags_of n on) n 1 (cond (get_or on n false) 1 0) (flags_length n on) ∙ add-one n

pub flags_next : (n : ℕ) (on : List Bool) → flags_of (n + 1) on ≡ flags_of n on ++ bytes_of 1 (cond (get_or on n false) 1 0)
unfolding flags_of
flags_next n on = ap (λ (k : ℕ). flags_of k on) (add-one n)

pub record Flagging (s now : List ℕ) (on : List Bool) (i : ℕ) : Type 0 where
  pub upto : i ≤ length on
  pub is : now ≡ laid s flag_place (flags_of i on)

module _ (s : List ℕ) (on : List Bool) where
  pub flagging_none : Flagging s s on 0
  unfolding flags_of
  flagging_none = record { upto = omega arith; is = nothing s flag_place }

  module _ (h : flag_place + length on ≤ length s) (now : List ℕ) (i : ℕ) (w : Flagging s now on i) where
    pub flagging_more : i < length on → (v : ℕ) (t : List ℕ) → v ≡ cond (get_or on i false) 1 0 → t ≡ laid now (flag_place + i) (bytes_of 1 v) → Flagging s t on (i + 1)
    flagging_more l v t e f =
        let at : flag_place ≤ length s = omega arith in
        let one : t ≡ laid s flag_place (flags_of i on ++ bytes_of 1 v) = behind s flag_place at (flags_of i on) (bytes_of 1 v) i (flags_length i on) now t w.is f in
        record { upto = omega arith; is = one ∙ ap (λ (x : ℕ). laid s flag_place (flags_of i on ++ bytes_of 1 x)) e ∙ ap (laid s flag_place) (sym (flags_next i on)) }

-- ---- the vars last requested, in bytes
pub vars_length : (n : ℕ) (vs : List ℤ) → length (vars_of n vs) ≡ 4 * n
unfolding vars_of
vars_length zero vs = refl
vars_length (suc n) vs =
    let l : length (vars_of n vs ++ bytes_of 4 (of_z w32 (get_or vs n (pos 0)))) ≡ 4 * n + 4 = longer (vars_of n vs) (4 * n) 4 (of_z w32 (get_or vs n (pos 0))) (vars_length n vs) in
    omega arith

pub vars_next : (n : ℕ) (vs : List ℤ) → vars_of (n + 1) vs ≡ vars_of n vs ++ bytes_of 4 (of_z w32 (get_or vs n (pos 0)))
unfolding vars_of
vars_next n vs = ap (λ (k : ℕ). vars_of k vs) (add-one n)

pub record Varying (s now : List ℕ) (vs : List ℤ) (i : ℕ) : Type 0 where
  pub upto : i ≤ length vs
  pub is : now ≡ laid s vars_place (vars_of i vs)

module _ (s : List ℕ) (vs : List ℤ) where
  pub varying_none : Varying s s vs 0
  unfolding vars_of
  varying_none = record { upto = omega arith; is = nothing s vars_place }

  module _ (h : vars_place + 4 * length vs ≤ length s) (now : List ℕ) (i : ℕ) (w : Varying s now vs i) where
    pub varying_more : i < length vs → (t : List ℕ) → t ≡ laid now (vars_place + 4 * i) (bytes_of 4 (of_z w32 (get_or vs i (pos 0)))) → Varying s t vs (i + 1)
    varying_more l t e =
        let at : vars_place ≤ length s = omega arith in
        let b = bytes_of 4 (of_z w32 (get_or vs i (pos 0))) in
        record { upto = omega arith; is = behind s vars_place at (vars_of i vs) b (4 * i) (vars_length i vs) now t w.is e ∙ ap (laid s vars_place) (sym (vars_next i vs)) }

-- ---- all that stands, with 0 behind each part, is laid whole
pub stands_laid : (s stored : List ℕ) (rs vs : List ℤ) (on : List Bool) → length s ≡ state_size → length stored ≤ 64 → length vs ≤ 128 → length on ≤ 64
    → (t u v w x y : List ℕ)
    → t ≡ laid s held_place (held_of (length stored) stored rs)
    → u ≡ laid t (held_place + 12 * length stored) (replicate (flag_place - (held_place + 12 * length stored)) 0)
    → v ≡ laid u flag_place (flags_of (length on) on)
    → w ≡ laid v (flag_place + length on) (replicate (vars_place - (flag_place + length on)) 0)
    → x ≡ laid w vars_place (vars_of (length vs) vs)
    → y ≡ laid x (vars_place + 4 * length vs) (replicate (site_place - (vars_place + 4 * length vs)) 0)
    → y ≡ laid s held_place (stands_of stored rs vs on)
unfolding stands_of
stands_laid s stored rs vs on long few small fewer t u v w x y a b d e f g =
    let n = length stored in
    let k = length vs in
    let held = filled 768 (held_of n stored rs) in
    let flags = filled 64 (flags_of (length on) on) in
    let vars = filled 512 (vars_of k vs) in
    let hl : length (held_of n stored rs) ≡ 12 * n = held_length n stored rs in
    let fl : length (flags_of (length on) on) ≡ length on = flags_length (length on) on in
    let vl : length (vars_of k vs) ≡ 4 * k = vars_length k vs in
    let hm : length held ≡ 768 = filled_long 768 (held_of n stored rs) (omega arith) in
    let fm : length flags ≡ 64 = filled_long 64 (flags_of (length on) on) (omega arith) in
    let first : u ≡ laid s held_place held = laid_filled s held_place (omega arith) 768 (12 * n) (flag_place - (held_place + 12 * n)) (held_of n stored rs) hl (omega arith) t u a b in
    let ul : length u ≡ length s = ap length first ∙ laid_length s held_place held (omega arith) in
    let second : w ≡ laid u flag_place flags =
    laid_filled u flag_place (omega arith) 64 (length on) (vars_place - (flag_place + length on)) (flags_of (length on) on) fl (omega arith) v w d e in
    let wl : length w ≡ length u = ap length second ∙ laid_length u flag_place flags (omega arith) in
    let third : y ≡ laid w vars_place vars = laid_filled w vars_place (omega arith) 512 (4 * k) (site_place - (vars_place + 4 * k)) (vars_of k vs) vl (omega arith) x y f g in
    let two : w ≡ laid s held_place (held ++ flags) = behind s held_place (omega arith) held flags 768 hm u w first second in
    behind s held_place (omega arith) (held ++ flags) vars 832 (both held flags 768 64 hm fm) w y two third
