-- Numbers and parts read back from bytes that were put behind one another. Assumes nothing.
use mathlib.Core.Path.{◌≡◌, refl, sym, ap, ◌∙◌, subst}
use mathlib.Core.Bool.{Bool, true, false, cond}
use mathlib.Core.List.{List, [], ◌∷◌, ◌++◌, append_assoc, append-nil}
use mathlib.Core.Logic.{◌⊎◌, inl, inr}
use Prim.Native.Nat.{ℕ, zero, suc, ◌+◌, ◌-◌, ◌*◌, ◌^◌, ◌≤◌, ◌<◌}
use native.Mathlib.Nat.{add-zero, add-suc, add_assoc, mod-eq_of_lt, not-suc-le-zero, le_of_suc-le-suc, eq-or-lt_of_le}
use native.Mathlib.Omega.{arith}
use lib.Dec.{eqb, lit<}
use lib.IntN.{ℤ, pos}
use lib.ListN.{length, get_or, drop, length-append, length-drop, replicate, length-replicate, get_or-replicate, get_or-append}
use lib.Seq.{slice, take_at, drop_at, get_or_at, get_or-drop, get_or-append-add, ext_get_or}
use borrow.Author.Tests.{eqb-true}
use mir.Syntax.{w32}
use mir.Val.{SFits, of_z}
use mir.ValLaws.{of_z_fits}
use Rattle.whole.proofs.OverLaws.{all_at}
use Rattle.octets.specs.BigEndian.{be, bytes_of}
use Rattle.octets.proofs.ByteLaws.{be_same, be_bytes, bytes_length}
use Rattle.kept.specs.Layout.{up_to, held_of, flags_of, vars_of}
use Rattle.kept.specs.Formed.{clear}
use Rattle.kept.proofs.StandLaws.{up_to_length, held_length, flags_length, vars_length}

-- ---- a number in the first or in the second of two pieces
pub read_left : (n : ℕ) (a b : List ℕ) (at : ℕ) → at + n ≤ length a → be n (a ++ b) at ≡ be n a at
read_left n a b at h = be_same n (a ++ b) a at at (λ i l. get_or-append a b 0 (at + i) (omega arith))

pub read_right : (n : ℕ) (a b : List ℕ) (m at : ℕ) → length a ≡ m → be n (a ++ b) (m + at) ≡ be n b at
read_right n a b m at e =
    be_same n (a ++ b) b (m + at) at
    (λ i l. ap (λ (j : ℕ). get_or (a ++ b) j 0) (add_assoc m at i ∙ ap (λ (j : ℕ). j + (at + i)) (sym e)) ∙ get_or-append-add a b (at + i) 0)

-- a number that n bytes hold
pub read_here : (n v : ℕ) → v < 256 ^ n → be n (bytes_of n v) 0 ≡ v
read_here n v h = be_bytes n v ∙ mod-eq_of_lt h

-- each of four pieces
module _ (a b d e : List ℕ) (la lb ld : ℕ) (ea : length a ≡ la) (eb : length b ≡ lb) (ed : length d ≡ ld) where
  pub read_first : be la (a ++ b ++ d ++ e) 0 ≡ be la a 0
  read_first =
      ap (λ (s : List ℕ). be la s 0) (append_assoc (a ++ b) d e ∙ append_assoc a b (d ++ e))
      ∙ read_left la a (b ++ (d ++ e)) 0 (omega arith)

  pub read_second : be lb (a ++ b ++ d ++ e) (la + 0) ≡ be lb b 0
  read_second =
      ap (λ (s : List ℕ). be lb s (la + 0)) (append_assoc (a ++ b) d e ∙ append_assoc a b (d ++ e))
      ∙ read_right lb a (b ++ (d ++ e)) la 0 ea
      ∙ read_left lb b (d ++ e) 0 (omega arith)

  pub read_third : be ld (a ++ b ++ d ++ e) (la + (lb + 0)) ≡ be ld d 0
  read_third =
      ap (λ (s : List ℕ). be ld s (la + (lb + 0))) (append_assoc (a ++ b) d e ∙ append_assoc a b (d ++ e))
      ∙ read_right ld a (b ++ (d ++ e)) la (lb + 0) ea
      ∙ read_right ld b (d ++ e) lb 0 eb
      ∙ read_left ld d e 0 (omega arith)

  pub read_fourth : (n : ℕ) → be n (a ++ b ++ d ++ e) (la + (lb + (ld + 0))) ≡ be n e 0
  read_fourth n =
      ap (λ (s : List ℕ). be n s (la + (lb + (ld + 0)))) (append_assoc (a ++ b) d e ∙ append_assoc a b (d ++ e))
      ∙ read_right n a (b ++ (d ++ e)) la (lb + (ld + 0)) ea
      ∙ read_right n b (d ++ e) lb (ld + 0) eb
      ∙ read_right n d e ld 0 ed

-- ---- a piece between two
pub slice_in : (a b d : List ℕ) (m n : ℕ) → length a ≡ m → length b ≡ n → slice m (m + n) (a ++ (b ++ d)) ≡ b
slice_in a b d m n e f =
    let l : length (a ++ b) ≡ m + n = length-append a b ∙ omega arith in
    ap (λ (s : List ℕ). slice m (m + n) s) (sym (append_assoc a b d)) ∙ ap (drop m) (take_at (a ++ b) d (m + n) l) ∙ drop_at a b m e

-- bytes that are clear up to the end are 0
pub clear_zero : (s : List ℕ) (from to : ℕ) → length s ≡ to → clear s from to ≡ true → drop from s ≡ replicate (to - from) 0
unfolding clear
clear_zero s from to l e =
    let m : length (drop from s) ≡ to - from = length-drop from s ∙ ap (λ (j : ℕ). j - from) l in
    let r : length {A = ℕ} (replicate (to - from) 0) ≡ to - from = length-replicate (to - from) 0 in
    ext_get_or 0 (drop from s) (replicate (to - from) 0) (m ∙ sym r)
    (λ i h.
    let k : i < to - from = subst (λ (j : ℕ). i < j) m h in
    get_or-drop from s i 0
    ∙ eqb-true (get_or s (from + i) 0) 0 (all_at (to - from) (λ (j : ℕ). eqb (get_or s (from + j) 0) 0) e i k)
    ∙ sym (get_or-replicate (to - from) i 0 0 k))

-- ---- a list by its elements
pub up_to_at : {A : Type 0} (n : ℕ) (g : ℕ → A) (d : A) (i : ℕ) → i < n → get_or (up_to n g) i d ≡ g i
unfolding up_to
up_to_at zero g d i h = absurd (not-suc-le-zero h)
up_to_at {A} (suc n) g d i h = go (eq-or-lt_of_le (le_of_suc-le-suc h)) (λ l. up_to_at n g d i l)
  where
    go : (i ≡ n) ⊎ (i < n) → (i < n → get_or (up_to n g) i d ≡ g i) → get_or (up_to n g ++ (g n ∷ [])) i d ≡ g i
    go (inl p) rest =
        ap (λ (j : ℕ). get_or (up_to n g ++ (g n ∷ [])) j d) p ∙ get_or_at (up_to n g) (g n) [] d n (up_to_length n g) ∙ ap g (sym p)
    go (inr l) rest = get_or-append (up_to n g) (g n ∷ []) d i (subst (λ (j : ℕ). i < j) (sym (up_to_length n g)) l) ∙ rest l

pub up_to_is : {A : Type 0} (n : ℕ) (g : ℕ → A) (d : A) (l : List A) → n ≡ length l → ((i : ℕ) → i < length l → g i ≡ get_or l i d) → up_to n g ≡ l
up_to_is {A} n g d l e h =
    ext_get_or d (up_to n g) l (up_to_length n g ∙ e)
    (λ i k.
    let m : i < n = subst (λ (j : ℕ). i < j) (up_to_length n g) k in
    up_to_at n g d i m ∙ h i (subst (λ (j : ℕ). i < j) e m))

-- the first n, and the next m behind them
pub up_to_both : {A : Type 0} (n m : ℕ) (g : ℕ → A) → up_to n g ++ up_to m (λ (i : ℕ). g (n + i)) ≡ up_to (n + m) g
unfolding up_to
up_to_both n zero g = append-nil (up_to n g) ∙ ap (λ (k : ℕ). up_to k g) (sym (add-zero n))
up_to_both {A} n (suc m) g =
    sym (append_assoc (up_to n g) (up_to m (λ (i : ℕ). g (n + i))) (g (n + m) ∷ []))
    ∙ ap (λ (l : List A). l ++ (g (n + m) ∷ [])) (up_to_both n m g)
    ∙ ap (λ (k : ℕ). up_to k g) (sym (add-suc n m))

-- ---- what units hold and are asked, flags and vars
module _ (stored : List ℕ) (rs : List ℤ) where
  abbrev store : ℕ → List ℕ
  store n = bytes_of 8 (get_or stored n 0)

  abbrev request : ℕ → List ℕ
  request n = bytes_of 4 (of_z w32 (get_or rs n (pos 0)))

  pub held_store : (n i : ℕ) → i < n → get_or stored i 0 < 2 ^ 64 → be 8 (held_of n stored rs) (12 * i) ≡ get_or stored i 0
  unfolding held_of
  held_store zero i h f = absurd (not-suc-le-zero h)
  held_store (suc n) i h f = go (eq-or-lt_of_le (le_of_suc-le-suc h)) (λ l. held_store n i l f)
    where
      go : (i ≡ n) ⊎ (i < n) → (i < n → be 8 (held_of n stored rs) (12 * i) ≡ get_or stored i 0) → be 8 (held_of n stored rs ++ (store n ++ request n)) (12 * i) ≡ get_or stored i 0
      go (inl p) rest =
          ap (λ (j : ℕ). be 8 (held_of n stored rs ++ (store n ++ request n)) (12 * j)) p
          ∙ ap (be 8 (held_of n stored rs ++ (store n ++ request n))) (sym (add-zero (12 * n)))
          ∙ read_right 8 (held_of n stored rs) (store n ++ request n) (12 * n) 0 (held_length n stored rs)
          ∙ read_left 8 (store n) (request n) 0 (omega (arith, bytes_length 8 (get_or stored n 0)))
          ∙ ap (λ (j : ℕ). be 8 (store j) 0) (sym p)
          ∙ read_here 8 (get_or stored i 0) f
      go (inr l) rest = read_left 8 (held_of n stored rs) (store n ++ request n) (12 * i) (omega (arith, held_length n stored rs)) ∙ rest l

  pub held_request : (n i : ℕ) → i < n → SFits w32 (get_or rs i (pos 0)) → be 4 (held_of n stored rs) (12 * i + 8) ≡ of_z w32 (get_or rs i (pos 0))
  unfolding held_of
  held_request zero i h f = absurd (not-suc-le-zero h)
  held_request (suc n) i h f = go (eq-or-lt_of_le (le_of_suc-le-suc h)) (λ l. held_request n i l f)
    where
      go : (i ≡ n) ⊎ (i < n) → (i < n → be 4 (held_of n stored rs) (12 * i + 8) ≡ of_z w32 (get_or rs i (pos 0)))
          → be 4 (held_of n stored rs ++ (store n ++ request n)) (12 * i + 8) ≡ of_z w32 (get_or rs i (pos 0))
      go (inl p) rest =
          ap (λ (j : ℕ). be 4 (held_of n stored rs ++ (store n ++ request n)) (12 * j + 8)) p
          ∙ read_right 4 (held_of n stored rs) (store n ++ request n) (12 * n) 8 (held_length n stored rs)
          ∙ read_right 4 (store n) (request n) 8 0 (bytes_length 8 (get_or stored n 0))
          ∙ ap (λ (j : ℕ). be 4 (request j) 0) (sym p)
          ∙ read_here 4 (of_z w32 (get_or rs i (pos 0))) (of_z_fits w32 (get_or rs i (pos 0)) f).fits
      go (inr l) rest = read_left 4 (held_of n stored rs) (store n ++ request n) (12 * i + 8) (omega (arith, held_length n stored rs)) ∙ rest l

flag_small : (b : Bool) → cond b 1 0 < 256 ^ 1
flag_small true = lit< tt
flag_small false = lit< tt

pub flags_flag : (on : List Bool) (n i : ℕ) → i < n → be 1 (flags_of n on) i ≡ cond (get_or on i false) 1 0
unfolding flags_of
flags_flag on zero i h = absurd (not-suc-le-zero h)
flags_flag on (suc n) i h = go (eq-or-lt_of_le (le_of_suc-le-suc h)) (λ l. flags_flag on n i l)
  where
    go : (i ≡ n) ⊎ (i < n) → (i < n → be 1 (flags_of n on) i ≡ cond (get_or on i false) 1 0) → be 1 (flags_of n on ++ bytes_of 1 (cond (get_or on n false) 1 0)) i ≡ cond (get_or on i false) 1 0
    go (inl p) rest =
        ap (be 1 (flags_of n on ++ bytes_of 1 (cond (get_or on n false) 1 0))) (p ∙ sym (add-zero n))
        ∙ read_right 1 (flags_of n on) (bytes_of 1 (cond (get_or on n false) 1 0)) n 0 (flags_length n on)
        ∙ ap (λ (j : ℕ). be 1 (bytes_of 1 (cond (get_or on j false) 1 0)) 0) (sym p)
        ∙ read_here 1 (cond (get_or on i false) 1 0) (flag_small (get_or on i false))
    go (inr l) rest = read_left 1 (flags_of n on) (bytes_of 1 (cond (get_or on n false) 1 0)) i (omega (arith, flags_length n on)) ∙ rest l

pub flag_back : (b : Bool) → eqb (cond b 1 0) 1 ≡ b
flag_back true = refl
flag_back false = refl

module _ (vs : List ℤ) where
  abbrev var : ℕ → List ℕ
  var n = bytes_of 4 (of_z w32 (get_or vs n (pos 0)))

  pub vars_var : (n i : ℕ) → i < n → SFits w32 (get_or vs i (pos 0)) → be 4 (vars_of n vs) (4 * i) ≡ of_z w32 (get_or vs i (pos 0))
  unfolding vars_of
  vars_var zero i h f = absurd (not-suc-le-zero h)
  vars_var (suc n) i h f = go (eq-or-lt_of_le (le_of_suc-le-suc h)) (λ l. vars_var n i l f)
    where
      go : (i ≡ n) ⊎ (i < n) → (i < n → be 4 (vars_of n vs) (4 * i) ≡ of_z w32 (get_or vs i (pos 0))) → be 4 (vars_of n vs ++ var n) (4 * i) ≡ of_z w32 (get_or vs i (pos 0))
      go (inl p) rest =
          ap (λ (j : ℕ). be 4 (vars_of n vs ++ var n) (4 * j)) p
          ∙ ap (be 4 (vars_of n vs ++ var n)) (sym (add-zero (4 * n)))
          ∙ read_right 4 (vars_of n vs) (var n) (4 * n) 0 (vars_length n vs)
          ∙ ap (λ (j : ℕ). be 4 (var j) 0) (sym p)
          ∙ read_here 4 (of_z w32 (get_or vs i (pos 0))) (of_z_fits w32 (get_or vs i (pos 0)) f).fits
      go (inr l) rest = read_left 4 (vars_of n vs) (var n) (4 * i) (omega (arith, vars_length n vs)) ∙ rest l
