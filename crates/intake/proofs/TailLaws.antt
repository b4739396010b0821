-- What is kept with a tail: the bytes of the mark and the tail alone change. Assumes nothing.
use mathlib.Core.Path.{◌≡◌, sym, ap, ap₂, ◌∙◌}
use mathlib.Core.List.{List, [], ◌++◌, append_assoc}
use Prim.Native.Nat.{ℕ, ◌+◌, ◌-◌, ◌≤◌}
use native.Mathlib.Nat.{zero-add}
use native.Mathlib.Omega.{arith}
use lib.ListN.{length, drop, length-drop}
use lib.Seq.{slice, take-length, drop_at}
use Rattle.octets.specs.BigEndian.{laid}
use Rattle.records.proofs.LayLaws.{both}
use Rattle.kept.specs.declared.Mark.{Mark}
use Rattle.kept.specs.Layout.{held_place, tail_most, site_most, filled, numbers_of, top_of, stands_of, all_vars, mark_in, kept_in, mark_of, bytes_for}
use Rattle.kept.specs.Posts.{Sized}
use Rattle.kept.proofs.NumberLaws.{numbers_length}
use Rattle.kept.proofs.PieceLaws.{filled_long}
use Rattle.kept.proofs.ListLaws.{site_part_length}
use Rattle.taking.specs.Chunk.{with_tail}

-- a mark with a tail of so many bytes that were not taken
abbrev pub tailed : Mark → ℕ → Mark
tailed m n = record { place = m.place + n; state = m.state; site = m.site; tail = n; due = m.due }

top_long : (m : Mark) (tail : List ℕ) → length tail ≤ tail_most → length (top_of m tail) ≡ held_place
unfolding top_of
top_long m tail h = both (numbers_of m) (filled tail_most tail) 27 tail_most (numbers_length m) (filled_long tail_most tail h)

module _ (s : List ℕ) (z : Sized s) (m : Mark) (em : m ≡ mark_in s) where
  pub tail_place_lem : m.place ≡ (kept_in s).place
  unfolding mark_in kept_in
  tail_place_lem = ap (λ (k : Mark). k.place) em

  pub tail_site : m.site ≤ site_most
  unfolding mark_in
  tail_site = omega (arith, ap (λ (k : Mark). k.site) em, z.site_fits_is)

  tailed_is : (tail : List ℕ) → tailed m (length tail) ≡ mark_of (with_tail (kept_in s) tail)
  unfolding mark_in kept_in
  tailed_is tail =
      ap (λ (k : Mark). tailed k (length tail)) em
      ∙ ap (λ (n : ℕ). tailed (record { place = (mark_in s).place; state = (mark_in s).state; site = n; tail = (mark_in s).tail; due = (mark_in s).due }) (length tail)) (sym (site_part_length s z))

  module _ (bare : (kept_in s).tail ≡ []) (is : s ≡ bytes_for (kept_in s)) where
    abbrev stands : List ℕ
    stands = stands_of (kept_in s).stands.units.stored (kept_in s).stands.units.requests (all_vars (kept_in s).stands) (kept_in s).stands.on

    abbrev site : List ℕ
    site = filled site_most (kept_in s).site

    behind_mark : drop held_place s ≡ stands ++ site
    unfolding bytes_for
    behind_mark =
        let none : length (kept_in s).tail ≡ 0 = ap length bare in
        let top = top_of (mark_of (kept_in s)) (kept_in s).tail in
        ap (drop held_place) (is ∙ append_assoc top stands site)
        ∙ drop_at top (stands ++ site) held_place (top_long (mark_of (kept_in s)) (kept_in s).tail (omega arith))

    laid_so : (tail : List ℕ) → length tail ≤ tail_most → laid s 0 (top_of (mark_of (with_tail (kept_in s) tail)) tail) ≡ bytes_for (with_tail (kept_in s) tail)
    unfolding laid bytes_for
    laid_so tail h =
        let top = top_of (mark_of (with_tail (kept_in s) tail)) tail in
        ap (λ (n : ℕ). top ++ drop n s) (zero-add (length top) ∙ top_long (mark_of (with_tail (kept_in s) tail)) tail h)
        ∙ ap (λ (r : List ℕ). top ++ r) behind_mark
        ∙ sym (append_assoc top stands site)

    pub tail_kept : (bytes : List ℕ) (from : ℕ) → length bytes ≤ from + tail_most → (u : List ℕ)
        → u ≡ laid s 0 (top_of (tailed m (length bytes - from)) (slice from (length bytes) bytes)) → u ≡ bytes_for (with_tail (kept_in s) (drop from bytes))
    tail_kept bytes from h u e =
        let tail = drop from bytes in
        let long : length tail ≡ length bytes - from = length-drop from bytes in
        let mark : tailed m (length bytes - from) ≡ mark_of (with_tail (kept_in s) tail) = ap (tailed m) (sym long) ∙ tailed_is tail in
        let rest : slice from (length bytes) bytes ≡ tail = ap (drop from) (take-length bytes) in
        e ∙ ap₂ (λ (k : Mark) (t : List ℕ). laid s 0 (top_of k t)) mark rest ∙ laid_so tail (omega arith)
