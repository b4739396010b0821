-- What a turn reads stands behind what was read before.
use Rattle.std.proofs.Common.{◌≡◌, ℕ, ◌+◌, ◌≤◌, List, ◌++◌, rules, length, take, drop, sym, ap, ◌∙◌, subst, le_refl, drop_at, length-take-le}
use Rattle.std.proofs.lemmas.Slice.{take-put_mid_below}
use Rattle.std.proofs.KnownBytes.{Consumes-trans}
use Rattle.std.specs.Io.KnownBytes.{Consumes}
use borrow.Rule.Slice.PartMut.{put_mid, post_of}
use lib.Seq.{take-add, take-append-le}
use Rattle.screen.proofs.input.fill.Goals as goal

joined : (a k n : ℕ) (xs ys : List ℕ) → a ≤ length xs → n ≤ length ys → take a xs ++ take n ys ≡ take (a + n) (put_mid a k xs ys)
joined a k n xs ys within fits =
    let new = put_mid a k xs ys in
    let part : take n (drop a new) ≡ take n ys = ap (take n) (drop_at (take a xs) (ys ++ post_of a k xs) a (length-take-le a xs within)) ∙ take-append-le n ys _ fits in
    ap (λ l. take a xs ++ l) (sym part) ∙ ap (λ l. l ++ take n (drop a new)) (sym (take-put_mid_below a k xs ys a (le_refl a) within)) ∙ sym (take-add a n new)

pub loop-n-preserved : goal.loop-n-preserved
loop-n-preserved g c =
    let was = c.loop-n.invariant in
    let read = c.in-Ok.ensures in (
      search rules,
      search rules,
      subst (Consumes _ _) (joined _ _ _ c.loop-n.buffer c.read.new.buf was.1 read.bound.0) (Consumes-trans _ _ _ _ _ was.2 read.bytes.0),
    )
