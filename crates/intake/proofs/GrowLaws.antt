-- The site part after whole fields: as it was where the steps have begun; else with the fields before the steps behind it, closed where the steps begin.
-- Assumes nothing.
use mathlib.Core.Path.{◌≡◌, refl, sym, ap, ◌∙◌, subst}
use mathlib.Core.Bool.{Bool, true, false, cond}
use mathlib.Core.List.{List, [], ◌++◌, append_assoc, append-nil}
use Prim.Native.Nat.{ℕ, ◌+◌, ◌-◌, ◌≤◌}
use native.Mathlib.Omega.{arith}
use lib.ListN.{length, take, drop, length-append}
use lib.Seq.{slice, length-take-le}
use Rattle.octets.specs.BigEndian.{laid}
use Rattle.records.proofs.LayLaws.{behind}
use Rattle.fields.specs.declared.State.{State}
use Rattle.kept.specs.Kept.{Kept, begun}
use Rattle.kept.specs.Layout.{site_place, site_most, site_bytes, site_part, state_in, filled, kept_in}
use Rattle.kept.specs.Posts.{WellKept}
use Rattle.kept.proofs.BackLaws.{site_kept}
use Rattle.kept.proofs.FormedLaws.{site_long}
use Rattle.chunks.proofs.PlaceChunks.{whole_upto}
use Rattle.taking.specs.Chunk.{closing, head_in, site_after}
use Rattle.taking.specs.Posts.{Leads}
use Rattle.taking.proofs.LeadLaws.{whole_behind}
use Rattle.taking.proofs.TwiceLaws.{site_by, site_by_lem}
use Rattle.taking.proofs.SiteLaws.{site_well}
use Rattle.intake.specs.Posts.{Open, Grown}
use Rattle.intake.proofs.OpenLaws.{open_formed, open_number, open_sized, open_well}
use Rattle.intake.proofs.AbsorbLaws.{grown_front, grown_part}

module _ (s : List ℕ) (o : Open s) (w : List ℕ) (next : State) (l : Leads (state_in s) w next) where
  -- the same of what is kept
  pub leads_kept : Leads (kept_in s).state w next
  unfolding kept_in
  leads_kept = l

  abbrev pub after : List ℕ
  after = site_after (kept_in s) w next

  pub after_short : length after ≤ site_most
  after_short = (site_well (kept_in s) (open_well s o) w next leads_kept).site_short

  pub head_upto : head_in w ≤ length w
  head_upto = whole_upto (whole_behind w l)

  long : length (site_part s) ≡ site_bytes s
  long = site_long s (open_formed s o) (open_number s o)

  part_now : drop site_place s ≡ filled site_most (site_part s)
  part_now = site_kept s (open_formed s o) (open_number s o)

  after_by : (x y : Bool) → begun (state_in s) ≡ x → begun next ≡ y → after ≡ site_by x y (site_part s) (take (head_in w) w)
  unfolding kept_in
  after_by x y e f = site_by_lem (kept_in s) w next x y e f

  -- ---- the steps have begun: nothing changes
  pub grown_begun : begun (state_in s) ≡ true → Grown s s w next (site_bytes s)
  grown_begun e =
      let is : after ≡ site_part s = after_by true (begun next) e refl in
      record {
        front = refl;
        part = part_now ∙ ap (filled site_most) (sym is);
        sized = sym (ap length is ∙ long);
        fits = (open_sized s o).site_fits_is;
      }

  -- ---- they have not
  module _ (e : begun (state_in s) ≡ false) where
    head_long : length (take (head_in w) w) ≡ head_in w
    head_long = length-take-le (head_in w) w head_upto

    -- what is laid behind the site part, all of it
    grown_by : (more u : List ℕ) (n : ℕ) → after ≡ site_part s ++ more → length more ≡ n → u ≡ laid s (site_place + site_bytes s) more → Grown s u w next (site_bytes s + n)
    grown_by more u n is m d =
        let room : length (site_part s) + length more ≤ site_most = omega (arith, after_short, ap length is, length-append (site_part s) more) in
        let at : laid s (site_place + site_bytes s) more ≡ laid s (site_place + length (site_part s)) more = ap (λ (k : ℕ). laid s (site_place + k) more) (sym long) in
        record {
          front = ap (take site_place) (d ∙ at) ∙ grown_front s (site_part s) more (open_sized s o).long part_now room;
          part = ap (drop site_place) (d ∙ at) ∙ grown_part s (site_part s) more (open_sized s o).long part_now room ∙ ap (filled site_most) (sym is);
          sized = omega (arith, ap length is, length-append (site_part s) more, long, m);
          fits = omega (arith, room, long, m);
        }

    -- nor do they begin
    module _ (f : begun next ≡ false) (t : List ℕ) (first : t ≡ laid s (site_place + site_bytes s) (slice 0 (head_in w) w)) where
      pub grown_head : Grown s t w next (site_bytes s + head_in w)
      grown_head = grown_by (take (head_in w) w) t (head_in w) (after_by false false e f ∙ append-nil (site_part s ++ take (head_in w) w)) head_long first

    -- they begin
    module _ (f : begun next ≡ true) where
      closed_is : after ≡ site_part s ++ (take (head_in w) w ++ closing)
      closed_is = after_by false true e f ∙ append_assoc (site_part s) (take (head_in w) w) closing

      closed_long : length (take (head_in w) w ++ closing) ≡ head_in w + 7
      closed_long = length-append (take (head_in w) w) closing ∙ ap (λ (k : ℕ). k + 7) head_long

      pub closing_room : site_bytes s + head_in w + 7 ≤ site_most
      closing_room = omega (arith, after_short, ap length closed_is, length-append (site_part s) (take (head_in w) w ++ closing), closed_long, long)

      module _ (t u : List ℕ) (first : t ≡ laid s (site_place + site_bytes s) (slice 0 (head_in w) w)) (second : u ≡ laid t (site_place + (site_bytes s + head_in w)) closing) where
        pub grown_closed : Grown s u w next (site_bytes s + head_in w + 7)
        grown_closed =
            let both : u ≡ laid s (site_place + site_bytes s) (take (head_in w) w ++ closing) =
            behind s (site_place + site_bytes s) (omega (arith, (open_sized s o).long, (open_sized s o).site_fits_is)) (take (head_in w) w) closing (head_in w) head_long t u first
            (second ∙ ap (λ (k : ℕ). laid t k closing) (let z : site_place + (site_bytes s + head_in w) ≡ site_place + site_bytes s + head_in w = omega arith in z)) in
            subst (Grown s u w next) (let z : site_bytes s + (head_in w + 7) ≡ site_bytes s + head_in w + 7 = omega arith in z)
            (grown_by (take (head_in w) w ++ closing) u (head_in w + 7) closed_is closed_long both)

    -- there is room for the head in either case
    pub head_room : site_bytes s + head_in w ≤ site_most
    head_room = go (begun next) refl
      where
        go : (y : Bool) → begun next ≡ y → site_bytes s + head_in w ≤ site_most
        go true f = omega (arith, closing_room f)
        go false f =
            omega (arith, after_short, ap length (after_by false false e f ∙ append-nil (site_part s ++ take (head_in w) w)), length-append (site_part s) (take (head_in w) w), head_long, long)
