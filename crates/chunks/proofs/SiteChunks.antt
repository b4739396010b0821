-- The head of a file whose walk is accepted, with the end field of no steps behind it, says the same site, the same roofs and the same function as the
-- file: they are read off the same places, which lie before the head's end. Assumes nothing.
use mathlib.Core.Path.{◌≡◌, refl, sym, ap, ap₂, ◌∙◌, subst, subst⁻¹}
use mathlib.Core.Bool.{Bool, true, false, cond}
use mathlib.Core.List.{List, [], ◌∷◌, ◌++◌, map}
use Prim.Native.Nat.{ℕ, zero, suc, ◌+◌, ◌*◌, ◌≤◌, ◌<◌}
use native.Mathlib.Nat.{mul-suc, mul-zero, mul-le-mul_left}
use native.Mathlib.Omega.{arith}
use lib.Dec.{leb, eqb, lit≤}
use lib.ListN.{length, get_or, take, drop, take-append-drop}
use lib.Seq.{ext_get_or}
use borrow.Author.Tests.{leb-true, leb-false}
use Rattle.whole.specs.Over.{each}
use Rattle.whole.proofs.OverLaws.{and_parts, each_length, each_at}
use Rattle.octets.specs.BigEndian.{be}
use Rattle.unit.specs.declared.Unit.{Unit}
use Rattle.unit.specs.Ranges.{own_limits, link_of, linked}
use Rattle.curve.specs.declared.Bounds.{Bounds}
use Rattle.curve.specs.Ranges.{points_in}
use Rattle.curve.specs.Layout.{count_at, points_at, rest_in, curve_in}
use Rattle.curve.proofs.PointLaws.{points_count}
use Rattle.curve.proofs.RangeLaws.{points_some}
use Rattle.solar.specs.Roof.{warm_bounds, efficiency_bounds}
use Rattle.lead.specs.Lead.{led, volt_var_bounds}
use Rattle.parts.specs.Header.{header, tag_at}
use Rattle.site.specs.declared.Head.{Head}
use Rattle.site.specs.declared.Due.{Due}
use Rattle.site.specs.Site.{no_unit}
use Rattle.fields.specs.Fields.{unit_at, phases_in, volts_in}
use Rattle.stick.specs.Site.{places_from, places_of, having, head_by, connections_of, link_in, site_of, roof_at, roofs_of, function_at, functions_of, leading_in, leading_of, steps_in, steps_from, head_from}
use Rattle.stick.specs.Check.{Accepted}
use Rattle.stick.specs.Posts.{fleet_bytes, settings_bytes, roof_bytes, wide, edition_at, units_at, unit_bytes, settings_place, connections_place, connected, connections_bytes, roof_place, function_bytes, function_place, guided, steps_place}
use Rattle.stick.proofs.WalkLaws.{whole}
use Rattle.stick.proofs.SaidLaws.{every}
use Rattle.stick.proofs.RoofLaws.{RoofThere}
use Rattle.stick.proofs.FunctionLaws.{FunctionThere}
use Rattle.stick.proofs.SiteProved.{walk_accepted, fleets_picked, units_picked, settings_picked, roofs_picked, link_is, every_long, many, many_is, roofs_there, functions_picked, function_stands}
use Rattle.chunks.specs.Sizes.{head_most}
use Rattle.chunks.proofs.SameLaws.{Same, be_front, be_within, be_deep, tag_same, unit_same, head_same, roof_same, function_same}
use Rattle.chunks.proofs.FieldChunks.{same_before}
use Rattle.chunks.proofs.PlaceChunks.{Whole, went_whole, steps_shift}
use Rattle.chunks.proofs.HeadChunks.{head_end, HeadAppend, head_from_append}
use Rattle.chunks.proofs.HeadFile.{end_field, head_file, head_place, head_within, head_few, head_long, head_alone, head_ok, head_accepted, steps_behind_head}

-- ---- what stands in fields that follow each other
map_every : {A : Type 0} (f g : ℕ → A) (size m at : ℕ) → ((i : ℕ) → i < m → f (at + size * i) ≡ g (at + size * i)) → map f (every size m at []) ≡ map g (every size m at [])
map_every f g size zero at h = refl
map_every {A} f g size (suc m) at h =
    ap₂ (λ (x : A) (xs : List A). x ∷ xs) (subst (λ (p : ℕ). f p ≡ g p) (first at size) (h 0 (omega arith)))
    (map_every f g size m (at + size) (λ i l. subst (λ (p : ℕ). f p ≡ g p) (next at size i) (h (suc i) (omega arith))))
  where
    first : (at size : ℕ) → at + size * 0 ≡ at
    first at size = omega (arith, mul-zero size)

    next : (at size i : ℕ) → at + size * suc i ≡ at + size + size * i
    next at size i = omega (arith, mul-suc size i)

-- functions that agree on the places of a list's elements
each_same : {A : Type 0} (f g : ℕ → A → A) (d : A) (l : List A) → ((i : ℕ) → i < length l → (x : A) → f i x ≡ g i x) → each f l ≡ each g l
each_same f g d l h =
    ext_get_or d (each f l) (each g l) (each_length f l ∙ sym (each_length g l))
    (λ i b. let j : i < length l = subst (λ (n : ℕ). i < n) (each_length f l) b in each_at f l i d j ∙ h i j (get_or l i d) ∙ sym (each_at g l i d j))

-- ---- the site, the roofs and the function, by the places of their fields, of any file whose walk is accepted
module _ (file : List ℕ) (ok : (whole file).number ≡ 0) where
  pub head_told_lem : (site_of file).head ≡ head_by file header (settings_place file + header)
  unfolding site_of
  head_told_lem =
      ap₂ (head_by file)
      (ap (λ (ats : List ℕ). get_or ats 0 0 + header) (fleets_picked file ok))
      (ap (λ (ats : List ℕ). get_or ats 0 0 + header) (settings_picked file ok))

  edition_told : (site_of file).head.edition ≡ edition_at file
  unfolding head_by edition_at
  edition_told = ap (λ (h : Head). h.edition) head_told_lem

  abbrev pub linking : ℕ → Unit → Unit
  linking i u = linked u (link_in file (connections_of file) i)

  pub units_told : (site_of file).units ≡ each linking (map (λ (at : ℕ). unit_at (edition_at file) file (at + header)) (every (unit_bytes file) (units_at file) fleet_bytes []))
  unfolding site_of
  units_told =
      ap (λ (n : ℕ). each linking (map (λ (at : ℕ). unit_at n file (at + header)) (having 2 file (places_of file)))) edition_told
      ∙ ap (λ (ats : List ℕ). each linking (map (λ (at : ℕ). unit_at (edition_at file) file (at + header)) ats)) (units_picked file ok)

  pub roofs_told : roofs_of file ≡ map (roof_at file) (every roof_bytes (many file ok) (roof_place file 0) [])
  unfolding roofs_of
  roofs_told = ap (map (roof_at file)) (roofs_picked file ok)

  pub leading_told : leading_of file ≡ leading_in file (cond (guided file) (function_place file ∷ []) [])
  unfolding leading_of functions_of
  leading_told = ap (leading_in file) (functions_picked file ok)

-- a curve in its ranges has at most sixteen points
few_points : (b : Bounds) (file : List ℕ) (at : ℕ) → curve_in b file at ≡ true → count_at file at ≤ 16
unfolding curve_in
few_points b file at e =
    let p = (and_parts (points_in b (points_at file at)) (rest_in file at) e).0 in
    let n = (points_some b (points_at file at) p).1 in
    omega (arith, points_count file at)

-- no number of roofs has as many bytes as another with a function
as_many : (m n : ℕ) (a b : Bool) → roof_bytes * m + cond a function_bytes 0 ≡ roof_bytes * n + cond b function_bytes 0 → (m ≡ n) × (a ≡ b)
as_many m n true true e = (omega arith, refl)
as_many m n true false e = absurd (omega arith)
as_many m n false true e = absurd (omega arith)
as_many m n false false e = (omega arith, refl)

-- the end field is no part of a head
end_first : head_from 7 end_field 0 ≡ 0
unfolding head_from be
end_first = refl

-- ---- the file and its head
module _ (file : List ℕ) (ok : (whole file).number ≡ 0) where
  abbrev h : ℕ
  h = head_from (length file) file 0

  abbrev G : List ℕ
  G = head_file file

  ok_g : (whole G).number ≡ 0
  ok_g = head_ok file ok

  same_head : (p n : ℕ) → p + n ≤ h → Same file G p p n
  same_head p n l i j =
      let a = take h file in
      let long : length a ≡ h = head_long file ok in
      let r : p + n ≤ length a = omega arith in
      ap (λ (f : List ℕ). get_or f (p + i) 0) (sym (take-append-drop h file)) ∙ sym (same_before a (drop h file) p n r i j) ∙ same_before a end_field p n r i j

  far_enough : roof_place file 0 ≤ h
  unfolding steps_place
  far_enough = let e = head_place file ok in omega arith

  edition_kept : edition_at file ≡ edition_at G
  unfolding edition_at
  edition_kept = let l = far_enough in be_front file G 3 3 1 (same_head 3 1 (omega arith)) 1 (lit≤ tt)

  units_kept_lem : units_at file ≡ units_at G
  unfolding units_at
  units_kept_lem = let l = far_enough in be_front file G 4 4 1 (same_head 4 1 (omega arith)) 1 (lit≤ tt)

  bytes_kept : unit_bytes file ≡ unit_bytes G
  unfolding unit_bytes
  bytes_kept = ap wide edition_kept

  settings_kept : settings_place file ≡ settings_place G
  settings_kept = ap₂ (λ (w n : ℕ). fleet_bytes + w * n) bytes_kept units_kept_lem

  -- the head ends at the same place
  pub head_end_same : head_from (length G) G 0 ≡ h
  head_end_same = go (leb (length a) (head_end a 0)) refl
    where
      a : List ℕ
      a = take h file

      long : length a ≡ h
      long = head_long file ok

      fields : Whole a 0
      fields = went_whole a (head_alone file ok) refl

      whole_file : HeadAppend a (drop h file) 0 (head_end a 0)
      whole_file = head_from_append a (drop h file) fields

      go : (b : Bool) → leb (length a) (head_end a 0) ≡ b → head_from (length G) G 0 ≡ h
      go true e =
          let l : length a ≤ head_end a 0 = leb-true (length a) (head_end a 0) e in
          (head_from_append a end_field fields).on l ∙ omega (arith, end_first, long)
      go false e =
          let l : head_end a 0 < length a = leb-false (length a) (head_end a 0) e in
          let same : head_end (a ++ drop h file) 0 ≡ head_end file 0 = ap (λ (f : List ℕ). head_end f 0) (take-append-drop h file) in
          let s : head_end (a ++ drop h file) 0 ≡ head_end a 0 = whole_file.within l in
          absurd (omega (arith, long))

  -- ---- the connections: their bytes lie before the head's end, in the file and in its head
  place_kept : connections_place file ≡ connections_place G
  place_kept = ap (λ (n : ℕ). n + settings_bytes) settings_kept

  far_enough_too : roof_place G 0 ≤ h
  unfolding steps_place
  far_enough_too = let e = head_place G ok_g in let s = head_end_same in omega arith

  tag_kept : connections_place file + 1 ≤ h → tag_at file (connections_place file) ≡ tag_at G (connections_place G)
  tag_kept l = tag_same file G (connections_place file) (connections_place file) (same_head (connections_place file) 1 l) ∙ ap (tag_at G) place_kept

  connected_kept : connected file ≡ connected G
  unfolding connected connections_bytes
  connected_kept = go (connected file) (connected G) refl refl
    where
      go : (a b : Bool) → connected file ≡ a → connected G ≡ b → connected file ≡ connected G
      go true b ea eb =
          let bytes : connections_bytes file ≡ header + 3 * units_at file = ap (λ (b : Bool). cond b (header + 3 * units_at file) 0) ea in
          let l = far_enough in
          ap (λ (t : ℕ). eqb t 10) (tag_kept (omega arith))
      go false true ea eb =
          let bytes : connections_bytes G ≡ header + 3 * units_at G = ap (λ (b : Bool). cond b (header + 3 * units_at G) 0) eb in
          let l = far_enough_too in
          let e = place_kept in
          ap (λ (t : ℕ). eqb t 10) (tag_kept (omega arith))
      go false false ea eb = ea ∙ sym eb

  link_bytes_kept : connections_bytes file ≡ connections_bytes G
  unfolding connections_bytes
  link_bytes_kept = ap₂ (λ (b : Bool) (n : ℕ). cond b (header + 3 * n) 0) connected_kept units_kept_lem

  first_kept : roof_place file 0 ≡ roof_place G 0
  first_kept = ap₂ (λ (n b : ℕ). n + b + roof_bytes * 0) place_kept link_bytes_kept

  -- so there are as many roofs, and a function in both or in neither
  behind_kept : (many file ok ≡ many G ok_g) × (guided file ≡ guided G)
  unfolding steps_place
  behind_kept =
      let e : h ≡ steps_place file = head_place file ok in
      let g : head_from (length G) G 0 ≡ steps_place G = head_place G ok_g in
      let s = head_end_same in
      let p = first_kept in
      let m = many_is file ok in
      let n = many_is G ok_g in
      as_many (many file ok) (many G ok_g) (guided file) (guided G) (omega arith)

  -- ---- the site
  head_kept : (site_of file).head ≡ (site_of G).head
  head_kept =
      let l = far_enough in
      head_told_lem file ok
      ∙ head_same file G 3 3 (settings_place file + 3) (settings_place file + 3) (same_head 3 6 (omega arith)) (same_head (settings_place file + 3) 12 (omega arith))
      ∙ ap (λ (n : ℕ). head_by G header (n + header)) settings_kept
      ∙ sym (head_told_lem G ok_g)

  wide_is : unit_bytes file ≡ 3 + cond (own_limits (edition_at file)) 57 49
  unfolding unit_bytes
  wide_is = refl

  unit_kept : (i : ℕ) → i < units_at file → unit_at (edition_at file) file (fleet_bytes + unit_bytes file * i + header) ≡ unit_at (edition_at file) G (fleet_bytes + unit_bytes file * i + header)
  unit_kept i l =
      let f = far_enough in
      let p : ℕ = fleet_bytes + unit_bytes file * i + header in
      let w = wide_is in
      let n : unit_bytes file * suc i ≡ unit_bytes file * i + unit_bytes file = mul-suc (unit_bytes file) i in
      let m : unit_bytes file * suc i ≤ unit_bytes file * units_at file = mul-le-mul_left (unit_bytes file) l in
      unit_same file G p p (edition_at file) (same_head p (cond (own_limits (edition_at file)) 57 49) (omega arith))

  link_kept : (i : ℕ) → i < units_at file → link_in file (connections_of file) i ≡ link_in G (connections_of G) i
  unfolding connections_bytes
  link_kept i l = go (connected file) refl
    where
      at : ℕ
      at = connections_place file + header

      go : (b : Bool) → connected file ≡ b → link_in file (connections_of file) i ≡ link_in G (connections_of G) i
      go true e =
          let bytes : connections_bytes file ≡ header + 3 * units_at file = ap (λ (b : Bool). cond b (header + 3 * units_at file) 0) e in
          let f = far_enough in
          let all : Same file G at at (3 * units_at file) = same_head at (3 * units_at file) (omega arith) in
          link_is file ok true e i
          ∙ ap₂ link_of (be_within file G at at (3 * units_at file) all (3 * i) 1 (omega arith)) (be_deep file G at at (3 * units_at file) all (3 * i) 1 2 (omega arith))
          ∙ ap (λ (p : ℕ). link_of (phases_in G (p + header) i) (volts_in G (p + header) i)) place_kept
          ∙ sym (link_is G ok_g true (sym connected_kept ∙ e) i)
      go false e = link_is file ok false e i ∙ sym (link_is G ok_g false (sym connected_kept ∙ e) i)

  all_units_kept : (site_of file).units ≡ (site_of G).units
  all_units_kept =
      let plain : List Unit = map (λ (at : ℕ). unit_at (edition_at file) G (at + header)) (every (unit_bytes file) (units_at file) fleet_bytes []) in
      let long : length plain ≡ units_at file = every_long (λ (at : ℕ). unit_at (edition_at file) G (at + header)) (unit_bytes file) (units_at file) fleet_bytes in
      units_told file ok
      ∙ ap (each (linking file ok))
      (map_every (λ (at : ℕ). unit_at (edition_at file) file (at + header)) (λ (at : ℕ). unit_at (edition_at file) G (at + header)) (unit_bytes file) (units_at file) fleet_bytes unit_kept)
      ∙ each_same (linking file ok) (linking G ok_g) no_unit plain (λ i l u. ap (linked u) (link_kept i (subst (λ (n : ℕ). i < n) long l)))
      ∙ (λ i. each (linking G ok_g) (map (λ (at : ℕ). unit_at (edition_kept i) G (at + header)) (every (bytes_kept i) (units_kept_lem i) fleet_bytes [])))
      ∙ sym (units_told G ok_g)

  pub site_same : site_of (head_file file) ≡ site_of file
  site_same = let a = sym head_kept in let b = sym all_units_kept in λ i. record { head = a i; units = b i }

  -- ---- the roofs
  roof_kept : (i : ℕ) → i < many file ok → roof_at file (roof_place file 0 + roof_bytes * i) ≡ roof_at G (roof_place file 0 + roof_bytes * i)
  unfolding steps_place
  roof_kept i l =
      let p : ℕ = roof_place file i in
      let t : RoofThere file p = roofs_there file ok i l in
      let place : roof_place file 0 + roof_bytes * i ≡ p = omega arith in
      let e : h ≡ steps_place file = head_place file ok in
      let m = many_is file ok in
      let one = t.first in
      let two = t.second in
      subst⁻¹ (λ (n : ℕ). roof_at file n ≡ roof_at G n) place
      (roof_same file G p p (omega arith) (omega arith) (few_points warm_bounds file (p + 25) t.warm_in) (few_points efficiency_bounds file (p + 157) t.efficiency_in)
      (same_head p 286 (omega arith)))

  pub roofs_same : roofs_of (head_file file) ≡ roofs_of file
  roofs_same =
      sym (roofs_told file ok
      ∙ map_every (roof_at file) (roof_at G) roof_bytes (many file ok) (roof_place file 0) roof_kept
      ∙ ap₂ (λ (n p : ℕ). map (roof_at G) (every roof_bytes n p [])) behind_kept.0 first_kept
      ∙ sym (roofs_told G ok_g))

  -- ---- the function
  function_kept : guided file ≡ true → function_at file (function_place file) ≡ function_at G (function_place file)
  unfolding steps_place
  function_kept e =
      let p : ℕ = function_place file in
      let t : FunctionThere file p = function_stands file ok e in
      let one = t.first in
      let end : h ≡ p + function_bytes = head_place file ok ∙ ap (λ (b : Bool). p + cond b function_bytes 0) e in
      function_same file G p p (omega arith) (few_points volt_var_bounds file (p + 7) t.curve_in_is) (same_head p 136 (omega arith))

  function_place_kept : function_place file ≡ function_place G
  unfolding function_place
  function_place_kept = let m = behind_kept.0 in let p = first_kept in omega (arith, many_is file ok, many_is G ok_g)

  pub leading_same : leading_of (head_file file) ≡ leading_of file
  leading_same =
      sym (leading_told file ok
      ∙ go (guided file) refl
      ∙ ap₂ (λ (b : Bool) (p : ℕ). leading_in G (cond b (p ∷ []) [])) behind_kept.1 function_place_kept
      ∙ sym (leading_told G ok_g))
    where
      go : (b : Bool) → guided file ≡ b → leading_in file (cond b (function_place file ∷ []) []) ≡ leading_in G (cond b (function_place file ∷ []) [])
      go true e = ap led (function_kept e)
      go false e = refl

  -- ---- no steps are in the head
  pub no_steps_is : (d : Due) → steps_from (head_file file) d 0 ≡ []
  unfolding steps_from steps_in places_from be
  no_steps_is d =
      let a = take h file in
      let long : length a ≡ h = head_long file ok in
      let place : head_from (length G) G 0 ≡ length a + 0 = let e = head_end_same in omega arith in
      steps_behind_head G ok_g d ∙ ap (steps_from G d) place ∙ steps_shift a end_field d 0

-- ---- all of it
pub record HeadSays (file : List ℕ) : Type 0 where
  pub place : head_from (length file) file 0 ≡ steps_place file
  pub within : head_from (length file) file 0 < length file
  pub few : head_from (length file) file 0 ≤ head_most
  pub accepted : Accepted (head_file file)
  pub head_end_is : head_from (length (head_file file)) (head_file file) 0 ≡ head_from (length file) file 0
  pub site : site_of (head_file file) ≡ site_of file
  pub roofs : roofs_of (head_file file) ≡ roofs_of file
  pub leading : leading_of (head_file file) ≡ leading_of file
  pub steps : (d : Due) → steps_from file d 0 ≡ steps_from file d (head_from (length file) file 0)
  pub none : (d : Due) → steps_from (head_file file) d 0 ≡ []

pub head_says : (file : List ℕ) → (whole file).number ≡ 0 → HeadSays file
head_says file ok = record {
  place = head_place file ok;
  within = head_within file ok;
  few = head_few file ok;
  accepted = head_accepted file ok;
  head_end_is = head_end_same file ok;
  site = site_same file ok;
  roofs = roofs_same file ok;
  leading = leading_same file ok;
  steps = steps_behind_head file ok;
  none = no_steps_is file ok;
}

pub accepted_says : (file : List ℕ) → Accepted file → HeadSays file
accepted_says file z = head_says file (walk_accepted file z)
