-- The lists of a state: a site part that fits and is closed is accepted by the check, so that its units and inverters are those that the lists are
-- kept for; before the steps begin there are none. Assumes nothing.
use mathlib.Core.Path.{◌≡◌, refl, sym, ap, ap₂, ◌∙◌}
use mathlib.Core.Bool.{Bool, true, false, cond, ◌&&◌}
use mathlib.Core.List.{List}
use Prim.Native.Nat.{ℕ, ◌+◌, ◌-◌, ◌≤◌}
use native.Mathlib.Omega.{arith}
use lib.Dec.{eqb}
use lib.ListN.{length, take, drop}
use lib.Seq.{slice, length-slice}
use Rattle.octets.specs.BigEndian.{be}
use borrow.Author.Tests.{le-ltb}
use Rattle.whole.specs.Over.{all_of, some_of}
use Rattle.whole.proofs.OverLaws.{and_parts}
use Rattle.members.specs.Ranges.{some_above, some_below}
use Rattle.site.specs.Site.{count}
use Rattle.fields.specs.Fields.{at_end}
use Rattle.stick.specs.Check.{Answer, answer, reach_of, ends, walk, start, check_of, Accepted}
use Rattle.stick.specs.declared.Reached.{Reached}
use Rattle.stick.specs.Site.{site_of, roofs_of}
use Rattle.stick.specs.Posts.{answered}
use Rattle.stick.proofs.ReachLaws.{walk_reach}
use Rattle.stick.proofs.SiteProved.{sited, roofed}
use Rattle.kept.specs.Kept.{begun_at}
use Rattle.kept.specs.declared.Mark.{Mark}
use Rattle.kept.specs.Layout.{tail_place, site_place, state_size, site_most, stage_in, site_bytes, tail_bytes, site_part, tail_part, due_kept, state_in, mark_in, store_at, request_at, up_to, units_kept, roofs_kept}
use Rattle.kept.specs.Formed.{site_fits, place_fits, sun_fits, volt_fits, tail_fits, held_fits, flag_fits, var_fits, lists_fit, stands_fit, rest_clear, mark_fits}
use Rattle.kept.specs.Posts.{Sized}
use Rattle.kept.proofs.NumberLaws.{part_is}

-- ---- the site part, as it is lent
pub site_part_is : (s : List ℕ) (n : ℕ) → n ≡ site_bytes s → take (site_place + n - site_place) (drop site_place s) ≡ site_part s
unfolding site_part
site_part_is s n e = part_is site_place n s ∙ ap (λ (k : ℕ). slice site_place (site_place + k) s) e

pub site_part_length : (s : List ℕ) → Sized s → length (site_part s) ≡ site_bytes s
unfolding site_part
site_part_length s z =
    let long : length s ≡ state_size = z.long in
    let few : site_bytes s ≤ site_most = z.site_fits_is in
    let l : length (slice site_place (site_place + site_bytes s) s) ≡ site_place + site_bytes s - site_place = length-slice site_place (site_place + site_bytes s) s (omega arith) in
    l ∙ omega arith

-- ---- a closed site part is an accepted file
closed_zero : (r : Reached) (stage steps : ℕ) → site_fits r stage steps ≡ true → begun_at stage ≡ true → (answered r).number ≡ 0
unfolding site_fits ends
closed_zero r stage steps e b =
    let there = eqb r.state.stage stage && eqb steps 0 in
    let both = and_parts (eqb r.number 0 && eqb r.state.steps 0) (cond (begun_at stage) (eqb r.state.stage at_end) there) e in
    let none = (and_parts (eqb r.number 0) (eqb r.state.steps 0) both.0).0 in
    let over : eqb r.state.stage at_end ≡ true = sym (ap (λ (c : Bool). cond c (eqb r.state.stage at_end) there) b) ∙ both.1 in
    rw (none, over)

pub part_accepted : (p : List ℕ) (stage steps : ℕ) → length p ≤ site_most → site_fits (reach_of (length p) start p 0) stage steps ≡ true → begun_at stage ≡ true → Accepted p
unfolding check_of
part_accepted p stage steps few e b =
    let walked = walk (length p) start p 0 in
    record {
      complete =
          ap (λ (c : Bool). (cond c (answer 12 0 0) walked).number) (le-ltb 2097152 (length p) (omega arith))
          ∙ ap (λ (a : Answer). a.number) (walk_reach p (length p) start 0)
          ∙ closed_zero (reach_of (length p) start p 0) stage steps e b;
    }

pub few_units : (p : List ℕ) → Accepted p → count (site_of p) ≤ 64
few_units p z = (sited p z).few

pub few_roofs : (p : List ℕ) → Accepted p → length (roofs_of p) ≤ 64
few_roofs p z = (roofed p z).few

-- ---- as many as the site has, once the steps have begun; before that none
kept_by_lem : (s : List ℕ) (b : Bool) → begun_at (stage_in s) ≡ b
    → (units_kept s ≡ cond b (count (site_of (site_part s))) 0) × (roofs_kept s ≡ cond b (length (roofs_of (site_part s))) 0)
unfolding units_kept roofs_kept state_in
kept_by_lem s b e = (ap (λ (c : Bool). cond c (count (site_of (site_part s))) 0) e, ap (λ (c : Bool). cond c (length (roofs_of (site_part s))) 0) e)

none_fit : (s : List ℕ) → lists_fit s 0 0 ≡ true
unfolding lists_fit held_fits up_to all_of some_above some_below some_of
none_fit s = refl

pub lists_before : (s : List ℕ) (r : Bool) → begun_at (stage_in s) ≡ false → r ≡ rest_clear s 0 0 → r ≡ (stands_fit s && rest_clear s (units_kept s) (roofs_kept s))
unfolding stands_fit
lists_before s r b e =
    let (u, v) = kept_by_lem s false b in
    e ∙ ap (λ (f : Bool). f && rest_clear s 0 0) (sym (none_fit s)) ∙ ap₂ (λ (n m : ℕ). lists_fit s n m && rest_clear s n m) (sym u) (sym v)

pub lists_begun : (s : List ℕ) (units roofs : ℕ) (f r : Bool) → begun_at (stage_in s) ≡ true → units ≡ count (site_of (site_part s)) → roofs ≡ length (roofs_of (site_part s))
    → f ≡ lists_fit s units roofs → r ≡ rest_clear s units roofs → (f && r) ≡ (stands_fit s && rest_clear s (units_kept s) (roofs_kept s))
unfolding stands_fit
lists_begun s units roofs f r b p q e h =
    let (u, v) = kept_by_lem s true b in
    ap₂ ◌&&◌ e h ∙ ap₂ (λ (n m : ℕ). lists_fit s n m && rest_clear s n m) (p ∙ sym u) (q ∙ sym v)

-- ---- what was read into lists fits as the bytes do
pub loaded_is : (s : List ℕ) (n : ℕ) (part : List ℕ) (roofs : ℕ) (h f v : Bool) → part ≡ site_part s
    → h ≡ held_fits (site_of part) (up_to n (store_at s)) (up_to n (request_at s)) → f ≡ all_of roofs (flag_fits s)
    → v ≡ all_of (n + roofs) (var_fits s) → (h && f && v) ≡ lists_fit s n roofs
unfolding lists_fit
loaded_is s n part roofs h f v p e g i = ap₂ ◌&&◌ (ap₂ ◌&&◌ (e ∙ ap (λ (t : List ℕ). held_fits (site_of t) (up_to n (store_at s)) (up_to n (request_at s))) p) g) i

-- ---- the numbers of the mark
pub mark_site : (s : List ℕ) (m : Mark) → m ≡ mark_in s → m.site ≡ site_bytes s
unfolding mark_in
mark_site s m e = ap (λ (x : Mark). x.site) e

pub mark_tail : (s : List ℕ) (m : Mark) → m ≡ mark_in s → m.tail ≡ tail_bytes s
unfolding mark_in
mark_tail s m e = ap (λ (x : Mark). x.tail) e

abbrev marks_fit : List ℕ → Mark → Bool
marks_fit s m =
    place_fits m.place m.state.stage m.state.steps m.site m.tail && sun_fits m.state.stage m.due.sun && volt_fits m.state.stage (be 2 s 25)
    && tail_fits m.state (slice tail_place (tail_place + m.tail) s)

pub mark_fits_is : (s : List ℕ) (m : Mark) (volts : ℕ) (a b v d : Bool) → m ≡ mark_in s → volts ≡ be 2 s 25 → a ≡ place_fits m.place m.state.stage m.state.steps m.site m.tail
    → b ≡ sun_fits m.state.stage m.due.sun → v ≡ volt_fits m.state.stage volts
    → d ≡ tail_fits m.state (take (tail_place + m.tail - tail_place) (drop tail_place s)) → (a && b && v && d) ≡ mark_fits s
unfolding mark_fits mark_in state_in due_kept tail_part
mark_fits_is s m volts a b v d e f p q g r =
    ap₂ ◌&&◌ (ap₂ ◌&&◌ (ap₂ ◌&&◌ p q) (g ∙ ap (volt_fits m.state.stage) f)) (r ∙ ap (tail_fits m.state) (part_is tail_place m.tail s)) ∙ ap (marks_fit s) e
