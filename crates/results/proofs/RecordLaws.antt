-- A record is numbers laid one behind the other, and each is read where it stands, if it fits its width; a double is read back from its bits. Assumes nothing.
use mathlib.Core.Path.{◌≡◌, sym, ap, ◌∙◌, subst, subst⁻¹}
use mathlib.Core.Bool.{Bool, true, false, cond}
use mathlib.Core.List.{List, [], ◌∷◌, ◌++◌, append_assoc, append-nil}
use Prim.Native.Nat.{ℕ, ◌+◌, ◌<◌, ◌^◌}
use native.Mathlib.Omega.{arith}
use lib.Dec.{lit<, lit≤}
use lib.Ieee.{binary64, of_bits, to_bits, div, of_int}
use lib.Ieee.Bits.{of_bits-to_bits, to_bits-lt}
use lib.Ieee.Fits.{div-fits}
use lib.IntN.{ℤ}
use lib.Signed.{mag}
use lib.ListN.{length}
use mir.Syntax.{w32}
use mir.Val.{to_z, of_z}
use mir.ValLaws.{of_z_fits}
use Rattle.whole.proofs.SignLaws.{read}
use Rattle.octets.specs.BigEndian.{be, bytes_of}
use Rattle.reading.specs.Kilowatts.{kw_of, thousand}
use Rattle.solar.specs.declared.Given.{Given}
use Rattle.storage.specs.declared.Outcome.{Outcome}
use Rattle.records.specs.Records.{asked_part, given_part, record_of, turned_part, lit_part, roof_record_of, end_of}
use Rattle.layouts.specs.Layout.{Number, u8, u16, u32, u64, i32, in_bytes}
use Rattle.layouts.proofs.NumberLaws.{Small, Stand, all_stand}
use Rattle.results.specs.Says.{UnitSays, InverterSays, EndSays}

-- ---- a double in its bits
pub kw_below : (z : ℤ) → to_bits binary64 (kw_of z) < 256 ^ 8
unfolding kw_of
kw_below z = to_bits-lt binary64 (div binary64 (of_int binary64 z) thousand) (div-fits binary64 (of_int binary64 z) thousand)

pub kw_back : (z : ℤ) → of_bits binary64 (to_bits binary64 (kw_of z)) ≡ kw_of z
unfolding kw_of
kw_back z = of_bits-to_bits binary64 (div binary64 (of_int binary64 z) thousand) (div-fits binary64 (of_int binary64 z) thousand)

-- ---- a signed number in its bits
pub signed_below : (z : ℤ) → mag z < 2 ^ 31 → of_z w32 z < 256 ^ 4
signed_below z h = (of_z_fits w32 z (record { sfits = h })).fits

-- ---- a number at the same place
moved : (w : ℕ) (F : List ℕ) (p q v : ℕ) → p ≡ q → be w F p ≡ v → be w F q ≡ v
moved w F p q v e h = subst (λ (x : ℕ). be w F x ≡ v) e h

-- ---- the numbers of each record
abbrev unit_numbers : ℕ → ℕ → ℤ → Outcome → List Number
unit_numbers step unit request o =
    u8 0x11 ∷ u16 37 ∷ u32 step ∷ u8 unit ∷ i32 request ∷ u64 (to_bits binary64 (kw_of o.watts)) ∷ i32 o.vars ∷ u64 o.stored ∷ u64 o.loss ∷ []

flat_unit : (a b c d e f g h i : List ℕ) → (a ++ b ++ c ++ d ++ e) ++ (f ++ g ++ h ++ i) ≡ a ++ b ++ c ++ d ++ e ++ f ++ g ++ h ++ i ++ []
flat_unit a b c d e f g h i = simp (append_assoc, append-nil)

unit_numbers_lem : (step unit : ℕ) (request : ℤ) (o : Outcome) → record_of step unit request o ≡ in_bytes (unit_numbers step unit request o)
unfolding record_of asked_part given_part in_bytes
unit_numbers_lem step unit request o =
    flat_unit (bytes_of 1 0x11) (bytes_of 2 37) (bytes_of 4 step) (bytes_of 1 unit) (bytes_of 4 (of_z w32 request)) (bytes_of 8 (to_bits binary64 (kw_of o.watts))) (bytes_of 4 (of_z w32 o.vars))
    (bytes_of 8 o.stored) (bytes_of 8 o.loss)

-- what a record has room for
pub record UnitFits (step unit : ℕ) (request : ℤ) (o : Outcome) : Type 0 where
  pub step_fits : step < 256 ^ 4
  pub unit_fits_is : unit < 256
  pub request_fits : mag request < 2 ^ 31
  pub vars_fits : mag o.vars < 2 ^ 31
  pub stored_fits : o.stored < 256 ^ 8
  pub loss_fits : o.loss < 256 ^ 8

unit_small : {step unit : ℕ} {request : ℤ} {o : Outcome} → UnitFits step unit request o → Small (unit_numbers step unit request o)
unit_small {step} {unit} {request} {o} f =
    (lit< tt, (lit< tt, (f.step_fits, (f.unit_fits_is, (signed_below request f.request_fits, (kw_below o.watts, (signed_below o.vars f.vars_fits, (f.stored_fits, (f.loss_fits, lit≤ tt)))))))))

unit_stands : (F : List ℕ) (at step unit : ℕ) (request : ℤ) (o : Outcome) → UnitFits step unit request o → Stand (unit_numbers step unit request o) F at → UnitSays F at step unit request o
unit_stands F at step unit request o f s = record {
  tag_is = s.0;
  length_is = s.1.0;
  step_is = moved 4 F (at + 1 + 2) (at + 3) _ (omega arith) s.1.1.0;
  unit_is = moved 1 F (at + 1 + 2 + 4) (at + 7) _ (omega arith) s.1.1.1.0;
  request_is = ap (to_z w32) (moved 4 F (at + 1 + 2 + 4 + 1) (at + 8) _ (omega arith) s.1.1.1.1.0) ∙ read w32 request f.request_fits;
  power_is = ap (of_bits binary64) (moved 8 F (at + 1 + 2 + 4 + 1 + 4) (at + 12) _ (omega arith) s.1.1.1.1.1.0) ∙ kw_back o.watts;
  vars_is = ap (to_z w32) (moved 4 F (at + 1 + 2 + 4 + 1 + 4 + 8) (at + 20) _ (omega arith) s.1.1.1.1.1.1.0) ∙ read w32 o.vars f.vars_fits;
  stored_is = moved 8 F (at + 1 + 2 + 4 + 1 + 4 + 8 + 4) (at + 24) _ (omega arith) s.1.1.1.1.1.1.1.0;
  loss_is = moved 8 F (at + 1 + 2 + 4 + 1 + 4 + 8 + 4 + 8) (at + 32) _ (omega arith) s.1.1.1.1.1.1.1.1.0;
}

pub unit_says : (a b F : List ℕ) (at step unit : ℕ) (request : ℤ) (o : Outcome) → UnitFits step unit request o → F ≡ a ++ (record_of step unit request o ++ b) → length a ≡ at
    → UnitSays F at step unit request o
unit_says a b F at step unit request o f e l =
    let ns = unit_numbers step unit request o in
    let is : F ≡ a ++ (in_bytes ns ++ b) = e ∙ ap (λ (r : List ℕ). a ++ (r ++ b)) (unit_numbers_lem step unit request o) in
    unit_stands F at step unit request o f
    (subst⁻¹ (λ (G : List ℕ). Stand ns G at) is (subst (λ (p : ℕ). Stand ns (a ++ (in_bytes ns ++ b)) p) l (all_stand ns (unit_small f) a b)))

-- ---- an inverter's
abbrev roof_numbers : ℕ → ℕ → Given → List Number
roof_numbers step inverter g =
    u8 0x12 ∷ u16 26 ∷ u32 step ∷ u8 inverter ∷ u8 (cond g.on 1 0) ∷ u64 (to_bits binary64 (kw_of g.watts)) ∷ i32 g.vars ∷ u64 g.dc ∷ []

flat_roof : (a b c d e f g h : List ℕ) → (a ++ b ++ c ++ d ++ e) ++ (f ++ g ++ h) ≡ a ++ b ++ c ++ d ++ e ++ f ++ g ++ h ++ []
flat_roof a b c d e f g h = simp (append_assoc, append-nil)

roof_numbers_lem : (step inverter : ℕ) (g : Given) → roof_record_of step inverter g ≡ in_bytes (roof_numbers step inverter g)
unfolding roof_record_of turned_part lit_part in_bytes
roof_numbers_lem step inverter g =
    flat_roof (bytes_of 1 0x12) (bytes_of 2 26) (bytes_of 4 step) (bytes_of 1 inverter) (bytes_of 1 (cond g.on 1 0)) (bytes_of 8 (to_bits binary64 (kw_of g.watts))) (bytes_of 4 (of_z w32 g.vars))
    (bytes_of 8 g.dc)

pub record RoofFits (step inverter : ℕ) (g : Given) : Type 0 where
  pub step_fits : step < 256 ^ 4
  pub inverter_fits : inverter < 256
  pub vars_fits : mag g.vars < 2 ^ 31
  pub dc_fits : g.dc < 256 ^ 8

bit_small : (b : Bool) → cond b 1 0 < 256
bit_small true = lit< tt
bit_small false = lit< tt

roof_small : {step inverter : ℕ} {g : Given} → RoofFits step inverter g → Small (roof_numbers step inverter g)
roof_small {step} {inverter} {g} f =
    (lit< tt, (lit< tt, (f.step_fits, (f.inverter_fits, (bit_small g.on, (kw_below g.watts, (signed_below g.vars f.vars_fits, (f.dc_fits, lit≤ tt))))))))

roof_stands : (F : List ℕ) (at step inverter : ℕ) (g : Given) → RoofFits step inverter g → Stand (roof_numbers step inverter g) F at → InverterSays F at step inverter g
roof_stands F at step inverter g f s = record {
  tag_is = s.0;
  length_is = s.1.0;
  step_is = moved 4 F (at + 1 + 2) (at + 3) _ (omega arith) s.1.1.0;
  inverter_is = moved 1 F (at + 1 + 2 + 4) (at + 7) _ (omega arith) s.1.1.1.0;
  on_is = moved 1 F (at + 1 + 2 + 4 + 1) (at + 8) _ (omega arith) s.1.1.1.1.0;
  power_is = ap (of_bits binary64) (moved 8 F (at + 1 + 2 + 4 + 1 + 1) (at + 9) _ (omega arith) s.1.1.1.1.1.0) ∙ kw_back g.watts;
  vars_is = ap (to_z w32) (moved 4 F (at + 1 + 2 + 4 + 1 + 1 + 8) (at + 17) _ (omega arith) s.1.1.1.1.1.1.0) ∙ read w32 g.vars f.vars_fits;
  dc_is = moved 8 F (at + 1 + 2 + 4 + 1 + 1 + 8 + 4) (at + 21) _ (omega arith) s.1.1.1.1.1.1.1.0;
}

pub roof_says : (a b F : List ℕ) (at step inverter : ℕ) (g : Given) → RoofFits step inverter g → F ≡ a ++ (roof_record_of step inverter g ++ b) → length a ≡ at
    → InverterSays F at step inverter g
roof_says a b F at step inverter g f e l =
    let ns = roof_numbers step inverter g in
    let is : F ≡ a ++ (in_bytes ns ++ b) = e ∙ ap (λ (r : List ℕ). a ++ (r ++ b)) (roof_numbers_lem step inverter g) in
    roof_stands F at step inverter g f
    (subst⁻¹ (λ (G : List ℕ). Stand ns G at) is (subst (λ (p : ℕ). Stand ns (a ++ (in_bytes ns ++ b)) p) l (all_stand ns (roof_small f) a b)))

-- ---- the end
abbrev end_numbers : ℕ → List Number
end_numbers steps = u8 0x1F ∷ u16 4 ∷ u32 steps ∷ []

flat_end : (a b c : List ℕ) → a ++ b ++ c ≡ a ++ b ++ c ++ []
flat_end a b c = simp append-nil

end_numbers_lem : (steps : ℕ) → end_of steps ≡ in_bytes (end_numbers steps)
unfolding end_of in_bytes
end_numbers_lem steps = flat_end (bytes_of 1 0x1F) (bytes_of 2 4) (bytes_of 4 steps)

end_stands : (F : List ℕ) (at steps : ℕ) → at + 7 ≡ length F → Stand (end_numbers steps) F at → EndSays F at steps
end_stands F at steps l s = record { tag_is = s.0; length_is = s.1.0; steps_is = moved 4 F (at + 1 + 2) (at + 3) _ (omega arith) s.1.1.0; last = l }

pub end_says : (a F : List ℕ) (at steps : ℕ) → steps < 256 ^ 4 → F ≡ a ++ end_of steps → length a ≡ at → at + 7 ≡ length F → EndSays F at steps
end_says a F at steps f e l n =
    let ns = end_numbers steps in
    let is : F ≡ a ++ (in_bytes ns ++ []) = e ∙ ap (λ (r : List ℕ). a ++ r) (end_numbers_lem steps ∙ sym (append-nil (in_bytes ns))) in
    end_stands F at steps n
    (subst⁻¹ (λ (G : List ℕ). Stand ns G at) is (subst (λ (p : ℕ). Stand ns (a ++ (in_bytes ns ++ [])) p) l (all_stand ns (lit< tt, (lit< tt, (f, lit≤ tt))) a [])))
