-- What a call without a file answers: what it gives, or a refusal, whose place and steps are 0 (rule N16). And what a lent number holds after the call:
-- what is given, or on a refusal what it held (rule N17).
use Rattle.std.specs.Prelude.{ℕ, Result, Ok, Err}
use Rattle.whole.specs.declared.Refusal.{Refusal}

-- the refusal of a call without a file
abbrev pub refusal : ℕ → Refusal
refusal n = record { number = n; place = 0; steps = 0 }

-- what a call gives, or its refusal
abbrev pub Call : Type 0 → Type 0
Call A = Result A Refusal

abbrev pub number_of : {A : Type 0} → Result A Refusal → ℕ
number_of (Ok a) = 0
number_of (Err r) = r.number

abbrev pub held_after : {A B : Type 0} → Result A Refusal → (A → B) → B → B
held_after (Ok a) value held = value a
held_after (Err r) value held = held
