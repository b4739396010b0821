-- The sums over a fleet, which of its units cannot help, and whether a pass changed a request.
use Rattle.std.specs.Prelude.{ℕ, Bool, not, ◌&&◌, List, ℤ, pos, length, get_or}
use Rattle.std.specs.Int.Signed.{le_z}
use Rattle.whole.specs.Over.{sum_of, sum_ofℤ, some_of}
use Rattle.rules.specs.Rules.{unable}
use Rattle.members.specs.Ranges.{Fleet}

-- the sum of a list's n values
abbrev pub total : ℕ → List ℕ → ℕ
total n xs = sum_of n (λ (i : ℕ). get_or xs i 0)

-- F
unfoldable pub sum_of_all : List ℤ → ℤ
unfolding sum_ofℤ
sum_of_all rs = sum_ofℤ (length rs) (λ (i : ℕ). get_or rs i (pos 0))

-- unit i has nothing to give, or, charging, no room
abbrev pub unable_at : Bool → Fleet → ℕ → Bool
unable_at charging f i = unable charging (get_or f.rated i 0) (get_or f.reserve i 0) (get_or f.stored i 0)

-- two signed numbers differ
abbrev pub differ : ℤ → ℤ → Bool
differ a b = not (le_z a b && le_z b a)

-- a pass changed a request
unfoldable pub changed_of : List ℤ → List ℤ → Bool
unfolding some_of
changed_of before after = some_of (length before) (λ (i : ℕ). differ (get_or before i (pos 0)) (get_or after i (pos 0)))
