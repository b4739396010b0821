-- One pass of the controller, rules P1 to P7 and P10 in their order, over those of `rules`. A fleet's state shows in its requests: one above 0 makes it a discharging
-- fleet, one below 0 a charging one, and where all are 0 it is idle; F is what they come to in all. Discharging modes are 1, 2 and 4, charging ones 3 and 5; by current go 4 and 5.
use Rattle.std.specs.Prelude.{ℕ, Bool, not, cond, ◌&&◌, List, ℤ, pos, ◌+ℤ◌, length, get_or}
use Rattle.whole.specs.Over.{sum_of, all_of, each}
use Rattle.rules.specs.declared.Settings.{Settings}
use Rattle.rules.specs.Rules.{charges, by_current, plain_need, in_watts, band_in_watts, no_call, unable, in_band, unit_after}
use Rattle.members.specs.Ranges.{Fleet, some_above, some_below}
use Rattle.members.specs.Sums.{total, sum_of_all, unable_at}

-- the fleet is in the mode's own state; it is in the other one
abbrev pub own_state : Bool → List ℤ → Bool
own_state charging rs = cond charging (some_below rs) (some_above rs)

abbrev pub other_state : Bool → List ℤ → Bool
other_state charging rs = cond charging (some_above rs) (some_below rs)

-- P2: where the fleet is in the state that is not the mode's own, F is added
unfoldable pub with_sum : Settings → List ℤ → ℤ → ℤ
unfolding sum_of_all some_above some_below
with_sum s rs need = cond (other_state (charges s.mode) rs) (need +ℤ sum_of_all rs) need

-- P2 and P10: unit i's own need, which in modes 1 to 3 is the fleet's, and its own band
unfoldable pub own_need : Settings → ℤ → Fleet → List ℤ → ℕ → ℤ
unfolding plain_need in_watts with_sum
own_need s m f rs i = with_sum s rs (in_watts (by_current s.mode) (get_or f.link i 0) (plain_need s m))

unfoldable pub own_band : Settings → Fleet → ℕ → ℕ
unfolding band_in_watts
own_band s f i = band_in_watts (by_current s.mode) (get_or f.link i 0) s.band

-- P7: the need that is reported: the fleet's after P2; by current that of P1, in mA, without F
unfoldable pub need_of : Settings → ℤ → List ℤ → ℤ
unfolding plain_need with_sum
need_of s m rs = cond (by_current s.mode) (plain_need s m) (with_sum s rs (plain_need s m))

-- P3: a fleet that is not in the mode's own state does nothing where no unit's own need calls: none is above 0 discharging, none below 0 charging
unfoldable pub rests : Settings → (ℕ → ℤ) → List ℤ → Bool
unfolding some_above some_below all_of
rests s needs rs =
    not (own_state (charges s.mode) rs) && all_of (length rs) (λ (i : ℕ). no_call (charges s.mode) (needs i))

-- P4: where the fleet is so in total, all requests become 0
unfoldable pub spent : Bool → ℕ → Fleet → Bool
unfolding sum_of unable
spent charging n f = unable charging (total n f.rated) (total n f.reserve) (total n f.stored)

-- P5: otherwise nothing changes where every unit is within its band: twice the size of its own need is at most its own band
unfoldable pub all_in_band : ℕ → (ℕ → ℕ) → (ℕ → ℤ) → Bool
unfolding in_band all_of
all_in_band n bands needs = all_of n (λ (i : ℕ). in_band (bands i) (needs i))

-- P6: otherwise each unit's request becomes what `unit_after` says; a unit with nothing to give, charging a full one, gets 0; its weight stays in the sum
unfoldable pub request_after : Settings → ℕ → Fleet → (ℕ → ℤ) → ℕ → ℤ → ℤ
unfolding unable unit_after sum_of
request_after s n f needs i request =
    cond (unable_at (charges s.mode) f i) (pos 0)
    (unit_after (charges s.mode) s.factor (needs i) (total n f.weight) (get_or f.rating i 0) (get_or f.weight i 0) request)

-- the requests after a pass, P3 to P6, by each unit's own band and need
unfoldable pub pass_by : Settings → Fleet → (ℕ → ℕ) → (ℕ → ℤ) → List ℤ → List ℤ
unfolding rests spent all_in_band request_after each
pass_by s f bands needs rs =
    cond (rests s needs rs) rs
    (cond (spent (charges s.mode) (length rs) f) (each (λ (i : ℕ) (r : ℤ). pos 0) rs)
    (cond (all_in_band (length rs) bands needs) rs (each (request_after s (length rs) f needs) rs)))

unfoldable pub pass_of : Settings → ℤ → Fleet → List ℤ → List ℤ
unfolding own_need own_band pass_by
pass_of s m f rs = pass_by s f (own_band s f) (own_need s m f rs) rs
