-- Nobody has to believe this file: the parts of contracts by name.
use Rattle.std.specs.Prelude.{ℕ, ◌≤◌, ◌<◌, true, false, cond, List, ◌≡◌, eqb, pos, nat_abs, length, get_or, None, Some}
use Rattle.site.specs.Site.{count}
use Rattle.fields.specs.Fields.{at_voltage, gone_to}
use Rattle.stick.specs.Check.{reached, reach_of, start}
use Rattle.stick.specs.Site.{site_of, roofs_of}
use Rattle.kept.specs.Kept.{Kept, begun, no_standing}
use Rattle.kept.specs.Layout.{state_size, tail_most, site_most, site_bytes, tail_bytes, volts_of, all_vars, known_by}
use Rattle.kept.specs.Formed.{place_fits, sun_fits, volt_fits, tail_fits, held_fits}

-- as long as a state, with parts no longer than their places
pub record Sized (s : List ℕ) : Type 0 where
  pub long : length s ≡ state_size
  pub site_fits_is : site_bytes s ≤ site_most
  pub tail_fits_is : tail_bytes s ≤ tail_most

-- what is kept in a state that is well formed
pub record WellKept (k : Kept) : Type 0 where
  -- the site part's fields are whole and accepted, without steps, and lead to the state between fields
  pub known : reach_of (length k.site) start k.site 0 ≡ reached 0 (length k.site) (known_by k.site)
  pub no_steps_is : (known_by k.site).steps ≡ 0
  pub state_is : gone_to (known_by k.site) k.state.stage (known_by k.site).left k.state.steps ≡ k.state
  pub closed : begun k.state ≡ true → (known_by k.site).stage ≡ 0
  pub waiting : begun k.state ≡ false → ((known_by k.site).stage ≡ k.state.stage) × (k.state.steps ≡ 0)
  pub site_short : length k.site ≤ site_most
  pub few : k.state.steps ≤ 65535
  -- place, sun, voltage and tail
  pub placed : place_fits k.place k.state.stage k.state.steps (length k.site) (length k.tail) ≡ true
  pub sunny : sun_fits k.state.stage k.due.sun ≡ true
  pub volted : volt_fits k.state.stage (volts_of k.due.voltage) ≡ true
  pub said : k.due.voltage ≡ cond (eqb k.state.stage at_voltage) (Some (volts_of k.due.voltage)) None
  pub tailed : tail_fits k.state k.tail ≡ true
  pub tail_short : length k.tail ≤ tail_most
  -- what stands
  pub stores : begun k.state ≡ true → length k.stands.units.stored ≡ count (site_of k.site)
  pub asks : length k.stands.units.requests ≡ length k.stands.units.stored
  pub leads : length k.stands.units.vars ≡ length k.stands.units.stored
  pub held : held_fits (site_of k.site) k.stands.units.stored k.stands.units.requests ≡ true
  pub flags : begun k.state ≡ true → length k.stands.on ≡ length (roofs_of k.site)
  pub shines : length k.stands.vars ≡ length k.stands.on
  pub small : (i : ℕ) → i < length (all_vars k.stands) → nat_abs (get_or (all_vars k.stands) i (pos 0)) ≤ 100000000
  pub none_stands : begun k.state ≡ false → k.stands ≡ no_standing
