-- Requests of both signs never arise (rule P9): a pass over requests that are not of both signs leaves requests that are not. `one-sign` proves it.
use Rattle.std.specs.Prelude.{false, ◌&&◌, List, ◌≡◌, ℤ}
use Rattle.rules.specs.declared.Settings.{Settings}
use Rattle.members.specs.Ranges.{Fleet, some_above, some_below}
use Rattle.controller.specs.Pass.{pass_of}

-- not requests of both signs
abbrev pub OneSign : List ℤ → Type 0
OneSign rs = (some_above rs && some_below rs) ≡ false

abbrev pub OneSignLaw : Type 0
OneSignLaw = (s : Settings) (m : ℤ) (f : Fleet) (rs : List ℤ) → OneSign rs → OneSign (pass_of s m f rs)
