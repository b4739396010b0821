-- Each part and the 0 behind it are laid one behind the other.
use mathlib.Core.Path.{◌≡◌, sym, ◌∙◌}
use lib.ListN.{length}
use Rattle.kept.specs.Layout.{state_size, flag_place, vars_place, site_place}
use Rattle.kept.proofs.NumberLaws.{inside, held_upto, flags_upto, vars_upto}
use Rattle.kept.proofs.StandLaws.{stands_laid}
use Rattle.kept.proofs.stands.put_stands.Goals as goal
use Rattle.kept.proofs.stands.put_stands.Goals.{After-put_flags, After-put_held, After-put_vars, After-zero, After-zero-2, After-zero-3, Start}

-- the bytes are as long after each part
held : (c : After-put_held) → length c.put_held.new.s ≡ state_size
held c = c.put_held.auto.s ∙ c.requires.s_len

cleared : (c : After-zero) → length c.zero.new.s ≡ state_size
cleared c = c.zero.auto.s ∙ held (record { before = c.before.before.before.before.before; type_inv = record { on = c.shared_slice_known-2-1.given; stored = c.shared_slice_known-1.given } })

flagged : (c : After-put_flags) → length c.put_flags.new.s ≡ state_size
flagged c = c.put_flags.auto.s ∙ cleared (record { before = c.before.before.before.before.before; type_inv = record { on = c.shared_slice_known-2-1.given; stored = c.shared_slice_known-1.given } })

cleared_too : (c : After-zero-2) → length c.zero-2.new.s ≡ state_size
cleared_too c = c.zero-2.auto.s ∙ flagged (record { before = c.before.before.before.before.before; type_inv = record { on = c.shared_slice_known-2-1.given; stored = c.shared_slice_known-1.given } })

laid_vars : (c : After-put_vars) → length c.put_vars.new.s ≡ state_size
laid_vars c = c.put_vars.auto.s ∙ cleared_too (record { before = c.before.before.before.before.before; type_inv = record { on = c.shared_slice_known-2-1.given; stored = c.shared_slice_known-1.given } })

pub put_held-requires : goal.put_held-requires
put_held-requires c = record { s_len = c.requires.s_len; stored_len_bound = c.requires.stored_len_bound; requests_len = c.requires.requests_len }

pub zero-requires : goal.zero-requires
zero-requires c = record { from_le_to = held_upto (length c.args.stored.now) c.requires.stored_len_bound; to_in_bounds = inside flag_place (length c.put_held.new.s) (held (goal.at.zero-requires c).After-put_held) tt }

pub put_flags-requires : goal.put_flags-requires
put_flags-requires c = record { s_len = cleared (goal.at.put_flags-requires c).After-zero; on_len_bound = c.requires.on_len_bound }

pub zero-requires-2 : goal.zero-requires-2
zero-requires-2 c = record { from_le_to = flags_upto (length c.args.on.now) c.requires.on_len_bound; to_in_bounds = inside vars_place (length c.put_flags.new.s) (flagged (goal.at.zero-requires-2 c).After-put_flags) tt }

pub put_vars-requires : goal.put_vars-requires
put_vars-requires c = record { s_len = cleared_too (goal.at.put_vars-requires c).After-zero-2; vars_len_bound = c.requires.vars_len_bound }

pub zero-requires-3 : goal.zero-requires-3
zero-requires-3 c = record { from_le_to = vars_upto (length c.args.vars.now) c.requires.vars_len_bound; to_in_bounds = inside site_place (length c.put_vars.new.s) (laid_vars (goal.at.zero-requires-3 c).After-put_vars) tt }

pub shape_of-s : goal.shape_of-s
shape_of-s c = c.zero-3.auto.s ∙ laid_vars (goal.at.shape_of-s c).After-put_vars ∙ sym c.requires.s_len

pub returns : goal.returns
returns c =
    let a = c.args in
    stands_laid
    a.s.now
    a.stored.now
    a.requests.now
    a.vars.now
    a.on.now
    c.requires.s_len
    c.requires.stored_len_bound
    c.requires.vars_len_bound
    c.requires.on_len_bound
    c.put_held.new.s
    c.zero.new.s
    c.put_flags.new.s
    c.zero-2.new.s
    c.put_vars.new.s
    c.zero-3.new.s
    c.put_held.ensures
    c.zero.ensures
    c.put_flags.ensures
    c.zero-2.ensures
    c.put_vars.ensures
    c.zero-3.ensures
