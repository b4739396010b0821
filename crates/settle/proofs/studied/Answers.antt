-- A file that is known to be complete is one that the check accepts, and a study is made of no other.
use Rattle.std.proofs.Common.{sym, ◌∙◌}
use Rattle.settle.proofs.KnownLaws.{complete_accepted}
use Rattle.settle.proofs.studied.Goals as goal

pub made-requires : goal.made-requires
made-requires g c = complete_accepted c.args.file.now c.in-Complete.field-0 (sym c.known_whole-k.ensures ∙ c.in-Complete.is)
