-- Each test is the definition's, over the settings with mode 1.
use Rattle.settling.proofs.TrialLaws.{trial_is}
use Rattle.settling.proofs.study.trial_in.Goals as goal
use Rattle.settling.proofs.study.trial_in.Goals.{After-shaved, After-struct_told-1}

pub returns : goal.returns
returns c =
    trial_is c.args.q c.shaved.result c.settings_in.result c.shaved.ensures c.settings_in.ensures c.struct_told-1.given.1.0.1
