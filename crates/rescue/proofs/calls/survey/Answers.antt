-- The file's size is looked at first, and then where the walk ended.
use Rattle.rescue.proofs.CallLaws.{too_large}
use Rattle.rescue.proofs.calls.survey.Goals as goal

pub returns-then-file-gt-MOST_BYTES : goal.returns-then-file-gt-MOST_BYTES
returns-then-file-gt-MOST_BYTES c = rw c.refused.ensures (too_large c.args.file.now c.if-file-gt-MOST_BYTES.true)
