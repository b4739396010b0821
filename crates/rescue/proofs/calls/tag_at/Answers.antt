-- A place within the file is read, and past its end a byte counts as 0.
use Rattle.rescue.proofs.CallLaws.{no_tag}
use Rattle.rescue.proofs.calls.tag_at.Goals as goal

pub returns : goal.returns
returns c = let a = c.args in no_tag a.file.now a.at c.if-at-file.false
