-- The part that the reader hands back has as many bytes as are there.
use Rattle.parts.proofs.ReaderLaws.{value_length}
use Rattle.yesbrulka.proofs.files.yb_value_len.Goals as goal

pub returns : goal.returns
returns c = value_length c.args.file c.args.place c.value_at.result c.value_at.ensures
