use Rattle.kinds.proofs.Fits.{checked_told}
use Rattle.kinds.specs.Texts.{word}
use Rattle.kinds.proofs.words.WordKind.read.Goals as goal

pub returns : goal.returns
returns c = checked_told (word c.args.self.now.bytes.now) c.args.s.now c.check.result c.check.ensures
