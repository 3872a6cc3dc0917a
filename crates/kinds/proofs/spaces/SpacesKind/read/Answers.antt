use Rattle.kinds.proofs.Fits.{checked_told}
use Rattle.kinds.specs.Texts.{empty}
use Rattle.kinds.proofs.spaces.SpacesKind.read.Goals as goal

pub returns : goal.returns
returns c = checked_told (empty c.args.self.now.width) c.args.s.now c.check.result c.check.ensures
