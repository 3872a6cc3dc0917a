use Rattle.kinds.proofs.Writing.{pointed}
use Rattle.kinds.proofs.points.put_point.Goals as goal

pub returns : goal.returns
returns c = pointed c.args.out.now c.put_digits.new.out c.args.at c.args.front c.requires.room c.put_digits.ensures c.put_digits-2.new.out c.args.back c.put_digits-2.ensures
