use Rattle.std.proofs.Common.{rules}
use lib.Utf8.{encode}
use Rattle.std.proofs.lemmas.List.{take_all}
use Rattle.std.proofs.lemmas.Slice.{pushed}
use Rattle.lines.proofs.Carried.{grown}
use Rattle.lines.proofs.printed.Goals as goal

pub loop-b-preserved : goal.loop-b-preserved
loop-b-preserved c =
    grown c.args.tag c.loop-b.b-index c.printable.result _ (search rules) (search rules)
    (pushed (encode c.printable.result) c.loop-b.invariant c.in_ok-push.was c.push.ensures.bytes)

pub returns : goal.returns
returns c = search (rules, take_all)
