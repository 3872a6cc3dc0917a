use Rattle.std.proofs.Common.{◌+◌, length, refl, ap, arith, length-drop}
use Rattle.std.proofs.lemmas.List.{take_rest}
use Rattle.area.proofs.Going.{goes_none, goes_some}
use Rattle.area.proofs.records.RecordsIterator.next.Goals as goal

pub returns-in_default-clause-steps : goal.returns-in_default-clause-steps
returns-in_default-clause-steps c = goes_none c.args.self.now c.args.self.now c.in_default.ensures

pub returns-clause-steps : goal.returns-clause-steps
returns-clause-steps c =
    let h = c.in-Ok.head in
    let x = c.in-Ok.ensures in
    let long = x.long in
    let there = x.there in
    let cut = take_rest c.args.self.now.rest.now (11 + length h.data.now) in
    let left = ap length cut in
    let all = length-drop (11 + length h.data.now) c.args.self.now.rest.now in
    goes_some c.args.self.now _ h _ x refl refl cut (omega arith)
