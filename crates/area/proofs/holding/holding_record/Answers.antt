use Rattle.std.proofs.Common.{sym, ◌∙◌, ◌+◌, length}
use Rattle.area.specs.declared.records.Spot.{Spot}
use Rattle.area.proofs.Lying.{one_found}
use Rattle.area.proofs.holding.holding_record.Goals as goal

pub returns-then-is_some : goal.returns-then-is_some
returns-then-is_some c = λ l s e.
    let z = c.in-Some.ensures.steps.told l s (c.loop-spot.invariant.1 l s e) in
    let o = one_found (λ (x : Spot). x.place) (λ (x : Spot). 11 + length x.head.data.now) c.in-Some.spot c.args.byte c.search.result _ (sym c.is_some.ensures ∙ c.if-is_some.true) c.search.ensures in
    (z.0, o.0, o.1)
