use Rattle.std.proofs.Common.{Some, sym, ◌∙◌, arith}
use Rattle.area.specs.declared.part.Part.{Part}
use Rattle.area.proofs.Lying.{one_found}
use Rattle.area.proofs.Parts.{moved_on}
use Rattle.area.proofs.holding.holding_field.Goals as goal

pub returns-then-is_some : goal.returns-then-is_some
returns-then-is_some g c = λ ss fs w.
    let v = c.loop-part.invariant in
    let s = c.loop-part.part-iterator in
    let t = c.next.new.self in
    let x = c.in-Some.part in
    let o = moved_on g.B.Book.means c.args.book.now c.args.head.now s.number s.at (Some x) t.number t.at v.0 v.1 c.in-Some.ensures.steps.0 in
    let p = (o.told ss fs w (v.3 ss fs w)).0 in
    let h = one_found (λ (q : Part). q.start) (λ (q : Part). q.width) x c.args.byte c.search.result _ (sym c.is_some.ensures ∙ c.if-is_some.true) c.search.ensures in
    let h0 = h.0 in
    let h1 = h.1 in
    let a = p.start_is in
    let b = p.width_is in
    (p.there, omega arith, omega arith)
