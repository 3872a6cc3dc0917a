use Rattle.std.proofs.Common.{◌≡◌, arith, sym, ap, ◌∙◌, subst, ◌-◌, take}
use Rattle.area.specs.Parts.{Marked}
use Rattle.area.proofs.Parts.{taken}
use Rattle.area.proofs.fields.take_field.Goals as goal

pub returns : goal.returns
returns g c = λ tag p k.
    let m = g.B.Book.means c.args.book.now in
    let st = g.B.Book.stands c.args.book.now in
    let k' = subst (Marked m st tag p) c.in-Some.is k in
    let f = c.in_ok-field.field in
    let a = sym (c.next.ensures tag p k'.1) ∙ c.in_ok-field.was in
    let w = c.from-width.result in
    let z : w - 0 ≡ w = omega arith in
    let l = c.in_ok-get.ensures.lookup.0 in
    taken m st tag p c.args.rest.now c.in_ok-get.field-0.now f.name w c.in-Some.mark c.pass.new.mark c.pass.result c.in_ok-ok.field-0 k'.0 (rw c.from-width.ensures a) (l.2 ∙ ap (λ i. take i c.args.rest.now) z) l.1 k'.1 c.pass.ensures (sym c.ok.ensures.value ∙ c.in_ok-ok.was)
