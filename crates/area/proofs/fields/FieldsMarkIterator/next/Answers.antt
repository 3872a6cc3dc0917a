use Rattle.std.proofs.Common.{refl, arith}
use Rattle.area.proofs.Parts.{onward_none, onward_some, onward_marked}
use Rattle.area.proofs.fields.FieldsMarkIterator.next.Goals as goal

pub returns-in_err-name-clause-steps : goal.returns-in_err-name-clause-steps
returns-in_err-name-clause-steps g c =
    let s = c.args.self.now in
    rw c.from_residual.ensures (onward_none (g.B.Book.laws s.book.now) (g.B.Book.stands s.book.now) s.head.tag s.head.data.now s.number s.at (c.in_err-name.ensures _ _ c.requires.2) s.number s.at, refl {a = s.head}, refl {a = s.book.now})

pub overflow_add-self-2 : goal.overflow_add-self-2
overflow_add-self-2 g c =
    let s = c.args.self.now in
    let o = onward_some (g.B.Book.laws s.book.now) (g.B.Book.stands s.book.now) s.head.tag s.head.data.now s.number s.at _ _ _ c.requires.1 (c.in_ok-name.ensures _ _ c.requires.2) in
    let i = o.inside in
    omega arith

pub returns-clause-steps : goal.returns-clause-steps
returns-clause-steps g c =
    let s = c.args.self.now in
    (onward_some (g.B.Book.laws s.book.now) (g.B.Book.stands s.book.now) s.head.tag s.head.data.now s.number s.at _ _ _ c.requires.1 (c.in_ok-name.ensures _ _ c.requires.2), refl {a = s.head}, refl {a = s.book.now})

pub returns-clause-goes : goal.returns-clause-goes
returns-clause-goes g c =
    let s = c.args.self.now in
    let t = c.in_ok-name.ensures _ _ c.requires.2 in
    let o = onward_some (g.B.Book.laws s.book.now) (g.B.Book.stands s.book.now) s.head.tag s.head.data.now s.number s.at _ _ _ c.requires.1 t in
    let r0 = c.requires.0 in
    let i = o.inside in
    let w = o.some in
    let mk = onward_marked (g.B.Book.laws s.book.now) (g.B.Book.stands s.book.now) s.head.tag s.head.data.now s.number s.at _ _ _ t in
    record { on = λ f. ((omega arith, i, mk), tt, omega arith); keeps = (omega arith, i, mk); rests = λ f. tt }
