use Rattle.std.proofs.Common.{◌∙◌}
use Rattle.kinds.proofs.Choosing.{first_read, second_checked}
use Rattle.kinds.proofs.or_else.OrElseKind.check.Goals as goal

pub returns-in-Ok : goal.returns-in-Ok
returns-in-Ok g c =
    let k = c.args.self.now in
    first_read (g.K.Kind.wide k.first) (g.K.Kind.reads k.first) (g.L.Kind.reads k.second) c.args.s.now (c.if-s-width.false ∙ c.width.ensures) c.in-Ok.ensures

pub returns : goal.returns
returns g c =
    let k = c.args.self.now in
    second_checked (g.K.Kind.wide k.first) (g.K.Kind.reads k.first) (g.L.Kind.reads k.second) c.args.s.now (c.if-s-width.false ∙ c.width.ensures) c.in_default.ensures.0 c.check-2.result c.check-2.ensures
