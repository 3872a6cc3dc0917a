use Rattle.std.proofs.Common.{Some, refl, ap, ◌∙◌}
use Rattle.kinds.specs.Layers.{seen_either}
use Rattle.kinds.proofs.Choosing.{taken}
use Rattle.kinds.proofs.or_else.OrElseKind.spell.Goals as goal

pub returns-in-Ok : goal.returns-in-Ok
returns-in-Ok g c =
    let k = c.args.self.now in
    (c.no_reading-in-Ok.ensures, refl, λ s l e. taken (g.K.Kind.wide k.first) (g.K.Kind.reads k.first) (g.L.Kind.laws k.second) s _ _ (e ∙ ap (λ v. Some (seen_either g.K.Kind.view g.L.Kind.view v)) c.in-Second.is) c.in_ok-spell-in-Second.ensures c.in-Ok.ensures)
