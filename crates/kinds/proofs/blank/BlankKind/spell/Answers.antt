use Rattle.std.proofs.Common.{Some, sym, refl, ap, ◌∙◌}
use Rattle.kinds.specs.Layers.{blank_laws, seen_some}
use Rattle.kinds.proofs.Blanking.{blanked, all_blank}
use Rattle.kinds.proofs.Fits.{misfit}
use Rattle.kinds.proofs.blank.BlankKind.spell.Goals as goal

pub returns-then-out-width : goal.returns-then-out-width
returns-then-out-width g c = (c.no_reading.ensures, refl, misfit (blank_laws (g.K.Kind.laws c.args.self.now.below)) c.args.out.now (seen_some g.K.Kind.view c.args.value.now) (λ e. c.if-out-width.true (e ∙ sym c.width-width.ensures)))

pub returns-then-all_spaces : goal.returns-then-all_spaces
returns-then-all_spaces g c = (c.no_reading-then-all_spaces.ensures, refl, λ s l e. blanked (g.K.Kind.laws c.args.self.now.below) s _ _ (e ∙ ap (λ v. Some (seen_some g.K.Kind.view v)) c.in-Some.is) c.in_ok-spell-in-Some.ensures (sym c.if-all_spaces.ensures))

pub returns-in-None : goal.returns-in-None
returns-in-None g c = all_blank _ (g.K.Kind.reads c.args.self.now.below) _ _ (c.fill.ensures.after (λ y e. e)) (c.if-out-width.false ∙ c.width-width.ensures) ∙ ap (λ v. Some (seen_some g.K.Kind.view v)) (sym c.in-None.is)
