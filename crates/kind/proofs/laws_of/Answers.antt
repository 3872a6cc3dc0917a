use Rattle.std.proofs.Common.{sym, ◌∙◌}
use Rattle.kind.proofs.laws_of.Goals as goal

pub returns : goal.returns
returns g c = λ k.
    let l = g.K.Kind.laws k in
    record {
      one = l.once;
      gives = λ v old new s e r t. l.once new s v r t;
      refuses = λ v old new e w h. (h.0, h.1, λ s r. h.2 s (l.sized s v r ∙ sym w) r);
    }
