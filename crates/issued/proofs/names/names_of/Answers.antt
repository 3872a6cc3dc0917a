use Rattle.std.proofs.Common.{sym, refl, ap, ◌∙◌}
use Rattle.issued.specs.Published.{aimidb, stdidc, acftb}
use Rattle.issued.specs.Widths.{names}
use Rattle.issued.proofs.Places.{known}
use Rattle.issued.proofs.Tables.{texts_of_tag}
use Rattle.issued.proofs.names.names_of.Goals as goal

pub returns : goal.returns
unfolding aimidb stdidc acftb
returns c =
    let t = c.in_ok-known.known in
    rw (c.first.ensures, c.end.ensures) (texts_of_tag t _ refl ∙ sym (ap names (known c.args.tag.now t (sym c.in_ok-known.ensures)).1))
