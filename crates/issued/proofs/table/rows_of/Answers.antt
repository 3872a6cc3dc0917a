use Rattle.std.proofs.Common.{sym, ap, ◌∙◌}
use Rattle.issued.specs.Published.{aimidb, stdidc, acftb}
use Rattle.issued.specs.Meant.{rows_in}
use Rattle.issued.proofs.Places.{known}
use Rattle.issued.proofs.Tables.{rows_of_tag}
use Rattle.issued.proofs.table.rows_of.Goals as goal

pub returns : goal.returns
unfolding aimidb stdidc acftb
returns c =
    let t = c.in_ok-known.known in
    rw (c.first.ensures, c.end.ensures) (rows_of_tag t ∙ sym (ap rows_in (known c.args.tag.now t (sym c.in_ok-known.ensures)).1))
