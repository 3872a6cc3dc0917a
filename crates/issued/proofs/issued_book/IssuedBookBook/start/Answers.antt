use Rattle.std.proofs.Common.{sym}
use Rattle.issued.proofs.Places.{known, started}
use Rattle.issued.proofs.issued_book.IssuedBookBook.start.Goals as goal

pub returns : goal.returns
returns c =
    let e = sym c.in_ok-known.ensures in
    rw c.first.ensures ((known c.args.tag.now c.in_ok-known.known e).0, started c.args.tag.now c.in_ok-known.known e)
