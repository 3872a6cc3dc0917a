use Rattle.std.proofs.Common.{◌+◌, ◌-◌, true, take, drop, Ok, sym, ◌∙◌, subst}
use Rattle.std.proofs.lemmas.Result.{err_from_is_err_and}
use Rattle.model.specs.Looks.{Fieldeds}
use Rattle.model.specs.Looks.Spoilt.{tag, fields}
use Rattle.model.proofs.Fielding.{cut}
use Rattle.model.proofs.Looking.{draws_known, draws_bare}
use Rattle.walk.proofs.Joining.{recorded_broke, recorded_went}
use Rattle.walk.proofs.Recording.{renumbered}
use Rattle.walk.proofs.look.read_draft.Goals as goal
use Rattle.walk.proofs.look.read_draft.Goals.{in-Some, in-None}

pub returns-then-not-good_tag : goal.returns-then-not-good_tag
returns-then-not-good_tag g c = rw (c.in_record.ensures, c.new.ensures) (tag c.if-not-good_tag.ensures)

pub returns-in_err-read : goal.returns-in_err-read
returns-in_err-read g c =
    let m = g.B.Book.means c.args.book.now in
    let st = g.B.Book.stands c.args.book.now in
    let b = c.args.tail.now in
    let p = err_from_is_err_and c.from_residual.result c.from_residual.ensures.1 in
    let f = recorded_broke c.read_fields.result c.args.n c.in_err-read.field-0.0 (sym c.at_record.ensures ∙ c.in_err-read.was) in
    let y = subst (Fieldeds m st true 0 (take 6 b) (c.args.at + 11) (take (11 + c.args.k - 11) (drop 11 b))) f.1 c.read_fields.ensures in
    let x = rw (cut 11 c.args.k) at y in
    rw (p.1, p.2, f.2) (fields c.if-not-good_tag.ensures x.0 (renumbered c.args.n x.1))

pub returns : goal.returns
returns g c =
    let m = g.B.Book.means c.args.book.now in
    let st = g.B.Book.stands c.args.book.now in
    let b = c.args.tail.now in
    let o = c.in_ok-read.read in
    let y = subst (Fieldeds m st true 0 (take 6 b) (c.args.at + 11) (take (11 + c.args.k - 11) (drop 11 b))) (recorded_went c.read_fields.result c.args.n o (sym c.at_record.ensures ∙ c.in_ok-read.was)) c.read_fields.ensures in
    let x = subst (λ j. Fieldeds m st true 0 (take 6 b) (c.args.at + 11) (take j (drop 11 b)) (Ok o)) (cut 11 c.args.k) y in
    elim c.match-read.branch [
      | in-Some w ↦ rw w.result-is (draws_known m st b c.args.k (c.args.at + 11) 0 c.if-not-good_tag.ensures c.requires.long o w.in-Some.field-0 w.in-Some.is x)
      | in-None w ↦ rw (w.result-is, w.min.ensures) (draws_bare m st b c.args.k (c.args.at + 11) 0 c.if-not-good_tag.ensures c.requires.long o w.in-None.is x)
    ]
