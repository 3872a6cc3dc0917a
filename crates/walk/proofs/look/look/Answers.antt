use Rattle.std.proofs.Common.{◌≤◌, take, arith}
use Rattle.std.proofs.lemmas.Result.{err_from_is_err_and}
use Rattle.model.specs.Ledgers.LookRefuses.{long, walk}
use Rattle.model.specs.Ledgers.{reach, room}
use Rattle.model.proofs.Looking.{spoilt, looked_shut, looked_draft}
use Rattle.walk.proofs.look.look.Goals as goal
use Rattle.walk.proofs.look.look.Goals.{in-None, in-Some+in_ok-read_draft-in-Some}
use Rattle.model.specs.Walks.{Refuses}
use Rattle.model.specs.Looks.{Listed}

pub returns-then-limit-taken : goal.returns-then-limit-taken
returns-then-limit-taken g c = rw c.new.ensures (long (omega (arith, c.if-limit-taken.true, c.limit.ensures, c.taken.ensures)))

pub returns-in_err-count : goal.returns-in_err-count
returns-in_err-count g c =
    let p = err_from_is_err_and c.from_residual.result c.from_residual.ensures.1 in
    let r : Refuses (g.B.Book.means c.args.book.now) 0 0 (take c.args.area.end c.args.buf.now) c.in_err-count.field-0.0 = rw (← c.split_at.ensures.front) c.in_err-count.ensures in
    let h : reach c.args.area ≤ room c.args.buf.now = omega (arith, c.if-limit-taken.false, c.limit.ensures, c.taken.ensures) in
    rw (p.1, p.2) (walk h r)

pub returns-in_err-read_draft-in-Some : goal.returns-in_err-read_draft-in-Some
returns-in_err-read_draft-in-Some g c =
    let p = err_from_is_err_and c.from_residual-in_err-read_draft-in-Some.result c.from_residual-in_err-read_draft-in-Some.ensures.1 in
    let h : reach c.args.area ≤ room c.args.buf.now = omega (arith, c.if-limit-taken.false, c.limit.ensures, c.taken.ensures) in
    let l : Listed (g.B.Book.means c.args.book.now) (take c.args.area.end c.args.buf.now) c.in_ok-count.count = rw (← c.split_at.ensures.front) c.in_ok-count.ensures in
    rw (p.1, p.2) (spoilt _ (g.B.Book.stands c.args.book.now) _ _ c.in-Some.k c.in_ok-count.count c.in-Some.is h l (rw (← c.split_at.ensures.back) c.in_err-read_draft-in-Some.ensures))

pub returns : goal.returns
returns g c =
    let h : reach c.args.area ≤ room c.args.buf.now = omega (arith, c.if-limit-taken.false, c.limit.ensures, c.taken.ensures) in
    let l : Listed (g.B.Book.means c.args.book.now) (take c.args.area.end c.args.buf.now) c.in_ok-count.count = rw (← c.split_at.ensures.front) c.in_ok-count.ensures in
    elim c.match-area.branch [
      | in-None w ↦ rw w.draft-is (looked_shut _ (g.B.Book.stands c.args.book.now) _ _ c.in_ok-count.count w.in-None.is h l)
      | in-Some+in_ok-read_draft-in-Some w ↦ rw w.draft-is (looked_draft _ _ _ _ w.in-Some.k c.in_ok-count.count w.in_ok-read_draft-in-Some.field-0 w.in-Some.is h l (rw (← c.split_at.ensures.back) w.in_ok-read_draft-in-Some.ensures))
    ]
