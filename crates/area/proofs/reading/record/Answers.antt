use Rattle.std.proofs.Common.{◌≡◌, length, Some, None, ap}
use Rattle.std.proofs.lemmas.Result.{err_from_is_err_and}
use Rattle.area.specs.Reading.Answers.{astray, refused, answered}
use Rattle.area.proofs.Telling.{all_sound, at_record, moved, record_missing, record_there, refused_with}
use Rattle.area.proofs.reading.record.Goals as goal

pub returns-in_err-bytes : goal.returns-in_err-bytes
returns-in_err-bytes g c =
    let p = err_from_is_err_and c.from_residual.result c.from_residual.ensures.1 in
    rw (p.1, p.2) (astray c.in_err-bytes.ensures)

pub returns-in_err-spot : goal.returns-in_err-spot
returns-in_err-spot g c =
    let l = c.in_ok-bytes.ensures in
    let z : c.find_record.result ≡ None = c.in_err-spot.ensures.ok_part in
    let h = rw z at (c.find_record.ensures.finds l.ledger.records (all_sound (g.B.Book.laws c.args.book.now) l.stood.whole) l.is) in
    let e = refused_with c.find_record.result c.in_err-spot.field-0.0 c.new.result z c.in_err-spot.ensures.value in
    let p = err_from_is_err_and c.from_residual-in_err-spot.result c.from_residual-in_err-spot.ensures.1 in
    rw (p.1, p.2, e, c.new.ensures) (refused l.ledger l.table l.stood (record_missing l.ledger c.args.n h))

pub returns : goal.returns
returns g c =
    let l = c.in_ok-bytes.ensures in
    let s = all_sound (g.B.Book.laws c.args.book.now) l.stood.whole in
    let z : c.find_record.result ≡ Some c.in_ok-spot.spot = c.in_ok-spot.ensures.ok_part in
    let x = rw z at (c.find_record.ensures.finds l.ledger.records s l.is) in
    let a = at_record c.args.n x.there l.stood.whole in
    let k = c.count_fields-fields.ensures _ _ (moved x.tag_is x.data_is a.holds) in
    answered l.ledger l.table l.stood (record_there l.ledger c.args.n x.there) (record { place = x.place_is; long = ap length x.data_is; tag = x.tag_is; fields = k })
