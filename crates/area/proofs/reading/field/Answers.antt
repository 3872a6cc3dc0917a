use Rattle.std.proofs.Common.{◌≡◌, Some, None}
use Rattle.std.proofs.lemmas.Result.{err_from_is_err_and}
use Rattle.area.specs.Reading.Answers.{astray, refused, answered}
use Rattle.area.proofs.Located.{sound_at}
use Rattle.area.proofs.Telling.{all_sound, at_record, moved, field_missing, field_absent, field_there, field_place, field_name, field_bytes, field_in, refused_with}
use Rattle.area.proofs.reading.field.Goals as goal

pub returns-in_err-bytes : goal.returns-in_err-bytes
returns-in_err-bytes g c =
    let p = err_from_is_err_and c.from_residual.result c.from_residual.ensures.1 in
    rw (p.1, p.2) (astray c.in_err-bytes.ensures)

pub returns-in_err-spot : goal.returns-in_err-spot
returns-in_err-spot g c =
    let l = c.in_ok-bytes.ensures in
    let z : c.find_record.result ≡ None = c.in_err-spot.ensures.ok_part in
    let h = rw z at (c.find_record.ensures.finds l.ledger.records (all_sound (g.B.Book.laws c.args.book.now) l.stood.whole) l.is) in
    let e = refused_with c.find_record.result c.in_err-spot.field-0.0 c.new.result z c.in_err-spot.ensures.value in
    let p = err_from_is_err_and c.from_residual-in_err-spot.result c.from_residual-in_err-spot.ensures.1 in
    rw (p.1, p.2, e, c.new.ensures) (refused l.ledger l.table l.stood (field_missing l.ledger c.args.n c.args.k h))

pub returns-in_err-part : goal.returns-in_err-part
returns-in_err-part g c =
    let l = c.in_ok-bytes.ensures in
    let s = all_sound (g.B.Book.laws c.args.book.now) l.stood.whole in
    let z : c.find_record.result ≡ Some c.in_ok-spot.spot = c.in_ok-spot.ensures.ok_part in
    let x = rw z at (c.find_record.ensures.finds l.ledger.records s l.is) in
    let a = at_record c.args.n x.there l.stood.whole in
    let y : c.find_field.result ≡ None = c.in_err-part.ensures.ok_part in
    let h = rw y at (c.find_field.ensures.finds _ _ (moved x.tag_is x.data_is a.holds)) in
    let e = refused_with c.find_field.result c.in_err-part.field-0.0 c.new-2.result y c.in_err-part.ensures.value in
    let p = err_from_is_err_and c.from_residual-in_err-part.result c.from_residual-in_err-part.ensures.1 in
    rw (p.1, p.2, e, c.new-2.ensures) (refused l.ledger l.table l.stood (field_absent l.ledger c.args.n c.args.k x.there h))

pub returns : goal.returns
returns g c =
    let l = c.in_ok-bytes.ensures in
    let s = all_sound (g.B.Book.laws c.args.book.now) l.stood.whole in
    let z : c.find_record.result ≡ Some c.in_ok-spot.spot = c.in_ok-spot.ensures.ok_part in
    let x = rw z at (c.find_record.ensures.finds l.ledger.records s l.is) in
    let a = at_record c.args.n x.there l.stood.whole in
    let y : c.find_field.result ≡ Some c.in_ok-part.part = c.in_ok-part.ensures.ok_part in
    let p = rw y at (c.find_field.ensures.finds _ _ (moved x.tag_is x.data_is a.holds)) in
    let q = c.in_ok-part.part in
    let h = c.in_ok-spot.spot.head in
    let b = field_bytes l c.args.n c.args.k c.in_ok-spot.spot.place h q x a p in
    answered l.ledger l.table l.stood (field_there l.ledger c.args.n c.args.k x.there p.there) (record {
      place = field_place l c.args.n c.args.k c.in_ok-spot.spot.place h q x a p;
      name = field_name l c.args.n c.args.k c.in_ok-spot.spot.place h q x a p;
      bytes = b;
      there = field_in l c.args.n c.args.k c.in_ok-spot.spot.place h q x a p (sound_at l.ledger.records c.args.n x.there s).0.six _ b;
    })
