use Rattle.std.proofs.Common.{◌≡◌, Some, None, length, refl, ap, inl, inr, arith}
use Rattle.std.proofs.lemmas.Result.{err_from_is_err_and}
use Rattle.refusal.specs.declared.fault.Cause.TheVariants.{NoSuch}
use Rattle.refusal.specs.Faults.{fault}
use Rattle.model.proofs.Lists.{never}
use Rattle.area.specs.Reading.Answers.{astray, refused, answered}
use Rattle.area.proofs.Located.{sound_at}
use Rattle.area.proofs.Telling.{all_sound, at_record, moved, inside, refused_with}
use Rattle.area.proofs.reading.which.Goals as goal

pub returns-in_err-bytes : goal.returns-in_err-bytes
returns-in_err-bytes g c =
    let p = err_from_is_err_and c.from_residual.result c.from_residual.ensures.1 in
    rw (p.1, p.2) (astray c.in_err-bytes.ensures)

pub returns-in_err-spot : goal.returns-in_err-spot
returns-in_err-spot g c =
    let l = c.in_ok-bytes.ensures in
    let z : c.holding_record.result ≡ None = c.in_err-spot.ensures.ok_part in
    let h = rw z at (c.holding_record.ensures l.ledger.records (all_sound (g.B.Book.laws c.args.book.now) l.stood.whole) l.is) in
    let e = refused_with c.holding_record.result c.in_err-spot.field-0.0 c.new.result z c.in_err-spot.ensures.value in
    let p = err_from_is_err_and c.from_residual-in_err-spot.result c.from_residual-in_err-spot.ensures.1 in
    rw (p.1, p.2, e, c.new.ensures) (refused l.ledger l.table l.stood (inl (fault NoSuch 0 0 0, (h, refl), refl)))

pub overflow_sub-into : goal.overflow_sub-into
overflow_sub-into g c =
    let l = c.in_ok-bytes.ensures in
    let s = all_sound (g.B.Book.laws c.args.book.now) l.stood.whole in
    let z : c.holding_record.result ≡ Some c.in_ok-spot.spot = c.in_ok-spot.ensures.ok_part in
    let x = rw z at (c.holding_record.ensures l.ledger.records s l.is) in
    omega (arith, x.1)

pub returns-then-into-lt11 : goal.returns-then-into-lt11
returns-then-into-lt11 g c =
    let l = c.in_ok-bytes.ensures in
    let s = all_sound (g.B.Book.laws c.args.book.now) l.stood.whole in
    let z : c.holding_record.result ≡ Some c.in_ok-spot.spot = c.in_ok-spot.ensures.ok_part in
    let x = rw z at (c.holding_record.ensures l.ledger.records s l.is) in
    let h = c.in_ok-spot.spot in
    let low = x.1 in
    let near = c.if-into-lt11.true in
    let p = x.0.place_is in
    let w = inside l.ledger.records h.number x.0.there (sound_at l.ledger.records h.number x.0.there s).0.six in
    answered l.ledger l.table l.stood (inr (λ f z. let q = z.0 in omega arith, refl)) (x.0.there, (refl, omega arith, omega arith))

pub returns-in_err-k : goal.returns-in_err-k
returns-in_err-k g c =
    let l = c.in_ok-bytes.ensures in
    let s = all_sound (g.B.Book.laws c.args.book.now) l.stood.whole in
    let z : c.holding_record.result ≡ Some c.in_ok-spot.spot = c.in_ok-spot.ensures.ok_part in
    let x = rw z at (c.holding_record.ensures l.ledger.records s l.is) in
    let h = c.in_ok-spot.spot in
    let a = at_record h.number x.0.there l.stood.whole in
    let y : c.holding_field.result ≡ None = c.in_err-k.ensures.ok_part in
    let k = rw y at (c.holding_field.ensures _ _ (moved x.0.tag_is x.0.data_is a.holds)) in
    let d = ap length x.0.data_is in
    let low = x.1 in
    let high = x.2 in
    let far = c.if-into-lt11.false in
    let bad : ⊥ = omega arith in never bad

pub returns : goal.returns
returns g c =
    let l = c.in_ok-bytes.ensures in
    let s = all_sound (g.B.Book.laws c.args.book.now) l.stood.whole in
    let z : c.holding_record.result ≡ Some c.in_ok-spot.spot = c.in_ok-spot.ensures.ok_part in
    let x = rw z at (c.holding_record.ensures l.ledger.records s l.is) in
    let h = c.in_ok-spot.spot in
    let a = at_record h.number x.0.there l.stood.whole in
    let y : c.holding_field.result ≡ Some c.in_ok-k.k = c.in_ok-k.ensures.ok_part in
    let k = rw y at (c.holding_field.ensures _ _ (moved x.0.tag_is x.0.data_is a.holds)) in
    let d = ap length x.0.data_is in
    let p = x.0.place_is in
    let low = x.1 in
    let high = x.2 in
    let far = c.if-into-lt11.false in
    let k1 = k.1 in
    let k2 = k.2 in
    let w = inside l.ledger.records h.number x.0.there (sound_at l.ledger.records h.number x.0.there s).0.six in
    answered l.ledger l.table l.stood (inr (λ f z. let q = z.0 in omega arith, refl)) (x.0.there, (k.0, omega arith, omega arith))
