use Rattle.std.proofs.Common.{string_bytes, ◌∙◌}
use Rattle.std.proofs.lemmas.Result.{err_from_is_err_and}
use Rattle.report.specs.Listings.Listing.{refused}
use Rattle.report.proofs.Ending.{too_long, halted, ready, whole}
use Rattle.report.proofs.Standing.{open_ok, open_err, count_ok, count_err}
use Rattle.report.proofs.table.Goals as goal

pub returns-then-bytes-gt-LIMIT : goal.returns-then-bytes-gt-LIMIT
returns-then-bytes-gt-LIMIT g c = too_long c.args.bytes.now c.new.result c.new.ensures c.if-bytes-gt-LIMIT.true

pub returns-in_err-area : goal.returns-in_err-area
returns-in_err-area g c =
    let p = err_from_is_err_and c.from_residual.result c.from_residual.ensures.1 in
    rw (p.1, p.2) (refused c.if-bytes-gt-LIMIT.false (open_err _ _ c.if-bytes-gt-LIMIT.false c.in_err-area.ensures))

pub returns-in_err-records : goal.returns-in_err-records
returns-in_err-records g c =
    let o = open_ok _ _ c.in_ok-area.area c.in_ok-area.ensures in
    let bad : ⊥ = count_err (g.B.Book.laws _) o.1.2 _ c.in_err-records.ensures in
    elim bad [ ]

pub returns-in_err-fields : goal.returns-in_err-fields
returns-in_err-fields g c =
    let o = open_ok _ _ c.in_ok-area.area c.in_ok-area.ensures in
    let p = err_from_is_err_and c.from_residual-in_err-fields.result c.from_residual-in_err-fields.ensures.1 in
    rw (p.1, p.2) (halted _ _ c.in_err-fields.field-0.0 (c.in_err-fields.ensures o.1.0 o.1.1 o.1.2))

pub field_text-requires : goal.field_text-requires
field_text-requires g c =
    let o = open_ok _ _ c.in_ok-area.area c.in_ok-area.ensures in
    let e = c.as_slice.ensures.value ∙ c.in_ok-fields.ensures o.1.0 o.1.1 o.1.2 in
    let r = ready (g.B.Book.laws _) c.args.bytes.now c.in_ok-area.area c.as_slice.result.now c.if-bytes-gt-LIMIT.false o.0 o.1.2 e in
    record { placed = r.placed }

pub returns-in_err-text : goal.returns-in_err-text
returns-in_err-text g c =
    let o = open_ok _ _ c.in_ok-area.area c.in_ok-area.ensures in
    let e = c.as_slice.ensures.value ∙ c.in_ok-fields.ensures o.1.0 o.1.1 o.1.2 in
    let r = ready (g.B.Book.laws _) c.args.bytes.now c.in_ok-area.area c.as_slice.result.now c.if-bytes-gt-LIMIT.false o.0 o.1.2 e in
    let p = err_from_is_err_and c.from_residual-in_err-text.result c.from_residual-in_err-text.ensures.1 in
    rw (p.1, p.2) (halted _ _ c.in_err-text.field-0.0 (c.in_err-text.ensures o.1.0.records r.laid r.opens))

pub returns : goal.returns
returns g c =
    let o = open_ok _ _ c.in_ok-area.area c.in_ok-area.ensures in
    let s = o.1.2 in
    let k = count_ok (g.B.Book.laws _) s c.in_ok-records.records c.in_ok-records.ensures in
    let e = c.as_slice.ensures.value ∙ c.in_ok-fields.ensures o.1.0 o.1.1 s in
    let r = ready (g.B.Book.laws _) c.args.bytes.now c.in_ok-area.area c.as_slice.result.now c.if-bytes-gt-LIMIT.false o.0 s e in
    let all = c.in_ok-text.ensures o.1.0.records r.laid r.opens ∙ r.lines in
    whole c.args.bytes.now c.in_ok-area.area _ (string_bytes c.in_ok-text.text) (string_bytes c.in_ok-end_line.field-0) c.in_ok-records.records
    c.if-bytes-gt-LIMIT.false o.0 s all k c.in_ok-end_line.ensures c.in_ok-add_line.ensures
