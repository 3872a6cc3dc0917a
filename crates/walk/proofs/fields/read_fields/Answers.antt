use Rattle.std.proofs.Common.{◌≡◌, ◌+◌, ◌-◌, ◌<◌, true, length, inl, inr, sym, ap, ◌∙◌, arith, take-add}
use Rattle.std.proofs.lemmas.Result.{err_from_is_err_and}
use Rattle.model.proofs.Lists.{never}
use Rattle.model.proofs.Fielding.{begun, stop_past, stop_ends, stop_unread, one_more, not_true}
use Rattle.refusal.specs.declared.fault.Cause.TheVariants.{Unread}
use Rattle.refusal.specs.Faults.{fault, in_field}
use Rattle.walk.proofs.Joining.{fielded_broke, fielded_went, passed_ok, passed_err}
use Rattle.walk.proofs.fields.read_fields.Goals as goal
use Rattle.walk.proofs.fields.read_fields.Goals.{then-not-draft, else-not-draft+then-at-bytes}

pub loop-place-init : goal.loop-place-init
loop-place-init g c = (begun _ _ _ _ _ _, c.in-Some.ensures.1)

pub returns-then-at-bytes-2 : goal.returns-then-at-bytes-2
returns-then-at-bytes-2 g c =
    let v = c.loop-place.invariant in
    (c.in-Some.ensures.0, rw c.new.ensures (stop_past v.0 (sym (c.in_default-next.ensures _ _ v.1)) (omega (arith, c.if-at-bytes-2.true))))

pub returns-in_default-get : goal.returns-in_default-get
returns-in_default-get g c =
    let v = c.loop-place.invariant in
    let short : length c.args.bytes.now < c.loop-place.at + c.in-Some-next.field.width = elim c.in_default-get.ensures.lookup.0 [ inl z ↦ omega arith | inr z ↦ z ] in
    let left : c.args.draft ≡ true → 0 < length c.args.bytes.now - c.loop-place.at = λ z. elim c.if-not-draft.branch [ then-not-draft w ↦ never (not_true z w.if-not-draft.true) | else-not-draft+then-at-bytes w ↦ omega (arith, w.if-at-bytes.true) ] in
    (c.in-Some.ensures.0, rw (c.in_field.ensures, c.new-in_default-get.ensures) (stop_ends v.0 (sym (c.in-Some-next.ensures _ _ v.1)) (omega arith) left))

pub returns-in_err-at_field : goal.returns-in_err-at_field
returns-in_err-at_field g c =
    let v = c.loop-place.invariant in
    let p = err_from_is_err_and c.from_residual.result c.from_residual.ensures.1 in
    let e = sym (c.in-Some-next.ensures _ _ v.1) in
    let x = c.in-Some-get.ensures.lookup.0 in
    let b = fielded_broke c.pass.result (c.args.base + c.loop-place.at) c.loop-place.count c.in_err-at_field.field-0.0 (sym c.at_field.ensures ∙ c.in_err-at_field.was) in
    let y = passed_err (g.B.Book.means c.args.book.now) (g.B.Book.stands c.args.book.now) c.args.tag.now c.args.bytes.now c.in-Some-get.spelling.now c.loop-place.at c.in-Some-next.field.name c.in-Some-next.field.width c.loop-place.mark c.pass.new.mark c.pass.result e x.1 x.2 v.1 c.pass.ensures b.0 b.1 in
    let f : c.in_err-at_field.field-0.0 ≡ fault Unread (c.args.base + c.loop-place.at) 0 c.loop-place.count = b.2 ∙ ap (λ i. in_field i (c.args.base + c.loop-place.at) c.loop-place.count) y.1 in
    rw (p.1, p.2, f) (c.in-Some.ensures.0, stop_unread v.0 e (omega (arith, x.1)) y.0)

pub loop-place-smaller : goal.loop-place-smaller
loop-place-smaller g c =
    let w = (g.B.Book.laws c.args.book.now).wide _ _ _ _ (sym (c.in-Some-next.ensures _ _ c.loop-place.invariant.1)) in omega (arith, w.0, c.in-Some-get.ensures.lookup.0.1)

pub loop-place-preserved : goal.loop-place-preserved
loop-place-preserved g c =
    let v = c.loop-place.invariant in
    let e = sym (c.in-Some-next.ensures _ _ v.1) in
    let w = (g.B.Book.laws c.args.book.now).wide _ _ _ _ e in
    let x = c.in-Some-get.ensures.lookup.0 in
    let z = fielded_went c.pass.result (c.args.base + c.loop-place.at) c.loop-place.count tt (sym c.at_field.ensures ∙ c.in_ok-at_field.was) in
    let y = passed_ok (g.B.Book.means c.args.book.now) (g.B.Book.stands c.args.book.now) c.args.tag.now c.args.bytes.now c.in-Some-get.spelling.now c.loop-place.at c.in-Some-next.field.name c.in-Some-next.field.width c.loop-place.mark c.pass.new.mark c.pass.result e x.1 x.2 v.1 c.pass.ensures z in
    (one_more v.0 e (omega (arith, x.1)) w.0 y.1, rw take-add y.2)
