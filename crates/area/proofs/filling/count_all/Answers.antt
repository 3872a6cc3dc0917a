use Rattle.std.proofs.Common.{◌+◌, length, take, sym, ap, ◌∙◌, arith}
use Rattle.std.proofs.lemmas.List.{take_all}
use Rattle.area.specs.Listing.{field_total}
use Rattle.area.proofs.Telling.{all_sound, at_record, moved}
use Rattle.area.proofs.Enlisting.{total_more, few}
use Rattle.area.proofs.filling.count_all.Goals as goal

pub loop-spot-preserved : goal.loop-spot-preserved
loop-spot-preserved g c = λ k t w e.
    let laws = g.B.Book.laws c.args.book.now in
    let v = c.loop-spot.invariant k t w e in
    let s = c.in-Some.ensures.steps in
    let n = c.in-Some.spot.number in
    let z = s.told k (all_sound laws w) v.0 in
    let a = at_record n z.0.there w in
    let m = c.count_fields.ensures _ _ (moved z.0.tag_is z.0.data_is a.holds) in
    let few_here = few laws a.holds.begun in
    let d = ap length z.0.data_is in
    let more = total_more k n z.0.there in
    let sum = c.saturating_add-total.ensures in
    let v1 = v.1 in
    let v2 = v.2 in
    let size = s.size in
    let there = s.place_is in
    let one = ap (λ i. field_total (take i k)) (s.one ∙ ap (λ i. i + 1) (sym s.number_is)) in
    let same = ap (λ i. field_total (take i k)) s.number_is in
    let room = c.in-Some.ensures.goes in
    (z.1, omega arith, omega arith)

pub returns : goal.returns
returns g c = λ l t w e.
    let v = c.loop-spot.invariant l t w e in
    v.1 ∙ ap field_total (take_all _ l (c.in-None.ensures.steps l (all_sound (g.B.Book.laws c.args.book.now) w) v.0))
