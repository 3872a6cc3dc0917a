use Rattle.std.proofs.Common.{◌≡◌, ◌+◌, length, Some, None, sym, ap, ◌∙◌, subst, arith}
use Rattle.area.specs.Finding.{names}
use Rattle.area.specs.Listing.{entries_of}
use Rattle.area.proofs.Enlisting.{Sofar, even, entries_length, sofar_part, sofar_all}
use Rattle.area.proofs.Parts.{moved_on}
use Rattle.area.proofs.filling.fill_record.Goals as goal

pub overflow_add-entry : goal.overflow_add-entry
overflow_add-entry g c =
    let v = c.loop-part.invariant in
    let s = c.loop-part.part-iterator in
    let t = c.next.new.self in
    let o = moved_on g.B.Book.means c.args.book.now c.args.spot.now.head s.number s.at (Some c.in-Some.part) t.number t.at v.0 v.1 c.in-Some.ensures.steps.0 in
    let a = o.start_is in
    let b = o.size in
    let i = o.inside in
    let r = c.requires in
    let f = c.args.spot.now.few in
    omega arith

pub loop-part-preserved : goal.loop-part-preserved
loop-part-preserved g c =
    let v = c.loop-part.invariant in
    let s = c.loop-part.part-iterator in
    let t = c.next.new.self in
    let x = c.in-Some.part in
    let st = c.in-Some.ensures.steps in
    let o = moved_on g.B.Book.means c.args.book.now c.args.spot.now.head s.number s.at (Some x) t.number t.at v.0 v.1 st.0 in (
      st.1 ∙ v.0,
      st.2 ∙ v.1,
      ap (λ i. i + 1) v.2 ∙ sym o.one,
      λ ss fs w k.
          let y = v.3 ss fs w k in
          let z = o.told ss fs w y.0 in
          let n = c.args.spot.now.number in
          let base = c.args.spot.now.place + 11 in
          let so = subst (λ i. Sofar c.args.entries.now c.loop-part.entries (entries_of n 0 base (names fs) ss) c.args.from i) (sym o.number_is) y.1 in
          let more = sofar_part n base c.args.from x.number x (names fs) ss (even w.begun) z.0 so k c.put_entry.ensures in
          (z.1, subst (λ i. Sofar c.args.entries.now c.put_entry.new.entries (entries_of n 0 base (names fs) ss) c.args.from i) (ap (λ i. i + 1) o.number_is ∙ sym o.one) more),
    )

pub returns-clause-fills : goal.returns-clause-fills
returns-clause-fills g c = λ ss fs w k.
    let v = c.loop-part.invariant in
    let s = c.loop-part.part-iterator in
    let t = c.next.new.self in
    let y = v.3 ss fs w k in
    let d = moved_on g.B.Book.means c.args.book.now c.args.spot.now.head s.number s.at None t.number t.at v.0 v.1 c.in-None.ensures.steps.0 ss fs w y.0 in
    let few = y.0.few in
    let e : s.number ≡ length ss = omega arith in
    let l = entries_length c.args.spot.now.number 0 (c.args.spot.now.place + 11) (names fs) ss (even w.begun) in
    (v.2 ∙ e, rw e at (sofar_all y.1 (l ∙ sym e)))
