use Rattle.std.proofs.Common.{◌≡◌, ℕ, ◌+◌, ◌++◌, length, get_or, take, drop, sym, ap, ◌∙◌, subst, ap₂, arith}
use Rattle.model.specs.Rules.{nothing}
use Rattle.model.proofs.Lists.{never}
use Rattle.area.specs.Finding.{names}
use Rattle.area.specs.Listing.{entries_of, Tiling}
use Rattle.area.proofs.Telling.{all_sound, at_record, moved}
use Rattle.area.proofs.Enlisting.{even, entries_length}
use Rattle.area.proofs.Tiled.{entries_tile}
use Rattle.area.proofs.Filled.{Sofar, sofar_more, sofar_all, just_filled, room, all_even}
use Rattle.area.proofs.filling.fill_all.Goals as goal

pub returns-then-not-tiled : goal.returns-then-not-tiled
returns-then-not-tiled g c = λ l t w e f.
    let st = c.in-Some.ensures.steps in
    let v = c.loop-spot.invariant.1 l t w e f in
    let y = (st.told l (all_sound (g.B.Book.laws c.args.book.now) w) v.0).0 in
    let n = c.in-Some.spot.number in
    let at = c.in-Some.spot.place in
    let filled = c.loop-spot.filled in
    let now = c.loop-spot.entries in
    let so = subst (λ i. Sofar c.args.entries.now now l t i filled) (sym st.number_is) v.1 in
    let a = at_record n y.there w in
    let ss = (get_or l n nothing).spellings in
    let k = c.fill_record-k.ensures.fills _ _ (moved y.tag_is y.data_is a.holds) (room w so y.there f) in
    let es = entries_of n 0 (at + 11) (names a.fields) ss in
    let ev = even a.holds.begun in
    let le = entries_length n 0 (at + 11) (names a.fields) ss ev in
    let put : c.fill_record-k.new.entries ≡ take filled now ++ (es ++ drop (filled + c.fill_record-k.result) now) = k.1 ∙ ap (λ i. take filled now ++ (es ++ drop (filled + i) now)) (sym k.0) in
    let jf = just_filled w so y.there f c.fill_record-k.new.entries es (ap₂ (λ (i : ℕ) j. entries_of n 0 (i + 11) j ss) y.place_is (sym a.named)) c.fill_record-k.result (le ∙ sym k.0) put in
    let d = ap length y.data_is in
    let long = length c.in-Some.spot.head.data.now in
    let t1 : Tiling es (at + 11) (at + 11 + long) = subst (λ i. Tiling es (at + 11) (at + 11 + i)) (sym d) (entries_tile n 0 (at + 11) (names a.fields) ss ev) in
    let t2 : Tiling (take c.fill_record-k.result (drop filled c.fill_record-k.new.entries)) (at + 11) (at + 11 + long) = subst (λ i. Tiling i (at + 11) (at + 11 + long)) (sym jf) t1 in
    let ro = room w so y.there f in
    let k0 = k.0 in
    never (c.if-not-tiled.ensures (omega (arith, c.fill_record-k.auto.entries), t2))

pub loop-spot-preserved : goal.loop-spot-preserved
loop-spot-preserved g c =
    let st = c.in-Some.ensures.steps in
    let place = st.place_is in (
      omega (arith, c.fill_record-k.ensures.bound, c.loop-spot.invariant.0, st.size),
      λ l t w e f.
          let v = c.loop-spot.invariant.1 l t w e f in
          let z = st.told l (all_sound (g.B.Book.laws c.args.book.now) w) v.0 in
          let y = z.0 in
          let n = c.in-Some.spot.number in
          let at = c.in-Some.spot.place in
          let filled = c.loop-spot.filled in
          let now = c.loop-spot.entries in
          let so = subst (λ i. Sofar c.args.entries.now now l t i filled) (sym st.number_is) v.1 in
          let a = at_record n y.there w in
          let ss = (get_or l n nothing).spellings in
          let k = c.fill_record-k.ensures.fills _ _ (moved y.tag_is y.data_is a.holds) (room w so y.there f) in
          let es = entries_of n 0 (at + 11) (names a.fields) ss in
          let le = entries_length n 0 (at + 11) (names a.fields) ss (even a.holds.begun) in
          let more = sofar_more w so y.there f _ es (ap₂ (λ (i : ℕ) j. entries_of n 0 (i + 11) j ss) y.place_is (sym a.named)) c.fill_record-k.result (le ∙ sym k.0) (k.1 ∙ ap (λ i. take filled now ++ (es ++ drop (filled + i) now)) (sym k.0)) in
          (z.1, subst (λ i. Sofar c.args.entries.now c.fill_record-k.new.entries l t i (filled + c.fill_record-k.result)) (ap (λ i. i + 1) st.number_is ∙ sym st.one) more),
    )

pub returns : goal.returns
returns g c = λ l t w e f.
    let v = c.loop-spot.invariant.1 l t w e f in
    let ev = all_even w in
    let h = c.in-None.ensures.steps l (all_sound (g.B.Book.laws c.args.book.now) w) v.0 in
    sofar_all w v.1 h (omega arith)
