use Rattle.std.proofs.Common.{◌≡◌, ℕ, length, Some, sym, refl, ap, ◌∙◌, arith}
use Rattle.std.proofs.lemmas.Result.{err_from_is_err_and}
use Rattle.kinds.specs.Listing.{listed, listed_is}
use Rattle.kinds.proofs.listed.CodesKind.spell.Goals as goal

pub returns-then-out-letters : goal.returns-then-out-letters
returns-then-out-letters g c = (c.no_reading.ensures, refl, λ s l e. c.if-out-letters.true (sym l ∙ ap length (listed_is g.L.Listed.letters (g.L.Listed.every c.args.self.now.list) s _ e ∙ sym c.letters-letters.ensures)))

pub returns : goal.returns
returns g c =
    let f = g.L.Listed.letters in
    let vs = g.L.Listed.every c.args.self.now.list in
    let m = c.letters-letters.result.now in
    let x = c.in_ok-check.ensures.0 in
    let e : listed f vs m ≡ Some x = c.in_ok-check.ensures.1 in
    let same : x ≡ c.args.value.now = g.L.Listed.spelt.apart _ _ (sym (listed_is f vs m x e) ∙ c.letters-letters.ensures) in
    ap (listed f vs) c.copy_from_slice.ensures.after ∙ e ∙ ap Some same

pub returns-in_err-check : goal.returns-in_err-check
returns-in_err-check g c =
    let f = g.L.Listed.letters in
    let vs = g.L.Listed.every c.args.self.now.list in
    let p = err_from_is_err_and c.from_residual.result c.from_residual.ensures.1 in
    let h = c.in_err-check.ensures in
    rw (p.1, p.2) (
      h.1,
      refl,
      λ s l e.
          let q = sym h.0 ∙ ap (listed f vs) (c.letters-letters.ensures ∙ sym (listed_is f vs s _ e)) ∙ e in
          let z : ◌≡◌ {A = ℕ} 0 1 = cc in
          omega arith,
    )
