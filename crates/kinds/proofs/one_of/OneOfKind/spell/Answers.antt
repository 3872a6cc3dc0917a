use Rattle.std.proofs.Common.{◌≡◌, ℕ, List, [], ◌∷◌, length, set, sym, refl, ap, ◌∙◌, arith}
use borrow.Author.Tests.{both_ways}
use Rattle.kinds.specs.Texts.{one_of_is, one_of_from}
use Rattle.kinds.proofs.one_of.OneOfKind.spell.Goals as goal
use Rattle.kinds.proofs.one_of.OneOfKind.spell.Goals.{then-out-ne1-via-then-out-ne1, then-out-ne1-via-else-out-ne1+then-not-is_among}

put : (out : List ℕ) (v : ℕ) → length out ≡ 1 → set out 0 v ≡ v ∷ []
put [] v e = let bad : ⊥ = omega arith in elim bad [ ]
put (c ∷ []) v e = refl
put (c ∷ d ∷ s) v e = let bad : ⊥ = omega arith in elim bad [ ]

pub returns-then-out-ne1 : goal.returns-then-out-ne1
returns-then-out-ne1 c = (
  c.no_reading.ensures,
  refl,
  λ s l e.
      let p = one_of_is c.args.self.now.bytes.now s c.args.value.now e in
      elim c.then-out-ne1.branch [
        | then-out-ne1-via-then-out-ne1 w ↦ w.if-out-ne1.true (sym l ∙ ap length p.0)
        | then-out-ne1-via-else-out-ne1+then-not-is_among w ↦ both_ways _ (sym w.if-not-is_among.ensures) p.1
      ],
)

pub returns : goal.returns
returns c = one_of_from c.args.self.now.bytes.now _ c.args.value.now (put c.args.out.now c.args.value.now c.if-out-ne1.false) (sym c.if-not-is_among.ensures)
