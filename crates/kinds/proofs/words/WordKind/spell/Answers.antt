use Rattle.std.proofs.Common.{refl}
use Rattle.std.proofs.lemmas.Slice.Eq.{bytes_eq-Decides}
use Rattle.kinds.specs.Texts.{word, word_laws}
use Rattle.kinds.proofs.Fits.{misfit}
use Rattle.kinds.proofs.words.WordKind.spell.Goals as goal

pub returns-then-out-self : goal.returns-then-out-self
returns-then-out-self c =
    let k = c.args.self.now in
    (c.no_reading.ensures, refl, misfit (word_laws k.bytes.now k.some k.few) c.args.out.now c.args.value.now c.if-out-self.true)

pub returns : goal.returns
unfolding word
returns c = rw (c.copy_from_slice.ensures.after, (bytes_eq-Decides c.args.self.now.bytes.now c.args.self.now.bytes.now).1 refl) refl
