use Rattle.area.proofs.Parts.{nth_within, nth_found}
use Rattle.area.proofs.finding.find_field.Goals as goal

pub returns-clause-within : goal.returns-clause-within
returns-clause-within g c =
    let n = c.new.ensures.starts in
    nth_within g.B.Book.means c.args.book.now c.args.head.now (λ s. s.book.now) (λ s. s.head) (λ s. s.number) (λ s. s.at) c.new.result c.nth.new.self c.args.k n.2 n.3 c.nth.result c.nth.ensures.ran

pub returns-clause-finds : goal.returns-clause-finds
returns-clause-finds g c = λ ss fs w.
    let n = c.new.ensures.starts in
    nth_found g.B.Book.means c.args.book.now c.args.head.now (λ s. s.book.now) (λ s. s.head) (λ s. s.number) (λ s. s.at) c.new.result c.nth.new.self c.args.k n.2 n.3 ss fs w n.0 n.1 c.nth.result c.nth.ensures.ran
