use Rattle.model.proofs.Either.{reading_law}
use Rattle.model.proofs.Standing.{one_ledger, never_both}
use Rattle.model.proofs.OneFault.{one_fault}
use Rattle.model.proofs.law.reading_law.Goals as goal

pub returns : goal.returns
returns g c = record {
  reading = λ b. reading_law _ (g.B.Book.laws b);
  looking = λ b. record { one_ledger = one_ledger (g.B.Book.laws b); never_both = never_both (g.B.Book.laws b); one_fault = one_fault (g.B.Book.laws b) };
}
