use Rattle.std.proofs.Common.{arith, ap, length}
use Rattle.secret_book.proofs.PlaceTables.{unmet}
use Rattle.secret_book.proofs.book.Book.met.Goals as goal

pub returns-clause-unmet : goal.returns-clause-unmet
returns-clause-unmet g c =
    unmet _ _ c.self.view_is c.len.result (omega (arith, ap (λ z. length z.places) c.self.view_is)) c.self.invariant
