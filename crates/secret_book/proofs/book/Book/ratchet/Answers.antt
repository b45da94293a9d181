use Rattle.std.proofs.Common.{◌∙◌}
use Rattle.secret_book.proofs.PlaceTables.{reads-ratchet}
use Rattle.secret_book.proofs.book.Book.ratchet.Goals as goal

pub returns : goal.returns
returns g c = c.ratchet.ensures ∙ reads-ratchet _ _ c.self.view_is _ _ c.requires c.index.ensures
