use Rattle.secret_book.proofs.PlaceTables.{after-hand}
use Rattle.secret_book.proofs.book.Book.hand.Goals as goal

pub returns : goal.returns
returns g c = after-hand _ _ c.self.view_is _ _ c.requires c.index_mut.ensures.value _ _ c.hand.ensures
