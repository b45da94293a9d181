use Rattle.secret_book.proofs.KeptTables.{starts}
use Rattle.secret_book.proofs.book.Book.start.Goals as goal

pub returns : goal.returns
returns g c = starts _ _ _ c.new.ensures.items c.new-2.ensures
