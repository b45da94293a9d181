use Rattle.std.proofs.Common.{◌∙◌, ap}
use Rattle.secret_book.proofs.PlaceTables.{reads-chain, after-text}
use Rattle.secret_book.specs.HeldBooks.{text_key_of}
use Rattle.secret_book.proofs.book.Book.text_key.Goals as goal

pub returns-clause-key : goal.returns-clause-key
returns-clause-key g c = c.text_key.ensures.key
    ∙ ap (text_key_of _) (reads-chain _ _ c.self.view_is _ _ c.requires c.index_mut.ensures.value)

pub returns-clause-book : goal.returns-clause-book
returns-clause-book g c =
    after-text _ _ c.self.view_is _ _ c.requires c.index_mut.ensures.value _ _ c.text_key.ensures.row
