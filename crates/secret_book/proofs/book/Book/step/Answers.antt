use Rattle.std.proofs.Common.{◌∙◌, ap}
use Rattle.secret_book.proofs.PlaceTables.{reads-ratchet, after-step}
use Rattle.group_keys.specs.Primitives.{primitives_of}
use Rattle.secret_book.specs.HeldBooks.{secret_by}
use Rattle.secret_book.proofs.book.Book.step.Goals as goal

pub returns-clause-secret : goal.returns-clause-secret
returns-clause-secret g c = c.step.ensures.secret
    ∙ ap (secret_by (primitives_of g.K.Kem) _) (reads-ratchet _ _ c.self.view_is _ _ c.requires c.index_mut.ensures.value)

pub returns-clause-book : goal.returns-clause-book
returns-clause-book g c =
    after-step _ _ c.self.view_is _ _ c.requires c.index_mut.ensures.value _ _ _ c.step.ensures.row
