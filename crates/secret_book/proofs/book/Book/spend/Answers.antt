use Rattle.std.proofs.Common.{◌∙◌}
use Rattle.secret_book.proofs.KeptTables.{after-kept, reads-kept, none-put}
use Rattle.secret_book.proofs.book.Book.spend.Goals as goal

pub returns-clause-secret : goal.returns-clause-secret
returns-clause-secret g c = c.spend.ensures.secret ∙ reads-kept _ _ c.self.view_is _ _

pub returns-clause-spent : goal.returns-clause-spent
returns-clause-spent g c = after-kept _ _ c.self.view_is _ _ _ _ c.spend.ensures.spent

pub invariant_of-self : goal.invariant_of-self
invariant_of-self g c = none-put _ _ c.self.view_is _ _ _ _ c.spend.ensures.spent c.requires c.self.invariant
