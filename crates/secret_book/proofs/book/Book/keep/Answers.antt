use Rattle.secret_book.proofs.KeptTables.{after-kept, none-kept}
use Rattle.secret_book.proofs.Outcomes.{ok-map}
use Rattle.secret_book.proofs.book.Book.keep.Goals as goal

pub returns-clause-kept : goal.returns-clause-kept
returns-clause-kept g c = ok-map c.keep.result (λ x e. after-kept _ _ c.self.view_is _ _ _ _ e) c.keep.ensures.kept

pub invariant_of-self : goal.invariant_of-self
invariant_of-self g c = none-kept c.keep.result _ _ c.self.view_is _ _ _ _ c.keep.ensures.kept c.keep.ensures.unchanged
    c.requires c.self.invariant
