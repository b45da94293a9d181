use Rattle.std.proofs.Common.{ap}
use Rattle.secret_book.specs.HeldBooks.{HeldBook}
use Rattle.secret_book.proofs.Outcomes.{ok-map}
use Rattle.group_ops.proofs.KeptAnswers.{same_places}
use Rattle.group_ops.proofs.answers.keep_answer.Goals as goal

pub returns-clause-places : goal.returns-clause-places
returns-clause-places g c = ok-map c.keep.result
    (λ done e. same_places _ _ (ap (λ (b : HeldBook). b.met) e)) c.keep.ensures.kept
