use Rattle.std.proofs.Common.{ap, arith}
use Rattle.secret_book.specs.HeldBooks.{HeldBook}
use Rattle.group_ops.proofs.KeptAnswers.{same_places}
use Rattle.group_ops.proofs.acks.spend_answer.Goals as goal

pub step_by-requires : goal.step_by-requires
step_by-requires g c =
    let same = same_places _ _ (ap (λ (b : HeldBook). b.met) c.spend-kept.ensures.spent) in omega (arith, same, c.requires)
