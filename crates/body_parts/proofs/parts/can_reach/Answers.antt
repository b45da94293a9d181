use Rattle.std.proofs.Common.{arith}
use Rattle.group_model.proofs.Verdicts.{says-less}
use Rattle.secret_book.specs.HeldBooks.{held}
use Rattle.body_parts.proofs.Reaching.{not_used_up, reached}
use Rattle.body_parts.proofs.parts.can_reach.Goals as goal

pub returns-in-Some : goal.returns-in-Some
returns-in-Some g c = (
  λ t. reached c.args.book.now c.args.place c.in-Some.sends (omega arith) c.in-Some.ensures ((says-less c.in-Some.sends 4294967295).holds t),
  λ r. (says-less c.in-Some.sends 4294967295).told (not_used_up (held c.args.book.now) c.args.place c.in-Some.sends c.in-Some.ensures r),
)
