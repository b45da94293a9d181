use Rattle.std.proofs.Common.{refl}
use Rattle.causal_history.specs.Rows.{history_of}
use Rattle.group_model.specs.Membership.{ids_named}
use Rattle.group_model.proofs.Places.{place-in}
use Rattle.member_checks.proofs.standing.is_named.Goals as goal

pub returns-in-Some : goal.returns-in-Some
returns-in-Some c = (
  λ t. place-in (ids_named (history_of c.args.history.now)) _ c.args.id.now.0.0 c.in-Some.ensures.place,
  λ i. refl,
)
