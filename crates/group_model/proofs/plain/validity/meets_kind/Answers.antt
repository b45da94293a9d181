use Rattle.std.proofs.Common.{◌↔◌, IsTrue, IfOk, subst, sym}
use Rattle.group_model.specs.Membership.{remove_wins}
use Rattle.group_model.specs.Validity.{MeetsKind}
use Rattle.group_model.specs.Plain.{kind_of, history_of, inviter_in}
use Rattle.group_model.proofs.plain.validity.meets_kind.Goals as goal

pub returns-in-Ack : goal.returns-in-Ack
returns-in-Ack c = subst
    (λ k. IfOk c.may_ack.result (λ b. IsTrue b ↔ MeetsKind remove_wins (inviter_in c.args.cards.now) (history_of c.args.past.now) c.args.sender.now (kind_of k)))
    (sym c.in-Ack.is) c.may_ack.ensures
