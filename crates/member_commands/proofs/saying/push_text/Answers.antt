use Rattle.std.proofs.Common.{◌≤◌, ap, List, subst, sym}
use Rattle.group_fields.specs.declared.card.Card.{Card}
use Rattle.group_fields.specs.declared.header.Kind.{Kind}
use Rattle.group_model.specs.Membership.{named_by}
use Rattle.group_messages.specs.Messages.{kind_by}
use Rattle.causal_history.specs.Rows.{MayBePushed}
use Rattle.member_commands.proofs.Plain.{may-push-naming-none}
use Rattle.member_commands.proofs.saying.push_text.Goals as goal

pub push-requires : goal.push-requires
push-requires c =
    subst (λ (cards : List Card). MayBePushed c.args.history.now (record { header = c.args.header.now; cards = cards }))
    (sym c.new.ensures)
    (may-push-naming-none c.args.history.now c.args.header.now
    (ap (λ (k : Kind). named_by (kind_by k c.args.header.now.target)) c.requires.kind) c.requires.heads c.requires.new c.requires.room
    (subst (λ n. n ≤ 32) c.places-few.ensures.places c.places-few.ensures.few))
