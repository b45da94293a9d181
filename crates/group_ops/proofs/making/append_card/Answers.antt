use Rattle.std.proofs.Common.{◌∙◌, sym, subst}
use Rattle.group_fields.specs.Cards.{Spells}
use Rattle.group_fields.proofs.CardBytes.{id_is}
use Rattle.group_ops.proofs.Founded.{card_appended}
use Rattle.group_ops.proofs.making.append_card.Goals as goal

pub returns-clause-id : goal.returns-clause-id
returns-clause-id c = c.digest.ensures
    ∙ id_is c.args.card.now c.as_slice-2.result.now (subst (Spells c.args.card.now) (sym c.as_slice-2.ensures) c.in_ok-bytes.ensures.spells)

pub returns-clause-card : goal.returns-clause-card
returns-clause-card c = λ set own.
    card_appended set c.args.card.now c.as_slice.result.now c.args.into.now.items c.append_bytes.new.bytes.items own
    (subst (Spells c.args.card.now) (sym c.as_slice.ensures) c.in_ok-bytes.ensures.spells) c.in_ok-append_bytes.ensures.plain
