use Rattle.std.proofs.Common.{◌∷◌}
use Rattle.group_model.specs.Membership.{ids_named}
use Rattle.causal_history.specs.Rows.{history_of}
use Rattle.next_messages.specs.Due.{message_with}
use Rattle.next_messages.proofs.Forwarded.{forwarded-crowd, forwarded-few, forwarded-placed}
use Rattle.next_messages.proofs.answer_laws.forwarded_receivers_are_addressees.Goals as goal

pub returns : goal.returns
returns c = λ rule is_rule rows header bits me o kind history heads place crowd to receivers digest new.
    let h = history_of rows in
    let m = message_with header digest in (
      c.receivers_are_addressees.ensures rule (m ∷ h) m (ids_named h) bits to receivers
          (forwarded-crowd rule rows header bits me o kind history heads place crowd digest new c.addressees_are_of_the_past.ensures)
          (forwarded-placed rule rows header bits me o kind history heads place crowd digest new is_rule),
      forwarded-few rule rows header bits me o kind history heads place crowd digest new to receivers,
    )
