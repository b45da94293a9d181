use Rattle.group_messages.specs.Messages.{message_of}
use Rattle.causal_history.specs.Rows.{history_of}
use Rattle.causal_cast.proofs.Suiting.{no_create-well}
use Rattle.causal_cast.proofs.rules.suits_kind.Goals as goal

-- what is no create may be asked about
pub parts_suit-requires-clause-create : goal.parts_suit-requires-clause-create
parts_suit-requires-clause-create g c =
    let m = message_of c.args.packet.now.header in
    no_create-well (history_of c.args.history.now) m m.kind c.requires.create
