use Rattle.group_fields.specs.Cards.{card}
use Rattle.group_fields.proofs.CardBytes.{card_plain}
use Rattle.group_fields.proofs.WholeReads.{whole_fault_is, whole_found_is, whole_least_is, whole_only_is}
use Rattle.group_fields.proofs.card_view.read_card.Goals as goal

pub returns-clause-found : goal.returns-clause-found
returns-clause-found c = whole_found_is card c.args.bytes.now c.read_whole_card.result c.read_whole_card.ensures

pub returns-clause-only : goal.returns-clause-only
returns-clause-only c = whole_only_is card c.args.bytes.now c.read_whole_card.result c.read_whole_card.ensures

pub returns-clause-refused : goal.returns-clause-refused
returns-clause-refused c = whole_fault_is card c.args.bytes.now c.read_whole_card.result c.read_whole_card.ensures

pub returns-clause-least : goal.returns-clause-least
returns-clause-least c = whole_least_is card c.args.bytes.now c.read_whole_card.result card_plain c.read_whole_card.ensures
