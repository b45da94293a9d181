use Rattle.std.proofs.Common.{rules, arith}
use Rattle.group_ops.proofs.Founded.{cards_appended, first_in, ids_appended, no_ids_appended, none_appended, rest_in}
use Rattle.group_ops.proofs.making.+append_cards.Goals as goal

pub returns-in_default-clause-members : goal.returns-in_default-clause-members
returns-in_default-clause-members t c = no_ids_appended c.args.cards.now c.args.members.now.items c.in_default.len_below

pub returns-in_default-clause-cards : goal.returns-in_default-clause-cards
returns-in_default-clause-cards t c = λ set of_set. none_appended set c.args.cards.now c.args.into.now.items c.in_default.len_below

pub append_card-requires : goal.append_card-requires
append_card-requires t c = c.requires c.first-item.result (first_in c.args.cards.now c.first-item.result (omega arith) c.first-item.is)

pub append_cards-requires : goal.append_cards-requires
append_cards-requires t c = (search rules, λ card i. c.requires card (rest_in c.args.cards.now card i))

pub returns-clause-members : goal.returns-clause-members
returns-clause-members t c =
    ids_appended c.args.cards.now c.first-item.result c.in_ok-member.member c.args.members.now.items c.push.new.self.items
    c.append_cards.new.members.items c.append_cards.result (omega arith) c.first-item.is c.in_ok-member.ensures.id c.in_ok-push.ensures.items
    c.append_cards.ensures.members

pub returns-clause-cards : goal.returns-clause-cards
returns-clause-cards t c =
    cards_appended c.args.cards.now c.first-item.result c.args.into.now.items c.append_card.new.into.items c.append_cards.new.into.items
    c.append_cards.result (omega arith) c.first-item.is c.in_ok-member.ensures.card c.append_cards.ensures.cards
