use Rattle.std.proofs.Common.{rules, arith}
use Rattle.met_members.proofs.More.{each-can, each-met, each-none, each-room, first-can, first-there, rest-can}
use Rattle.met_members.proofs.meeting.+meet_each.Goals as goal

pub returns-in_default : goal.returns-in_default
returns-in_default g t c = each-none g.K.Kem c.args.me.now.0.0 c.args.cards.now c.args.book.now c.in_default.len_below

pub meet_card-requires : goal.meet_card-requires
meet_card-requires g t c =
    let room = c.requires.room in
    let first = first-there c.args.cards.now c.first-item.result (omega arith) c.first-item.is in
    record {
      met = first-can g.K.Kem c.args.me.now.0.0 c.args.cards.now c.first-item.result c.args.book.now (omega arith) c.first-item.is c.requires.met;
      room = omega arith;
      spelled = c.requires.can.spelled c.first-item.result first;
      key = c.requires.can.keys c.first-item.result first;
    }

pub meet_each-requires : goal.meet_each-requires
meet_each-requires g t c κs within = (
  search rules,
  (
    search rules,
    (
      search rules,
      (
        each-can g.K.Kem c.args.me.now.0.0 c.args.cards.now c.first-item.result c.args.book.now c.meet_card.new.book (omega arith)
            c.first-item.is c.requires.met c.in_ok-meet_card.ensures,
        (
          each-room g.K.Kem c.args.me.now.0.0 c.args.cards.now c.first-item.result c.args.book.now c.meet_card.new.book (omega arith)
              c.first-item.is c.requires.room c.requires.met c.in_ok-meet_card.ensures,
          rest-can g.K.Kem c.args.cards.now c.requires.can,
        ),
      ),
    ),
  ),
)

pub returns : goal.returns
returns g t c =
    each-met g.K.Kem c.args.me.now.0.0 c.args.cards.now c.first-item.result c.args.book.now c.meet_card.new.book c.meet_each.new.book
    c.meet_each.result (omega arith) c.first-item.is c.in_ok-meet_card.ensures c.meet_each.ensures
