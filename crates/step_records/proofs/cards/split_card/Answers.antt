use Rattle.step_records.proofs.CardReads.{front-is, no-front}
use Rattle.step_records.proofs.cards.split_card.Goals as goal

pub returns-in_default : goal.returns-in_default
returns-in_default c =
    no-front c.args.bytes.now c.new-cursor.result c.take_card.new.cursor c.in_default.field-0 c.new-cursor.ensures c.in_default.ensures.takes

pub returns : goal.returns
returns c =
    rw c.place-place.ensures.place
    (front-is c.args.bytes.now c.new-cursor.result c.take_card.new.cursor c.in-Ok.card c.new-cursor.ensures c.in-Ok.ensures.takes)
