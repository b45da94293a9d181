use Rattle.member_commands.proofs.Said.{texts-make}
use Rattle.member_commands.proofs.saying.texts_are_the_next.Goals as goal

pub returns : goal.returns
returns g c = λ rule.
    texts-make g.K.Kem rule c.the_book_stands_for_its_log.ensures.log c.the_book_stands_for_its_log.ensures.entry
    c.texts_are_entries.ensures.said
    (λ O ids p b state stands within. c.calls_stand.ensures O ids p b state stands within)
