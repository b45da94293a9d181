use Rattle.member_commands.proofs.Said.{chain-there}
use Rattle.member_commands.proofs.saying.who_may_speak_has_a_chain.Goals as goal

pub returns : goal.returns
returns g c = λ rule. chain-there g.K.Kem rule c.the_book_stands_for_its_log.ensures.log c.the_book_stands_for_its_log.ensures.own_known
    (λ O ids p b state stands within. c.calls_stand.ensures O ids p b state stands within)
