use Rattle.member_commands.proofs.Next.{commands-make}
use Rattle.member_commands.proofs.laws.commands_make_the_next.Goals as goal

pub returns : goal.returns
returns g c = λ rule is_rule.
    commands-make g.K.Kem rule is_rule c.the_book_stands_for_its_log.ensures.log c.the_book_stands_for_its_log.ensures.entry
    c.calls_make_the_book.ensures.sends c.the_book_carries_what_is_sent.ensures.sends c.the_book_carries_what_is_sent.ensures.parts
