use Rattle.std.proofs.Common.{◌≤◌, [], length, ap, arith}
use Rattle.next_messages.proofs.Answered.{answer-body, silent-body, with_parts}
use Rattle.next_messages.proofs.body_laws.answer_bodies_are_the_next.Goals as goal

pub returns-clause-carries : goal.returns-clause-carries
returns-clause-carries g c =
    λ rule M t kept O state book header greatest gives payload carries may sealing events bits drawn before after bytes stands made few drawn_from. (
      with_parts g.K.Kem rule M t made.parts,
      answer-body g.K.Kem rule M t header greatest gives bits payload drawn before after bytes made few
          c.the_book_carries_what_is_sent.ensures.sends c.the_book_carries_what_is_sent.ensures.parts kept O state book carries may sealing events
          stands drawn_from,
    )

pub returns-clause-silent : goal.returns-clause-silent
returns-clause-silent g c = λ rule M t header greatest gives bits payload drawn before after bytes made nobody.
    let few : length made.parts ≤ greatest = (let n = made.made.count in let none = ap length nobody in omega (arith, n, none)) in (
      with_parts g.K.Kem rule M t [],
      silent-body g.K.Kem rule M t header greatest gives bits payload drawn before after bytes made few nobody,
    )
