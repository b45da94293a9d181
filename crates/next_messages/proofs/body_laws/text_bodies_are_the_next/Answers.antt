use Rattle.next_messages.proofs.Answered.{text-body}
use Rattle.next_messages.proofs.body_laws.text_bodies_are_the_next.Goals as goal

pub returns : goal.returns
returns g c = λ rule M t cards O state book ids p before stands within own header is bytes made.
    text-body g.K.Kem rule M t O state cards book ids p before (c.calls_stand.ensures O ids p before state stands within) own header is bytes made
