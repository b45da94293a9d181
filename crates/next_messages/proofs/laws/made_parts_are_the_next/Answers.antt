use Rattle.next_messages.proofs.Parts.{parts-are}
use Rattle.next_messages.proofs.laws.made_parts_are_the_next.Goals as goal

pub returns : goal.returns
returns g c = λ M cards O state book t kind payload carries sealing events may to drawn ids before after parts made stands placed drawn_from have.
    let word = c.the_book_carries_what_is_sent.ensures in
    parts-are g.K.Kem word.sends word.parts M cards O state book t kind payload carries sealing events may to drawn ids before after parts made stands
    placed drawn_from have
