use Rattle.app_messages.proofs.Standing.{texts_stand}
use Rattle.app_messages.proofs.laws.texts_are_the_models.Goals as goal

pub returns : goal.returns
returns g c = λ O ids p b state h within.
    texts_stand g.K.Kem O ids p b state h (c.calls_stand.ensures O ids p b state h within)
