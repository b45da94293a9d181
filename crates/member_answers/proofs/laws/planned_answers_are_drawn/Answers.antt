use Rattle.member_answers.proofs.PlanDraws.{answer-drawn}
use Rattle.member_answers.proofs.laws.planned_answers_are_drawn.Goals as goal

pub returns : goal.returns
returns g c = λ rule is_rule packet M place me random bits drawn plan a opened k kind.
    answer-drawn g.K.Kem rule is_rule packet M place me random bits drawn plan a opened k kind
