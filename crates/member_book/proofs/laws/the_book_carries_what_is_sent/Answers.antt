use Rattle.std.proofs.Common.{ap}
use Rattle.group_model.specs.Knowledge.{text_sealed}
use Rattle.member_book.proofs.Step.{opens_same, sends_same, parts_same}
use Rattle.member_book.proofs.laws.the_book_carries_what_is_sent.Goals as goal

pub returns-clause-opens : goal.returns-clause-opens
returns-clause-opens c = λ O l e b k. opens_same O l b k e

pub returns-clause-seals : goal.returns-clause-seals
returns-clause-seals c = λ O l text b k. ap (λ z. text_sealed O.primitives z text) (k.chains O.id)

pub returns-clause-sends : goal.returns-clause-sends
returns-clause-sends c = λ O l t kind b k y. sends_same O l b k t kind y

pub returns-clause-parts : goal.returns-clause-parts
returns-clause-parts c = λ O l t y v b k. parts_same O l b k t y v
