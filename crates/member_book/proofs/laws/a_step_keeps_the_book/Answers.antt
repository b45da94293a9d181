use Rattle.member_book.proofs.Step.{start_keeps, step_keeps, learns_same}
use Rattle.member_book.proofs.laws.a_step_keeps_the_book.Goals as goal

pub returns-clause-start : goal.returns-clause-start
returns-clause-start c = start_keeps

pub returns-clause-step : goal.returns-clause-step
returns-clause-step c = λ O l e b k f. step_keeps O l b k e f

pub returns-clause-learns : goal.returns-clause-learns
returns-clause-learns c = λ O l e b k f. learns_same O l b k e f
