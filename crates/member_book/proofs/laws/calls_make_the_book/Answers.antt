use Rattle.member_book.proofs.Calls.{calls_make, sends_each_same, spend_first}
use Rattle.member_book.proofs.laws.calls_make_the_book.Goals as goal

pub returns-clause-calls : goal.returns-clause-calls
returns-clause-calls c = calls_make

pub returns-clause-sends : goal.returns-clause-sends
returns-clause-sends c = sends_each_same

pub returns-clause-spends : goal.returns-clause-spends
returns-clause-spends c = spend_first
