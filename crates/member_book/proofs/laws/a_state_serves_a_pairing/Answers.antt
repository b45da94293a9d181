use Rattle.member_book.proofs.PairStates.{stands-start, stands-send, stands-opened, next_part-is, opens_to-is}
use Rattle.member_book.proofs.LogStates.{state_of_log}
use Rattle.member_book.proofs.laws.a_state_serves_a_pairing.Goals as goal

pub returns-clause-starts : goal.returns-clause-starts
returns-clause-starts c = λ card theirs. stands-start card theirs

pub returns-clause-sends : goal.returns-clause-sends
returns-clause-sends c = λ card theirs es k d s. stands-send s d

pub returns-clause-opens : goal.returns-clause-opens
returns-clause-opens c = λ K card theirs es k part content s e. stands-opened s K part content e

pub returns-clause-of_logs : goal.returns-clause-of_logs
returns-clause-of_logs c = λ O y l. state_of_log O y l

pub returns-clause-next : goal.returns-clause-next
returns-clause-next c = λ K card theirs es k d payload s. next_part-is s K d payload

pub returns-clause-opened : goal.returns-clause-opened
returns-clause-opened c = λ K card theirs es k part s. opens_to-is s K part
