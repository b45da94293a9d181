use Rattle.member_book.proofs.LawsOfLogs.{entry_keeps, log_keeps, makes_same, none_to_self}
use Rattle.member_book.proofs.Owned.{own_known}
use Rattle.member_book.proofs.laws.the_book_stands_for_its_log.Goals as goal

pub returns-clause-entry : goal.returns-clause-entry
returns-clause-entry c = λ O l e b g f k. entry_keeps O l e b g f k

pub returns-clause-log : goal.returns-clause-log
returns-clause-log c = λ O l f. log_keeps O l f

pub returns-clause-makes : goal.returns-clause-makes
returns-clause-makes c = λ O l p t b g f k. makes_same O l p t b g f k

pub returns-clause-own_place : goal.returns-clause-own_place
returns-clause-own_place c = none_to_self

pub returns-clause-own_known : goal.returns-clause-own_known
returns-clause-own_known c = own_known
