use Rattle.member_book.proofs.LawsOfLogs.{book_agrees, book_reads}
use Rattle.member_book.proofs.laws.books_agree.Goals as goal

pub returns-clause-secrets : goal.returns-clause-secrets
returns-clause-secrets c = book_agrees

pub returns-clause-texts : goal.returns-clause-texts
returns-clause-texts c = book_reads
