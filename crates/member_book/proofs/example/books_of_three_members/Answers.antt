use Rattle.member_book.proofs.Examples.{books_of_three_members}
use Rattle.member_book.proofs.example.books_of_three_members.Goals as goal

pub returns : goal.returns
returns c = books_of_three_members
