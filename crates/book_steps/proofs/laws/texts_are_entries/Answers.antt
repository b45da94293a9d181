use Rattle.book_steps.proofs.TextEntries.{texts-heard, texts-said}
use Rattle.book_steps.proofs.laws.texts_are_entries.Goals as goal

pub returns-clause-heard : goal.returns-clause-heard
returns-clause-heard g c = texts-heard g.K.Kem c.calls_make_the_book.ensures.calls

pub returns-clause-said : goal.returns-clause-said
returns-clause-said g c = texts-said g.K.Kem c.calls_make_the_book.ensures.calls
