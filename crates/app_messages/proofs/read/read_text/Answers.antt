use Rattle.std.proofs.Common.{◌∙◌, ◌++◌, subst, sym}
use Rattle.member_book.specs.Books as model
use Rattle.member_book.specs.Places.{id_at}
use Rattle.secret_book.specs.HeldBooks.{HeldBook}
use Rattle.secret_book.proofs.Outcomes.{ok-map}
use Rattle.book_standing.specs.Standing.{HeldStands}
use Rattle.app_messages.proofs.Bodies.{read_by}
use Rattle.app_messages.proofs.read.read_text.Goals as goal

pub returns-clause-text : goal.returns-clause-text
returns-clause-text g c = ok-map c.open_next.result
    (λ text e. e ∙ read_by g.K.Kem _ (c.args.body.now ++ c.args.tag.now)) c.open_next.ensures.text

pub returns-clause-of_model : goal.returns-clause-of_model
returns-clause-of_model g c = ok-map c.open_next.result
    (λ text e. λ O ids state h within. e ∙ read_by g.K.Kem _ (c.args.body.now ++ c.args.tag.now)
    ∙ (c.texts_are_the_models.ensures O ids _ _ state h within).opened (c.args.body.now ++ c.args.tag.now))
    c.open_next.ensures.text

pub returns-clause-stands : goal.returns-clause-stands
returns-clause-stands g c = ok-map c.open_next.result
    (λ text e. λ O ids state h within.
    subst (λ (b : HeldBook). HeldStands g.K.Kem O ids b (model.chained O.primitives (id_at ids c.args.sender) state)) (sym e)
    (c.texts_are_the_models.ensures O ids _ _ state h within).moves) c.open_next.ensures.book
