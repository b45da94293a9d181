use Rattle.std.proofs.Common.{◌∙◌, ap, option_map, length, subst, sym}
use Rattle.member_book.specs.Books as model
use Rattle.member_book.specs.Places.{id_at}
use Rattle.secret_book.specs.HeldBooks.{HeldBook}
use Rattle.secret_book.proofs.Outcomes.{ok-map}
use Rattle.book_standing.specs.Standing.{HeldStands}
use Rattle.app_messages.specs.Texts.{body_bytes}
use Rattle.app_messages.proofs.Bodies.{made_by, spelled_by}
use Rattle.app_messages.proofs.write.make_text.Goals as goal

pub returns-clause-body : goal.returns-clause-body
returns-clause-body g c = ok-map c.seal_next.result
    (λ body e. e ∙ made_by g.K.Kem _ c.args.text.now) c.seal_next.ensures.body

pub returns-clause-spelled : goal.returns-clause-spelled
returns-clause-spelled g c = ok-map c.seal_next.result
    (λ body e. spelled_by g.K.Kem _ c.args.text.now body c.requires.short e) c.seal_next.ensures.body

pub returns-clause-of_model : goal.returns-clause-of_model
returns-clause-of_model g c = ok-map c.seal_next.result
    (λ body e. λ O ids state h within. e ∙ made_by g.K.Kem _ c.args.text.now
    ∙ ap (option_map (body_bytes (length c.args.text.now)))
    ((c.texts_are_the_models.ensures O ids _ _ state h within).sealed c.args.text.now)) c.seal_next.ensures.body

pub returns-clause-stands : goal.returns-clause-stands
returns-clause-stands g c = ok-map c.seal_next.result
    (λ body e. λ O ids state h within.
    subst (λ (b : HeldBook). HeldStands g.K.Kem O ids b (model.chained O.primitives (id_at ids c.args.me) state)) (sym e)
    (c.texts_are_the_models.ensures O ids _ _ state h within).moves) c.seal_next.ensures.book
