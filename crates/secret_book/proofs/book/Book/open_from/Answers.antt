use Rattle.std.proofs.Common.{◌∙◌, ap}
use Rattle.std.specs.Option.{option_and_then}
use Rattle.two_party.specs.Received.{after_part}
use Rattle.secret_book.specs.HeldBooks.{payload_from}
use Rattle.secret_book.proofs.Outcomes.{ok-map, err-map}
use Rattle.secret_book.proofs.PlaceTables.{reads-pairing, after-pairing, after-none}
use Rattle.secret_book.proofs.book.Book.open_from.Goals as goal

pub open-requires : goal.open-requires
open-requires g c =
    rw (reads-pairing _ _ c.self.view_is _ _ c.requires.met c.index_mut.ensures.value) c.requires.other

pub returns-clause-payload : goal.returns-clause-payload
returns-clause-payload g c = ok-map c.open.result
    (λ answer e. e ∙ ap (option_and_then (payload_from g.K.Kem c.args.part.now))
    (reads-pairing _ _ c.self.view_is _ _ c.requires.met c.index_mut.ensures.value)) c.open.ensures.answer

pub returns-clause-opened : goal.returns-clause-opened
returns-clause-opened g c = ok-map c.open.result
    (λ answer e. after-pairing _ _ c.self.view_is _ _ c.requires.met c.index_mut.ensures.value _
    (λ k. after_part g.K.Kem k c.args.part.now) e)
    c.open.ensures.row

pub returns-clause-unchanged : goal.returns-clause-unchanged
returns-clause-unchanged g c = err-map c.open.result
    (λ e. after-none _ _ c.self.view_is _ _ _ c.index_mut.ensures.value e) c.open.ensures.unchanged
