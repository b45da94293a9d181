use Rattle.std.proofs.Common.{◌<◌, ◌^◌, Option, ◌∙◌, ap, subst, sym}
use Rattle.std.specs.Option.{option_and_then}
use Rattle.std.specs.Prelude.{IfSome}
use Rattle.member_book.specs.PairStates.{PairState, after_send}
use Rattle.secret_book.specs.HeldBooks.{part_from}
use Rattle.secret_book.proofs.Outcomes.{ok-map, err-map}
use Rattle.secret_book.proofs.PlaceTables.{reads-pairing, after-pairing, after-none}
use Rattle.secret_book.proofs.book.Book.seal_to.Goals as goal

pub seal-requires-clause-pairing : goal.seal-requires-clause-pairing
seal-requires-clause-pairing g c =
    rw (reads-pairing _ _ c.self.view_is _ _ c.requires.met c.index_mut.ensures.value) c.requires.other

pub seal-requires-clause-few : goal.seal-requires-clause-few
seal-requires-clause-few g c =
    rw (reads-pairing _ _ c.self.view_is _ _ c.requires.met c.index_mut.ensures.value) c.requires.few

pub returns-clause-part : goal.returns-clause-part
returns-clause-part g c = ok-map c.seal.result
    (λ bytes e. ap (option_and_then (part_from g.K.Kem c.args.draw c.args.payload.now))
    (sym (reads-pairing _ _ c.self.view_is _ _ c.requires.met c.index_mut.ensures.value)) ∙ e) c.seal.ensures.part

pub returns-clause-sent : goal.returns-clause-sent
returns-clause-sent g c = ok-map c.seal.result
    (λ bytes e. after-pairing _ _ c.self.view_is _ _ c.requires.met c.index_mut.ensures.value _ (λ k. after_send k c.args.draw) e)
    c.seal.ensures.row

pub returns-clause-unchanged : goal.returns-clause-unchanged
returns-clause-unchanged g c = err-map c.seal.result
    (λ e. after-none _ _ c.self.view_is _ _ _ c.index_mut.ensures.value e) c.seal.ensures.unchanged

pub returns-clause-number : goal.returns-clause-number
returns-clause-number g c = ok-map c.seal.result
    (λ bytes e. subst (λ (pairing : Option PairState). IfSome pairing (λ k. k.target.number < 2 ^ 32))
    (reads-pairing _ _ c.self.view_is _ _ c.requires.met c.index_mut.ensures.value) e) c.seal.ensures.number
