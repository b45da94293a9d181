use Rattle.std.proofs.Common.{◌<◌, List, length, map, sym, subst}
use Rattle.std.proofs.lemmas.Result.{IfOk-weaker}
use Rattle.group_fields.specs.Cards.{card_id}
use Rattle.group_fields.specs.declared.card.Card.{Card}
use Rattle.group_model.specs.Marks.{IsPlace}
use Rattle.group_model.specs.Membership.{ids_named}
use Rattle.group_model.specs.Sets.{Id}
use Rattle.causal_history.specs.Bits.{bit}
use Rattle.causal_history.specs.Rows.{history_of}
use Rattle.secret_book.specs.HeldBooks.{held}
use Rattle.body_parts.specs.Sending.{IsPartsBody}
use Rattle.group_ops.specs.Making.{AreFounders, IsSeededBody}
use Rattle.group_ops.proofs.Founded.{are_some, by_cards, by_history, is_none, unfounded}
use Rattle.group_ops.proofs.making.make_seeded.Goals as goal

pub parts_body-requires : goal.parts_body-requires
parts_body-requires g c = λ p id at set.
    let ids = ids_named (history_of c.args.history.now) in
    let none = is_none c.args.cards.now c.is_empty.result c.is_empty.ensures c.if-is_empty.true in
    c.requires.can p id (subst (λ (l : List Id). IsPlace l p id) (sym (by_history ids c.args.cards.now none)) at) set

pub returns-then-is_empty : goal.returns-then-is_empty
returns-then-is_empty g c =
    let ids = ids_named (history_of c.args.history.now) in
    let none = is_none c.args.cards.now c.is_empty.result c.is_empty.ensures c.if-is_empty.true in
    IfOk-weaker c.parts_body.result
    (IsPartsBody g.K.Kem ids (bit c.args.to.0) c.args.seed.now c.args.draws (held c.args.book.now) (held c.parts_body.new.book))
    (IsSeededBody g.K.Kem ids c.args.cards.now (bit c.args.to.0) c.args.seed.now c.args.draws (held c.args.book.now) (held c.parts_body.new.book))
    (λ bytes b. unfounded g.K.Kem ids c.args.cards.now (bit c.args.to.0) c.args.seed.now c.args.draws (held c.args.book.now)
    (held c.parts_body.new.book) bytes none b) c.parts_body.ensures

pub create_body-requires-clause-some : goal.create_body-requires-clause-some
create_body-requires-clause-some g c =
    subst (λ (l : List Card). 0 < length l) (sym c.as_slice.ensures)
    (are_some c.args.cards.now c.is_empty.result c.is_empty.ensures c.if-is_empty.false)

pub create_body-requires-clause-cards : goal.create_body-requires-clause-cards
create_body-requires-clause-cards g c = subst (AreFounders g.K.Kem.SET) (sym c.as_slice.ensures) c.requires.cards

pub create_body-requires-clause-can : goal.create_body-requires-clause-can
create_body-requires-clause-can g c = λ p id at set.
    let ids = ids_named (history_of c.args.history.now) in
    let some = are_some c.args.cards.now c.is_empty.result c.is_empty.ensures c.if-is_empty.false in
    let placed : IsPlace (map card_id c.args.cards.now) p id = subst (λ (l : List Card). IsPlace (map card_id l) p id) c.as_slice.ensures at in
    c.requires.can p id (subst (λ (l : List Id). IsPlace l p id) (sym (by_cards ids c.args.cards.now some)) placed) set

pub returns-else-is_empty : goal.returns-else-is_empty
returns-else-is_empty g c =
    let ids = ids_named (history_of c.args.history.now) in
    IfOk-weaker c.create_body.result
    (λ bytes. (named : List Id) → IsSeededBody g.K.Kem named c.as_slice.result.now (bit c.args.to.0) c.args.seed.now c.args.draws
    (held c.args.book.now) (held c.create_body.new.book) bytes)
    (IsSeededBody g.K.Kem ids c.args.cards.now (bit c.args.to.0) c.args.seed.now c.args.draws (held c.args.book.now) (held c.create_body.new.book))
    (λ bytes b. subst (λ (l : List Card). IsSeededBody g.K.Kem ids l (bit c.args.to.0) c.args.seed.now c.args.draws (held c.args.book.now)
    (held c.create_body.new.book) bytes) c.as_slice.ensures (b ids)) c.create_body.ensures
