use Rattle.std.proofs.Common.{◌≡◌, ◌∷◌, List, Err, rules, ap, sym, subst}
use Rattle.kem_trait.specs.declared.kem.KemRefusal.TheVariants as refusals
use Rattle.group_model.specs.Marks.{IsPlace}
use Rattle.group_model.specs.Membership.{ids_named}
use Rattle.group_model.specs.Sets.{Id}
use Rattle.group_keys.specs.Primitives.{primitives_of}
use Rattle.group_messages.specs.Messages.{message_of}
use Rattle.causal_history.specs.Bits.{bit}
use Rattle.causal_history.specs.Rows.{history_of}
use Rattle.secret_book.specs.HeldBooks.{held}
use Rattle.body_parts.specs.declared.addressing.Receiver.{Receiver}
use Rattle.body_parts.specs.Receivers.{AreReceivers}
use Rattle.next_messages.specs.Bodies.{LacksDraws}
use Rattle.next_messages.proofs.Drawing.{lacks, receivers-within, seeded-next}
use Rattle.next_messages.proofs.bodies.next_seeded.Goals as goal

pub returns-in_err-draws-clause-unusable : goal.returns-in_err-draws-clause-unusable
returns-in_err-draws-clause-unusable g c =
    let ids = ids_named (message_of c.args.header.now ∷ history_of c.args.history.now) in
    let are = subst (λ (l : List Receiver). AreReceivers ids (bit c.args.to.0) l) (sym c.as_slice.ensures.value) c.in_ok-receivers.ensures in
    let lacking : (c.in_err-draws.field-0.0 ≡ refusals.NoUsableKey) → LacksDraws (primitives_of g.K.Kem) ids (bit c.args.to.0) c.args.random.now =
    (λ e. lacks (primitives_of g.K.Kem) c.args.random.now ids (bit c.args.to.0) c.as_slice.result.now are (c.in_err-draws.ensures.unusable (ap Err e))) in
    search rules

pub make_seeded-requires-clause-can : goal.make_seeded-requires-clause-can
make_seeded-requires-clause-can g c = λ p id at set.
    let ids = ids_named (message_of c.args.header.now ∷ history_of c.args.history.now) in
    let are = subst (λ (l : List Receiver). AreReceivers ids (bit c.args.to.0) l) (sym c.as_slice.ensures.value) c.in_ok-receivers.ensures in
    let there = subst (λ (l : List Id). IsPlace l p id) c.requires.places at in
    record { reach = c.requires.reach p id there set; draw = c.in_ok-draws.ensures.left id (are.all p id there set) }

pub returns-clause-body : goal.returns-clause-body
returns-clause-body g c =
    let h = history_of c.args.history.now in
    let ids = ids_named (message_of c.args.header.now ∷ h) in
    let are = subst (λ (l : List Receiver). AreReceivers ids (bit c.args.to.0) l) (sym c.as_slice.ensures.value) c.in_ok-receivers.ensures in
    let made = c.in_ok-make_seeded.ensures in
    let also = subst (λ (l : List Id). AreReceivers l (bit c.args.to.0) made.to) c.requires.places made.receivers in
    seeded-next g.K.Kem (ids_named h) c.args.cards.now (bit c.args.to.0) c.args.random.now c.kdf-seed.result c.in_ok-draws.draws
    (held c.args.book.now) (held c.make_seeded.new.book) c.in_ok-make_seeded.field-0 c.kdf-seed.ensures made
    (λ y i. c.in_ok-draws.ensures.drawn y (receivers-within ids (bit c.args.to.0) made.to c.as_slice.result.now also are y i))
