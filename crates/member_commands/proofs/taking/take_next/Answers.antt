use Rattle.std.proofs.Common.{◌≡◌, ◌≤◌, List, subst, sym}
use Rattle.group_fields.specs.declared.card.Card.{Card}
use Rattle.group_model.specs.KeyTerms.{seed_of}
use Rattle.group_keys.specs.Primitives.{primitives_of}
use Rattle.group_model.specs.Marks.{IsPlace}
use Rattle.group_model.specs.Membership.{ids_named}
use Rattle.group_model.specs.Sets.{Id, In}
use Rattle.group_model.proofs.Places.{place-in}
use Rattle.causal_history.specs.Rows.{MayBePushed, history_of}
use Rattle.member_book.specs.Books.{sealed_to}
use Rattle.secret_book.specs.HeldBooks.{held}
use Rattle.book_standing.specs.Standing.{HeldStands}
use Rattle.member_commands.proofs.Plain.{may-push, names-same, no-add, seed-is}
use Rattle.member_commands.proofs.taking.take_next.Goals as goal

pub take_own-requires-clause-sender : goal.take_own-requires-clause-sender
take_own-requires-clause-sender g c =
    let h = history_of c.args.history.now in let header = c.args.header.now in
    subst (λ (l : List Id). In header.sender.0.0 l) (sym (names-same header h c.requires.plain))
    (place-in (ids_named h) c.args.place header.sender.0.0 c.requires.own)

pub push-requires : goal.push-requires
push-requires g c =
    subst (λ (cards : List Card). MayBePushed c.args.history.now (record { header = c.args.header.now; cards = cards }))
    (sym c.new.ensures)
    (may-push c.args.history.now c.args.header.now c.requires.plain c.requires.heads c.requires.new c.requires.room
    (subst (λ n. n ≤ 32) c.places-few.ensures.places c.places-few.ensures.few))

pub returns-clause-taken : goal.returns-clause-taken
returns-clause-taken g c = λ O state p t rule at stands header drawn.
    let last = c.args.header.now in
    let names = names-same last (history_of c.args.history.now) c.requires.plain in
    let is : c.kdf-seed.result ≡ seed_of (primitives_of g.K.Kem) c.args.random.now =
    subst (λ z. c.kdf-seed.result ≡ z) (seed-is g.K.Kem c.args.random.now) c.kdf-seed.ensures in
    c.in_ok-learned.ensures O state p t rule (subst (λ (l : List Id). IsPlace l c.args.place O.id) (sym names) at)
    (subst (λ (l : List Id). HeldStands g.K.Kem O l (held c.args.book.now) (sealed_to O.primitives t p.parts state)) (sym names) stands)
    header (subst (λ z. seed_of O.primitives t.random ≡ z) (sym is) drawn) (no-add last.kind last.target c.requires.plain O.id)
