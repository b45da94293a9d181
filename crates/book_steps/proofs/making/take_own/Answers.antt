use Rattle.std.proofs.Common.{◌≡◌, ◌∙◌, ◌∷◌, List, None, Some, ap, sym, subst}
use Rattle.causal_history.specs.Rows.{history_of}
use Rattle.group_messages.specs.Messages.{kind_by, message_of}
use Rattle.group_model.specs.KeyTerms.{seed_of}
use Rattle.group_model.specs.Membership.{IsSeeded, ids_named, joined, named_by}
use Rattle.group_model.specs.Messages.{Add, AddAck, Kind, Message}
use Rattle.group_model.specs.Sets.{Bytes, Id}
use Rattle.member_book.specs.Books.{sealed_to}
use Rattle.secret_book.specs.HeldBooks.{held}
use Rattle.secret_book.proofs.Outcomes.{ok-map}
use Rattle.book_standing.specs.Standing.{HeldStands}
use Rattle.group_ops.specs.Taking.{TakesSeeded}
use Rattle.add_ops.specs.Taking.{TakesAdd, TakesAddAck}
use Rattle.book_steps.proofs.Makes.{makes-add, makes-add_ack, makes-seeded}
use Rattle.book_steps.proofs.making.take_own.Goals as goal

pub returns-then-is_seeded : goal.returns-then-is_seeded
returns-then-is_seeded g c = λ O state p t rule place stands header drawn other.
    let H = history_of c.args.history.now in let after = held c.take_seeded.new.book in let taken = c.in_ok-taken.taken in
    let seeded : IsSeeded (message_of c.args.header.now).kind =
    subst (λ z. IsSeeded (kind_by z c.args.header.now.target)) c.kind.ensures
    ((c.is_seeded.ensures c.args.header.now.target).0 c.if-is_seeded.true) in
    makes-seeded g.K.Kem O c.calls_make_the_book.ensures.calls H p t state after
    (subst (λ (m : Message). IsSeeded m.kind) (sym header) seeded) taken
    (subst (λ (m : Message). TakesSeeded g.K.Kem O H m None (Some (seed_of O.primitives t.random)) (sealed_to O.primitives t p.parts state) taken after) (sym header)
    (subst (λ (s : Bytes). TakesSeeded g.K.Kem O H (message_of c.args.header.now) None (Some s) (sealed_to O.primitives t p.parts state) taken after)
    (sym drawn) (c.in_ok-taken.ensures O (sealed_to O.primitives t p.parts state) rule stands)))

pub returns-in_ok-taken-in-Add : goal.returns-in_ok-taken-in-Add
returns-in_ok-taken-in-Add g c = λ O state p t rule place stands header drawn other.
    let H = history_of c.args.history.now in let after = held c.take_add.new.book in let taken = c.in_ok-taken-in-Add.taken in
    let y = c.in-Add.field-0.0.0 in
    makes-add g.K.Kem O c.calls_make_the_book.ensures.calls H p t state after y
    (subst (λ (m : Message). m.kind ≡ Add y) (sym header) (sym c.in-Add.ensures))
    (λ same. other (sym c.in-Add.ensures ∙ ap Add same)) taken
    (subst (λ (m : Message). TakesAdd g.K.Kem O H m y None (sealed_to O.primitives t p.parts state) taken after) (sym header)
    (c.in_ok-taken-in-Add.ensures O (sealed_to O.primitives t p.parts state) place stands y (sym c.in-Add.ensures)))

pub returns-in-AddAck : goal.returns-in-AddAck
returns-in-AddAck g c =
    let H = history_of c.args.history.now in let after = held c.take_add_ack.new.book in let i = c.in-AddAck.field-0.0.0 in
    let names : ids_named (message_of c.args.header.now ∷ H) ≡ ids_named H =
    ap (λ (k : Kind). joined (ids_named H) (named_by k)) (sym c.in-AddAck.ensures) in
    ok-map c.take_add_ack.result
    (λ learned takes. λ O state p t rule place stands header drawn other.
    makes-add_ack g.K.Kem O c.calls_make_the_book.ensures.calls H p t state after i
    (subst (λ (m : Message). m.kind ≡ AddAck i) (sym header) (sym c.in-AddAck.ensures)) learned
    (subst (λ (m : Message). TakesAddAck g.K.Kem O H m i None (sealed_to O.primitives t p.parts state) learned after) (sym header)
    (takes O (sealed_to O.primitives t p.parts state)
    (subst (λ (ids : List Id). HeldStands g.K.Kem O ids (held c.args.book.now) (sealed_to O.primitives t p.parts state)) names stands)
    i (sym c.in-AddAck.ensures)))) c.take_add_ack.ensures
