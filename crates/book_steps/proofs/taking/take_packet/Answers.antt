use Rattle.std.proofs.Common.{◌≡◌, ◌∙◌, ◌∷◌, List, None, ap, sym, subst}
use Rattle.causal_history.specs.Rows.{history_of}
use Rattle.group_messages.specs.Messages.{kind_by, message_of}
use Rattle.group_model.specs.Logs.{Took}
use Rattle.group_model.specs.Membership.{IsSeeded, ids_named, joined, named_by}
use Rattle.group_model.specs.Messages.{Ack, Add, AddAck, Kind, Message}
use Rattle.group_model.specs.Sets.{Id}
use Rattle.secret_book.specs.HeldBooks.{held}
use Rattle.secret_book.proofs.Outcomes.{ok-map}
use Rattle.book_standing.specs.Standing.{HeldStands}
use Rattle.opened_parts.specs.declared.opening.Taken.{Taken}
use Rattle.group_ops.specs.Taking.{TakesAck, TakesSeeded}
use Rattle.add_ops.specs.Taking.{TakesAdd, TakesAddAck}
use Rattle.book_steps.specs.Entries.{TakesEntry}
use Rattle.book_steps.proofs.Takes.{of-packet, takes-ack, takes-add, takes-add_ack, takes-seeded}
use Rattle.book_steps.proofs.taking.take_packet.Goals as goal

pub returns-then-is_seeded : goal.returns-then-is_seeded
returns-then-is_seeded g c =
    let H = history_of c.args.history.now in let after = held c.take_seeded.new.book in
    let seeded : IsSeeded (message_of c.args.header.now).kind =
    subst (λ z. IsSeeded (kind_by z c.args.header.now.target)) c.kind.ensures
    ((c.is_seeded.ensures c.args.header.now.target).0 c.if-is_seeded.true) in
    ok-map c.take_seeded.result
    (λ taken takes. λ O state p rule place stands header part other.
    takes-seeded g.K.Kem O c.calls_make_the_book.ensures.calls p state after H
    (subst (λ (m : Message). IsSeeded m.kind) (sym header) seeded) taken
    (of-packet O p _ _ (λ m q. TakesSeeded g.K.Kem O H m q None state taken after) header part
    (takes O state rule stands))) c.take_seeded.ensures

pub returns-in-Add : goal.returns-in-Add
returns-in-Add g c =
    let H = history_of c.args.history.now in let after = held c.take_add.new.book in let y = c.in-Add.field-0.0.0 in
    ok-map c.take_add.result
    (λ taken takes. λ O state p rule place stands header part other.
    takes-add g.K.Kem O c.calls_make_the_book.ensures.calls p state after H y
    (subst (λ (m : Message). m.kind ≡ Add y) (sym header) (sym c.in-Add.ensures))
    (λ same. other (sym c.in-Add.ensures ∙ ap Add same)) taken
    (of-packet O p _ _ (λ m q. TakesAdd g.K.Kem O H m y q state taken after) header part
    (takes O state place stands y (sym c.in-Add.ensures)))) c.take_add.ensures

pub returns-in_ok-learned-in-Ack : goal.returns-in_ok-learned-in-Ack
returns-in_ok-learned-in-Ack g c = λ O state p rule place stands header part other.
    let H = history_of c.args.history.now in let after = held c.take_ack.new.book in
    let i = c.in-Ack.field-0.0.0 in let took = c.in-Ack.field-1 in let learned = c.in_ok-learned-in-Ack.learned in
    let names : ids_named (message_of c.args.header.now ∷ H) ≡ ids_named H =
    ap (λ (k : Kind). joined (ids_named H) (named_by k)) (sym c.in-Ack.ensures) in
    subst (λ (t : Taken). TakesEntry g.K.Kem O H (Took p) state t after) (sym c.of_answer.ensures)
    (takes-ack g.K.Kem O c.calls_make_the_book.ensures.calls p state after H i took
    (subst (λ (m : Message). m.kind ≡ Ack i took) (sym header) (sym c.in-Ack.ensures)) learned
    (of-packet O p _ _ (λ m q. TakesAck g.K.Kem O H m i took q state learned after) header part
    (c.in_ok-learned-in-Ack.ensures O state
    (subst (λ (ids : List Id). HeldStands g.K.Kem O ids (held c.args.book.now) state) names stands) i took (sym c.in-Ack.ensures))))

pub returns-in_ok-learned-in-AddAck : goal.returns-in_ok-learned-in-AddAck
returns-in_ok-learned-in-AddAck g c = λ O state p rule place stands header part other.
    let H = history_of c.args.history.now in let after = held c.take_add_ack.new.book in
    let i = c.in-AddAck.field-0.0.0 in let learned = c.in_ok-learned-in-AddAck.learned in
    let names : ids_named (message_of c.args.header.now ∷ H) ≡ ids_named H =
    ap (λ (k : Kind). joined (ids_named H) (named_by k)) (sym c.in-AddAck.ensures) in
    subst (λ (t : Taken). TakesEntry g.K.Kem O H (Took p) state t after) (sym c.of_answer-in-AddAck.ensures)
    (takes-add_ack g.K.Kem O c.calls_make_the_book.ensures.calls p state after H i
    (subst (λ (m : Message). m.kind ≡ AddAck i) (sym header) (sym c.in-AddAck.ensures)) learned
    (of-packet O p _ _ (λ m q. TakesAddAck g.K.Kem O H m i q state learned after) header part
    (c.in_ok-learned-in-AddAck.ensures O state
    (subst (λ (ids : List Id). HeldStands g.K.Kem O ids (held c.args.book.now) state) names stands) i (sym c.in-AddAck.ensures))))
