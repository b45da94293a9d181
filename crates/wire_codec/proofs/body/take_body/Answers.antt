use Rattle.std.proofs.Common.{◌∙◌, ap, refl, sym}
use Rattle.std.specs.Prelude.{Ok, Err}
use Rattle.std.proofs.lemmas.Result.{err_from_is_err_and}
use Rattle.wire_codec.specs.Packets.{body, member_named}
use Rattle.wire_codec.specs.Views.{body_seen, welcome_of}
use Rattle.wire_codec.specs.declared.body.BodyView.TheVariants as bodies
use Rattle.wire_codec.proofs.BodyKinds.{as_kind, parts_kind, to_named}
use Rattle.wire_codec.proofs.body.take_body.Goals as goal

pub returns-in_err-take_named-in-Create : goal.returns-in_err-take_named-in-Create
unfolding body
returns-in_err-take_named-in-Create c =
    let p = err_from_is_err_and c.from_residual.result c.from_residual.ensures.1 in
    let one = c.in_err-take_named-in-Create.ensures in
    rw (p.1, p.2) (as_kind body_seen c.args.header.now.target (Err c.in_err-take_named-in-Create.field-0.0) refl (sym c.in-Create.is ∙ c.kind.ensures) (record { gives = one.gives; same = one.same; within = one.within }))

pub returns-in_ok-take_named-in-Create : goal.returns-in_ok-take_named-in-Create
unfolding body
returns-in_ok-take_named-in-Create c =
    let one = c.in_ok-take_named-in-Create.ensures in
    as_kind body_seen c.args.header.now.target (Ok (bodies.Create c.in_ok-take_named-in-Create.field-0)) refl (sym c.in-Create.is ∙ c.kind.ensures) (record { gives = one.gives; same = one.same; within = one.within })

pub returns-in_err-take_add-in-Add : goal.returns-in_err-take_add-in-Add
unfolding body
returns-in_err-take_add-in-Add c =
    let p = err_from_is_err_and c.from_residual-in_err-take_add-in-Add.result c.from_residual-in_err-take_add-in-Add.ensures.1 in
    let one = (to_named welcome_of c.set-set.result c.args.header.now.target (Err c.in_err-take_add-in-Add.field-0.0) (c.member_named-to.ensures ∙ ap member_named c.target.ensures) c.in_err-take_add-in-Add.ensures) in
    rw (p.1, p.2) (as_kind body_seen c.args.header.now.target (Err c.in_err-take_add-in-Add.field-0.0) c.set-set.ensures (sym c.in-Add.is ∙ c.kind.ensures) (record { gives = one.gives; same = one.same; within = one.within }))

pub returns-in_ok-take_add-in-Add : goal.returns-in_ok-take_add-in-Add
unfolding body
returns-in_ok-take_add-in-Add c =
    let one = (to_named welcome_of c.set-set.result c.args.header.now.target (Ok c.in_ok-take_add-in-Add.field-0) (c.member_named-to.ensures ∙ ap member_named c.target.ensures) c.in_ok-take_add-in-Add.ensures) in
    as_kind body_seen c.args.header.now.target (Ok (bodies.Add c.in_ok-take_add-in-Add.field-0)) c.set-set.ensures (sym c.in-Add.is ∙ c.kind.ensures) (record { gives = one.gives; same = one.same; within = one.within })

pub returns-in_err-take_text_alone-in-Text : goal.returns-in_err-take_text_alone-in-Text
unfolding body
returns-in_err-take_text_alone-in-Text c =
    let p = err_from_is_err_and c.from_residual-in_err-take_text_alone-in-Text.result c.from_residual-in_err-take_text_alone-in-Text.ensures.1 in
    let one = c.in_err-take_text_alone-in-Text.ensures in
    rw (p.1, p.2) (as_kind body_seen c.args.header.now.target (Err c.in_err-take_text_alone-in-Text.field-0.0) c.set-set.ensures (sym c.in-Text.is ∙ c.kind.ensures) (record { gives = one.gives; same = one.same; within = one.within }))

pub returns-in_ok-take_text_alone-in-Text : goal.returns-in_ok-take_text_alone-in-Text
unfolding body
returns-in_ok-take_text_alone-in-Text c =
    let one = c.in_ok-take_text_alone-in-Text.ensures in
    as_kind body_seen c.args.header.now.target (Ok (bodies.Text c.in_ok-take_text_alone-in-Text.field-0)) c.set-set.ensures (sym c.in-Text.is ∙ c.kind.ensures) (record { gives = one.gives; same = one.same; within = one.within })

pub returns-in_err-parts-in-AddAck : goal.returns-in_err-parts-in-AddAck
unfolding body
returns-in_err-parts-in-AddAck c =
    let p = err_from_is_err_and c.from_residual-in_err-parts-in-AddAck.result c.from_residual-in_err-parts-in-AddAck.ensures.1 in
    let one = c.in_err-parts-in-AddAck.ensures in
    rw (p.1, p.2) (as_kind body_seen c.args.header.now.target (Err c.in_err-parts-in-AddAck.field-0.0) c.set-set.ensures (sym c.in-AddAck.is ∙ c.kind.ensures) (record { gives = one.gives; same = one.same; within = one.within }))

pub returns-in_ok-parts-in-AddAck : goal.returns-in_ok-parts-in-AddAck
unfolding body
returns-in_ok-parts-in-AddAck c =
    let one = c.in_ok-parts-in-AddAck.ensures in
    as_kind body_seen c.args.header.now.target (Ok (bodies.Parts c.in_ok-parts-in-AddAck.parts)) c.set-set.ensures (sym c.in-AddAck.is ∙ c.kind.ensures) (record { gives = one.gives; same = one.same; within = one.within })

pub returns-in_err-parts-in-Update : goal.returns-in_err-parts-in-Update
returns-in_err-parts-in-Update c =
    let p = err_from_is_err_and c.from_residual-in_err-parts-in-Update.result c.from_residual-in_err-parts-in-Update.ensures.1 in
    let one = c.in_err-parts-in-Update.ensures in
    rw (p.1, p.2) (as_kind body_seen c.args.header.now.target (Err c.in_err-parts-in-Update.field-0.0) c.set-set.ensures c.kind.ensures
    (parts_kind body_seen c.set-set.result c.kind.result c.args.header.now.target (Err c.in_err-parts-in-Update.field-0.0) c.in-Update.is
    (record { gives = one.gives; same = one.same; within = one.within })))

pub returns-in_ok-parts-in-Update : goal.returns-in_ok-parts-in-Update
returns-in_ok-parts-in-Update c =
    let one = c.in_ok-parts-in-Update.ensures in
    as_kind body_seen c.args.header.now.target (Ok (bodies.Parts c.in_ok-parts-in-Update.parts)) c.set-set.ensures c.kind.ensures
    (parts_kind body_seen c.set-set.result c.kind.result c.args.header.now.target (Ok (bodies.Parts c.in_ok-parts-in-Update.parts)) c.in-Update.is
    (record { gives = one.gives; same = one.same; within = one.within }))
