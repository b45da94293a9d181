use Rattle.std.proofs.Common.{◌≡◌, Some, sym, subst, ◌∙◌}
use Rattle.secret_book.specs.HeldBooks.{held}
use Rattle.body_parts.specs.Receivers.{id_to}
use Rattle.body_parts.specs.Sending.{CanSend}
use Rattle.body_parts.specs.declared.addressing.Receiver.{Receiver}
use Rattle.add_ops.proofs.AddBody.{add_made}
use Rattle.add_ops.proofs.adding.make_add.Goals as goal

pub append_part-requires : goal.append_part-requires
append_part-requires g c =
    subst (λ (r : Receiver). CanSend (held c.args.book.now) c.args.draws r.place (id_to r)) (sym c.receiver_of-to.ensures) c.requires.can

pub returns : goal.returns
returns g c = λ ratchet is.
    let mine : (held c.args.book.now).ratchet c.args.me ≡ Some c.unwrap-ratchet.result = cc in
    add_made g.K.Kem c.args.history.now c.args.card.now c.unwrap-ratchet.result ratchet c.args.draws (held c.args.book.now)
    (held c.append_part.new.book) c.receiver_of-to.result c.bytes.result.now c.in_ok-body.body.items c.append_bytes.new.bytes.items
    c.append_part.new.into.items c.append_welcome.new.into.items c.from.result (sym mine ∙ is) c.receiver_of-to.ensures c.bytes.ensures c.requires.set
    c.in_ok-body.ensures.items c.in_ok-append_bytes.ensures.plain c.in_ok-append_part.ensures.part c.in_ok-append_welcome.ensures c.from.ensures
