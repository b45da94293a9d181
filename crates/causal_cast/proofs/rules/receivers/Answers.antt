use Rattle.std.proofs.Common.{◌∷◌, take, sym, subst, arith}
use Rattle.group_fields.specs.declared.header.Header.{Header}
use Rattle.group_model.specs.Sets.{In}
use Rattle.group_model.specs.Membership.{ids_named}
use Rattle.group_model.specs.Marks.{IsPlace}
use Rattle.group_model.proofs.RemoveWins.{ids_named-distinct}
use Rattle.group_messages.specs.Messages.{message_of}
use Rattle.causal_history.specs.Bits.{bit}
use Rattle.causal_history.specs.Rows.{history_of}
use Rattle.causal_cast.specs.Judging.{receivers as ids_of_parts}
use Rattle.causal_cast.proofs.Parts.{ArePlaced, placed-none, placed-more, receivers-next, receiver-in, receivers-all}
use Rattle.causal_cast.proofs.rules.receivers.Goals as goal

pub loop-index-init : goal.loop-index-init
loop-index-init c =
    placed-none (ids_named (message_of c.args.packet.now.header ∷ history_of c.args.history.now))
    (bit c.new-crowd.result.0) c.new-crowd.ensures

-- a receiver without a place
pub returns-in_err-place_with : goal.returns-in_err-place_with
returns-in_err-place_with c =
    rw c.from_residual.ensures (
      c.part.result.0.0.0,
      receiver-in c.args.packet.now.parts c.loop-index.index _ c.part.ensures,
      subst (λ (z : Header). In c.part.result.0.0.0 (ids_named (message_of z ∷ history_of c.args.history.now)) → ⊥)
          c.header-header.ensures c.in_err-place_with.ensures.place,
    )

pub loop-index-preserved : goal.loop-index-preserved
loop-index-preserved c =
    let m = message_of c.args.packet.now.header in
    let h = history_of c.args.history.now in
    let ids = ids_named (m ∷ h) in
    let place = subst
    (λ (z : Header). IsPlace (ids_named (message_of z ∷ h)) c.in_ok-place_with.field-0 c.part.result.0.0.0)
    c.header-header.ensures c.in_ok-place_with.ensures.place in
    subst (λ z. ArePlaced ids (bit c.with-crowd.result.0) z)
    (sym (receivers-next c.args.packet.now.parts c.loop-index.index _ c.part.ensures))
    (placed-more ids (bit c.loop-index.crowd.0) (bit c.with-crowd.result.0)
    (take c.loop-index.index (ids_of_parts c.args.packet.now.parts)) c.in_ok-place_with.field-0
    c.part.result.0.0.0 (ids_named-distinct (m ∷ h)) place c.loop-index.invariant
    c.with-crowd.ensures.set c.with-crowd.ensures.others)

-- all parts were looked at
pub returns : goal.returns
returns c =
    let m = message_of c.args.packet.now.header in
    let h = history_of c.args.history.now in
    let all = receivers-all c.args.packet.now.parts c.loop-index.index (omega arith) in
    let done = subst (λ z. ArePlaced (ids_named (m ∷ h)) (bit c.loop-index.crowd.0) z) all c.loop-index.invariant in
    (done.crowd, done.placed)
