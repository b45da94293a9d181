use Rattle.std.proofs.Common.{◌≡◌, ℕ, Bool, ◌∷◌, subst}
use Rattle.group_fields.specs.declared.ids.MemberId.{MemberId}
use Rattle.group_model.specs.Membership.{ids_named}
use Rattle.group_model.specs.Marks.{IsCrowd}
use Rattle.group_model.proofs.Pasts.{deps-stand}
use Rattle.group_messages.specs.Messages.{message_of}
use Rattle.causal_history.specs.Bits.{bit}
use Rattle.causal_history.specs.Rows.{history_of}
use Rattle.causal_cast.proofs.Forwards.{left_out-crowd, stands-well}
use Rattle.causal_cast.proofs.sending.left_out.Goals as goal

-- the operation is a row
pub view-before-requires-clause-stand : goal.view-before-requires-clause-stand
view-before-requires-clause-stand g c =
    deps-stand (history_of c.args.history.now) c.count-kept.ensures.kept.history c.requires.row

pub view-before-requires-clause-create : goal.view-before-requires-clause-create
view-before-requires-clause-create g c =
    stands-well (history_of c.args.history.now) (message_of c.args.row.now) c.requires.row _

pub returns : goal.returns
returns g c =
    let h = history_of c.args.history.now in
    let m = message_of c.args.header.now in
    let o = message_of c.args.row.now in
    let by = λ (bits : ℕ → Bool) (id : MemberId). IsCrowd (ids_named (m ∷ h)) bits (λ y. id.0.0 ≡ y) in
    left_out-crowd g.G.Membership.rule h m o c.count-kept.ensures.kept.history c.requires.nobody c.requires.row
    c.requires.seeded (bit c.view-seen.result.0) (bit c.view-before.result.0) (bit c.only-first.result.0)
    (bit c.only-own.result.0) (bit c.without-new.result.0) (bit c.without-others.result.0) (bit c.without.result.0)
    c.view-seen.ensures c.view-before.ensures
    (subst (by (bit c.only-first.result.0)) c.sender-maker.ensures c.only-first.ensures)
    (subst (by (bit c.only-own.result.0)) c.sender-answerer.ensures c.only-own.ensures) c.without-new.ensures
    c.without-others.ensures c.without.ensures
