use Rattle.std.proofs.Common.{◌≡◌, false, true, inl, inr, refl, sym, ◌∙◌, subst}
use Rattle.std.specs.Prelude.{IsSome}
use Rattle.group_messages.specs.Messages.{kind_of}
use Rattle.member_view.specs.Causes.{IsFirst}
use Rattle.welcome_history.specs.Joining.{IsInvitation, first_verdicts, on_kind}
use Rattle.welcome_history.proofs.Firsts.{joining, names-add, names-create, ok-map}
use Rattle.welcome_history.proofs.first.judge_first.Goals as goal

pub returns-then-not-is_invitation : goal.returns-then-not-is_invitation
unfolding first_verdicts
returns-then-not-is_invitation g c =
    let F = joining g.G.Membership.rule g.K.Kem.SET g.K.Kem.is_public c.args.me.now.0.0 c.args.inviter.now.0.0 in
    inl (
      λ k. let found : false ≡ true = sym c.if-not-is_invitation.true ∙ (c.is_invitation.ensures F refl refl refl).1 k in
          absurd cc,
      refl,
    )

pub judge_add-requires-clause-set : goal.judge_add-requires-clause-set
judge_add-requires-clause-set g c =
    let F = joining g.G.Membership.rule g.K.Kem.SET g.K.Kem.is_public c.args.me.now.0.0 c.args.inviter.now.0.0 in
    let k : IsInvitation F c.args.packet.now = (c.is_invitation.ensures F refl refl refl).0 c.if-not-is_invitation.false in
    k.set

pub judge_create-requires-clause-set : goal.judge_create-requires-clause-set
judge_create-requires-clause-set g c =
    let F = joining g.G.Membership.rule g.K.Kem.SET g.K.Kem.is_public c.args.me.now.0.0 c.args.inviter.now.0.0 in
    let k : IsInvitation F c.args.packet.now = (c.is_invitation.ensures F refl refl refl).0 c.if-not-is_invitation.false in
    k.set

pub judge_create-requires-clause-create : goal.judge_create-requires-clause-create
judge_create-requires-clause-create g c =
    let packet = c.args.packet.now in
    let F = joining g.G.Membership.rule g.K.Kem.SET g.K.Kem.is_public c.args.me.now.0.0 c.args.inviter.now.0.0 in
    let k : IsInvitation F packet = (c.is_invitation.ensures F refl refl refl).0 c.if-not-is_invitation.false in
    names-create (kind_of packet.header) packet.header.kind c.args.me.now.0.0
    (c.targets_say_the_kind.ensures.kind packet.header) (λ e.
    let there = subst (λ o. IsSome o) c.in-None.is (c.history.ensures.add.1 e) in absurd cc) k.names

pub returns-in-Some : goal.returns-in-Some
unfolding first_verdicts
returns-in-Some g c =
    let packet = c.args.packet.now in
    let F = joining g.G.Membership.rule g.K.Kem.SET g.K.Kem.is_public c.args.me.now.0.0 c.args.inviter.now.0.0 in
    let k : IsInvitation F packet = (c.is_invitation.ensures F refl refl refl).0 c.if-not-is_invitation.false in
    let adds = names-add (kind_of packet.header) packet.header.kind c.args.me.now.0.0
    (c.targets_say_the_kind.ensures.kind packet.header)
    (c.history.ensures.add.0 (subst (λ o. IsSome o) (sym c.in-Some.is) refl)) k.names in
    ok-map c.judge_add.result
    (λ v x. inr (k, subst (λ z. IsFirst (on_kind F packet z) v) (sym adds.1) (x c.args.inviter.now.0.0)))
    c.judge_add.ensures

pub returns-in-None : goal.returns-in-None
unfolding first_verdicts
returns-in-None g c =
    let packet = c.args.packet.now in
    let F = joining g.G.Membership.rule g.K.Kem.SET g.K.Kem.is_public c.args.me.now.0.0 c.args.inviter.now.0.0 in
    let k : IsInvitation F packet = (c.is_invitation.ensures F refl refl refl).0 c.if-not-is_invitation.false in
    let creates = names-create (kind_of packet.header) packet.header.kind c.args.me.now.0.0
    (c.targets_say_the_kind.ensures.kind packet.header) (λ e.
    let there = subst (λ o. IsSome o) c.in-None.is (c.history.ensures.add.1 e) in absurd cc) k.names in
    inr (
      k,
      subst (λ z. IsFirst (on_kind F packet z) c.judge_create.result) (sym creates.1)
          (c.judge_create.ensures F refl refl refl),
    )
