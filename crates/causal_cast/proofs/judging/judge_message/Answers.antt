use Rattle.std.proofs.Common.{◌≡◌, true, false, inl, inr, refl, subst}
use Rattle.group_model.specs.Validity.{MeetsKind}
use Rattle.group_messages.specs.Messages.{message_of}
use Rattle.causal_cast.specs.Judging.{inviter_by}
use Rattle.causal_cast.specs.Verdicts.{before}
use Rattle.causal_cast.specs.declared.verdict.Verdict.TheVariants as answers
use Rattle.causal_cast.proofs.Judges.{judge_of}
use Rattle.causal_cast.proofs.Staged.{by_rules, by_limits, by_signature}
use Rattle.causal_cast.proofs.judging.judge_message.Goals as goal

pub returns-in-Some : goal.returns-in-Some
returns-in-Some g c =
    let J = judge_of g.G.Membership.rule g.K.Kem.SET g.K.Kem.is_public c.args.history.now c.args.me.now.0.0
    c.args.leaf_left in
    by_rules J c.args.packet.now c.in-Some.verdict (c.in-Some.ensures c.args.leaf_left)

-- a create does not meet the conditions of its kind
pub on_limits-requires : goal.on_limits-requires
on_limits-requires g c = λ members e.
    let J = judge_of g.G.Membership.rule g.K.Kem.SET g.K.Kem.is_public c.args.history.now c.args.me.now.0.0 true in
    let packet = c.args.packet.now in
    let suits = (c.in_default.ensures true).1.1.1.1.0 in
    subst (λ k. MeetsKind g.G.Membership.rule (inviter_by g.K.Kem.is_public packet.cards) (before J packet)
    (message_of packet.header).sender k) e suits.0

pub returns-in-Some-on_limits : goal.returns-in-Some-on_limits
returns-in-Some-on_limits g c =
    let J = judge_of g.G.Membership.rule g.K.Kem.SET g.K.Kem.is_public c.args.history.now c.args.me.now.0.0
    c.args.leaf_left in
    by_limits J c.args.packet.now c.in-Some-on_limits.verdict (c.in_default.ensures c.args.leaf_left)
    c.in-Some-on_limits.ensures

pub returns-then-is_signed : goal.returns-then-is_signed
returns-then-is_signed g c =
    let J = judge_of g.G.Membership.rule g.K.Kem.SET g.K.Kem.is_public c.args.history.now c.args.me.now.0.0
    c.args.leaf_left in
    by_signature J c.args.packet.now answers.Ready (c.in_default.ensures c.args.leaf_left)
    c.in_default-on_limits.ensures (inr (c.if-is_signed.ensures.0 refl, inl (tt, refl)))

pub returns-else-is_signed : goal.returns-else-is_signed
returns-else-is_signed g c =
    let J = judge_of g.G.Membership.rule g.K.Kem.SET g.K.Kem.is_public c.args.history.now c.args.me.now.0.0
    c.args.leaf_left in
    by_signature J c.args.packet.now answers.BadSignature (c.in_default.ensures c.args.leaf_left)
    c.in_default-on_limits.ensures (inl (λ s. let found : false ≡ true = c.if-is_signed.ensures.1 s in absurd cc, refl))
