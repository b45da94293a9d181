use Rattle.std.proofs.Common.{◌≡◌, ◌≢◌, true, false, refl, sym, subst}
use Rattle.group_fields.specs.declared.header.Header.{Header}
use Rattle.group_model.specs.Messages.{past}
use Rattle.group_model.specs.Validity.{MeetsKind}
use Rattle.group_messages.specs.Messages.{message_of}
use Rattle.causal_history.specs.Rows.{history_of}
use Rattle.member_view.specs.Causes.{IsFirst, GivesNone}
use Rattle.member_view.specs.Rules.{any_inviter, rule_causes}
use Rattle.causal_cast.specs.Verdicts.{on_rules as by_rules}
use Rattle.causal_cast.proofs.Begun.{begun-rows, none-over}
use Rattle.causal_cast.proofs.Judges.{judge_of}
use Rattle.causal_cast.proofs.RuleStage.{fault-stage, none-stage, unsuited-stage}
use Rattle.causal_cast.proofs.rules.on_rules.Goals as goal

-- a create does not go on from a history
pub suits_kind-requires-clause-create : goal.suits_kind-requires-clause-create
suits_kind-requires-clause-create g c = λ members e.
    let m = message_of c.args.packet.now.header in
    let h = history_of c.args.history.now in
    let rule = g.G.Membership.rule in
    let none = subst (λ (z : Header). GivesNone (rule_causes rule h (message_of z))) c.header-header.ensures
    (c.rules.ensures.none.0 c.in-None.is) in
    let asked = none-over rule h m (begun-rows c.args.history.now c.requires.row) none in
    subst (λ k. MeetsKind rule (any_inviter m) (past h m.predecessors) m.sender k) e asked.1.1.1.1.0

pub returns-in-Some : goal.returns-in-Some
returns-in-Some g c = λ leaf_left.
    let x = c.args.me.now.0.0 in
    let packet = c.args.packet.now in
    let h = history_of c.args.history.now in
    let rule = g.G.Membership.rule in
    let J = judge_of rule g.K.Kem.SET g.K.Kem.is_public c.args.history.now x leaf_left in
    let other : (message_of packet.header).sender ≢ x = λ e.
    let own : false ≡ true = c.if-is_own.ensures.1
    (subst (λ (z : Header). z.sender.0.0 ≡ x) (sym c.header-header.ensures) e) in absurd cc in
    let first = subst (λ (z : Header). IsFirst (rule_causes rule h (message_of z)) c.in-Some.fault)
    c.header-header.ensures ((c.rules.ensures.first c.in-Some.fault).0 c.in-Some.is) in
    subst (λ v. IsFirst (by_rules J packet) v) (sym c.verdict_on.ensures)
    (fault-stage J packet c.requires.row other c.in-Some.fault first)

pub returns-then-suits_kind : goal.returns-then-suits_kind
returns-then-suits_kind g c = λ leaf_left.
    let x = c.args.me.now.0.0 in
    let packet = c.args.packet.now in
    let h = history_of c.args.history.now in
    let rule = g.G.Membership.rule in
    let J = judge_of rule g.K.Kem.SET g.K.Kem.is_public c.args.history.now x leaf_left in
    let other : (message_of packet.header).sender ≢ x = λ e.
    let own : false ≡ true = c.if-is_own.ensures.1
    (subst (λ (z : Header). z.sender.0.0 ≡ x) (sym c.header-header.ensures) e) in absurd cc in
    let none = subst (λ (z : Header). GivesNone (rule_causes rule h (message_of z))) c.header-header.ensures
    (c.rules.ensures.none.0 c.in-None.is) in
    none-stage J packet c.requires.row other none (c.if-suits_kind.ensures.0 refl)

pub returns-else-suits_kind : goal.returns-else-suits_kind
returns-else-suits_kind g c = λ leaf_left.
    let x = c.args.me.now.0.0 in
    let packet = c.args.packet.now in
    let h = history_of c.args.history.now in
    let rule = g.G.Membership.rule in
    let J = judge_of rule g.K.Kem.SET g.K.Kem.is_public c.args.history.now x leaf_left in
    let other : (message_of packet.header).sender ≢ x = λ e.
    let own : false ≡ true = c.if-is_own.ensures.1
    (subst (λ (z : Header). z.sender.0.0 ≡ x) (sym c.header-header.ensures) e) in absurd cc in
    let none = subst (λ (z : Header). GivesNone (rule_causes rule h (message_of z))) c.header-header.ensures
    (c.rules.ensures.none.0 c.in-None.is) in
    unsuited-stage J packet c.requires.row other none
    (λ s. let found : false ≡ true = c.if-suits_kind.ensures.1 s in absurd cc)
