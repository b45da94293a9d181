use Rattle.std.proofs.Common.{◌≡◌, List, [], inr, refl, sym, subst}
use Rattle.std.specs.Prelude.{IfOk, MatchResult}
use Rattle.group_messages.specs.Messages.{message_of}
use Rattle.causal_history.specs.Rows.{Row}
use Rattle.member_view.specs.Causes.{GivesNone, IsFirst, first-back, first-front}
use Rattle.causal_cast.specs.Verdicts.{from_rules}
use Rattle.causal_cast.specs.declared.verdict.Verdict.TheVariants.{BadWelcome}
use Rattle.welcome_history.specs.Joining.{CardsHold, EndHolds, judging, on_history, on_rows}
use Rattle.welcome_history.specs.Welcomes.{rows_of}
use Rattle.welcome_history.proofs.CardsHeld.{welcome-distinct}
use Rattle.welcome_history.proofs.Firsts.{heads-stand, joining, some-rows}
use Rattle.welcome_history.proofs.first.judge_add.Goals as goal

pub cards_hold-requires-clause-distinct : goal.cards_hold-requires-clause-distinct
cards_hold-requires-clause-distinct g c =
    welcome-distinct c.args.packet.now.header.set c.args.welcome.now
    ((c.packets_are_in_order.ensures.order c.args.packet.now c.bytes-bytes.result.now c.bytes-bytes.ensures).body.history
    c.args.welcome.now c.requires.carried)

pub judge_rows-requires-clause-named : goal.judge_rows-requires-clause-named
judge_rows-requires-clause-named g c = λ x i.
    let F = joining g.G.Membership.rule g.K.Kem.SET g.K.Kem.is_public c.args.me.now.0.0 [] in
    let held : CardsHold F c.args.welcome.now = (c.cards_hold.ensures F refl refl).0 c.if-not-cards_hold.false in
    (held.named x).1 i

pub judge_message-requires-clause-row : goal.judge_message-requires-clause-row
judge_message-requires-clause-row g c =
    let m = message_of c.args.packet.now.header in
    let ended : EndHolds c.in-Ok.history m = subst (λ r. IfOk r (λ h. EndHolds h m)) c.in-Ok.is c.in_ok-history.ensures.end in
    some-rows c.in-Ok.history ended.some

pub judge_message-requires-clause-stand : goal.judge_message-requires-clause-stand
judge_message-requires-clause-stand g c =
    let m = message_of c.args.packet.now.header in
    let ended : EndHolds c.in-Ok.history m = subst (λ r. IfOk r (λ h. EndHolds h m)) c.in-Ok.is c.in_ok-history.ensures.end in
    heads-stand c.in-Ok.history m ended

pub judge_message-requires-clause-new : goal.judge_message-requires-clause-new
judge_message-requires-clause-new g c =
    let m = message_of c.args.packet.now.header in
    let ended : EndHolds c.in-Ok.history m = subst (λ r. IfOk r (λ h. EndHolds h m)) c.in-Ok.is c.in_ok-history.ensures.end in
    ended.fresh

pub returns-in-Ok : goal.returns-in-Ok
returns-in-Ok g c = λ inviter.
    let packet = c.args.packet.now in
    let welcome = c.args.welcome.now in
    let F = joining g.G.Membership.rule g.K.Kem.SET g.K.Kem.is_public c.args.me.now.0.0 inviter in
    let v = c.judge_message.result in
    let causes = on_rows F packet welcome.cards 1 [] welcome.rows in
    let held : CardsHold F welcome = (c.cards_hold.ensures F refl refl).0 c.if-not-cards_hold.false in
    let none : GivesNone causes = subst (λ r. MatchResult r (λ h. GivesNone causes) (λ n. IsFirst causes (BadWelcome n)))
    c.in-Ok.is (c.in_ok-history.ensures.causes F refl refl refl) in
    let rows : c.in-Ok.history ≡ rows_of welcome = subst (λ r. IfOk r (λ h. h ≡ rows_of welcome)) c.in-Ok.is
    c.in_ok-history.ensures.rows in
    let first : IsFirst (from_rules (judging F (rows_of welcome)) packet) v =
    subst (λ (z : List Row). IsFirst (from_rules (judging F z) packet) v) rows c.judge_message.ensures in
    subst (λ o. IsFirst (on_history F packet o) v) (sym c.requires.carried)
    (inr (held, first-back causes (from_rules (judging F (rows_of welcome)) packet) v none first))

pub returns : goal.returns
returns g c = λ inviter.
    let packet = c.args.packet.now in
    let welcome = c.args.welcome.now in
    let F = joining g.G.Membership.rule g.K.Kem.SET g.K.Kem.is_public c.args.me.now.0.0 inviter in
    let v = BadWelcome c.in-Err.number in
    let causes = on_rows F packet welcome.cards 1 [] welcome.rows in
    let held : CardsHold F welcome = (c.cards_hold.ensures F refl refl).0 c.if-not-cards_hold.false in
    let broken : IsFirst causes v = subst (λ r. MatchResult r (λ h. GivesNone causes) (λ n. IsFirst causes (BadWelcome n)))
    c.in-Err.is (c.in_ok-history.ensures.causes F refl refl refl) in
    subst (λ o. IsFirst (on_history F packet o) v) (sym c.requires.carried)
    (inr (held, first-front causes (from_rules (judging F (rows_of welcome)) packet) v broken))
