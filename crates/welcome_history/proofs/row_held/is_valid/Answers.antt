use Rattle.std.proofs.Common.{◌≡◌, false, true}
use Rattle.group_messages.specs.Messages.{message_of}
use Rattle.causal_history.specs.Rows.{history_of}
use Rattle.causal_cast.specs.Judging.{inviter_by}
use Rattle.welcome_history.proofs.RowHeld.{follows-by, follows-invites, follows-none}
use Rattle.welcome_history.proofs.row_held.is_valid.Goals as goal

pub returns-in-Some : goal.returns-in-Some
returns-in-Some g c =
    let inviter = inviter_by g.K.Kem.is_public c.args.welcome.now.cards in (
      λ (t : false ≡ true). absurd cc,
      λ v. absurd (let none = c.rules.ensures.none.1 (follows-none g.G.Membership.rule inviter
          (history_of c.args.history.now) (message_of c.args.header.now) v.0 v.1) in
          let some = c.in-Some.is in cc),
    )

pub returns-in-None : goal.returns-in-None
returns-in-None g c =
    let rule = g.G.Membership.rule in
    let inviter = inviter_by g.K.Kem.is_public c.args.welcome.now.cards in
    let h = history_of c.args.history.now in
    let m = message_of c.args.header.now in (
      λ t. (
        follows-by rule inviter h m (c.rules.ensures.goes_on c.in-None.is) (c.cards_invite.ensures.0 t),
        c.rules.ensures.unforked c.in-None.is,
      ),
      λ v. c.cards_invite.ensures.1 (follows-invites rule inviter h m v.0),
    )
