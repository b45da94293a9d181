use Rattle.std.proofs.Common.{◌≡◌, MatchOption, Some, None, sym, ◌∙◌, subst}
use Rattle.welcome_history.proofs.RowHeld.{among-of_set, by-card, by-nobody}
use Rattle.welcome_history.proofs.row_held.inviter_by.Goals as goal

pub inviter_in-requires : goal.inviter_in-requires
inviter_in-requires g c =
    among-of_set g.K.Kem.SET c.args.welcome.now.cards c.in-Some.card c.args.id.now.0.0 c.requires.of_set
    (sym c.card_with.ensures ∙ c.in-Some.is)

pub returns-in-Some : goal.returns-in-Some
returns-in-Some g c =
    let says = by-card g.K.Kem.is_public c.args.welcome.now.cards c.in-Some.card c.args.id.now.0.0
    (sym c.card_with.ensures ∙ c.in-Some.is) in
    subst (λ z. MatchOption c.inviter_in.result (z ≡ None) (λ by. z ≡ Some by.0.0)) (sym says) c.inviter_in.ensures

pub returns-in-None : goal.returns-in-None
returns-in-None g c =
    by-nobody g.K.Kem.is_public c.args.welcome.now.cards c.args.id.now.0.0 (sym c.card_with.ensures ∙ c.in-None.is)
