use Rattle.std.proofs.Common.{◌≡◌, false, true, sym, ◌∙◌}
use Rattle.welcome_history.proofs.RowHeld.{holds, holds-placed, holds-valid}
use Rattle.welcome_history.proofs.row_held.row_holds.Goals as goal

pub returns-then-is_placed : goal.returns-then-is_placed
returns-then-is_placed g c = λ F by_rule of_set by_public.
    let group = c.args.group.now.0.0 in
    let cards = c.args.welcome.now.cards in (
      λ t. holds F g.G.Membership.rule g.K.Kem.SET g.K.Kem.is_public by_rule of_set by_public group cards
          c.args.history.now c.args.header.now (c.is_placed.ensures.0 c.if-is_placed.true) (c.is_valid.ensures.0 t),
      λ r. c.is_valid.ensures.1 (holds-valid F g.G.Membership.rule g.K.Kem.SET g.K.Kem.is_public by_rule of_set
          by_public group cards c.args.history.now c.args.header.now r),
    )

pub returns-else-is_placed : goal.returns-else-is_placed
returns-else-is_placed g c = λ F by_rule of_set by_public. (
  λ t. absurd (let found : false ≡ true = sym c.if-is_placed.false ∙ t in cc),
  λ r. c.is_placed.ensures.1 (holds-placed F g.G.Membership.rule g.K.Kem.SET g.K.Kem.is_public by_rule of_set by_public
      c.args.group.now.0.0 c.args.welcome.now.cards c.args.history.now c.args.header.now r),
)
