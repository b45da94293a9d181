use Rattle.std.proofs.Common.{◌≡◌, true, false, sym, ◌∙◌, arith}
use Rattle.causal_history.specs.Bits.{bit}
use Rattle.welcome_history.proofs.CardsHeld.{held, held-seen, held-public}
use Rattle.welcome_history.proofs.cards_held.cards_hold.Goals as goal

pub returns-then-are_all_seen : goal.returns-then-are_all_seen
returns-then-are_all_seen g c = λ F of_set same. (
  λ t. held F g.K.Kem.is_public same c.args.welcome.now (bit c.in-Some.seen.0) c.in-Some.ensures.there
      c.in-Some.ensures.named
      (λ p l. c.are_all_seen.ensures.0 c.if-are_all_seen.true p (omega (arith, l, c.cards.ensures)))
      (c.have_public_keys.ensures.0 t),
  λ h. c.have_public_keys.ensures.1 (held-public F g.K.Kem.is_public same c.args.welcome.now (bit c.in-Some.seen.0) h),
)

-- a card that no row names
pub returns-else-are_all_seen : goal.returns-else-are_all_seen
returns-else-are_all_seen g c = λ F of_set same. (
  λ t. absurd (let e : false ≡ true = sym c.if-are_all_seen.false ∙ t in cc),
  λ h. c.are_all_seen.ensures.1 (λ p l. held-seen F g.K.Kem.is_public same c.args.welcome.now (bit c.in-Some.seen.0) h
      c.in-Some.ensures.named p (omega (arith, l, c.cards.ensures))),
)
