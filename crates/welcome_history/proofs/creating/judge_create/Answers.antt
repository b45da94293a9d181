use Rattle.std.proofs.Common.{◌≡◌, false, true, inl, inr, refl}
use Rattle.welcome_history.proofs.CreateCards.{create-suits, suits-create}
use Rattle.welcome_history.proofs.creating.judge_create.Goals as goal

pub returns-then-not-suits_create : goal.returns-then-not-suits_create
returns-then-not-suits_create g c = λ F by_rule of_set by_public.
    inl (
      λ s. let yes = c.suits_create.ensures.1
          (create-suits F g.G.Membership.rule g.K.Kem.is_public by_rule by_public c.args.packet.now s) in
          let no = c.if-not-suits_create.true in absurd cc,
      refl,
    )

pub returns-then-is_signed : goal.returns-then-is_signed
returns-then-is_signed g c = λ F by_rule of_set by_public.
    let suits = suits-create F g.G.Membership.rule g.K.Kem.is_public by_rule by_public c.args.packet.now
    (c.suits_create.ensures.0 c.if-not-suits_create.false) in
    inr (suits, inr (c.if-is_signed.ensures.0 refl, inl (tt, refl)))

pub returns : goal.returns
returns g c = λ F by_rule of_set by_public.
    let suits = suits-create F g.G.Membership.rule g.K.Kem.is_public by_rule by_public c.args.packet.now
    (c.suits_create.ensures.0 c.if-not-suits_create.false) in
    inr (suits, inl (λ s. let found : false ≡ true = c.if-is_signed.ensures.1 s in absurd cc, refl))
