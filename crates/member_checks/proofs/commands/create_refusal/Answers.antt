use Rattle.std.proofs.Common.{◌≡◌, ◌≤◌, false, true, length, map, sym, ◌∙◌, ap, arith}
use Rattle.member_checks.specs.Facts.{facts_of}
use Rattle.member_checks.proofs.CommandStages.{create-cards, create-full, create-room}
use Rattle.member_checks.proofs.commands.create_refusal.Goals as goal

pub returns-in-Some : goal.returns-in-Some
returns-in-Some g c = λ M is.
    let cards = c.args.cards.now in
    let facts = c.as_slice-2.ensures.value ∙ c.in_ok-facts.ensures ∙ ap (map (facts_of g.K.Kem)) c.as_slice.ensures in
    create-cards g.K.Kem g.G.Membership.rule M cards
    (λ out. let found : false ≡ true = sym c.if-is_out.false ∙ (c.is_out.ensures M is).1 out in absurd cc)
    (is.rows ∙ c.is_empty.ensures.0 c.if-not-is_empty.false)
    c.in-Some.refusal (c.in-Some.ensures M cards is facts)

pub returns-then-len-gt-FOUNDERS : goal.returns-then-len-gt-FOUNDERS
returns-then-len-gt-FOUNDERS g c = λ M is.
    let cards = c.args.cards.now in
    let facts = c.as_slice-2.ensures.value ∙ c.in_ok-facts.ensures ∙ ap (map (facts_of g.K.Kem)) c.as_slice.ensures in
    create-full g.K.Kem g.G.Membership.rule M cards
    (λ out. let found : false ≡ true = sym c.if-is_out.false ∙ (c.is_out.ensures M is).1 out in absurd cc)
    (is.rows ∙ c.is_empty.ensures.0 c.if-not-is_empty.false)
    (c.in_default.ensures M cards is facts) (λ low. absurd (omega arith))

pub returns : goal.returns
returns g c = λ M is.
    let cards = c.args.cards.now in
    let facts = c.as_slice-2.ensures.value ∙ c.in_ok-facts.ensures ∙ ap (map (facts_of g.K.Kem)) c.as_slice.ensures in
    let low : length cards ≤ 31 = omega arith in
    create-room g.K.Kem g.G.Membership.rule M cards
    (λ out. let found : false ≡ true = sym c.if-is_out.false ∙ (c.is_out.ensures M is).1 out in absurd cc)
    (is.rows ∙ c.is_empty.ensures.0 c.if-not-is_empty.false)
    c.room_refusal.result (c.in_default.ensures M cards is facts) low (c.room_refusal.ensures M is)
