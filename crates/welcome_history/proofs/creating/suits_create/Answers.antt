use Rattle.std.proofs.Common.{◌≡◌, false, true, inl, sym, ◌∙◌, subst}
use Rattle.group_model.specs.Sets.{In}
use Rattle.group_model.specs.Messages.{Stands}
use Rattle.group_model.specs.Validity.{SendsParts}
use Rattle.group_model.proofs.ListFacts.{In-nothing}
use Rattle.group_messages.specs.Messages.{message_of}
use Rattle.causal_history.specs.Rows.{history_of}
use Rattle.member_view.specs.Crowds.{StandsWell}
use Rattle.causal_cast.specs.Judging.{receivers}
use Rattle.welcome_history.proofs.CreateCards.{history-none}
use Rattle.welcome_history.proofs.creating.suits_create.Goals as goal

-- what opens a history has no predecessors
pub parts_suit-requires-clause-stand : goal.parts_suit-requires-clause-stand
parts_suit-requires-clause-stand g c = λ i j.
    let opened = c.opens.ensures.0 c.if-opens.true in
    absurd (In-nothing (subst (λ z. In i z) opened.first j))

pub parts_suit-requires-clause-new : goal.parts_suit-requires-clause-new
parts_suit-requires-clause-new g c = λ s.
    let m = message_of c.args.packet.now.header in
    In-nothing (subst (λ h. Stands h m.id) (history-none c.args.history.now c.requires.empty) s).there_is

-- a create stands over the empty history
pub parts_suit-requires-clause-create : goal.parts_suit-requires-clause-create
parts_suit-requires-clause-create g c =
    let m = message_of c.args.packet.now.header in
    let h = history_of c.args.history.now in
    subst (λ k. StandsWell h m k) (sym c.requires.create.1) (inl (history-none c.args.history.now c.requires.empty))

pub returns-then-opens : goal.returns-then-opens
returns-then-opens g c =
    let packet = c.args.packet.now in
    let m = message_of packet.header in
    let empty = history-none c.args.history.now c.requires.empty in (
      λ t. (
        c.opens.ensures.0 c.if-opens.true,
        subst (λ h. SendsParts g.G.Membership.rule h m (receivers packet.parts)) empty (c.parts_suit.ensures.0 t),
      ),
      λ s. c.parts_suit.ensures.1
          (subst (λ h. SendsParts g.G.Membership.rule h m (receivers packet.parts)) (sym empty) s.1),
    )

pub returns-else-opens : goal.returns-else-opens
returns-else-opens g c = (
  λ t. absurd (let found : false ≡ true = sym c.if-opens.false ∙ t in cc),
  λ s. c.opens.ensures.1 s.0,
)
