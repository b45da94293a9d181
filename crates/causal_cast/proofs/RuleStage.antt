-- The verdicts by the rules of validity.
use Rattle.std.proofs.Common.{◌≡◌, ◌≢◌, ◌<◌, List, Option, Some, length, subst}
use Rattle.group_model.specs.Sets.{Id}
use Rattle.group_model.specs.Messages.{Kind, Add, Message, History, past}
use Rattle.group_model.specs.Validity.{MeetsKind, SendsParts}
use Rattle.group_messages.specs.Messages.{message_of}
use Rattle.causal_history.specs.Rows.{history_of}
use Rattle.member_view.specs.Causes.{IsFirst, GivesNone}
use Rattle.member_view.specs.Rules.{any_inviter, causes_over, rule_causes}
use Rattle.member_view.specs.declared.faults.RuleFault.{RuleFault}
use Rattle.wire_codec.specs.Packets.{Packet}
use Rattle.causal_cast.specs.Judging.{Judging, inviter_by, receivers}
use Rattle.causal_cast.specs.Verdicts.{SuitsKind, on_rules, verdict_on}
use Rattle.causal_cast.specs.declared.verdict.Verdict.TheVariants as answers
use Rattle.causal_cast.proofs.Begun.{begun-rows, first-over, none-over}
use Rattle.causal_cast.proofs.Faults.{fault-verdict, bad-kind, none-asked}
use Rattle.causal_cast.proofs.Inviters.{meets-moved, meets-open}

-- who meets the conditions of an add has the sender as the inviter of whom it adds
meets-card : (rule : History → List Id) (inviter : Id → Option Id) (p : History) (s : Id) (k : Kind)
    → MeetsKind rule inviter p s k → (y : Id) → k ≡ Add y → inviter y ≡ Some s
meets-card rule inviter p s k q y e = (subst (λ z. MeetsKind rule inviter p s z) e q).1

module _ (J : Judging) (packet : Packet) (begun : 0 < length J.rows)
    (other : (message_of packet.header).sender ≢ J.me) where
  abbrev h : History
  h = history_of J.rows

  abbrev m : Message
  m = message_of packet.header

  -- the card of whom an add names lets the sender add it, and the parts are for those that get one
  abbrev pub Suits : Type 0
  Suits =
      ((y : Id) → m.kind ≡ Add y → inviter_by J.is_public packet.cards y ≡ Some m.sender)
      × SendsParts J.rule h m (receivers packet.parts)

  pub fault-stage : (fault : RuleFault) → IsFirst (rule_causes J.rule h m) fault
      → IsFirst (on_rules J packet) (verdict_on fault)
  fault-stage fault first =
      fault-verdict J.rule h (past h m.predecessors) m J.me (SuitsKind J packet)
      (λ s. meets-open J.rule (inviter_by J.is_public packet.cards) (past h m.predecessors) m.sender m.kind s.0) fault
      other (first-over J.rule h m fault (begun-rows J.rows begun) first)

  none-of_rules : GivesNone (rule_causes J.rule h m) → GivesNone (causes_over J.rule h (past h m.predecessors) m)
  none-of_rules none = none-over J.rule h m (begun-rows J.rows begun) none

  pub none-stage : GivesNone (rule_causes J.rule h m) → Suits → GivesNone (on_rules J packet)
  none-stage none suits =
      none-asked J.rule h (past h m.predecessors) m J.me (SuitsKind J packet) other (none-of_rules none) (
        meets-moved J.rule (any_inviter m) (inviter_by J.is_public packet.cards) (past h m.predecessors) m.sender
            m.kind suits.0 (none-of_rules none).1.1.1.1.0,
        suits.1,
      )

  pub unsuited-stage : GivesNone (rule_causes J.rule h m) → (Suits → ⊥) → IsFirst (on_rules J packet) answers.BadKind
  unsuited-stage none unsuited =
      bad-kind J.rule h (past h m.predecessors) m J.me (SuitsKind J packet) other (none-of_rules none)
      (λ s. unsuited (
        meets-card J.rule (inviter_by J.is_public packet.cards) (past h m.predecessors) m.sender m.kind
            s.0,
        s.1,
      ))
