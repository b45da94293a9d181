-- Histories that have a message.
use Rattle.std.proofs.Common.{◌≡◌, ◌<◌, List, [], ◌∷◌, Option, length, refl, sym, subst, arith}
use Rattle.group_model.specs.Sets.{Id, In}
use Rattle.group_model.specs.Messages.{Message, History, past}
use Rattle.group_model.specs.Validity.{GoesOn, MayFollow}
use Rattle.causal_history.specs.Rows.{Row, history_of}
use Rattle.member_view.specs.Causes.{IsFirst, GivesNone}
use Rattle.member_view.specs.Rules.{causes_over, rule_causes}
use Rattle.member_view.specs.declared.faults.RuleFault.{RuleFault}
use Rattle.causal_cast.proofs.Histories.{history-length}

-- a history that has a message
pub record IsBegun (h : History) : Type 0 where
  pub first : Message
  pub older : History
  pub is : h ≡ first ∷ older

pub begun-with : (h : History) {a : Message} → In a h → IsBegun h
begun-with [] i = elim i [ ]
begun-with (m ∷ h) i = record { first = m; older = h; is = refl }

begun-long : (h : History) → 0 < length h → IsBegun h
begun-long [] l = absurd (omega arith)
begun-long (m ∷ h) l = record { first = m; older = h; is = refl }

pub begun-rows : (rows : List Row) → 0 < length rows → IsBegun (history_of rows)
begun-rows rows l = begun-long (history_of rows) (subst (λ n. 0 < n) (sym (history-length rows)) l)

module _ (rule : History → List Id) where
  -- over it a message goes on from its past
  pub follows : (inviter : Id → Option Id) (h : History) (m : Message) → IsBegun h
      → GoesOn rule inviter (past h m.predecessors) m → MayFollow rule inviter h m
  follows inviter [] m b g = absurd (let e : [] ≡ b.first ∷ b.older = b.is in cc)
  follows inviter (l ∷ older) m b g = g

  pub first-over : (h : History) (m : Message) (fault : RuleFault) → IsBegun h → IsFirst (rule_causes rule h m) fault
      → IsFirst (causes_over rule h (past h m.predecessors) m) fault
  unfolding rule_causes
  first-over [] m fault b x = absurd (let e : [] ≡ b.first ∷ b.older = b.is in cc)
  first-over (l ∷ older) m fault b x = x

  pub none-over : (h : History) (m : Message) → IsBegun h → GivesNone (rule_causes rule h m)
      → GivesNone (causes_over rule h (past h m.predecessors) m)
  unfolding rule_causes
  none-over [] m b x = absurd (let e : [] ≡ b.first ∷ b.older = b.is in cc)
  none-over (l ∷ older) m b x = x
