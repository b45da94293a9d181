-- What acts are, and when one that answers nothing is in turn.
use Rattle.std.proofs.Common.{IsTrue, ◌≡◌, ◌↔◌, ℕ, Bool, List, None, refl}
use Rattle.group_fields.specs.declared.ids.MessageId.{MessageId}
use Rattle.group_model.specs.Sets.{Id}
use Rattle.group_fields.specs.declared.ids.Digest.{Digest}
use Rattle.group_model.specs.Messages.{Create, History}
use Rattle.group_model.specs.Marks.{marked}
use Rattle.group_model.specs.Validity.{AnswersNone, IsInTurn}
use Rattle.member_view.specs.Acts.{act_kind}
use Rattle.member_view.specs.Waiting.{WaitsAlone}
use Rattle.member_view.specs.declared.act.Act.{Act}
use Rattle.member_view.specs.declared.act.Act.TheVariants as acts
use Rattle.member_view.proofs.Orders.{alone-none}

nobody : (h : History) (marks : ℕ → Bool) (s : Id) (b : Bool) → IsTrue b ↔ WaitsAlone h (marked marks h) s None
    → IsTrue b ↔ AnswersNone (marked marks h) s
nobody h marks s b f = (λ t. (alone-none h marks s).0 (f.0 t), λ n. f.1 ((alone-none h marks s).1 n))

pub turn-alone : (h : History) (marks : ℕ → Bool) (s : Id) (b : Bool) (a : Act)
    → ((x : MessageId) (took : Bool) → a ≡ acts.Ack x took → ⊥) → ((x : MessageId) → a ≡ acts.AddAck x → ⊥)
    → IsTrue b ↔ WaitsAlone h (marked marks h) s None → IsTrue b ↔ IsInTurn (marked marks h) s (act_kind a)
turn-alone h marks s b (acts.Create ids) n k f = nobody h marks s b f
turn-alone h marks s b acts.Update n k f = nobody h marks s b f
turn-alone h marks s b (acts.Remove id) n k f = nobody h marks s b f
turn-alone h marks s b (acts.Add id) n k f = nobody h marks s b f
turn-alone h marks s b (acts.Ack id took) n k f = absurd (n id took refl)
turn-alone h marks s b (acts.AddAck id) n k f = absurd (k id refl)
turn-alone h marks s b acts.Text n k f = nobody h marks s b f

-- an act that is no create makes no create
pub not-create : (a : Act) → ((ids : List Digest) → a ≡ acts.Create ids → ⊥) → (members : List Id) → act_kind a ≡ Create members → ⊥
not-create (acts.Create ids) n members e = n ids refl
not-create acts.Update n members e = cc
not-create (acts.Remove id) n members e = cc
not-create (acts.Add id) n members e = cc
not-create (acts.Ack id took) n members e = cc
not-create (acts.AddAck id) n members e = cc
not-create acts.Text n members e = cc
