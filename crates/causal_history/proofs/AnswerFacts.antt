-- What messages answer.
use Rattle.std.proofs.Common.{◌≡◌, ℕ, ◌↔◌, Option, None, Some, MatchOption, refl}
use Rattle.group_fields.specs.declared.header.Kind.{Kind as HeaderKind}
use Rattle.group_fields.specs.declared.header.Kind.TheVariants as kinds
use Rattle.group_fields.specs.declared.header.Target.{Target}
use Rattle.group_model.specs.Sets.{Id, In}
use Rattle.group_model.specs.Messages.{Kind, Message, History, Stands}
use Rattle.group_model.specs.Marks.{HasNumber}
use Rattle.group_model.specs.Validity.{Answers}
use Rattle.group_messages.specs.Messages.{kind_by}
use Rattle.causal_history.specs.Numbered.{IsNumberOf}

-- an answer is an ack or an add-ack
pub answers-kind : (k : HeaderKind) (t : Target) (i : Id) → Answers (kind_by k t) i → (k ≡ kinds.Ack → ⊥) → (k ≡ kinds.AddAck → ⊥) → ⊥
answers-kind kinds.Create t i a f g = a
answers-kind kinds.Update t i a f g = a
answers-kind kinds.Remove t i a f g = a
answers-kind kinds.Add t i a f g = a
answers-kind kinds.Ack t i a f g = f refl
answers-kind kinds.AddAck t i a f g = g refl
answers-kind kinds.Text t i a f g = a

-- a kind that answers one id, and what a look-up of that id answers
pub by-find : (h : History) (kind : Kind) (o : Id) (r : Option ℕ) → ((i : Id) → Answers kind i ↔ (i ≡ o))
    → MatchOption r (Stands h o → ⊥) (λ at. IsNumberOf h o at)
    → MatchOption r ((a : Message) → In a h → Answers kind a.id → ⊥) (λ at. (a : Message) × HasNumber h at a × Answers kind a.id)
by-find h kind o None f n = λ a i k. n (record { by = a; there_is = i; has_id = (f a.id).0 k })
by-find h kind o (Some at) f n = (n.by, n.number, (f n.by.id).1 n.has_id)
