-- How messages are answered, by their kinds.
use Rattle.std.proofs.Common.{◌≡◌, ◌≢◌, Bool, ◌∙◌, ap, refl, sym, subst}
use Rattle.group_fields.specs.declared.header.Kind.{Kind as HeaderKind}
use Rattle.group_fields.specs.declared.header.Kind.TheVariants as kinds
use Rattle.group_model.specs.Sets.{Id}
use Rattle.group_model.specs.Messages.{Kind, Create, Update, Remove, Add, Ack, AddAck, Text, Message}
use Rattle.group_model.specs.Membership.{MovesNobody}
use Rattle.group_model.proofs.ListFacts.{equal_id, other_id}
use Rattle.reference_member.specs.Messages.{answer_kind}
use Rattle.reference_member.specs.Accepted.{with_took}
use Rattle.member_answers.specs.Plans.{answer_to, answer_by}

-- an add is of one member
pub added-one : (k : Kind) (x y : Id) → k ≡ Add x → k ≡ Add y → x ≡ y
added-one k x y e d = let f : Add x ≡ Add y = sym e ∙ d in cc

-- what adds nobody else is answered by an ack
acked : (me : Id) (k : Kind) → ((y : Id) → k ≡ Add y → y ≡ me) → answer_kind me k ≡ kinds.Ack
acked me (Create members) f = refl
acked me Update f = refl
acked me (Remove y) f = refl
acked me (Add y) f = rw (equal_id y me (f y refl)) refl
acked me (Ack o took) f = refl
acked me (AddAck o) f = refl
acked me Text f = refl

-- the add of another by an add-ack
add_acked : (me : Id) (k : Kind) (y : Id) → k ≡ Add y → y ≢ me → answer_kind me k ≡ kinds.AddAck
add_acked me k y e n =
    let d : answer_kind me (Add y) ≡ kinds.AddAck = rw (other_id y me n) refl in
    subst (λ z. answer_kind me z ≡ kinds.AddAck) (sym e) d

pub answered-ack : (me : Id) (o : Message) (took : Bool) → ((y : Id) → o.kind ≡ Add y → y ≡ me)
    → answer_to me o took ≡ Ack o.id took
answered-ack me o took f = ap (λ k. answer_by k o.id took) (acked me o.kind f)

pub answered-add_ack : (me : Id) (o : Message) (took : Bool) (y : Id) → o.kind ≡ Add y → y ≢ me
    → answer_to me o took ≡ AddAck o.id
answered-add_ack me o took y e n = ap (λ k. answer_by k o.id took) (add_acked me o.kind y e n)

took-again : (k : HeaderKind) (o : Id) (took opened : Bool) → with_took took (answer_by k o opened) ≡ answer_by k o took
took-again kinds.Create o took opened = refl
took-again kinds.Update o took opened = refl
took-again kinds.Remove o took opened = refl
took-again kinds.Add o took opened = refl
took-again kinds.Ack o took opened = refl
took-again kinds.AddAck o took opened = refl
took-again kinds.Text o took opened = refl

-- the answer with another word on whether the operation was taken
pub answered-again : (me : Id) (o : Message) (took opened : Bool) (k : Kind) → k ≡ answer_to me o opened
    → with_took took k ≡ answer_to me o took
answered-again me o took opened k e = ap (with_took took) e ∙ took-again (answer_kind me o.kind) o.id took opened

nobody-moved : (k : HeaderKind) (o : Id) (took : Bool) → MovesNobody (answer_by k o took)
nobody-moved kinds.Create o took = record { names_nobody = λ y n. n; removes_nobody = λ y n. n }
nobody-moved kinds.Update o took = record { names_nobody = λ y n. n; removes_nobody = λ y n. n }
nobody-moved kinds.Remove o took = record { names_nobody = λ y n. n; removes_nobody = λ y n. n }
nobody-moved kinds.Add o took = record { names_nobody = λ y n. n; removes_nobody = λ y n. n }
nobody-moved kinds.Ack o took = record { names_nobody = λ y n. n; removes_nobody = λ y n. n }
nobody-moved kinds.AddAck o took = record { names_nobody = λ y n. n; removes_nobody = λ y n. n }
nobody-moved kinds.Text o took = record { names_nobody = λ y n. n; removes_nobody = λ y n. n }

pub answers-move_nobody : (me : Id) (o : Message) (took : Bool) (k : Kind) → k ≡ answer_to me o took → MovesNobody k
answers-move_nobody me o took k e = subst MovesNobody (sym e) (nobody-moved (answer_kind me o.kind) o.id took)
