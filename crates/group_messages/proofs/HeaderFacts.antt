-- What a header that has a spelling says as a message.
use Rattle.std.proofs.Common.{◌≡◌, ℕ, ◌<◌, ◌≤◌, ◌⊎◌, inl, inr, Bool, true, List, [], ◌∷◌, length, refl, sym, ◌∙◌, ap, subst, arith}
use Rattle.std.proofs.Common.{Option, Some, None, Contains}
use Rattle.std.specs.Prelude.{bytes_eq}
use Rattle.std.specs.Ordering.{is_lt}
use Rattle.std.specs.declared.cmp.Ordering.{Ordering}
use Rattle.std.specs.declared.cmp.Ordering.TheVariants.{Less, Equal, Greater}
use Rattle.std.proofs.lemmas.Bool.{and_parts}
use Rattle.std.proofs.lemmas.List.{length-map}
use Rattle.std.proofs.lemmas.Slice.Eq.{bytes_eq-Decides}
use Rattle.sha2.specs.Sha256.{sha256}
use Rattle.group_fields.specs.Fields.{is_above}
use Rattle.group_fields.specs.Headers.{AreCounted, HasSpelling, SuitsKind, message_id, spelling}
use Rattle.group_fields.specs.LayoutWrites.{ascends}
use Rattle.group_fields.specs.declared.header.Header.{Header}
use Rattle.group_fields.specs.declared.header.Kind.{Kind as HeaderKind}
use Rattle.group_fields.specs.declared.header.Kind.TheVariants as kinds
use Rattle.group_fields.specs.declared.header.Target.{Target}
use Rattle.group_fields.specs.declared.header.Target.TheVariants as targets
use Rattle.group_fields.specs.declared.ids.Digest.{Digest}
use Rattle.group_fields.specs.declared.ids.MemberId.{MemberId}
use Rattle.group_fields.specs.declared.ids.MessageId.{MessageId}
use Rattle.group_model.specs.Sets.{Id, IsAscending, IsDistinct}
use Rattle.group_model.specs.Messages.{Kind, Create, Update, Remove, Add, Ack, AddAck, Text}
use Rattle.group_model.specs.Membership.{named_by}
use Rattle.group_model.proofs.ListFacts.{test, yes_is, no_is}
use Rattle.group_model.proofs.Ascending.{ascending-above, ascending-rest, below-not_self}
use Rattle.group_messages.specs.Messages.{IsCollision, header_kind, ids_of, kind_by, kind_of}

-- ---- ids

less : (o : Ordering) → is_lt o ≡ true → o ≡ Less
less Less e = refl
less Equal e = cc
less Greater e = cc

pub ascends-ascending : (last : Option Digest) (ids : List Digest) → ascends last ids ≡ true → IsAscending (ids_of ids)
ascends-ascending last [] e = tt
ascends-ascending last (i ∷ []) e = tt
ascends-ascending last (i ∷ (j ∷ ids)) e =
    let rest = (and_parts (is_above last i.0) (ascends (Some i) (j ∷ ids)) e).1 in
    (less _ (and_parts (is_above (Some i) j.0) (ascends (Some j) ids) rest).0, ascends-ascending (Some i) (j ∷ ids) rest)

pub ascending-distinct : (ids : List Id) → IsAscending ids → IsDistinct ids
ascending-distinct [] g = tt
ascending-distinct (i ∷ ids) g =
    (λ k. below-not_self i (ascending-above i ids g i k), ascending-distinct ids (ascending-rest i ids g))

pub length-ids_of : (ids : List Digest) → length (ids_of ids) ≡ length ids
length-ids_of ids = length-map ids (λ (id : Digest). id.0)

-- ---- who is named

-- ascending ids, at most 32
pub record AreFew (ids : List Id) : Type 0 where
  pub ascending : IsAscending ids
  pub few : length ids ≤ 32

pub named-few : (k : HeaderKind) (t : Target) → SuitsKind k t → AreFew (named_by (kind_by k t))
named-few kinds.Create (targets.Members ids) s =
    record { ascending = ascends-ascending None ids s.ascending; few = omega (arith, length-ids_of ids, s.few) }
named-few kinds.Create targets.Nothing s = absurd s
named-few kinds.Create (targets.Member y) s = absurd s
named-few kinds.Create (targets.Answer o took) s = absurd s
named-few kinds.Update t s = record { ascending = tt; few = omega arith }
named-few kinds.Remove t s = record { ascending = tt; few = omega arith }
named-few kinds.Add t s = record { ascending = tt; few = omega arith }
named-few kinds.Ack t s = record { ascending = tt; few = omega arith }
named-few kinds.AddAck t s = record { ascending = tt; few = omega arith }
named-few kinds.Text t s = record { ascending = tt; few = omega arith }

-- ---- kinds

pub header_kind-kind_by : (k : HeaderKind) (t : Target) → header_kind (kind_by k t) ≡ k
header_kind-kind_by kinds.Create t = refl
header_kind-kind_by kinds.Update t = refl
header_kind-kind_by kinds.Remove t = refl
header_kind-kind_by kinds.Add t = refl
header_kind-kind_by kinds.Ack t = refl
header_kind-kind_by kinds.AddAck t = refl
header_kind-kind_by kinds.Text t = refl

suits : (h : Header) (k : HeaderKind) → HasSpelling h → h.kind ≡ k → SuitsKind k h.target
suits h k s e = subst (λ z. SuitsKind z h.target) e s.target

at_kind : (h : Header) (k : HeaderKind) → h.kind ≡ k → kind_of h ≡ kind_by k h.target
at_kind h k e = ap (λ z. kind_by z h.target) e

members : (t : Target) → SuitsKind kinds.Create t
    → (ids : List Digest) × (t ≡ targets.Members ids) × (kind_by kinds.Create t ≡ Create (ids_of ids))
members (targets.Members ids) s = (ids, refl, refl)
members targets.Nothing s = absurd s
members (targets.Member y) s = absurd s
members (targets.Answer o took) s = absurd s

pub create_says : (h : Header) → HasSpelling h → h.kind ≡ kinds.Create
    → (ids : List Digest) × (h.target ≡ targets.Members ids) × (kind_of h ≡ Create (ids_of ids))
create_says h s e = let r = members h.target (suits h kinds.Create s e) in (r.0, r.1, at_kind h kinds.Create e ∙ r.2)

nothing_updated : (t : Target) → SuitsKind kinds.Update t → t ≡ targets.Nothing
nothing_updated (targets.Members ids) s = absurd s
nothing_updated targets.Nothing s = refl
nothing_updated (targets.Member y) s = absurd s
nothing_updated (targets.Answer o took) s = absurd s

pub update_says : (h : Header) → HasSpelling h → h.kind ≡ kinds.Update
    → (h.target ≡ targets.Nothing) × (kind_of h ≡ Update)
update_says h s e = (nothing_updated h.target (suits h kinds.Update s e), at_kind h kinds.Update e)

removed : (t : Target) → SuitsKind kinds.Remove t
    → (y : MemberId) × (t ≡ targets.Member y) × (kind_by kinds.Remove t ≡ Remove y.0.0)
removed (targets.Members ids) s = absurd s
removed targets.Nothing s = absurd s
removed (targets.Member y) s = (y, refl, refl)
removed (targets.Answer o took) s = absurd s

pub remove_says : (h : Header) → HasSpelling h → h.kind ≡ kinds.Remove
    → (y : MemberId) × (h.target ≡ targets.Member y) × (kind_of h ≡ Remove y.0.0)
remove_says h s e = let r = removed h.target (suits h kinds.Remove s e) in (r.0, r.1, at_kind h kinds.Remove e ∙ r.2)

added : (t : Target) → SuitsKind kinds.Add t
    → (y : MemberId) × (t ≡ targets.Member y) × (kind_by kinds.Add t ≡ Add y.0.0)
added (targets.Members ids) s = absurd s
added targets.Nothing s = absurd s
added (targets.Member y) s = (y, refl, refl)
added (targets.Answer o took) s = absurd s

pub add_says : (h : Header) → HasSpelling h → h.kind ≡ kinds.Add
    → (y : MemberId) × (h.target ≡ targets.Member y) × (kind_of h ≡ Add y.0.0)
add_says h s e = let r = added h.target (suits h kinds.Add s e) in (r.0, r.1, at_kind h kinds.Add e ∙ r.2)

acked : (t : Target) → SuitsKind kinds.Ack t
    → (o : MessageId) × (took : Bool) × (t ≡ targets.Answer o took) × (kind_by kinds.Ack t ≡ Ack o.0.0 took)
acked (targets.Members ids) s = absurd s
acked targets.Nothing s = absurd s
acked (targets.Member y) s = absurd s
acked (targets.Answer o took) s = (o, took, refl, refl)

pub ack_says : (h : Header) → HasSpelling h → h.kind ≡ kinds.Ack
    → (o : MessageId) × (took : Bool) × (h.target ≡ targets.Answer o took) × (kind_of h ≡ Ack o.0.0 took)
ack_says h s e = let r = acked h.target (suits h kinds.Ack s e) in (r.0, r.1, r.2, at_kind h kinds.Ack e ∙ r.3)

add_acked : (t : Target) → SuitsKind kinds.AddAck t
    → (o : MessageId) × (took : Bool) × (t ≡ targets.Answer o took) × (kind_by kinds.AddAck t ≡ AddAck o.0.0)
add_acked (targets.Members ids) s = absurd s
add_acked targets.Nothing s = absurd s
add_acked (targets.Member y) s = absurd s
add_acked (targets.Answer o took) s = (o, took, refl, refl)

pub add_ack_says : (h : Header) → HasSpelling h → h.kind ≡ kinds.AddAck
    → (o : MessageId) × (took : Bool) × (h.target ≡ targets.Answer o took) × (kind_of h ≡ AddAck o.0.0)
add_ack_says h s e =
    let r = add_acked h.target (suits h kinds.AddAck s e) in (r.0, r.1, r.2, at_kind h kinds.AddAck e ∙ r.3)

nothing_said : (t : Target) → SuitsKind kinds.Text t → t ≡ targets.Nothing
nothing_said (targets.Members ids) s = absurd s
nothing_said targets.Nothing s = refl
nothing_said (targets.Member y) s = absurd s
nothing_said (targets.Answer o took) s = absurd s

pub text_says : (h : Header) → HasSpelling h → h.kind ≡ kinds.Text → (h.target ≡ targets.Nothing) × (kind_of h ≡ Text)
text_says h s e = (nothing_said h.target (suits h kinds.Text s e), at_kind h kinds.Text e)

-- ---- ids of headers

pub id_is : (h : Header) → message_id h ≡ sha256 (spelling h)
unfolding message_id
id_is h = refl

pub one_or_collision : (a b : List ℕ) → sha256 a ≡ sha256 b → (a ≡ b) ⊎ IsCollision a b
one_or_collision a b e = elim (test (bytes_eq a b)) [
  | yes_is t ↦ inl ((bytes_eq-Decides a b).0 t)
  | no_is t ↦ inr (record { differ = λ d. let u = (bytes_eq-Decides a b).1 d in cc; one_digest = e })
]
