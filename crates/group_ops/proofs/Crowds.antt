-- Whom an operation sends parts to, by the places of its recipients.
use Rattle.std.proofs.Common.{◌≡◌, ◌∙◌, ℕ, ◌+◌, ◌<◌, ◌≤◌, Bool, true, false, inl, inr, cond, List, [], ◌∷◌, ◌++◌, length, refl, ap, sym, subst, arith, length-append, append_assoc}
use Rattle.std.proofs.lemmas.List.{append-nil}
use Rattle.std.proofs.lemmas.Option.{get_or_from_slice_get, slice_get-get_or}
use Rattle.group_fields.specs.declared.ids.Digest.{Digest}
use Rattle.group_messages.specs.Messages.{ids_of}
use Rattle.group_model.specs.Sets.{Id, In, here, there, has, IsDistinct}
use Rattle.group_model.specs.Marks.{IsCrowd, IsPlace}
use Rattle.group_model.specs.Messages.{Kind, Create, Update, Remove, Add, Ack, AddAck, Text, Message, History, IsHistory, Stands, with_past}
use Rattle.group_model.specs.Membership.{IsMembershipRule, IsRecipient, IsSeeded, ids_named, joined, named_by, with_id, without}
use Rattle.group_model.proofs.ListFacts.{has-In, In-cases, In-either, yes_is, no_is, test}
use Rattle.group_model.proofs.Places.{in-place}
use Rattle.group_model.proofs.RemoveWins.{without-both, without-kept}
use Rattle.group_model.proofs.Valids.{past-self}
use Rattle.member_book.specs.Places.{id_at}
use Rattle.member_view.specs.Crowds.{StandsWell}
use Rattle.member_view.proofs.KindLaws.{view-named}
use Rattle.group_ops.specs.Answers.{NamesAtFirst, OpensGroup}
use Rattle.group_ops.specs.Taking.{IsAck}
use Rattle.group_ops.proofs.KeptAnswers.{crowd_ids, crowd-at, crowd-only}

-- ---- places

pub id-at-place : (ids : List Id) (p : ℕ) (x : Id) → IsPlace ids p x → id_at ids p ≡ x
id-at-place ids p x e = get_or_from_slice_get ids p x [] e

pub place-at : (ids : List Id) (p : ℕ) → p < length ids → IsPlace ids p (id_at ids p)
place-at ids p l = slice_get-get_or ids p [] l

one-more : (ids : List Id) (i : Id) (t : Bool) → length (cond t ids (ids ++ i ∷ [])) ≤ length ids + 1
one-more ids i true = omega arith
one-more ids i false = let e = length-append ids (i ∷ []) in omega (arith, e)

pub joined-few : (ids more : List Id) → length (joined ids more) ≤ length ids + length more
joined-few ids [] = omega arith
joined-few ids (i ∷ more) =
    let l = joined-few (with_id ids i) more in let k = one-more ids i (has ids i) in omega (arith, l, k)

-- an ack names nobody
pub ack-names : (h : History) (m : Message) → IsAck m.kind → ids_named (m ∷ h) ≡ ids_named h
ack-names h m ack = of m.kind ack
  where
    of : (k : Kind) → IsAck k → joined (ids_named h) (named_by k) ≡ ids_named h
    of (Create members) a = absurd a
    of Update a = absurd a
    of (Remove y) a = absurd a
    of (Add y) a = absurd a
    of (Ack o took) a = refl
    of (AddAck o) a = absurd a
    of Text a = absurd a

-- an operation that is new names members over the empty history alone
pub names-first : (h : History) (m : Message) → IsSeeded m.kind → StandsWell h m m.kind → (Stands h m.id → ⊥) → NamesAtFirst h m
names-first h m seeded create new = of m.kind refl seeded create
  where
    of : (k : Kind) → m.kind ≡ k → IsSeeded k → StandsWell h m k → NamesAtFirst h m
    of (Create members) e s (inl first) = inr (record { first = first; members = members; creates = e })
    of (Create members) e s (inr row) = absurd (new (record { by = m; there_is = row; has_id = refl }))
    of Update e s c = inl (ap named_by e)
    of (Remove y) e s c = inl (ap named_by e)
    of (Add y) e s c = absurd s
    of (Ack o took) e s c = absurd s
    of (AddAck o) e s c = absurd s
    of Text e s c = absurd s

-- ---- the ids of a create

pub joined-new : (ids more : List Id) → IsDistinct more → ((x : Id) → In x more → In x ids → ⊥) → joined ids more ≡ ids ++ more
joined-new ids [] d apart = sym (append-nil ids)
joined-new ids (i ∷ more) d apart = elim (test (has ids i)) [
  | yes_is e ↦ absurd (apart i here (has-In ids i e))
  | no_is e ↦ rw e (joined-new (ids ++ i ∷ []) more d.1 (λ x j k. elim (In-either ids k) [
    | inl a ↦ apart x (there j) a
    | inr b ↦ elim (In-cases b) [ inl same ↦ d.0 (subst (λ (z : Id). In z more) same j) | inr none ↦ elim none [ ] ]
  ]) ∙ append_assoc ids (i ∷ []) more)
]

pub created-ids : (h : History) (m : Message) → OpensGroup h m → IsDistinct (named_by m.kind) → ids_named (m ∷ h) ≡ named_by m.kind
created-ids h m opens distinct = ap (λ (z : History). joined (ids_named z) (named_by m.kind)) opens.first
    ∙ joined-new [] (named_by m.kind) distinct (λ x i none. elim none [ ])

-- who has a place behind those of the history is named by a create
pub behind-named : (h : History) (m : Message) (p : ℕ) → NamesAtFirst h m → p < length (ids_named (m ∷ h))
    → (p < length (ids_named h) → ⊥) → OpensGroup h m
behind-named h m p (inl none) within behind =
    absurd (behind (subst (λ (z : List Id). p < length (joined (ids_named h) z)) none within))
behind-named h m p (inr opens) within behind = opens

pub created-place : (h : History) (m : Message) (p : ℕ) (ids : List Digest) → NamesAtFirst h m → IsDistinct (named_by m.kind)
    → p < length (ids_named (m ∷ h)) → (p < length (ids_named h) → ⊥) → Create (ids_of ids) ≡ m.kind
    → ids_named (m ∷ h) ≡ ids_of ids
created-place h m p ids names distinct within behind is =
    created-ids h m (behind-named h m p names within behind) distinct ∙ ap named_by (sym is)

-- ---- recipients

module _ (rule : History → List Id) (is_rule : IsMembershipRule rule) (h : History) (m : Message) (g : IsHistory (m ∷ h)) (bits : ℕ → Bool)
    (crowd : IsCrowd (ids_named (m ∷ h)) bits (λ y. IsRecipient rule h m y)) where
  abbrev ids : List Id
  ids = ids_named (m ∷ h)

  pub crowd-received : (n : ℕ) (t : Id) → In t (crowd_ids ids bits n) → In t (without (rule (with_past (m ∷ h) m)) (m.sender ∷ []))
  crowd-received n t i =
      let k = crowd-only ids bits n t i in
      let r = subst (λ (y : Id). IsRecipient rule h m y) k.is
      ((crowd.each k.place (id_at ids k.place) (place-at ids k.place (crowd.within k.place k.among))).0 k.among) in
      without-kept (rule (with_past (m ∷ h) m)) (m.sender ∷ [])
      (subst (λ (z : History). In t (rule (m ∷ z))) (sym (past-self m h g)) r.in_view)
      (λ j. elim (In-cases j) [ inl e ↦ r.other e | inr none ↦ elim none [ ] ])

  pub received-crowd : (n : ℕ) (t : Id) → length ids ≤ n → In t (without (rule (with_past (m ∷ h) m)) (m.sender ∷ [])) → In t (crowd_ids ids bits n)
  received-crowd n t few i =
      let both = without-both (rule (with_past (m ∷ h) m)) (m.sender ∷ []) i in
      let view = subst (λ (z : History). In t (rule (m ∷ z))) (past-self m h g) both.0 in
      let at = in-place ids t (view-named rule is_rule h m t view) in
      let bit : bits at.0 ≡ true = (crowd.each at.0 t at.1).1 (record {
        in_view = view;
        other = λ e. both.1 (subst (λ (z : Id). In t (z ∷ [])) e here);
      }) in
      subst (λ (y : Id). In y (crowd_ids ids bits n)) (id-at-place ids at.0 t at.1)
      (crowd-at ids bits n at.0 (let l = crowd.within at.0 bit in omega (arith, l, few)) bit)
