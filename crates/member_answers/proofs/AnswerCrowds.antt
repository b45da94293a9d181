-- Whom the answer to a message has a part for that stands before all others of the history.
use Rattle.std.proofs.Common.{◌≡◌, ◌≢◌, ℕ, Bool, true, false, not, ◌&&◌, List, ◌∷◌, ◌∙◌, refl, sym, subst}
use Rattle.group_model.specs.Sets.{Id, In, here}
use Rattle.group_model.specs.Messages.{Kind, Ack, AddAck, Add, Message, History, IsHistory}
use Rattle.group_model.specs.Membership.{InView, IsAddressee, IsForwardedTo, IsHandedTo, IsMembershipRule, IsSeeded, ids_named}
use Rattle.group_model.specs.Marks.{IsCrowd}
use Rattle.group_model.proofs.RemoveWins.{ids_named-distinct}
use Rattle.group_model.proofs.Valids.{past-self}
use Rattle.causal_cast.proofs.CrowdSets.{crowd-by, crowd-none, crowd-only}
use Rattle.causal_cast.proofs.Forwards.{forward-none, handed-crowd, left_out-crowd, places-of_answer, places-of_row}
use Rattle.causal_cast.proofs.OverItself.{addressee-in, addressee-out}
use Rattle.forwarding.specs.Answers.{IsAnswerOf}
use Rattle.forwarding.proofs.Answers.{seen-by_member, member-sees}
use Rattle.member_answers.specs.Plans.{IsAnswerCrowd}
use Rattle.member_answers.proofs.AnswerKinds.{answered-ack, answered-add_ack}

module _ (rule : History → List Id) (is_rule : IsMembershipRule rule) (before : History) (o : Message)
    (g : IsHistory (o ∷ before)) where
  abbrev h : History
  h = o ∷ before

  -- the operation is seen by the same over the history with itself
  seen-within : (y : Id) → InView rule before o y → InView rule h o y
  seen-within y v = subst (λ z. In y (rule (o ∷ z))) (sym (past-self o before g)) v

  seen-before : (y : Id) → InView rule h o y → InView rule before o y
  seen-before y v = subst (λ z. In y (rule (o ∷ z))) (past-self o before g) v

  module _ (place : ℕ) (m : Message) (k : IsAnswerOf h place m) where
    named : ids_named (m ∷ h) ≡ ids_named h
    named = places-of_answer h m k.moves_nobody

    with_answer : (bits : ℕ → Bool) (P : Id → Type 0) → IsCrowd (ids_named h) bits P → IsCrowd (ids_named (m ∷ h)) bits P
    with_answer bits P x = subst (λ z. IsCrowd z bits P) (sym named) x

    -- the answer is seen by the members
    seen : (now : ℕ → Bool) → IsCrowd (ids_named h) now (λ y. In y (rule h))
        → IsCrowd (ids_named h) now (λ y. InView rule h m y)
    seen now x = crowd-by (ids_named h) now (λ y. In y (rule h)) (λ y. InView rule h m y) x
        (seen-by_member h m k rule is_rule) (member-sees h m k rule is_rule)

    pub forwards : IsSeeded o.kind → (now met first own new others last : ℕ → Bool)
        → IsCrowd (ids_named h) now (λ y. In y (rule h))
        → IsCrowd (ids_named h) met (λ y. InView rule before o y)
        → IsCrowd (ids_named h) first (λ y. o.sender ≡ y)
        → own place ≡ true → ((p : ℕ) → p ≢ place → own p ≡ false)
        → ((p : ℕ) → new p ≡ (now p && not (met p))) → ((p : ℕ) → others p ≡ (new p && not (first p)))
        → ((p : ℕ) → last p ≡ (others p && not (own p)))
        → IsCrowd (ids_named h) last (λ y. IsForwardedTo rule h o.id m y)
    forwards seeded now met first own new others last n s f set unset e d c =
        let met_here = crowd-by (ids_named h) met (λ y. InView rule before o y) (λ y. InView rule h o y) s
        seen-within seen-before in
        let own_here = crowd-only (ids_named h) own place m.sender (ids_named-distinct h) k.sender set unset in
        subst (λ z. IsCrowd z last (λ y. IsForwardedTo rule h o.id m y)) named
        (left_out-crowd rule h m o g k.moves_nobody here seeded now met first own new others last
        (with_answer now (λ y. InView rule h m y) (seen now n))
        (subst (λ z. IsCrowd z met (λ y. InView rule h o y)) (sym (places-of_row h o here)) met_here)
        (with_answer first (λ y. o.sender ≡ y) f) (with_answer own (λ y. m.sender ≡ y) own_here) e d c)

    pub hands : (x : Id) → o.kind ≡ Add x → (now added last : ℕ → Bool)
        → IsCrowd (ids_named h) now (λ y. In y (rule h)) → IsCrowd (ids_named h) added (λ y. x ≡ y)
        → ((p : ℕ) → last p ≡ (now p && added p)) → IsCrowd (ids_named h) last (λ y. IsHandedTo rule h o.id m y)
    hands x adds now added last n a e =
        handed-crowd rule h m o o.id x g here refl adds (ids_named h) now added last (seen now n) a e

    -- a crowd by the kind of the answer, over the history without it
    by_kind : (bits : ℕ → Bool) (kind : Kind) → m.kind ≡ kind
        → IsCrowd (ids_named h) bits (λ y. IsAddressee rule h m kind y)
        → IsCrowd (ids_named h) bits (λ y. IsAddressee rule (m ∷ h) m m.kind y)
    by_kind bits kind e x = crowd-by (ids_named h) bits (λ y. IsAddressee rule h m kind y)
        (λ y. IsAddressee rule (m ∷ h) m m.kind y) x
        (λ y a. addressee-in rule h m k.history m.kind y (subst (λ z. IsAddressee rule h m z y) (sym e) a))
        (λ y a. subst (λ z. IsAddressee rule h m z y) e (addressee-out rule h m k.history m.kind refl y a))

    -- an ack that took nothing, or answers what sends no seed, is for nobody
    refused : (bits : ℕ → Bool) (took : Bool) → ((p : ℕ) → bits p ≡ false) → (took ≡ true → IsSeeded o.kind → ⊥)
        → IsCrowd (ids_named h) bits (λ y. IsAddressee rule h m (Ack o.id took) y)
    refused bits true none n = crowd-none (ids_named h) bits (λ y. IsForwardedTo rule h o.id m y) none
        (λ y i f. forward-none rule h m o g o.id here refl (n refl) y f)
    refused bits false none n = crowd-none (ids_named h) bits (λ y. ⊥) none (λ y i f. f)

  pub crowd-forwarded : (place : ℕ) (me : Id) (bits : ℕ → Bool) → IsSeeded o.kind
      → ((m : Message) → IsAnswerOf h place m → IsCrowd (ids_named h) bits (λ y. IsForwardedTo rule h o.id m y))
      → IsAnswerCrowd rule h place me o true bits
  crowd-forwarded place me bits seeded x = λ m k e.
      by_kind place m k bits (Ack o.id true)
      (e ∙ answered-ack me o true (λ y adds. absurd (subst IsSeeded adds seeded))) (x m k)

  pub crowd-handed : (place : ℕ) (me : Id) (took : Bool) (bits : ℕ → Bool) (x : Id) → o.kind ≡ Add x → x ≢ me
      → ((m : Message) → IsAnswerOf h place m → IsCrowd (ids_named h) bits (λ y. IsHandedTo rule h o.id m y))
      → IsAnswerCrowd rule h place me o took bits
  crowd-handed place me took bits x adds other c = λ m k e.
      by_kind place m k bits (AddAck o.id) (e ∙ answered-add_ack me o took x adds other) (c m k)

  pub crowd-nobody : (place : ℕ) (me : Id) (took : Bool) (bits : ℕ → Bool) → ((p : ℕ) → bits p ≡ false)
      → ((y : Id) → o.kind ≡ Add y → y ≡ me) → (took ≡ true → IsSeeded o.kind → ⊥)
      → IsAnswerCrowd rule h place me o took bits
  crowd-nobody place me took bits none own n = λ m k e.
      by_kind place m k bits (Ack o.id took) (e ∙ answered-ack me o took own) (refused place m k bits took none n)
