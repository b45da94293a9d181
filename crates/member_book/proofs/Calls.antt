-- The calls of a step make the book after its entry.
use Rattle.std.proofs.Common.{◌≡◌, true, false, ◌∷◌, Option, Some, None, refl, sym, ◌∙◌, ap, subst, cond}
use Rattle.std.specs.Str.{bytes_eq}
use Rattle.std.proofs.lemmas.Slice.Eq.{bytes_eq-Decides}
use Rattle.group_model.specs.Sets.{Bytes, Id, has}
use Rattle.group_model.specs.Messages.{Kind, Create, Update, Remove, Add, Ack, AddAck, Text, Message, History}
use Rattle.group_model.specs.KeyTerms.{seed_of}
use Rattle.group_model.specs.Pairing.{Part, draws}
use Rattle.group_model.specs.Settings.{Owner}
use Rattle.group_model.specs.Logs.{Joined, Took, Made}
use Rattle.group_model.specs.Packets.{part_for}
use Rattle.group_model.specs.Knowledge.{with_draws, sent_part, handed_by}
use Rattle.group_model.proofs.ListFacts.{yes_is, no_is, test, has-In, In-has}
use Rattle.group_model.proofs.Parts.{gives, gives_none, present, part_for-made, part_for-each}
use Rattle.member_book.specs.Books.{BookState, put, hand, step, spent, open_from, sealed_to, welcomed}
use Rattle.member_book.specs.BooksAfter.{moved, acked}
use Rattle.member_book.specs.Calls.{sends_each, opens_to, take, CallsMake, SendsEach, SpendFirst}
use Rattle.member_book.proofs.Logs.{or_else-none}
use Rattle.member_book.proofs.OfOwner.{part_sent}

put-idle : {A : Type 0} (f : Id → A) (s t : Id) → put f s (f s) t ≡ f t
put-idle f s t = elim (test (bytes_eq s t)) [
  | yes_is e ↦ rw e (ap f ((bytes_eq-Decides s t).0 e))
  | no_is e ↦ rw e refl
]

hand-none : (s : Id) (b : BookState) → hand s None b ≡ b
hand-none s b = λ i. record b { ratchet = λ t. put-idle b.ratchet s t i }

module _ (O : Owner) where
  open-none : (s : Id) (b : BookState) → open_from O.primitives O.card s None b ≡ b
  open-none s b = λ i. record b { events = λ t. put-idle b.events s t i }

  -- what a message that is taken does, by its kind
  taken : (k : Kind) (h : History) (m : Message) (part : Option Part) (b : BookState) → (k ≡ Text → part ≡ None)
      → moved O k (m ∷ h) m (opens_to O m part b) (opens_to O m part b)
      (hand m.sender (handed_by O.id k (opens_to O m part b)) (open_from O.primitives O.card m.sender part b))
      ≡ take O k h m part None b
  taken (Create members) h m part b n =
      ap (λ z. moved O Update (m ∷ h) m (opens_to O m part b) None z) (hand-none m.sender (open_from O.primitives O.card m.sender part b))
  taken Update h m part b n =
      ap (λ z. moved O Update (m ∷ h) m (opens_to O m part b) None z) (hand-none m.sender (open_from O.primitives O.card m.sender part b))
  taken (Remove y) h m part b n =
      ap (λ z. moved O Update (m ∷ h) m (opens_to O m part b) None z) (hand-none m.sender (open_from O.primitives O.card m.sender part b))
  taken (Add y) h m part b n = refl
  taken (Ack i true) h m part b n =
      ap (λ z. acked O i m.sender (opens_to O m part b) z) (hand-none m.sender (open_from O.primitives O.card m.sender part b))
  taken (Ack i false) h m part b n = ap (λ z. spent i m.sender z) (hand-none m.sender (open_from O.primitives O.card m.sender part b))
  taken (AddAck i) h m part b n = refl
  taken Text h m part b n =
      ap (λ z. moved O Text (m ∷ h) m None None z) (hand-none m.sender (open_from O.primitives O.card m.sender part b)
      ∙ ap (λ z. open_from O.primitives O.card m.sender z b) (n refl) ∙ open-none m.sender b)

  joins : (k : Kind) (y : Id) → k ≡ Add y → (h : History) (m : Message) (part : Option Part) (b : BookState)
      → moved O k (m ∷ h) m None None (hand m.sender (handed_by O.id k (opens_to O m part b)) (open_from O.primitives O.card m.sender part b))
      ≡ take O k h m part None b
  joins k y e h m part b = subst (λ z. moved O z (m ∷ h) m None None
      (hand m.sender (handed_by O.id z (opens_to O m part b)) (open_from O.primitives O.card m.sender part b))
      ≡ take O z h m part None b) (sym e) refl

  cond-none : (y : Id) (o : Option Bytes) → o ≡ None → cond (bytes_eq y O.id) o None ≡ None
  cond-none y o n = elim (test (bytes_eq y O.id)) [ yes_is e ↦ rw e n | no_is e ↦ rw e refl ]

  made : (k : Kind) (h : History) (m : Message) (seed : Bytes) (b : BookState)
      → moved O k (m ∷ h) m (Some seed) None b ≡ take O k h m None (Some seed) b
  made (Create members) h m seed b = ap (λ z. moved O Update (m ∷ h) m (Some seed) None z) (sym (open-none m.sender b))
  made Update h m seed b = ap (λ z. moved O Update (m ∷ h) m (Some seed) None z) (sym (open-none m.sender b))
  made (Remove y) h m seed b = ap (λ z. moved O Update (m ∷ h) m (Some seed) None z) (sym (open-none m.sender b))
  made (Add y) h m seed b = ap (λ z. moved O (Add y) (m ∷ h) m None None z)
      (sym (ap (λ z. hand m.sender z (open_from O.primitives O.card m.sender None b)) (cond-none y None refl)
      ∙ hand-none m.sender (open_from O.primitives O.card m.sender None b) ∙ open-none m.sender b))
  made (Ack i true) h m seed b = ap (λ z. acked O i m.sender None z) (sym (open-none m.sender b))
  made (Ack i false) h m seed b = ap (λ z. spent i m.sender z) (sym (open-none m.sender b))
  made (AddAck i) h m seed b = ap (λ z. moved O (AddAck i) (m ∷ h) m None None z)
      (sym (hand-none m.sender (open_from O.primitives O.card m.sender None b) ∙ open-none m.sender b))
  made Text h m seed b = refl

pub calls_make : CallsMake
calls_make O h (Joined p) b n j =
    joins O p.header.kind O.id (j p refl) p.rows p.header (part_for p.parts O.id) (welcomed O.primitives p.rows b)
calls_make O h (Took p) b n j = taken O p.header.kind h p.header (part_for p.parts O.id) b (n p refl)
calls_make O h (Made p t) b n j = made O p.header.kind h p.header (seed_of O.primitives t.random) (sealed_to O.primitives t p.parts b)

pub sends_each_same : SendsEach
sends_each_same O l p t b k = λ i. record b { events = λ y. at y i }
  where
    at : (y : Id) → sent_part O.primitives y t (part_for p.parts y) (b.events y)
        ≡ cond (has k.addressees y) (with_draws (draws O.primitives t.random y) (b.events y)) (b.events y)
    at y = elim (test (has k.addressees y)) [
      | yes_is e ↦ (let r = part_for-each (part_sent O l t p.header.kind) k.addressees p.parts k.parts y (has-In k.addressees y e) in
          rw e (rw r.2 refl))
      | no_is e ↦ elim (present (part_for p.parts y)) [
        | gives_none d ↦ rw e (rw d refl)
        | gives q d ↦ (let r = part_for-made (part_sent O l t p.header.kind) k.addressees p.parts k.parts y q d in
            let c : has k.addressees y ≡ true = In-has k.addressees y r.0 in absurd (cc))
      ]
    ]

pub spend_first : SpendFirst
spend_first O i s t ids b = ap (λ z. step O.primitives s z (sends_each O t.random ids (spent i s b))) (or_else-none (b.kept i s))
