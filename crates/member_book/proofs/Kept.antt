-- What a message does to the kept inputs.
use Rattle.std.proofs.Common.{Bool, ◌≡◌, ◌≢◌, true, false, ◌⊎◌, inl, inr, List, [], ◌∷◌, Option, Some, None, refl, sym, ◌∙◌, ap, subst}
use Rattle.std.specs.Str.{bytes_eq}
use Rattle.std.proofs.lemmas.Slice.Eq.{bytes_eq-Decides}
use Rattle.group_model.specs.Sets.{Bytes, Id, In, here, there, has}
use Rattle.group_model.specs.Messages.{Kind, Create, Update, Remove, Add, Ack, AddAck, Text, Message, History, IsHistory}
use Rattle.group_model.specs.Membership.{IsSeeded, InView}
use Rattle.group_model.specs.Validity.{Answers}
use Rattle.group_model.specs.Settings.{Owner}
use Rattle.group_model.specs.Knowledge.{or_else, answer_by}
use Rattle.group_model.proofs.ListFacts.{yes_is, no_is, test, has-In, In-has, In-cases, In-nothing}
use Rattle.group_model.proofs.Valids.{past-older}
use Rattle.group_model.proofs.RemoveWins.{without-kept, without-both}
use Rattle.group_model.proofs.ListFacts.{same_id-true, other_id, equal_id}
use Rattle.member_book.specs.Books.{BookState, keep, spent}
use Rattle.member_book.specs.BooksAfter.{member_of, welcome_of, recipients, moved}
use Rattle.member_book.specs.Standing.{MayStill}

keep-in : (i : Id) (ids : List Id) (f : Id → Option Bytes) (b : BookState) (t : Id) → b.kept i t ≡ None → has ids t ≡ true
    → (keep i ids f b).kept i t ≡ or_else (f t) None
keep-in i ids f b t e y = rw (same_id-true i) (rw y (rw e refl))

keep-out : (i : Id) (ids : List Id) (f : Id → Option Bytes) (b : BookState) (t : Id) → b.kept i t ≡ None → has ids t ≡ false
    → (keep i ids f b).kept i t ≡ None
keep-out i ids f b t e y = rw (same_id-true i) (rw y e)

keep-named : (i : Id) (ids : List Id) (f : Id → Option Bytes) (b : BookState) (t : Id) (v : Bytes) → b.kept i t ≡ None
    → (keep i ids f b).kept i t ≡ Some v → In t ids
keep-named i ids f b t v e k = elim (test (has ids t)) [
  | yes_is y ↦ has-In ids t y
  | no_is y ↦ let d : None ≡ Some v = sym (keep-out i ids f b t e y) ∙ k in absurd (cc)
]

spent-less : (i s : Id) (b : BookState) (j t : Id) (v : Bytes) → (spent i s b).kept j t ≡ Some v → b.kept j t ≡ Some v
spent-less i s b j t v k = elim (test (bytes_eq i j)) [
  | no_is e ↦ rw e at k
  | yes_is e ↦ elim (test (bytes_eq s t)) [
    | no_is d ↦ rw d at (rw e at k)
    | yes_is d ↦ let n : None ≡ Some v = rw d at (rw e at k) in cc
  ]
]

spent-other : (i s : Id) (b : BookState) (j t : Id) → (i ≡ j → s ≡ t → ⊥) → (spent i s b).kept j t ≡ b.kept j t
spent-other i s b j t n = elim (test (bytes_eq i j)) [
  | no_is e ↦ rw e refl
  | yes_is e ↦ elim (test (bytes_eq s t)) [
    | no_is d ↦ rw e (rw d refl)
    | yes_is d ↦ absurd (n ((bytes_eq-Decides i j).0 e) ((bytes_eq-Decides s t).0 d))
  ]
]

module _ (O : Owner) where
  pub moved-kept : (k : Kind) (h : History) (m : Message) (seed forward : Option Bytes) (b : BookState) (j t : Id) → m.id ≢ j
      → ((i : Id) (took : Bool) → k ≡ Ack i took → i ≡ j → m.sender ≡ t → ⊥) → (moved O k h m seed forward b).kept j t ≡ b.kept j t
  moved-kept (Create members) h m seed forward b j t n a = rw (other_id m.id j n) refl
  moved-kept Update h m seed forward b j t n a = rw (other_id m.id j n) refl
  moved-kept (Remove y) h m seed forward b j t n a = rw (other_id m.id j n) refl
  moved-kept (Add y) h m seed forward b j t n a = rw (other_id m.id j n) refl
  moved-kept (Ack i true) h m seed forward b j t n a = spent-other i m.sender b j t (a i true refl)
  moved-kept (Ack i false) h m seed forward b j t n a = spent-other i m.sender b j t (a i false refl)
  moved-kept (AddAck i) h m seed forward b j t n a = refl
  moved-kept Text h m seed forward b j t n a = refl

  pub moved-less : (k : Kind) (h : History) (m : Message) (seed forward : Option Bytes) (b : BookState) (j t : Id) (v : Bytes) → m.id ≢ j
      → (moved O k h m seed forward b).kept j t ≡ Some v → b.kept j t ≡ Some v
  moved-less (Create members) h m seed forward b j t v n e = rw (other_id m.id j n) at e
  moved-less Update h m seed forward b j t v n e = rw (other_id m.id j n) at e
  moved-less (Remove y) h m seed forward b j t v n e = rw (other_id m.id j n) at e
  moved-less (Add y) h m seed forward b j t v n e = rw (other_id m.id j n) at e
  moved-less (Ack i true) h m seed forward b j t v n e = spent-less i m.sender b j t v e
  moved-less (Ack i false) h m seed forward b j t v n e = spent-less i m.sender b j t v e
  moved-less (AddAck i) h m seed forward b j t v n e = e
  moved-less Text h m seed forward b j t v n e = e

  -- who may answer the message that the book takes
  abbrev pub Due : Kind → History → Message → Id → Type 0
  Due k h m t = (IsSeeded k × In t (recipients O h m)) ⊎ (k ≡ Add t)

  pub moved-due : (k : Kind) (h : History) (m : Message) (seed forward : Option Bytes) (b : BookState) (t : Id) → b.kept m.id t ≡ None
      → Due k h m t → (moved O k h m seed forward b).kept m.id t ≡ answer_by O.primitives k t seed (b.ratchet m.sender) None
  moved-due (Create members) h m seed forward b t e (inl d) = keep-in m.id (recipients O h m) (λ y. member_of O seed y) b t e (In-has _ t d.1)
  moved-due (Create members) h m seed forward b t e (inr d) = absurd (cc)
  moved-due Update h m seed forward b t e (inl d) = keep-in m.id (recipients O h m) (λ y. member_of O seed y) b t e (In-has _ t d.1)
  moved-due Update h m seed forward b t e (inr d) = absurd (cc)
  moved-due (Remove y) h m seed forward b t e (inl d) = keep-in m.id (recipients O h m) (λ y. member_of O seed y) b t e (In-has _ t d.1)
  moved-due (Remove y) h m seed forward b t e (inr d) = absurd (cc)
  moved-due (Add y) h m seed forward b t e (inl d) = absurd d.0
  moved-due (Add y) h m seed forward b t e (inr d) =
      let q : y ≡ t = cc in
      keep-in m.id (y ∷ []) (λ z. welcome_of O (b.ratchet m.sender)) b t e (rw (equal_id y t q) refl)
  moved-due (Ack i took) h m seed forward b t e (inl d) = absurd d.0
  moved-due (Ack i took) h m seed forward b t e (inr d) = absurd (cc)
  moved-due (AddAck i) h m seed forward b t e (inl d) = absurd d.0
  moved-due (AddAck i) h m seed forward b t e (inr d) = absurd (cc)
  moved-due Text h m seed forward b t e (inl d) = absurd d.0
  moved-due Text h m seed forward b t e (inr d) = absurd (cc)

  pub moved-named : (k : Kind) (h : History) (m : Message) (seed forward : Option Bytes) (b : BookState) (t : Id) (v : Bytes) → b.kept m.id t ≡ None
      → (moved O k h m seed forward b).kept m.id t ≡ Some v → Due k h m t
  moved-named (Create members) h m seed forward b t v e k = inl (tt, keep-named m.id (recipients O h m) (λ y. member_of O seed y) b t v e k)
  moved-named Update h m seed forward b t v e k = inl (tt, keep-named m.id (recipients O h m) (λ y. member_of O seed y) b t v e k)
  moved-named (Remove y) h m seed forward b t v e k = inl (tt, keep-named m.id (recipients O h m) (λ y. member_of O seed y) b t v e k)
  moved-named (Add y) h m seed forward b t v e k = inr (elim (In-cases (keep-named m.id (y ∷ []) (λ z. welcome_of O (b.ratchet m.sender)) b t v e k)) [
    | inl d ↦ ap (λ z. Add z) (sym d)
    | inr j ↦ absurd (In-nothing j)
  ])
  moved-named (Ack i true) h m seed forward b t v e k =
      let q : b.kept m.id t ≡ Some v = spent-less i m.sender b m.id t v k in let d : None ≡ Some v = sym e ∙ q in absurd (cc)
  moved-named (Ack i false) h m seed forward b t v e k =
      let q : b.kept m.id t ≡ Some v = spent-less i m.sender b m.id t v k in let d : None ≡ Some v = sym e ∙ q in absurd (cc)
  moved-named (AddAck i) h m seed forward b t v e k = let d : None ≡ Some v = sym e ∙ k in absurd (cc)
  moved-named Text h m seed forward b t v e k = let d : None ≡ Some v = sym e ∙ k in absurd (cc)

  -- what an ack answers is kept no more
  pub moved-spent : (took : Bool) (k : Kind) (h : History) (m : Message) (seed forward : Option Bytes) (b : BookState) (i : Id)
      → k ≡ Ack i took → (moved O k h m seed forward b).kept i m.sender ≡ None
  moved-spent true k h m seed forward b i e = subst (λ z. (moved O z h m seed forward b).kept i m.sender ≡ None) (sym e)
      (rw (same_id-true i) (rw (same_id-true m.sender) refl))
  moved-spent false k h m seed forward b i e = subst (λ z. (moved O z h m seed forward b).kept i m.sender ≡ None) (sym e)
      (rw (same_id-true i) (rw (same_id-true m.sender) refl))

  -- who may answer m over the history with it, is one whose input is kept
  pub still-due : (h : History) (m : Message) (s : Id) → IsHistory (m ∷ h) → MayStill O.rule (m ∷ h) m.id s → Due m.kind (m ∷ h) m s
  still-due h m s g y = elim (In-cases y.there_is) [
    | inr j ↦ absurd (g.1 (record { by = y.operation; there_is = j; has_id = y.has_id }))
    | inl e ↦ elim y.suits [
      | inr a ↦ inr (subst (λ (z : Message). z.kind ≡ Add s) e a)
      | inl a ↦ inl (
        subst (λ (z : Message). IsSeeded z.kind) e a.0,
        without-kept _ (m.sender ∷ []) (subst (λ z. InView O.rule (m ∷ h) z s) e a.1)
            (λ i. elim (In-cases i) [ inl d ↦ subst (λ (z : Message). s ≢ z.sender) e a.2 d | inr j ↦ In-nothing j ]),
      )
    ]
  ]

  -- who may answer an older operation, could before
  pub still-older : (h : History) (m : Message) (i s : Id) → IsHistory (m ∷ h) → m.id ≢ i → MayStill O.rule (m ∷ h) i s → MayStill O.rule h i s
  still-older h m i s g n y = elim (In-cases y.there_is) [
    | inl e ↦ absurd (n (ap (λ (z : Message). z.id) (sym e) ∙ y.has_id))
    | inr j ↦ record {
      operation = y.operation;
      there_is = j;
      has_id = y.has_id;
      suits = elim y.suits [
        | inr a ↦ inr a
        | inl a ↦ inl (a.0, subst (λ z. In s (O.rule (y.operation ∷ z))) (past-older m h g j) a.1, a.2)
      ];
      unacked = λ a took k. y.unacked a took (there k);
    }
  ]

  -- who may take the input of m
  pub due-still : (h : History) (m : Message) (s : Id) → ((a : Message) → In a h → Answers a.kind m.id → ⊥) → Due m.kind (m ∷ h) m s
      → MayStill O.rule (m ∷ h) m.id s
  due-still h m s new d = record {
    operation = m;
    there_is = here;
    has_id = refl;
    suits = elim d [
      | inr e ↦ inr e
      | inl c ↦ (let r = without-both _ (m.sender ∷ []) c.1 in
          inl (c.0, r.0, λ q. r.1 (subst (λ z. In z (m.sender ∷ [])) (sym q) here)))
    ];
    unacked = λ a took i q e. elim (In-cases i) [
      | inr j ↦ new a j (subst (λ z. Answers z m.id) (sym e) refl)
      | inl r ↦ not_itself m.kind took d (subst (λ (z : Message). z.kind ≡ Ack m.id took) r e)
    ];
  }
    where
      not_itself : (k : Kind) (took : Bool) → Due k (m ∷ h) m s → k ≡ Ack m.id took → ⊥
      not_itself k took (inl c) e = subst IsSeeded e c.0
      not_itself k took (inr c) e = let q : Add s ≡ Ack m.id took = sym c ∙ e in cc

  -- and of an older operation, where m does not take it
  pub older-still : (h : History) (m : Message) (i s : Id) → IsHistory (m ∷ h) → ((took : Bool) → m.sender ≡ s → m.kind ≡ Ack i took → ⊥) → MayStill O.rule h i s
      → MayStill O.rule (m ∷ h) i s
  older-still h m i s g n y = record {
    operation = y.operation;
    there_is = there y.there_is;
    has_id = y.has_id;
    suits = elim y.suits [
      | inr a ↦ inr a
      | inl a ↦ inl (a.0, subst (λ z. In s (O.rule (y.operation ∷ z))) (sym (past-older m h g y.there_is)) a.1, a.2)
    ];
    unacked = λ a took j q e. elim (In-cases j) [
      | inr r ↦ y.unacked a took r q e
      | inl r ↦ n took (subst (λ (z : Message). z.sender ≡ s) r q) (subst (λ (z : Message). z.kind ≡ Ack i took) r e)
    ];
  }
