-- Whom an ack forwards to, and whom an add-ack hands the ratchet to, once the operation is found.
use Rattle.std.proofs.Common.{◌≡◌, ℕ, Bool, not, ◌&&◌, inr, List, [], ◌∷◌, refl, sym, ◌∙◌, ap, subst}
use Rattle.group_model.specs.Sets.{Id, In}
use Rattle.group_model.specs.Messages.{Kind, Create, Update, Remove, Add, Ack, AddAck, Text, Message, History, Stands}
use Rattle.group_model.specs.Messages.{IsHistory}
use Rattle.group_model.specs.Membership.{InView, IsSeeded, IsForwardedTo, IsHandedTo}
use Rattle.group_model.specs.Membership.{with_id}
use Rattle.group_model.specs.Membership.{joined, ids_named, named_by, MovesNobody}
use Rattle.group_model.specs.Marks.{IsCrowd}
use Rattle.member_view.specs.Crowds.{StandsWell}
use Rattle.causal_cast.proofs.CrowdSets.{crowd-both, crowd-by, crowd-without}
use Rattle.group_model.proofs.ListFacts.{In-has}
use Rattle.group_model.specs.Sets.{here, there}
use Rattle.group_model.proofs.Pasts.{same-message}
use Rattle.group_model.proofs.RemoveWins.{Named-ids_named, In-Names}

-- ids that are there already add nothing
joined-inside : (ids others : List Id) → ((x : Id) → In x others → In x ids) → joined ids others ≡ ids
joined-inside ids [] inside = refl
joined-inside ids (i ∷ others) inside =
    let e : with_id ids i ≡ ids = rw (In-has ids i (inside i here)) refl in
    subst (λ z. joined z others ≡ ids) (sym e) (joined-inside ids others (λ x k. inside x (there k)))

-- a message of the history has its places there
pub places-of_row : (h : History) (o : Message) → In o h → ids_named (o ∷ h) ≡ ids_named h
places-of_row h o i =
    joined-inside (ids_named h) (named_by o.kind)
    (λ x k. Named-ids_named h x (record { by = o; there_is = i; names = In-Names o.kind x k }))

module _ (rule : History → List Id) (h : History) (m o : Message) (g : IsHistory h) (i : Id) (there_is : In o h)
    (has_id : o.id ≡ i) where
  same : (a : Message) → In a h → a.id ≡ i → a ≡ o
  same a k e = same-message h g k there_is (e ∙ sym has_id)

  -- who sees the ack and not the operation, and is neither's sender
  abbrev pub IsLeft : Id → Type 0
  IsLeft y = ((InView rule h m y × (InView rule h o y → ⊥)) × (o.sender ≡ y → ⊥)) × (m.sender ≡ y → ⊥)

  pub forward-to : IsSeeded o.kind → (y : Id) → IsLeft y → IsForwardedTo rule h i m y
  forward-to s y k = record {
    operation = o;
    there_is = there_is;
    has_id = has_id;
    seeded = s;
    in_view = k.0.0.0;
    no_recipient = λ r. k.0.0.1 r.in_view;
    not_its_sender = λ e. k.0.1 (sym e);
    other = λ e. k.1 (sym e);
  }

  pub forward-from : (y : Id) → IsForwardedTo rule h i m y → IsLeft y
  forward-from y f = (((f.in_view, unseen), sender), λ e. f.other (sym e))
    where
      e : f.operation ≡ o
      e = same f.operation f.there_is f.has_id

      sender : o.sender ≡ y → ⊥
      sender d = f.not_its_sender (sym d ∙ sym (ap (λ (z : Message). z.sender) e))

      unseen : InView rule h o y → ⊥
      unseen v =
          f.no_recipient
          (record { in_view = subst (λ z. InView rule h z y) (sym e) v; other = f.not_its_sender })

  pub forward-none : (IsSeeded o.kind → ⊥) → (y : Id) → IsForwardedTo rule h i m y → ⊥
  forward-none n y f = n (subst (λ (z : Message). IsSeeded z.kind) (same f.operation f.there_is f.has_id) f.seeded)

  pub hand-to : (x : Id) → o.kind ≡ Add x → (y : Id) → InView rule h m y × (x ≡ y) → IsHandedTo rule h i m y
  hand-to x e y k = record {
    operation = o;
    there_is = there_is;
    has_id = has_id;
    adds = e ∙ ap Add k.1;
    in_view = k.0;
  }

  pub hand-from : (x : Id) → o.kind ≡ Add x → (y : Id) → IsHandedTo rule h i m y → InView rule h m y × (x ≡ y)
  hand-from x e y f =
      let kinds = ap (λ (z : Message). z.kind) (same f.operation f.there_is f.has_id) in
      let d : Add x ≡ Add y = sym e ∙ sym kinds ∙ f.adds in
      (f.in_view, cc)

  pub hand-none : ((x : Id) → o.kind ≡ Add x → ⊥) → (y : Id) → IsHandedTo rule h i m y → ⊥
  hand-none n y f = n y (sym (ap (λ (z : Message). z.kind) (same f.operation f.there_is f.has_id)) ∙ f.adds)

-- a message that moves nobody has the places of its history
pub places-of_answer : (h : History) (m : Message) → MovesNobody m.kind → ids_named (m ∷ h) ≡ ids_named h
places-of_answer h m n =
    joined-inside (ids_named h) (named_by m.kind) (λ x k. absurd (n.names_nobody x (In-Names m.kind x k)))

-- a message of the history may be asked about
pub stands-well : (h : History) (m : Message) → In m h → (k : Kind) → StandsWell h m k
stands-well h m i (Create members) = inr i
stands-well h m i Update = tt
stands-well h m i (Remove y) = tt
stands-well h m i (Add y) = tt
stands-well h m i (Ack o took) = tt
stands-well h m i (AddAck o) = tt
stands-well h m i Text = tt

-- kinds that answer move nobody
pub ack-moves_nobody : (k : Kind) (i : Id) (took : Bool) → Ack i took ≡ k → MovesNobody k
ack-moves_nobody k i took e =
    subst MovesNobody e (record { names_nobody = λ y n. n; removes_nobody = λ y n. n })

pub add_ack-moves_nobody : (k : Kind) (i : Id) → AddAck i ≡ k → MovesNobody k
add_ack-moves_nobody k i e =
    subst MovesNobody e (record { names_nobody = λ y n. n; removes_nobody = λ y n. n })

-- where no message has the id nobody gets a part
pub forward-missing : (rule : History → List Id) (h : History) (m : Message) (i : Id) → (Stands h i → ⊥) → (y : Id)
    → IsForwardedTo rule h i m y → ⊥
forward-missing rule h m i n y f = n (record { by = f.operation; there_is = f.there_is; has_id = f.has_id })

pub hand-missing : (rule : History → List Id) (h : History) (m : Message) (i : Id) → (Stands h i → ⊥) → (y : Id)
    → IsHandedTo rule h i m y → ⊥
hand-missing rule h m i n y f = n (record { by = f.operation; there_is = f.there_is; has_id = f.has_id })

-- a crowd by the places of another list that is the same
crowd-there : (ids others : List Id) (c : ℕ → Bool) (P : Id → Type 0) → others ≡ ids → IsCrowd others c P
    → IsCrowd ids c P
crowd-there ids others c P e x = subst (λ z. IsCrowd z c P) e x

-- the crowd of those that an ack forwards to
pub left_out-crowd : (rule : History → List Id) (h : History) (m o : Message) → IsHistory h → MovesNobody m.kind
    → In o h → IsSeeded o.kind → (seen before first own new others last : ℕ → Bool)
    → IsCrowd (ids_named (m ∷ h)) seen (λ y. InView rule h m y)
    → IsCrowd (ids_named (o ∷ h)) before (λ y. InView rule h o y)
    → IsCrowd (ids_named (m ∷ h)) first (λ y. o.sender ≡ y)
    → IsCrowd (ids_named (m ∷ h)) own (λ y. m.sender ≡ y)
    → ((p : ℕ) → new p ≡ (seen p && not (before p))) → ((p : ℕ) → others p ≡ (new p && not (first p)))
    → ((p : ℕ) → last p ≡ (others p && not (own p)))
    → IsCrowd (ids_named (m ∷ h)) last (λ y. IsForwardedTo rule h o.id m y)
left_out-crowd rule h m o g nobody i seeded seen before first own new others last s b f w e d c =
    let ids = ids_named (m ∷ h) in
    let there = places-of_row h o i ∙ sym (places-of_answer h m nobody) in
    let before_here = crowd-there ids (ids_named (o ∷ h)) before (λ y. InView rule h o y) there b in
    let new_are = crowd-without ids seen before new (λ y. InView rule h m y) (λ y. InView rule h o y) s before_here e in
    let others_are = crowd-without ids new first others (λ y. InView rule h m y × (InView rule h o y → ⊥))
    (λ y. o.sender ≡ y) new_are f d in
    let last_are = crowd-without ids others own last
    (λ y. (InView rule h m y × (InView rule h o y → ⊥)) × (o.sender ≡ y → ⊥)) (λ y. m.sender ≡ y) others_are w c in
    crowd-by ids last (λ y. IsLeft rule h m o g o.id i refl y) (λ y. IsForwardedTo rule h o.id m y) last_are
    (forward-to rule h m o g o.id i refl seeded) (forward-from rule h m o g o.id i refl)

-- the crowd of whom an add-ack hands the ratchet to
pub handed-crowd : (rule : History → List Id) (h : History) (m o : Message) (i x : Id) → IsHistory h → In o h → o.id ≡ i
    → o.kind ≡ Add x → (ids : List Id) (seen added last : ℕ → Bool) → IsCrowd ids seen (λ y. InView rule h m y)
    → IsCrowd ids added (λ y. x ≡ y) → ((p : ℕ) → last p ≡ (seen p && added p))
    → IsCrowd ids last (λ y. IsHandedTo rule h i m y)
handed-crowd rule h m o i x g inside is kind ids seen added last s a e =
    crowd-by ids last (λ y. InView rule h m y × (x ≡ y)) (λ y. IsHandedTo rule h i m y)
    (crowd-both ids seen added last (λ y. InView rule h m y) (λ y. x ≡ y) s a e)
    (hand-to rule h m o g i inside is x kind) (hand-from rule h m o g i inside is x kind)
