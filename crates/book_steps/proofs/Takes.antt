-- A message that is taken by its call makes the book after the entry that it leaves.
use Rattle.std.proofs.Common.{◌≡◌, ◌≢◌, ◌∙◌, Bool, true, false, cond, [], ◌∷◌, List, Option, None, refl, ap, sym, subst}
use Rattle.std.specs.Prelude.{is_some}
use Rattle.std.specs.Str.{bytes_eq}
use Rattle.std.proofs.lemmas.Slice.Eq.{bytes_eq-Decides}
use Rattle.kem_trait.specs.declared.kem.Kem.{Ghosts}
use Rattle.group_model.specs.Sets.{Bytes, Id}
use Rattle.group_model.specs.Knowledge.{handed_by}
use Rattle.group_model.specs.Logs.{LogEntry, Joined, Took}
use Rattle.group_model.specs.Membership.{IsSeeded, ids_named, joined, named_by}
use Rattle.group_model.specs.Messages.{Kind, Create, Update, Remove, Add, Ack, AddAck, Text, Message, History}
use Rattle.group_model.specs.Packets.{Packet, part_for}
use Rattle.group_model.specs.Pairing.{Part}
use Rattle.group_model.specs.Settings.{Owner}
use Rattle.group_model.specs.Validity.{IsOperation}
use Rattle.group_model.proofs.ListFacts.{yes_is, no_is, test}
use Rattle.member_book.specs.Books.{BookState, hand, open_from, put, step_gives, welcomed}
use Rattle.member_book.specs.BooksAfter.{book_after, gained, learned, member_of, part_opens}
use Rattle.member_book.specs.Calls as calls
use Rattle.member_book.specs.Calls.{CallsMake, opened, opens_to, take}
use Rattle.secret_book.specs.HeldBooks.{HeldBook}
use Rattle.book_standing.specs.Standing.{HeldStands}
use Rattle.opened_parts.specs.declared.opening.Taken.{Taken}
use Rattle.group_ops.specs.Taking.{TakesAck, TakesSeeded}
use Rattle.add_ops.specs.Taking as adds
use Rattle.add_ops.specs.Taking.{TakesAdd, TakesAddAck}
use Rattle.book_steps.specs.Entries.{TakesEntry}

put-idle : {A : Type 0} (f : Id → A) (s t : Id) → put f s (f s) t ≡ f t
put-idle f s t = elim (test (bytes_eq s t)) [
  | yes_is e ↦ rw e (ap f ((bytes_eq-Decides s t).0 e))
  | no_is e ↦ rw e refl
]

-- nothing is handed, and no part is opened
pub hand-none : (s : Id) (b : BookState) → hand s None b ≡ b
hand-none s b = λ i. record b { ratchet = λ t. put-idle b.ratchet s t i }

pub open-none : (O : Owner) (s : Id) (b : BookState) → open_from O.primitives O.card s None b ≡ b
open-none O s b = λ i. record b { events = λ t. put-idle b.events s t i }

pub id-same : (y : Id) → bytes_eq y y ≡ true
id-same y = (bytes_eq-Decides y y).1 refl

pub id-other : (y z : Id) → y ≢ z → bytes_eq y z ≡ false
id-other y z differs = elim (test (bytes_eq y z)) [
  | yes_is e ↦ absurd (differs ((bytes_eq-Decides y z).0 e))
  | no_is e ↦ e
]

pub took-same : (p q : Packet) → ◌≡◌ {A = LogEntry} (Took p) (Took q) → p ≡ q
took-same p q e = cc

joined-same : (p q : Packet) → ◌≡◌ {A = LogEntry} (Joined p) (Joined q) → p ≡ q
joined-same p q e = cc

pub took-joined : (p q : Packet) → ◌≡◌ {A = LogEntry} (Took p) (Joined q) → ⊥
took-joined p q e = cc

joined-took : (p q : Packet) → ◌≡◌ {A = LogEntry} (Joined p) (Took q) → ⊥
joined-took p q e = cc

-- what is so of a header and a part is so of the packet that has them
pub of-packet : (O : Owner) (p : Packet) (m : Message) (part : Option Part) (A : Message → Option Part → Type 0)
    → p.header ≡ m → part_for p.parts O.id ≡ part → A m part → A p.header (part_for p.parts O.id)
of-packet O p m part A header is_part a =
    subst (λ (q : Option Part). A p.header q) (sym is_part) (subst (λ (x : Message). A x part) (sym header) a)

seeded-no_text : (k : Kind) → IsSeeded k → k ≢ Text
seeded-no_text k s e = subst IsSeeded e s

module _ (O : Owner) where
  -- an operation that sends a seed
  pub seeded-gains : (k : Kind) → IsSeeded k → (m : Message) (seed forward : Option Bytes) (b : BookState)
      → gained O k m seed forward b ≡ step_gives O.primitives m.sender (member_of O seed m.sender) b
  seeded-gains (Create members) s m seed forward b = refl
  seeded-gains Update s m seed forward b = refl
  seeded-gains (Remove y) s m seed forward b = refl
  seeded-gains (Add y) s m seed forward b = absurd s
  seeded-gains (Ack i took) s m seed forward b = absurd s
  seeded-gains (AddAck i) s m seed forward b = absurd s
  seeded-gains Text s m seed forward b = absurd s

  seeded-hands : (k : Kind) → IsSeeded k → (o : Option Bytes) → handed_by O.id k o ≡ None
  seeded-hands (Create members) s o = refl
  seeded-hands Update s o = refl
  seeded-hands (Remove y) s o = refl
  seeded-hands (Add y) s o = absurd s
  seeded-hands (Ack i took) s o = absurd s
  seeded-hands (AddAck i) s o = absurd s
  seeded-hands Text s o = absurd s

  pub seeded-takes : (k : Kind) → IsSeeded k → (h : History) (m : Message) (part : Option Part) (own : Option Bytes) (b : BookState)
      → take O k h m part own b ≡ calls.take_seeded O h m part own b
  seeded-takes (Create members) s h m part own b = refl
  seeded-takes Update s h m part own b = refl
  seeded-takes (Remove y) s h m part own b = refl
  seeded-takes (Add y) s h m part own b = absurd s
  seeded-takes (Ack i took) s h m part own b = absurd s
  seeded-takes (AddAck i) s h m part own b = absurd s
  seeded-takes Text s h m part own b = absurd s

  seeded-operation : (k : Kind) → IsSeeded k → IsOperation k
  seeded-operation (Create members) s = tt
  seeded-operation Update s = tt
  seeded-operation (Remove y) s = tt
  seeded-operation (Add y) s = absurd s
  seeded-operation (Ack i took) s = absurd s
  seeded-operation (AddAck i) s = absurd s
  seeded-operation Text s = absurd s

  -- an ack hands nothing
  ack-hands : (i : Id) (took : Bool) (o : Option Bytes) → handed_by O.id (Ack i took) o ≡ None
  ack-hands i true o = refl
  ack-hands i false o = refl

  ack-gains : (i : Id) (took : Bool) (m : Message) (seed forward : Option Bytes) (b : BookState)
      → gained O (Ack i took) m None forward b ≡ gained O (Ack i took) m seed forward b
  ack-gains i true m seed forward b = refl
  ack-gains i false m seed forward b = refl

module _ {K P : Type 0} (kem : Ghosts K P) (O : Owner) (Calls : CallsMake) (p : Packet) (state : BookState) (b : HeldBook) where
  abbrev part : Option Part
  part = part_for p.parts O.id

  abbrev m : Message
  m = p.header

  abbrev payload : Option Bytes
  payload = opens_to O m part state

  book-taken : (h : History) → m.kind ≢ Text → book_after O h (Took p) state ≡ take O m.kind h m part None state
  book-taken h differs = Calls O h (Took p) state
      (λ q e k. absurd (differs (ap (λ (r : Packet). r.header.kind) (took-same p q e) ∙ k))) (λ q e. absurd (took-joined p q e))

  -- what is taken of a message of this kind
  learned-taken : (h : History) (k : Kind) → m.kind ≡ k → learned O (Took p) state
      ≡ gained O k m payload payload (hand m.sender (handed_by O.id k payload) (opened O m part state))
  learned-taken h k e = ap (λ (z : Kind). gained O z m payload payload (hand m.sender (handed_by O.id z payload) (opened O m part state))) e

  pub takes-seeded : (h : History) → IsSeeded m.kind → (taken : Taken) → TakesSeeded kem O h m part None state taken b
      → TakesEntry kem O h (Took p) state taken b
  takes-seeded h s taken t = record {
    stands = subst (λ (z : BookState). HeldStands kem O (ids_named (m ∷ h)) b z)
        (sym (book-taken h (seeded-no_text m.kind s) ∙ seeded-takes O m.kind s h m part None state)) t.stands;
    learned = t.learned ∙ sym (seeded-gains O m.kind s m payload payload (hand m.sender (handed_by O.id m.kind payload) (opened O m part state))
        ∙ ap (λ (z : BookState). step_gives O.primitives m.sender (member_of O payload m.sender) z)
        (ap (λ (r : Option Bytes). hand m.sender r (opened O m part state)) (seeded-hands O m.kind s payload)
        ∙ hand-none m.sender (opened O m part state)));
    took = λ o. t.took;
    answers = λ n. absurd (n (seeded-operation O m.kind s));
  }

  pub takes-ack : (h : History) (i : Id) (took : Bool) → m.kind ≡ Ack i took → (secret : Option Bytes)
      → TakesAck kem O h m i took part state secret b
      → TakesEntry kem O h (Took p) state (record { took = false; learned = secret }) b
  takes-ack h i took kind secret t = record {
    stands = subst (λ (z : BookState). HeldStands kem O (ids_named (m ∷ h)) b z)
        (sym (book-taken h differs ∙ ap (λ (k : Kind). take O k h m part None state) kind))
        (subst (λ (ids : List Id). HeldStands kem O ids b (calls.take_ack O m i took part state))
        (sym (ap (λ (k : Kind). joined (ids_named h) (named_by k)) kind)) t.stands);
    learned = t.learned ∙ ap (λ (k : Kind). gained O k m None payload (opened O m part state)) kind
        ∙ ack-gains O i took m payload payload (opened O m part state)
        ∙ sym (learned-taken h (Ack i took) kind
        ∙ ap (λ (z : BookState). gained O (Ack i took) m payload payload z)
        (ap (λ (r : Option Bytes). hand m.sender r (opened O m part state)) (ack-hands O i took payload)
        ∙ hand-none m.sender (opened O m part state)));
    took = λ o. absurd (subst IsOperation kind o);
    answers = λ n. refl;
  }
    where
      differs : m.kind ≢ Text
      differs e = let f : ◌≡◌ {A = Kind} (Ack i took) Text = sym kind ∙ e in cc

  pub takes-add_ack : (h : History) (i : Id) → m.kind ≡ AddAck i → (secret : Option Bytes)
      → TakesAddAck kem O h m i part state secret b
      → TakesEntry kem O h (Took p) state (record { took = false; learned = secret }) b
  takes-add_ack h i kind secret t = record {
    stands = subst (λ (z : BookState). HeldStands kem O (ids_named (m ∷ h)) b z)
        (sym (book-taken h differs ∙ ap (λ (k : Kind). take O k h m part None state) kind))
        (subst (λ (ids : List Id). HeldStands kem O ids b (calls.take_add_ack O m part state))
        (sym (ap (λ (k : Kind). joined (ids_named h) (named_by k)) kind)) t.stands);
    learned = t.learned ∙ sym (learned-taken h (AddAck i) kind);
    took = λ o. absurd (subst IsOperation kind o);
    answers = λ n. refl;
  }
    where
      differs : m.kind ≢ Text
      differs e = let f : ◌≡◌ {A = Kind} (AddAck i) Text = sym kind ∙ e in cc

  -- an add of another
  pub takes-add : (h : History) (y : Id) → m.kind ≡ Add y → y ≢ O.id → (taken : Taken)
      → TakesAdd kem O h m y part state taken b → TakesEntry kem O h (Took p) state taken b
  takes-add h y kind other taken t = record {
    stands = subst (λ (z : BookState). HeldStands kem O (ids_named (m ∷ h)) b z)
        (ap (λ (z : BookState). calls.take_add O m y part z) same
        ∙ sym (book-taken h differs ∙ ap (λ (k : Kind). take O k h m part None state) kind)) t.stands;
    learned = t.learned ∙ ap (λ (z : BookState). gained O (Add y) m None None (adds.heard kem O h m y part z)) same
        ∙ sym (learned-taken h (Add y) kind);
    took = λ o. t.took ∙ ap (λ (z : BookState). is_some (opens_to O m part z)) same;
    answers = λ n. absurd (n (subst IsOperation (sym kind) tt));
  }
    where
      differs : m.kind ≢ Text
      differs e = let f : ◌≡◌ {A = Kind} (Add y) Text = sym kind ∙ e in cc

      same : adds.joined kem O h m y state ≡ state
      same = ap (λ (z : Bool). cond z (welcomed O.primitives h state) state) (id-other y O.id other)

  -- the add that brings the owner in
  pub joins : m.kind ≡ Add O.id → (taken : Taken) → TakesAdd kem O p.rows m O.id part state taken b
      → TakesEntry kem O [] (Joined p) state taken b
  joins kind taken t = record {
    stands = subst (λ (z : BookState). HeldStands kem O (ids_named (m ∷ p.rows)) b z)
        (ap (λ (z : BookState). calls.take_add O m O.id part z) same
        ∙ sym (made ∙ ap (λ (k : Kind). take O k p.rows m part None (welcomed O.primitives p.rows state)) kind)) t.stands;
    learned = t.learned ∙ ap (λ (z : BookState). gained O (Add O.id) m None None (adds.heard kem O p.rows m O.id part z)) same
        ∙ sym (ap (λ (k : Kind). gained O k m None None (hand m.sender (handed_by O.id k (part_opens O p (welcomed O.primitives p.rows state)))
        (opened O m part (welcomed O.primitives p.rows state)))) kind);
    took = λ o. t.took ∙ ap (λ (z : BookState). is_some (opens_to O m part z)) same;
    answers = λ n. absurd (n (subst IsOperation (sym kind) tt));
  }
    where
      same : adds.joined kem O p.rows m O.id state ≡ welcomed O.primitives p.rows state
      same = ap (λ (z : Bool). cond z (welcomed O.primitives p.rows state) state) (id-same O.id)

      made : book_after O [] (Joined p) state ≡ take O m.kind p.rows m part None (welcomed O.primitives p.rows state)
      made = Calls O [] (Joined p) state (λ q e k. absurd (joined-took p q e))
          (λ q e. ap (λ (r : Packet). r.header.kind) (sym (joined-same p q e)) ∙ kind)
