-- An own message that is taken by its call makes the book after the entry that it leaves.
use Rattle.std.proofs.Common.{◌≡◌, ◌≢◌, ◌∙◌, Bool, cond, ◌∷◌, List, Option, Some, None, ap, sym, subst}
use Rattle.std.specs.Str.{bytes_eq}
use Rattle.kem_trait.specs.declared.kem.Kem.{Ghosts}
use Rattle.group_model.specs.Sets.{Bytes, Id}
use Rattle.group_model.specs.KeyTerms.{seed_of}
use Rattle.group_model.specs.Logs.{LogEntry, Joined, Took, Made}
use Rattle.group_model.specs.Membership.{IsSeeded, ids_named, joined, named_by}
use Rattle.group_model.specs.Messages.{Kind, Add, AddAck, Message, History}
use Rattle.group_model.specs.Packets.{Given, Packet}
use Rattle.group_model.specs.Settings.{Owner}
use Rattle.member_book.specs.Books.{BookState, hand, sealed_to, step_gives, welcomed}
use Rattle.member_book.specs.BooksAfter.{book_after, gained, member_of}
use Rattle.member_book.specs.Calls as calls
use Rattle.member_book.specs.Calls.{CallsMake, opened, opens_to, take}
use Rattle.secret_book.specs.HeldBooks.{HeldBook}
use Rattle.book_standing.specs.Standing.{HeldStands}
use Rattle.opened_parts.specs.declared.opening.Taken.{Taken}
use Rattle.group_ops.specs.Taking.{TakesSeeded}
use Rattle.add_ops.specs.Taking as adds
use Rattle.add_ops.specs.Taking.{TakesAdd, TakesAddAck}
use Rattle.book_steps.specs.Entries.{MakesEntry}
use Rattle.book_steps.proofs.Takes.{hand-none, id-other, open-none, seeded-gains, seeded-takes}

made-took : (p q : Packet) (t : Given) → ◌≡◌ {A = LogEntry} (Made p t) (Took q) → ⊥
made-took p q t e = cc

made-joined : (p q : Packet) (t : Given) → ◌≡◌ {A = LogEntry} (Made p t) (Joined q) → ⊥
made-joined p q t e = cc

cond-none : (y z : Id) → y ≢ z → (o : Option Bytes) → cond (bytes_eq y z) o None ≡ None
cond-none y z other o = ap (λ (b : Bool). cond b o None) (id-other y z other)

module _ {K P : Type 0} (kem : Ghosts K P) (O : Owner) (Calls : CallsMake) (h : History) (p : Packet) (t : Given) (state : BookState)
    (b : HeldBook) where
  abbrev m : Message
  m = p.header

  abbrev seed : Bytes
  seed = seed_of O.primitives t.random

  -- the book with the parts sealed
  abbrev sent : BookState
  sent = sealed_to O.primitives t p.parts state

  pub book-made : book_after O h (Made p t) state ≡ take O m.kind h m None (Some seed) sent
  book-made = Calls O h (Made p t) state (λ q e k. absurd (made-took p q t e)) (λ q e. absurd (made-joined p q t e))

  -- an own message has no part to open, and hands nothing
  no-part : hand m.sender None (opened O m None sent) ≡ sent
  no-part = hand-none m.sender (opened O m None sent) ∙ open-none O m.sender sent

  pub makes-seeded : IsSeeded m.kind → (taken : Taken) → TakesSeeded kem O h m None (Some seed) sent taken b
      → MakesEntry kem O h (Made p t) state taken.learned b
  makes-seeded s taken x = record {
    stands = subst (λ (z : BookState). HeldStands kem O (ids_named (m ∷ h)) b z)
        (sym (book-made ∙ seeded-takes O m.kind s h m None (Some seed) sent)) x.stands;
    learned = x.learned ∙ ap (λ (z : BookState). step_gives O.primitives m.sender (member_of O (Some seed) m.sender) z) (open-none O m.sender sent)
        ∙ sym (seeded-gains O m.kind s m (Some seed) None sent);
  }

  pub makes-add : (y : Id) → m.kind ≡ Add y → y ≢ O.id → (taken : Taken) → TakesAdd kem O h m y None sent taken b
      → MakesEntry kem O h (Made p t) state taken.learned b
  makes-add y kind other taken x = record {
    stands = subst (λ (z : BookState). HeldStands kem O (ids_named (m ∷ h)) b z)
        (ap (λ (z : BookState). calls.take_add O m y None z) same
        ∙ sym (book-made ∙ ap (λ (k : Kind). take O k h m None (Some seed) sent) kind)) x.stands;
    learned = x.learned ∙ ap (λ (z : BookState). gained O (Add y) m None None (adds.heard kem O h m y None z)) same
        ∙ ap (λ (z : BookState). gained O (Add y) m None None z) hears
        ∙ sym (ap (λ (k : Kind). gained O k m (Some seed) None sent) kind);
  }
    where
      same : adds.joined kem O h m y sent ≡ sent
      same = ap (λ (z : Bool). cond z (welcomed O.primitives h sent) sent) (id-other y O.id other)

      hears : adds.heard kem O h m y None sent ≡ sent
      hears = ap (λ (r : Option Bytes). hand m.sender r (opened O m None sent)) (cond-none y O.id other None) ∙ no-part

  pub makes-add_ack : (i : Id) → m.kind ≡ AddAck i → (secret : Option Bytes) → TakesAddAck kem O h m i None sent secret b
      → MakesEntry kem O h (Made p t) state secret b
  makes-add_ack i kind secret x = record {
    stands = subst (λ (z : BookState). HeldStands kem O (ids_named (m ∷ h)) b z)
        (sym (book-made ∙ ap (λ (k : Kind). take O k h m None (Some seed) sent) kind))
        (subst (λ (ids : List Id). HeldStands kem O ids b (calls.take_add_ack O m None sent))
        (sym (ap (λ (k : Kind). joined (ids_named h) (named_by k)) kind)) x.stands);
    learned = x.learned ∙ ap (λ (z : BookState). gained O (AddAck i) m None None z) no-part
        ∙ sym (ap (λ (k : Kind). gained O k m (Some seed) None sent) kind);
  }
