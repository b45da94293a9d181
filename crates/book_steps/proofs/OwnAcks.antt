-- An own ack, step by step.
use Rattle.std.proofs.Common.{◌≡◌, ◌∙◌, Bool, true, false, [], ◌∷◌, Option, Some, None, refl, ap, ℕ, List, subst, sym}
use Rattle.std.proofs.lemmas.Option.{get_or_from_slice_get}
use Rattle.kem_trait.specs.declared.kem.Kem.{Ghosts}
use Rattle.group_model.specs.Sets.{Bytes, Id}
use Rattle.group_model.specs.Knowledge.{or_else}
use Rattle.group_model.specs.KeyTerms.{seed_of}
use Rattle.group_model.specs.Logs.{Made}
use Rattle.group_model.specs.Marks.{IsPlace}
use Rattle.group_model.specs.Membership.{ids_named, joined, named_by}
use Rattle.group_model.specs.Messages.{Kind, Ack, History}
use Rattle.group_model.specs.Packets.{Given, Packet}
use Rattle.group_model.specs.Settings.{Owner}
use Rattle.group_keys.specs.Primitives.{primitives_of}
use Rattle.member_book.specs.Books.{BookState, sealed_to, spent, step, step_gives}
use Rattle.member_book.specs.BooksAfter.{book_after, gained, learned, moved}
use Rattle.member_book.specs.Calls.{SpendFirst, sends_each}
use Rattle.member_book.specs.Places.{id_at}
use Rattle.secret_book.specs.HeldBooks.{HeldBook, secret_by, stepped, with_kept}
use Rattle.book_standing.specs.Standing.{CallsStand, HeldStands}
use Rattle.book_steps.specs.OwnAcks.{SpendingMakesAck, SpendsOwn, StepsMakeAck, StepsOwn, spent_and_sealed}

or-none : (a : Option Bytes) → or_else a None ≡ a
or-none None = refl
or-none (Some a) = refl

module _ (O : Owner) (h : History) (p : Packet) (t : Given) (ids : List Id) (state : BookState) (i : Id) where
  abbrev sent : BookState
  sent = sends_each O t.random ids state

  after-moved : (took : Bool) → p.header.kind ≡ Ack i took → p.header.sender ≡ O.id → sealed_to O.primitives t p.parts state ≡ sent
      → book_after O h (Made p t) state
      ≡ moved O (Ack i took) (p.header ∷ h) (record p.header { sender = O.id }) (Some (seed_of O.primitives t.random)) None sent
  after-moved took kind own sealed =
      ap (λ (k : Kind). moved O k (p.header ∷ h) p.header (Some (seed_of O.primitives t.random)) None (sealed_to O.primitives t p.parts state)) kind
      ∙ ap (λ (s : Id). moved O (Ack i took) (p.header ∷ h) (record p.header { sender = s }) (Some (seed_of O.primitives t.random)) None
      (sealed_to O.primitives t p.parts state)) own
      ∙ ap (λ (b : BookState). moved O (Ack i took) (p.header ∷ h) (record p.header { sender = O.id }) (Some (seed_of O.primitives t.random)) None b) sealed

  gains-learned : (took : Bool) → p.header.kind ≡ Ack i took → p.header.sender ≡ O.id → sealed_to O.primitives t p.parts state ≡ sent
      → learned O (Made p t) state
      ≡ gained O (Ack i took) (record p.header { sender = O.id }) (Some (seed_of O.primitives t.random)) None sent
  gains-learned took kind own sealed =
      ap (λ (k : Kind). gained O k p.header (Some (seed_of O.primitives t.random)) None (sealed_to O.primitives t p.parts state)) kind
      ∙ ap (λ (s : Id). gained O (Ack i took) (record p.header { sender = s }) (Some (seed_of O.primitives t.random)) None
      (sealed_to O.primitives t p.parts state)) own
      ∙ ap (λ (b : BookState). gained O (Ack i took) (record p.header { sender = O.id }) (Some (seed_of O.primitives t.random)) None b) sealed

  after-took : SpendFirst → p.header.kind ≡ Ack i true → p.header.sender ≡ O.id → sealed_to O.primitives t p.parts state ≡ sent
      → book_after O h (Made p t) state ≡ step O.primitives O.id (state.kept i O.id) (spent_and_sealed O t ids i state)
  after-took First kind own sealed = after-moved true kind own sealed ∙ First O i O.id t ids state

  gains-took : p.header.kind ≡ Ack i true → p.header.sender ≡ O.id → sealed_to O.primitives t p.parts state ≡ sent
      → learned O (Made p t) state ≡ step_gives O.primitives O.id (state.kept i O.id) (spent_and_sealed O t ids i state)
  gains-took kind own sealed = gains-learned true kind own sealed
      ∙ ap (λ (v : Option Bytes). step_gives O.primitives O.id v sent) (or-none (state.kept i O.id))

  names : (took : Bool) → p.header.kind ≡ Ack i took → ids_named (p.header ∷ h) ≡ ids_named h
  names took kind = ap (λ (k : Kind). joined (ids_named h) (named_by k)) kind

  module _ {K P : Type 0} (kem : Ghosts K P) where
    pub steps-make : SpendFirst → p.header.kind ≡ Ack i true → p.header.sender ≡ O.id → sealed_to O.primitives t p.parts state ≡ sent
        → StepsMakeAck kem O h p t ids state i
    steps-make First kind own sealed = record {
      is_acked = First O i O.id t ids state;
      makes = λ secret b x. record {
        stands = subst (λ (z : List Id). HeldStands kem O z b (book_after O h (Made p t) state)) (sym (names true kind))
            (subst (λ (z : BookState). HeldStands kem O (ids_named h) b z) (sym (after-took First kind own sealed)) x.stands);
        learned = x.gives ∙ sym (gains-took kind own sealed);
      };
    }

    pub spending-makes : p.header.kind ≡ Ack i false → p.header.sender ≡ O.id → sealed_to O.primitives t p.parts state ≡ sent
        → SpendingMakesAck kem O h p t ids state i
    spending-makes kind own sealed = record {
      makes = λ b x. record {
        stands = subst (λ (z : List Id). HeldStands kem O z b (book_after O h (Made p t) state)) (sym (names false kind))
            (subst (λ (z : BookState). HeldStands kem O (ids_named h) b z) (sym (after-moved false kind own sealed)) x);
        learned = sym (gains-learned false kind own sealed);
      };
    }

-- the calls at the own place
module _ {K P : Type 0} (kem : Ghosts K P) (O : Owner) (ids : List Id) (p : ℕ) (place : IsPlace ids p O.id) (b after : HeldBook)
    (state : BookState) (calls : CallsStand kem O ids p b state) where
  at : id_at ids p ≡ O.id
  at = get_or_from_slice_get ids p O.id [] place

  pub spends-own : (i : Id) (secret : Option Bytes) → secret ≡ b.kept i p → after ≡ with_kept i p None b
      → SpendsOwn kem O ids state i secret after
  spends-own i secret says is = record {
    input = says ∙ calls.kept i ∙ ap (state.kept i) at;
    stands = subst (λ (x : HeldBook). HeldStands kem O ids x (spent i O.id state)) (sym is)
        (subst (λ (y : Id). HeldStands kem O ids (with_kept i p None b) (spent i y state)) at (calls.spends i));
  }

  pub steps-own : (input gives : Option Bytes) → gives ≡ secret_by (primitives_of kem) input (b.ratchet p)
      → after ≡ stepped (primitives_of kem) p input b → StepsOwn kem O ids state input gives after
  steps-own input gives says is = record {
    gives = says ∙ calls.gives input ∙ ap (λ (y : Id). step_gives O.primitives y input state) at;
    stands = subst (λ (x : HeldBook). HeldStands kem O ids x (step O.primitives O.id input state)) (sym is)
        (subst (λ (y : Id). HeldStands kem O ids (stepped (primitives_of kem) p input b) (step O.primitives y input state)) at
        (calls.steps input));
  }
