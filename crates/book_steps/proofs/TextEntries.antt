-- Texts that are read and made have their entries.
use Rattle.std.proofs.Common.{◌≡◌, ◌∙◌, [], ◌∷◌, List, Option, Some, None, ap, sym, subst}
use Rattle.std.proofs.lemmas.Option.{get_or_from_slice_get}
use Rattle.kem_trait.specs.declared.kem.Kem.{Ghosts}
use Rattle.group_model.specs.Sets.{Bytes, Id}
use Rattle.group_model.specs.Knowledge.{text_by, text_opened}
use Rattle.group_model.specs.KeyTerms.{seed_of}
use Rattle.group_model.specs.Logs.{Made, Took}
use Rattle.group_model.specs.Membership.{ids_named, joined, named_by}
use Rattle.group_model.specs.Messages.{Kind, History, Message, Text}
use Rattle.group_model.specs.Packets.{Addressed, Packet, part_for}
use Rattle.group_model.specs.Settings.{Owner}
use Rattle.member_book.specs.Books.{BookState, chained, sealed_to}
use Rattle.member_book.specs.BooksAfter.{book_after, gained, moved}
use Rattle.member_book.specs.Calls.{CallsMake, take}
use Rattle.member_book.specs.Places.{id_at}
use Rattle.book_standing.specs.Standing.{HeldStands}
use Rattle.book_steps.specs.TextEntries.{TextsHeard, TextsSaid}
use Rattle.book_steps.proofs.Takes.{took-same, took-joined}

-- a text gives no update secret
silent : (O : Owner) (k : Kind) → k ≡ Text → (m : Message) (seed forward : Option Bytes) (b : BookState)
    → gained O k m seed forward b ≡ None
silent O k e m seed forward b = ap (λ (z : Kind). gained O z m seed forward b) e

-- and names nobody
text-names : (h : History) (m : Message) → m.kind ≡ Text → ids_named (m ∷ h) ≡ ids_named h
text-names h m e = ap (λ (k : Kind). joined (ids_named h) (named_by k)) e

module _ {K P : Type 0} (kem : Ghosts K P) (Calls : CallsMake) where
  pub texts-heard : TextsHeard kem
  texts-heard O h p place state text b kind none is_place says stands =
      let at : id_at (ids_named h) place ≡ p.header.sender = get_or_from_slice_get (ids_named h) place p.header.sender [] is_place in record {
        stands = subst (λ (ids : List Id). HeldStands kem O ids b (book_after O h (Took p) state)) (sym (text-names h p.header kind))
            (subst (λ (s : BookState). HeldStands kem O (ids_named h) b s)
            (ap (λ (y : Id). chained O.primitives y state) at ∙ sym (Calls O h (Took p) state
            (λ q e k. subst (λ (r : Packet). part_for r.parts O.id ≡ None) (took-same p q e) none) (λ q e. absurd (took-joined p q e))
            ∙ ap (λ (k : Kind). take O k h p.header (part_for p.parts O.id) None state) kind)) stands);
        reads = says ∙ ap (λ (y : Id). text_opened O.primitives (state.chain y) p.sealed) at
            ∙ sym (ap (λ (k : Kind). text_by k (text_opened O.primitives (state.chain p.header.sender) p.sealed)) kind);
        no_secret = silent O p.header.kind kind p.header _ _ _;
      }

  pub texts-said : TextsSaid kem
  texts-said O h p t me state b kind own nobody is_place stands =
      let at : id_at (ids_named h) me ≡ p.header.sender = get_or_from_slice_get (ids_named h) me O.id [] is_place ∙ sym own in record {
        stands = subst (λ (ids : List Id). HeldStands kem O ids b (book_after O h (Made p t) state)) (sym (text-names h p.header kind))
            (subst (λ (s : BookState). HeldStands kem O (ids_named h) b s)
            (ap (λ (y : Id). chained O.primitives y state) at ∙ sym (made
            ∙ ap (λ (parts : List Addressed). chained O.primitives p.header.sender (sealed_to O.primitives t parts state)) nobody)) stands);
        reads = sym (ap (λ (k : Kind). text_by k (Some t.text)) kind);
        no_secret = silent O p.header.kind kind p.header _ _ _;
      }
    where
      made : book_after O h (Made p t) state ≡ chained O.primitives p.header.sender (sealed_to O.primitives t p.parts state)
      made = ap (λ (k : Kind). moved O k (p.header ∷ h) p.header (Some (seed_of O.primitives t.random)) None
          (sealed_to O.primitives t p.parts state)) kind
