-- Opening a part of a place is opening it in the book of the model.
use Rattle.std.proofs.Common.{◌≡◌, ◌∙◌, ℕ, ◌<◌, List, length, Option, Some, None, refl, ap, sym, subst}
use Rattle.std.specs.Prelude.{IsSome, bytes_eq}
use Rattle.std.specs.Option.{option_and_then}
use Rattle.std.proofs.lemmas.Slice.Eq.{bytes_eq-Decides}
use Rattle.kem_trait.specs.declared.kem.Kem.{Ghosts}
use Rattle.group_model.specs.Sets.{Bytes, Id}
use Rattle.group_model.specs.Pairing.{PairEvent}
use Rattle.group_model.specs.Settings.{Owner}
use Rattle.group_model.proofs.ListFacts.{yes_is, no_is, test}
use Rattle.group_parts.specs.Parts.{part_read}
use Rattle.member_book.specs.Books.{BookState, open_from, put}
use Rattle.member_book.specs.Places.{id_at}
use Rattle.secret_book.specs.HeldBooks.{BookTable, HeldBook, held, opened_at, payload_from}
use Rattle.book_standing.specs.Standing.{CallsStand, HeldStands}
use Rattle.opened_parts.specs.Opening.{Opens}

-- what is put at an id again
put_own : {A : Type 0} (f : Id → A) (s : Id) → put f s (f s) ≡ f
put_own f s = λ i t. each t i
  where
    each : (t : Id) → put f s (f s) t ≡ f t
    each t = elim (test (bytes_eq s t)) [
      | yes_is e ↦ rw e (ap f ((bytes_eq-Decides s t).0 e))
      | no_is e ↦ rw e refl
    ]

-- places are counted
pub same_places : (a b : BookTable) → (held a).met ≡ (held b).met → length a.places ≡ length b.places
unfolding held
same_places a b e = e

module _ {K P : Type 0} (kem : Ghosts K P) (O : Owner) (ids : List Id) (p : ℕ) (b : HeldBook) (state : BookState)
    (h : HeldStands kem O ids b state) where
  pub opens_none : Opens kem O ids p None None state b
  opens_none = record {
    payload = refl;
    stands = subst (λ (s : BookState). HeldStands kem O ids b s)
        (ap (λ (f : Id → List PairEvent). record state { events = f }) (sym (put_own state.events (id_at ids p)))) h;
  }

  pub opens_some : (bytes : Bytes) (answer : Option Bytes) (after : HeldBook) → CallsStand kem O ids p b state
      → IsSome (b.pairing p) → answer ≡ option_and_then (payload_from kem bytes) (b.pairing p)
      → after ≡ opened_at kem p bytes b → Opens kem O ids p (part_read kem bytes) answer state after
  opens_some bytes answer after calls some says is = record {
    payload = says ∙ calls.payload bytes some;
    stands = subst (λ (x : HeldBook). HeldStands kem O ids x (open_from O.primitives O.card (id_at ids p) (part_read kem bytes) state))
        (sym is) (calls.opens bytes some);
  }
