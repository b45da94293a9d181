-- The pairings of a book stand for their events.
use Rattle.std.proofs.Common.{◌≡◌, ℕ, Bool, true, false, cond, List, [], ◌∷◌, ◌&&◌, length, Option, Some, None, refl, sym, ◌∙◌, ap, nat_eq, nat_lt}
use Rattle.std.proofs.Common.{option_map, subst}
use Rattle.std.specs.Prelude.{slice_index}
use Rattle.std.specs.Option.{option_and_then}
use Rattle.kem_trait.specs.declared.kem.Kem.{Ghosts}
use Rattle.group_model.specs.Sets.{Bytes}
use Rattle.group_model.specs.Primitives.{KeyPair, Content}
use Rattle.group_model.specs.Pairing.{Part, PairEvent, Sent, Opened}
use Rattle.group_model.proofs.ListFacts.{yes_is, no_is, test}
use Rattle.group_model.proofs.Verdicts.{says-equal}
use Rattle.group_parts.specs.Parts.{part_in, part_read, part_len}
use Rattle.group_keys.specs.Primitives.{primitives_of}
use Rattle.member_book.specs.PairStates.{PairState, PairStands, at_start, after_send, opens_to}
use Rattle.member_book.specs.Places.{put_at}
use Rattle.member_book.proofs.PairStates.{stands-start, stands-send, stands-opened}
use Rattle.two_party.specs.Received.{received, after_part, after_opened}
use Rattle.secret_book.specs.HeldBooks.{HeldBook, with_pairing, met_with}
use Rattle.secret_book.specs.Serving.{PairingsStand, StartStands, MeetStands, OwnStands, SendStands, OpenStands, RefusedStays}

put-same : {A : Type 0} (f : ℕ → A) (p : ℕ) (v : A) → v ≡ f p → put_at f p v ≡ f
put-same f p v e = λ i q. at q i
  where
    at : (q : ℕ) → put_at f p v q ≡ f q
    at q = elim (test (nat_eq p q)) [
      | yes_is n ↦ rw n (e ∙ ap f ((says-equal p q).holds n))
      | no_is n ↦ rw n refl
    ]

whole : (f : Part → Option Content) (t : Bool) (part : Part) (content : Content)
    → option_and_then f (cond t (Some part) None) ≡ Some content → f part ≡ Some content
whole f true part content e = e
whole f false part content e = absurd (cc)

part-opens : {K P : Type 0} (kem : Ghosts K P) (k : PairState) (bytes : Bytes) (content : Content)
    → received kem k bytes ≡ Some content → opens_to (primitives_of kem) k (part_in kem bytes) ≡ Some content
unfolding part_read
part-opens kem k bytes content e = whole (λ (part : Part). opens_to (primitives_of kem) k part)
    (nat_eq (length bytes) (part_len kem) && nat_lt (slice_index bytes 0) 2) (part_in kem bytes) content e

module _ (card : KeyPair) (keys : ℕ → Bytes) (es : ℕ → List PairEvent) where
  -- a pairing is put in place of another, with its events
  put-stands : (b : HeldBook) (p : ℕ) (o : Option PairState) (e : List PairEvent) → PairingsStand card keys es b
      → ((k : PairState) → o ≡ Some k → PairStands card (keys p) e k)
      → PairingsStand card keys (put_at es p e) (with_pairing p o b)
  put-stands b p o e s f q k h = elim (test (nat_eq p q)) [
    | yes_is n ↦
        let g : o ≡ Some k = rw n at h in
        rw n (subst (λ z. PairStands card (keys z) e k) ((says-equal p q).holds n) (f k g))
    | no_is n ↦ (let g : b.pairing q ≡ Some k = rw n at h in rw n (s q k g))
  ]

  pub start-stands : StartStands card keys es
  start-stands p k h = absurd (cc)

  mapped : (f : PairState → PairState) (P : PairState → Type 0) (o : Option PairState)
      → ((k : PairState) → o ≡ Some k → P (f k)) → (k : PairState) → option_map f o ≡ Some k → P k
  mapped f P None h k e = absurd (cc)
  mapped f P (Some j) h k e = let g : f j ≡ k = cc in subst P g (h j refl)

  pub send-stands : SendStands card keys es
  send-stands b p d s = put-stands b p (option_map (λ k. after_send k d) (b.pairing p)) (Sent d ∷ es p) s
      (mapped (λ k. after_send k d) (λ k. PairStands card (keys p) (Sent d ∷ es p) k) (b.pairing p)
      (λ k h. stands-send (s p k h) d))

  pub own-stands : OwnStands card keys es
  own-stands b s = subst (λ f. PairingsStand card keys f (met_with None b)) (put-same es b.met (es b.met) refl)
      (put-stands b b.met None (es b.met) s (λ k h. absurd (cc)))

  pub meet-stands : MeetStands card keys es
  meet-stands b s secret none = subst (λ f. PairingsStand card keys f (met_with (Some (keys b.met)) b))
      (put-same es b.met [] (sym none))
      (put-stands b b.met (Some (at_start b.secret (keys b.met))) [] s
      (λ k h.
      let g : at_start b.secret (keys b.met) ≡ k = cc in
      subst (λ z. PairStands card (keys b.met) [] z) (ap (λ z. at_start z (keys b.met)) (sym secret) ∙ g)
      (stands-start card (keys b.met))))

  module _ {K P : Type 0} (kem : Ghosts K P) where
    pub open-stands : OpenStands card keys es kem
    open-stands b p bytes k content s at opens =
        let part : Part = part_in kem bytes in
        put-stands b p (option_map (λ j. after_part kem j bytes) (b.pairing p)) (Opened part content ∷ es p) s
        (λ j h.
        let h2 : Some (after_part kem k bytes) ≡ Some j = rw at at h in
        let g : after_part kem k bytes ≡ j = cc in
        subst (λ z. PairStands card (keys p) (Opened part content ∷ es p) z)
        (ap (after_opened k part) (sym opens) ∙ g)
        (stands-opened (s p k at) (primitives_of kem) part content (part-opens kem k bytes content opens)))

pub refused-stays : {K P : Type 0} (kem : Ghosts K P) → RefusedStays kem
refused-stays kem b p bytes k at none =
    let same : after_part kem k bytes ≡ k = ap (after_opened k (part_in kem bytes)) none in
    ap (λ f. record b { pairing = f })
    (put-same b.pairing p (option_map (λ j. after_part kem j bytes) (b.pairing p)) (rw at (ap Some same)))
