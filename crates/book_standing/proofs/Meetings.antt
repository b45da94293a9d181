-- Meeting a member leaves what a book stands for.
use Rattle.std.proofs.Common.{◌≡◌, ◌≢◌, ◌⊎◌, inl, inr, ℕ, zero, suc, ◌+◌, ◌<◌, Bool, cond, List, [], ◌∷◌, ◌++◌, length, Option, Some, None, refl, sym, ◌∙◌, ap, subst, arith, nat_eq, nat_le, option_map, length-append}
use Rattle.std.specs.Prelude.{IsSome}
use Rattle.std.proofs.lemmas.Bool.{eqb-false, eqb-true, leb-false, leb-true}
use Rattle.kem_trait.specs.declared.kem.Kem.{Ghosts}
use Rattle.group_model.specs.Sets.{Bytes, Id, In, here, there, IsDistinct}
use Rattle.group_model.specs.Pairing.{PairEvent}
use Rattle.group_model.specs.Primitives.{KeyPair}
use Rattle.group_model.specs.Settings.{Owner}
use Rattle.member_book.specs.Books.{BookState}
use Rattle.member_book.specs.PairStates.{PairState, PairStands, at_start}
use Rattle.member_book.specs.Places.{MeetServes, by_ids, id_at}
use Rattle.secret_book.specs.HeldBooks.{HeldBook, met_with}
use Rattle.secret_book.specs.Serving as serving
use Rattle.secret_book.specs.Serving.{PairingsStand, ServesPlaces, placed}
use Rattle.book_standing.specs.Standing.{HeldStands, StartStands}
use Rattle.book_standing.proofs.Places.{put_beyond}
use Rattle.book_standing.proofs.Calls.{fails, holds, tested}

-- ---- one id behind others

at_front : (ids : List Id) (i : Id) (p : ℕ) → p < length ids → id_at (ids ++ i ∷ []) p ≡ id_at ids p
at_front [] i p l = absurd (omega (arith, l))
at_front (j ∷ ids) i zero l = refl
at_front (j ∷ ids) i (suc p) l = at_front ids i p (omega (arith, l))

at_end : (ids : List Id) (i : Id) → id_at (ids ++ i ∷ []) (length ids) ≡ i
at_end [] i = refl
at_end (j ∷ ids) i = at_end ids i

either : (ids : List Id) (i x : Id) → In x (ids ++ i ∷ []) → In x ids ⊎ (x ≡ i)
either [] i x here = inr refl
either [] i x (there k) = elim k [ ]
either (j ∷ ids) i x here = inl here
either (j ∷ ids) i x (there k) = elim (either ids i x k) [
  | inl a ↦ inl (there a)
  | inr e ↦ inr e
]

more_distinct : (ids : List Id) (i : Id) → IsDistinct ids → (In i ids → ⊥) → IsDistinct (ids ++ i ∷ [])
more_distinct [] i d new = ((λ k. new k), tt)
more_distinct (j ∷ ids) i d new = (
  λ k. elim (either ids i j k) [
    | inl a ↦ d.0 a
    | inr e ↦ new (subst (λ z. In z (j ∷ ids)) e here)
  ],
  more_distinct ids i d.1 (λ k. new (there k)),
)

no_pairing : {o : Option PairState} (k : PairState) → o ≡ None → o ≡ Some k → ⊥
no_pairing k none some = let e : ◌≡◌ {A = Option PairState} None (Some k) = sym none ∙ some in absurd (cc)

module _ {K P : Type 0} (kem : Ghosts K P) (O : Owner)
    (Starts : (card : KeyPair) (keys : ℕ → Bytes) (es : ℕ → List PairEvent) → serving.StartStands card keys es) where
  pub start_stands : StartStands kem O
  start_stands is = record {
    primitives = is;
    secret = refl;
    distinct = tt;
    met = refl;
    unmet = record { ratchet = λ p le. refl; chain = λ p le. refl; pairing = λ p le. refl; kept = λ i p le. refl };
    others = λ p l other. absurd (omega (arith, l));
    events = λ p. [];
    unsent = λ p le. refl;
    pairings = Starts O.card (λ p. O.public_key (id_at [] p)) (λ p. []);
    is = refl;
  }

module _ {K P : Type 0} (kem : Ghosts K P) (O : Owner) (ids : List Id) (i : Id) (b : HeldBook) (state : BookState)
    (h : HeldStands kem O ids b state) (new : In i ids → ⊥) (Meets : MeetServes)
    (Serves : (es : ℕ → List PairEvent) (q : ℕ) (x : HeldBook) → ServesPlaces es q x) where
  abbrev more : List Id
  more = ids ++ i ∷ []

  abbrev keys : ℕ → Bytes
  keys p = O.public_key (id_at more p)

  longer : length more ≡ length ids + 1
  longer = length-append ids (i ∷ [])

  -- a pairing that is there is that of a place that was met
  is_met : (p : ℕ) (k : PairState) → b.pairing p ≡ Some k → p < length ids
  is_met p k e = elim (tested (nat_le (length ids) p)) [
    | holds t ↦ absurd (no_pairing k (h.unmet.pairing p (leb-true (length ids) p t)) e)
    | fails f ↦ leb-false (length ids) p f
  ]

  stand : PairingsStand O.card keys h.events b
  stand p k e =
      let same : O.public_key (id_at ids p) ≡ keys p = ap O.public_key (sym (at_front ids i p (is_met p k e))) in
      subst (λ (key : Bytes). PairStands O.card key (h.events p) k) same (h.pairings p k e)

  new_key : keys b.met ≡ O.public_key i
  new_key = ap (λ (n : ℕ). O.public_key (id_at more n)) h.met ∙ ap O.public_key (at_end ids i)

  -- with the public key of the next member, or without one
  met : (public : Option Bytes) → PairingsStand O.card keys h.events (met_with public b)
      → (i ≢ O.id → IsSome (option_map (at_start b.secret) public)) → HeldStands kem O more (met_with public b) state
  met public pairings known = record {
    primitives = h.primitives;
    secret = h.secret;
    distinct = more_distinct ids i h.distinct new;
    met = omega (arith, h.met, longer);
    unmet = record {
      ratchet = λ q le. h.unmet.ratchet q (omega (arith, le, longer));
      chain = λ q le. h.unmet.chain q (omega (arith, le, longer));
      pairing = λ q le. put_beyond b.pairing b.met q (option_map (at_start b.secret) public) (omega (arith, le, longer, h.met))
          ∙ h.unmet.pairing q (omega (arith, le, longer));
      kept = λ j q le. h.unmet.kept j q (omega (arith, le, longer));
    };
    others = λ q lt other. elim (tested (nat_eq b.met q)) [
      | holds t ↦
          let last : id_at more q ≡ i = ap (id_at more) (sym (eqb-true b.met q t) ∙ h.met) ∙ at_end ids i in
          subst (λ (z : Bool). IsSome (cond z (option_map (at_start b.secret) public) (b.pairing q))) (sym t)
          (known (λ e. other (last ∙ e)))
      | fails f ↦
          let before : q < length ids = below q lt (eqb-false b.met q f) in
          subst (λ (z : Bool). IsSome (cond z (option_map (at_start b.secret) public) (b.pairing q))) (sym f)
          (h.others q before (λ e. other (at_front ids i q before ∙ e)))
    ];
    events = h.events;
    unsent = λ q le. h.unsent q (omega (arith, le, longer));
    pairings = pairings;
    is = ap (by_ids more) ((Serves h.events 0 b).meets public)
        ∙ Meets ids i (placed h.events b) (record {
          ratchets = h.unmet.ratchet;
          chains = h.unmet.chain;
          events = h.unsent;
          kept = h.unmet.kept;
        }) ∙ h.is;
  }
    where
      below : (q : ℕ) → q < length more → (b.met ≡ q → ⊥) → q < length ids
      below q lt other = elim (tested (nat_le (length ids) q)) [
        | holds t ↦ absurd (other (omega (arith, lt, longer, h.met, leb-true (length ids) q t)))
        | fails f ↦ leb-false (length ids) q f
      ]

  pub meets : ((card : KeyPair) (keys : ℕ → Bytes) (es : ℕ → List PairEvent) → serving.MeetStands card keys es)
      → HeldStands kem O more (met_with (Some (O.public_key i)) b) state
  meets Stands = met (Some (O.public_key i))
      (subst (λ (key : Bytes). PairingsStand O.card keys h.events (met_with (Some key) b)) new_key
      (Stands O.card keys h.events b stand h.secret (h.unsent b.met (omega (arith, h.met)))))
      (λ other. refl)

  pub own : i ≡ O.id → ((card : KeyPair) (keys : ℕ → Bytes) (es : ℕ → List PairEvent) → serving.OwnStands card keys es)
      → HeldStands kem O more (met_with None b) state
  own is Stands = met None (Stands O.card keys h.events b stand) (λ other. absurd (other is))
