-- Lists of places as functions of a place, and what a book holds after one of its places changed.
use Rattle.std.proofs.Common.{◌≡◌, ℕ, zero, suc, ◌+◌, ◌<◌, ◌≤◌, Bool, true, false, List, [], ◌∷◌, ◌++◌, length, get_or, set, Option, Some, None}
use Rattle.std.proofs.Common.{Bor, refl, sym, ◌∙◌, ap, ap₂, cond, arith, nat_eq, slice_index_or, slice_set, length-append, option_map}
use Rattle.std.proofs.lemmas.List.{set-get_or}
use Rattle.group_model.specs.Sets.{Bytes}
use Rattle.group_model.specs.Primitives.{Primitives}
use Rattle.group_model.specs.KeyTerms.{empty_ratchet, first_chain, next_chain}
use Rattle.group_model.proofs.ListFacts.{yes_is, no_is, test}
use Rattle.group_model.proofs.Verdicts.{says-equal}
use Rattle.member_book.specs.PairStates.{PairState, at_start}
use Rattle.member_book.specs.Places.{put_at}
use Rattle.secret_book.specs.HeldBooks.{PlaceState, BookTable, fresh_place, at_places, kept_by, held, handed, stepped}
use Rattle.secret_book.specs.HeldBooks.{ratchet_by, secret_by, chained, with_pairing, met_with, NothingKept, NothingHeld}

same-test : (a b : Bool) → (a ≡ true → b ≡ true) → (b ≡ true → a ≡ true) → a ≡ b
same-test true b f g = sym (f refl)
same-test false true f g = g refl
same-test false false f g = refl

zero-suc : (q : ℕ) → nat_eq 0 (suc q) ≡ false
zero-suc q = elim (test (nat_eq 0 (suc q))) [
  | yes_is e ↦ (let n = (says-equal 0 (suc q)).holds e in absurd (omega (arith, n)))
  | no_is e ↦ e
]

suc-zero : (q : ℕ) → nat_eq (suc q) 0 ≡ false
suc-zero q = elim (test (nat_eq (suc q) 0)) [
  | yes_is e ↦ (let n = (says-equal (suc q) 0).holds e in absurd (omega (arith, n)))
  | no_is e ↦ e
]

suc-suc : (p q : ℕ) → nat_eq (suc p) (suc q) ≡ nat_eq p q
suc-suc p q = same-test (nat_eq (suc p) (suc q)) (nat_eq p q)
    (λ e. (says-equal p q).told (let n = (says-equal (suc p) (suc q)).holds e in omega (arith, n)))
    (λ e. (says-equal (suc p) (suc q)).told (ap suc ((says-equal p q).holds e)))

at-set : {A B : Type 0} (f : A → B) (d : B) (xs : List A) (p : ℕ) (x : A) → p < length xs → (q : ℕ)
    → at_places f d (set xs p x) q ≡ cond (nat_eq p q) (f x) (at_places f d xs q)
at-set f d [] p x l q = absurd (omega (arith, l))
at-set f d (y ∷ xs) zero x l zero = refl
at-set f d (y ∷ xs) zero x l (suc q) = rw (zero-suc q) refl
at-set f d (y ∷ xs) (suc p) x l zero = rw (suc-zero p) refl
at-set f d (y ∷ xs) (suc p) x l (suc q) = rw (suc-suc p q) (at-set f d xs p x (omega (arith, l)) q)

set-put : {A B : Type 0} (f : A → B) (d : B) (xs : List A) (p : ℕ) (x : A) → p < length xs
    → at_places f d (set xs p x) ≡ put_at (at_places f d xs) p (f x)
set-put f d xs p x l = λ i q. at-set f d xs p x l q i

-- what is put where it is changes nothing
put-same : {A : Type 0} (f : ℕ → A) (p : ℕ) (v : A) → v ≡ f p → put_at f p v ≡ f
put-same f p v e = λ i q. at q i
  where
    at : (q : ℕ) → put_at f p v q ≡ f q
    at q = elim (test (nat_eq p q)) [
      | yes_is n ↦ rw n (e ∙ ap f ((says-equal p q).holds n))
      | no_is n ↦ rw n refl
    ]

at-get : {A B : Type 0} (f : A → B) (d : B) (xs : List A) (p : ℕ) (x : A) → p < length xs
    → f (get_or xs p x) ≡ at_places f d xs p
at-get f d [] p x l = absurd (omega (arith, l))
at-get f d (y ∷ xs) zero x l = refl
at-get f d (y ∷ xs) (suc p) x l = at-get f d xs p x (omega (arith, l))

at-push : {A B : Type 0} (f : A → B) (d : B) (xs : List A) (x : A) (q : ℕ)
    → at_places f d (xs ++ x ∷ []) q ≡ cond (nat_eq (length xs) q) (f x) (at_places f d xs q)
at-push f d [] x zero = refl
at-push f d [] x (suc q) = rw (zero-suc q) refl
at-push f d (y ∷ xs) x zero = rw (suc-zero (length xs)) refl
at-push f d (y ∷ xs) x (suc q) = rw (suc-suc (length xs) q) (at-push f d xs x q)

push-put : {A B : Type 0} (f : A → B) (d : B) (xs : List A) (x : A)
    → at_places f d (xs ++ x ∷ []) ≡ put_at (at_places f d xs) (length xs) (f x)
push-put f d xs x = λ i q. at-push f d xs x q i

at-end : {A B : Type 0} (f : A → B) (d : B) (xs : List A) → at_places f d xs (length xs) ≡ d
at-end f d [] = refl
at-end f d (x ∷ xs) = at-end f d xs

at-behind : {A B : Type 0} (f : A → B) (d : B) (xs : List A) (p : ℕ) → length xs ≤ p → at_places f d xs p ≡ d
at-behind f d [] p l = refl
at-behind f d (x ∷ xs) zero l = absurd (omega (arith, l))
at-behind f d (x ∷ xs) (suc p) l = at-behind f d xs p (omega (arith, l))

length-set : {A : Type 0} (xs : List A) (p : ℕ) (x : A) → length (set xs p x) ≡ length xs
length-set [] p x = refl
length-set (y ∷ xs) zero x = refl
length-set (y ∷ xs) (suc p) x = ap suc (length-set xs p x)

abbrev ratchets : List PlaceState → ℕ → Option Bytes
ratchets places = at_places (λ (s : PlaceState). s.ratchet) (Some empty_ratchet) places

abbrev chains : List PlaceState → ℕ → Option Bytes
chains places = at_places (λ (s : PlaceState). s.chain) None places

abbrev pairings : List PlaceState → ℕ → Option PairState
pairings places = at_places (λ (s : PlaceState). s.pairing) None places

module _ (b : BookTable) (p : ℕ) (old : PlaceState) (l : p < length b.places) (at : old ≡ slice_index_or b.places p old) where
  pub place-ratchet : old.ratchet ≡ (held b).ratchet p
  unfolding held
  place-ratchet = ap (λ (s : PlaceState). s.ratchet) at ∙ at-get (λ (s : PlaceState). s.ratchet) (Some empty_ratchet) b.places p old l

  pub place-chain : old.chain ≡ (held b).chain p
  unfolding held
  place-chain = ap (λ (s : PlaceState). s.chain) at ∙ at-get (λ (s : PlaceState). s.chain) None b.places p old l

  pub place-pairing : old.pairing ≡ (held b).pairing p
  unfolding held
  place-pairing = ap (λ (s : PlaceState). s.pairing) at ∙ at-get (λ (s : PlaceState). s.pairing) None b.places p old l

  -- a place whose pairing stays
  pub keys-set : (r c : Option Bytes)
      → held (record b { places = slice_set b.places p (record { ratchet = r; chain = c; pairing = old.pairing }) })
      ≡ record (held b) { ratchet = put_at (held b).ratchet p r; chain = put_at (held b).chain p c }
  unfolding held
  keys-set r c = let x : PlaceState = record { ratchet = r; chain = c; pairing = old.pairing } in λ i. record {
    secret = b.secret;
    met = length-set b.places p x i;
    ratchet = set-put (λ (s : PlaceState). s.ratchet) (Some empty_ratchet) b.places p x l i;
    chain = set-put (λ (s : PlaceState). s.chain) None b.places p x l i;
    pairing = (set-put (λ (s : PlaceState). s.pairing) None b.places p x l
        ∙ put-same (pairings b.places) p old.pairing place-pairing) i;
    kept = kept_by b.kept;
  }

  -- a place whose keys stay
  pub pairing-set : (k : Option PairState)
      → held (record b { places = slice_set b.places p (record { ratchet = old.ratchet; chain = old.chain; pairing = k }) })
      ≡ record (held b) { pairing = put_at (held b).pairing p k }
  unfolding held
  pairing-set k = let x : PlaceState = record { ratchet = old.ratchet; chain = old.chain; pairing = k } in λ i. record {
    secret = b.secret;
    met = length-set b.places p x i;
    ratchet = (set-put (λ (s : PlaceState). s.ratchet) (Some empty_ratchet) b.places p x l
        ∙ put-same (ratchets b.places) p old.ratchet place-ratchet) i;
    chain = (set-put (λ (s : PlaceState). s.chain) None b.places p x l
        ∙ put-same (chains b.places) p old.chain place-chain) i;
    pairing = set-put (λ (s : PlaceState). s.pairing) None b.places p x l i;
    kept = kept_by b.kept;
  }

  pub ratchet-set : (r : Option Bytes)
      → held (record b { places = slice_set b.places p (record { ratchet = r; chain = old.chain; pairing = old.pairing }) })
      ≡ record (held b) { ratchet = put_at (held b).ratchet p r }
  ratchet-set r = keys-set r old.chain
      ∙ ap (λ f. record (held b) { ratchet = put_at (held b).ratchet p r; chain = f })
      (put-same (held b).chain p old.chain place-chain)

  pub chain-set : (c : Option Bytes)
      → held (record b { places = slice_set b.places p (record { ratchet = old.ratchet; chain = c; pairing = old.pairing }) })
      ≡ record (held b) { chain = put_at (held b).chain p c }
  chain-set c = keys-set old.ratchet c
      ∙ ap (λ f. record (held b) { ratchet = f; chain = put_at (held b).chain p c })
      (put-same (held b).ratchet p old.ratchet place-ratchet)

-- nothing is held of places that were not met
none-held : (b : BookTable) → NothingKept (length b.places) (kept_by b.kept) → NothingHeld (length b.places) (held b)
unfolding held
none-held b h = record {
  ratchet = at-behind (λ (s : PlaceState). s.ratchet) (Some empty_ratchet) b.places;
  chain = at-behind (λ (s : PlaceState). s.chain) None b.places;
  pairing = at-behind (λ (s : PlaceState). s.pairing) None b.places;
  kept = h;
}

pub unmet : (b a : BookTable) (v : b ≡ a) (n : ℕ) → n ≡ length a.places → NothingKept (length b.places) (kept_by b.kept)
    → NothingHeld n (held a)
unmet b a v n e h = rw (e, ← v) (none-held b h)

-- a place that stays as it was
pub after-none : (b a : BookTable) (v : b ≡ a) (p : ℕ) (old new : PlaceState) → old ≡ slice_index_or b.places p old
    → new ≡ old → record b { places = slice_set b.places p new } ≡ a
after-none b a v p old new at e = ap (λ s. record b { places = slice_set b.places p s }) e
    ∙ ap (λ z. record b { places = z }) (ap (slice_set b.places p) at ∙ set-get_or b.places p old) ∙ v

-- a place that is met
pub place-pushed : (b : BookTable) (k : Option PairState)
    → held (record b { places = b.places ++ fresh_place k ∷ [] })
    ≡ record (held b) { met = (held b).met + 1; pairing = put_at (held b).pairing (held b).met k }
unfolding held
place-pushed b k = let x : PlaceState = fresh_place k in λ i. record {
  secret = b.secret;
  met = length-append b.places (x ∷ []) i;
  ratchet = (push-put (λ (s : PlaceState). s.ratchet) (Some empty_ratchet) b.places x
      ∙ put-same (ratchets b.places) (length b.places) (Some empty_ratchet)
      (sym (at-end (λ (s : PlaceState). s.ratchet) (Some empty_ratchet) b.places))) i;
  chain = (push-put (λ (s : PlaceState). s.chain) None b.places x
      ∙ put-same (chains b.places) (length b.places) None (sym (at-end (λ (s : PlaceState). s.chain) None b.places))) i;
  pairing = push-put (λ (s : PlaceState). s.pairing) None b.places x i;
  kept = kept_by b.kept;
}

fused : (secret : Bytes) (public : Option (Bor Bytes))
    → option_map (λ (k : Bor Bytes). at_start secret k.now) public
    ≡ option_map (at_start secret) (option_map (λ (k : Bor Bytes). k.now) public)
fused secret None = refl
fused secret (Some k) = refl

secret-held : (b : BookTable) → b.secret ≡ (held b).secret
unfolding held
secret-held b = refl

pub after-meet : (b a : BookTable) (v : b ≡ a) (public : Option (Bor Bytes)) (rows reserved : List PlaceState)
    (new : PlaceState) (k : Option PairState) → reserved ≡ b.places → rows ≡ reserved ++ new ∷ []
    → new ≡ fresh_place k → k ≡ option_map (λ (p : Bor Bytes). at_start b.secret p.now) public
    → held (record b { places = rows }) ≡ met_with (option_map (λ (p : Bor Bytes). p.now) public) (held a)
after-meet b a v public rows reserved new k r e f h =
    ap (λ z. held (record b { places = z })) (e ∙ ap₂ (λ y z. y ++ z ∷ []) r f)
    ∙ place-pushed b k
    ∙ ap (λ z. record (held b) { met = (held b).met + 1; pairing = put_at (held b).pairing (held b).met z })
    (h ∙ fused b.secret public
    ∙ ap (λ z. option_map (at_start z) (option_map (λ (p : Bor Bytes). p.now) public)) (secret-held b))
    ∙ ap (λ z. met_with (option_map (λ (p : Bor Bytes). p.now) public) (held z)) v

-- ---- a book that is opened as b, whose value was a, after a call of one of its places
module _ (b a : BookTable) (v : b ≡ a) (p : ℕ) (old : PlaceState) (l : p < length a.places) (at : old ≡ slice_index_or b.places p old) where
  within : p < length b.places
  within = rw v l

  pub reads-ratchet : old.ratchet ≡ (held a).ratchet p
  reads-ratchet = place-ratchet b p old within at ∙ ap (λ z. (held z).ratchet p) v

  pub reads-chain : old.chain ≡ (held a).chain p
  reads-chain = place-chain b p old within at ∙ ap (λ z. (held z).chain p) v

  pub reads-pairing : old.pairing ≡ (held a).pairing p
  reads-pairing = place-pairing b p old within at ∙ ap (λ z. (held z).pairing p) v

  module _ (new : PlaceState) where
    pub after-hand : (r : Bytes) → new ≡ record { ratchet = Some r; chain = old.chain; pairing = old.pairing }
        → held (record b { places = slice_set b.places p new }) ≡ handed p r (held a)
    after-hand r e = ap (λ s. held (record b { places = slice_set b.places p s })) e
        ∙ ratchet-set b p old within at (Some r) ∙ ap (λ z. handed p r (held z)) v

    pub after-step : (K : Primitives) (i : Option Bytes)
        → new ≡ record {
          ratchet = ratchet_by K i old.ratchet;
          chain = option_map (first_chain K) (secret_by K i old.ratchet);
          pairing = old.pairing;
        }
        → held (record b { places = slice_set b.places p new }) ≡ stepped K p i (held a)
    after-step K i e = ap (λ s. held (record b { places = slice_set b.places p s })) e
        ∙ keys-set b p old within at (ratchet_by K i old.ratchet) (option_map (first_chain K) (secret_by K i old.ratchet))
        ∙ ap (λ r. record (held b) {
          ratchet = put_at (held b).ratchet p (ratchet_by K i r);
          chain = put_at (held b).chain p (option_map (first_chain K) (secret_by K i r));
        }) (place-ratchet b p old within at)
        ∙ ap (λ z. stepped K p i (held z)) v

    pub after-text : (K : Primitives)
        → new ≡ record { ratchet = old.ratchet; chain = option_map (next_chain K) old.chain; pairing = old.pairing }
        → held (record b { places = slice_set b.places p new }) ≡ chained K p (held a)
    after-text K e = ap (λ s. held (record b { places = slice_set b.places p s })) e
        ∙ chain-set b p old within at (option_map (next_chain K) old.chain)
        ∙ ap (λ c. record (held b) { chain = put_at (held b).chain p (option_map (next_chain K) c) })
        (place-chain b p old within at)
        ∙ ap (λ z. chained K p (held z)) v

    pub after-pairing : (f : PairState → PairState)
        → new ≡ record { ratchet = old.ratchet; chain = old.chain; pairing = option_map f old.pairing }
        → held (record b { places = slice_set b.places p new })
        ≡ with_pairing p (option_map f ((held a).pairing p)) (held a)
    after-pairing f e = ap (λ s. held (record b { places = slice_set b.places p s })) e
        ∙ pairing-set b p old within at (option_map f old.pairing)
        ∙ ap (λ k. with_pairing p (option_map f k) (held b)) (place-pairing b p old within at)
        ∙ ap (λ z. with_pairing p (option_map f ((held z).pairing p)) (held z)) v
