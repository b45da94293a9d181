-- A part opens exactly where its key is kept and everything in it is as it should be.
use Rattle.std.proofs.Common.{◌≡◌, ◌↔◌, ℕ, ◌+◌, ◌<◌, ◌≤◌, Bool, true, false, inl, inr, List, [], ◌∷◌, Option, Some, None, nat_eq, nat_lt, refl, sym, ◌∙◌, subst, ap, arith}
use Rattle.std.specs.Option.{option_and_then}
use Rattle.std.proofs.lemmas.Bool.Decides.{Decides-eqb}
use Rattle.std.proofs.lemmas.Bool.{ltb-true, ltb-false}
use Rattle.group_model.specs.Sets.{Bytes, In, here, there}
use Rattle.group_model.specs.Primitives.{KeyPair, Content, Primitives}
use Rattle.group_model.specs.Pairing.{Part, PairEvent, Sent, Opened, own_key, drop_by, dropped, last_opened, secret_if, key_at, key_of, opened_by, opened, IsOwnKept, IsBroughtLast, IsKept, OpensTo}
use Rattle.group_model.proofs.ListFacts.{yes_is, no_is, test, In-nothing, In-cases}
use Rattle.group_model.proofs.Pairs.{drop-by_sender, not_below}

-- dropping own keys up to a number keeps those that were kept and are above it
drop-keeps : (number below n : ℕ) → below ≤ n → number < n → drop_by false number below ≤ n
unfolding drop_by
drop-keeps number below n h l = elim (test (nat_lt below (number + 1))) [
  | yes_is d ↦ rw d (omega (arith, l))
  | no_is d ↦ rw d h
]

drop-kept : (number below n : ℕ) → drop_by false number below ≤ n → (below ≤ n) × (number < n)
unfolding drop_by
drop-kept number below n h = elim (test (nat_lt below (number + 1))) [
  | yes_is d ↦ (
      let l : below < number + 1 = ltb-true below (number + 1) d in
      let g : number + 1 ≤ n = rw d at h in
      (omega (arith, l, g), omega (arith, g)))
  | no_is d ↦ (
      let g : below ≤ n = rw d at h in
      let l : number + 1 ≤ below = ltb-false below (number + 1) d in
      (g, omega (arith, l, g)))
]

-- no part was opened by the own key of this number, or by a later one
abbrev Undropped : List PairEvent → ℕ → Type 0
Undropped es n = (part : Part) (content : Content) → In (Opened part content) es → part.made_by_sender ≡ false → part.number < n

undropped-older : {event : PairEvent} {es : List PairEvent} {n : ℕ} → Undropped (event ∷ es) n → Undropped es n
undropped-older u part content i o = u part content (there i) o

drop-all : (b : Bool) (part : Part) (below n : ℕ) → part.made_by_sender ≡ b → below ≤ n → (b ≡ false → part.number < n)
    → drop_by b part.number below ≤ n
drop-all true part below n e h f = subst (λ z. z ≤ n) (sym (drop-by_sender part.number below)) h
drop-all false part below n e h f = drop-keeps part.number below n h (f refl)

dropped-within : (es : List PairEvent) (n : ℕ) → Undropped es n → dropped es ≤ n
dropped-within [] n u = omega arith
dropped-within (Sent d ∷ es) n u = dropped-within es n (undropped-older u)
dropped-within (Opened part content ∷ es) n u = drop-all part.made_by_sender part (dropped es) n refl
    (dropped-within es n (undropped-older u)) (u part content here)

drop-each : (b : Bool) (part : Part) (below n : ℕ) → drop_by b part.number below ≤ n → (below ≤ n) × (b ≡ false → part.number < n)
drop-each true part below n h = (subst (λ z. z ≤ n) (drop-by_sender part.number below) h, λ e. cc)
drop-each false part below n h = let k = drop-kept part.number below n h in (k.0, λ e. k.1)

undropped-from : (es : List PairEvent) (n : ℕ) → dropped es ≤ n → Undropped es n
undropped-from [] n h part content i o = absurd (In-nothing i)
undropped-from (Sent d ∷ es) n h part content i o = elim (In-cases i) [
  | inl e ↦ absurd (let f : Opened part content ≡ Sent d = e in cc)
  | inr j ↦ undropped-from es n h part content j o
]
undropped-from (Opened last opening ∷ es) n h part content i o =
    let k = drop-each last.made_by_sender last (dropped es) n h in
    elim (In-cases i) [
      | inl e ↦ (let f : part ≡ last = (let g : Opened part content ≡ Opened last opening = e in cc) in
          subst (λ (z : Part). z.number < n) (sym f) (k.1 (ap (λ (z : Part). z.made_by_sender) (sym f) ∙ o)))
      | inr j ↦ undropped-from es n k.0 part content j o
    ]

own-kept : (card : KeyPair) (es : List PairEvent) (n : ℕ) (secret : Bytes)
    → key_at (own_key card es) (dropped es) (last_opened es) false n ≡ Some secret → IsOwnKept card es n secret
own-kept card es n secret e = elim (test (nat_lt n (dropped es))) [
  | yes_is d ↦ absurd (let f : None ≡ Some secret = rw d at e in cc)
  | no_is d ↦ record { made = rw d at e; undropped = undropped-from es n (ltb-false n (dropped es) d) }
]

own-given : (card : KeyPair) (es : List PairEvent) (n : ℕ) (secret : Bytes) → IsOwnKept card es n secret
    → key_at (own_key card es) (dropped es) (last_opened es) false n ≡ Some secret
own-given card es n secret k = rw (not_below n (dropped es) (dropped-within es n k.undropped)) k.made

brought : (es : List PairEvent) (o : Option Content) (n : ℕ) (secret : Bytes) → last_opened es ≡ o → secret_if o n ≡ Some secret
    → IsBroughtLast es n secret
brought es None n secret l e = cc
brought es (Some content) n secret l e = elim (test (nat_eq content.number n)) [
  | yes_is d ↦ (let f : Some content.secret ≡ Some secret = rw d at e in
      record { content = content; last = l; number = (Decides-eqb content.number n).0 d; brings = cc })
  | no_is d ↦ absurd (let f : None ≡ Some secret = rw d at e in cc)
]

brought-given : (es : List PairEvent) (n : ℕ) (secret : Bytes) → IsBroughtLast es n secret → secret_if (last_opened es) n ≡ Some secret
brought-given es n secret k = rw (k.last, (Decides-eqb k.content.number n).1 k.number) (ap (λ z. Some z) k.brings)

kept-from : (card : KeyPair) (es : List PairEvent) (b : Bool) (n : ℕ) (secret : Bytes)
    → key_at (own_key card es) (dropped es) (last_opened es) b n ≡ Some secret → IsKept card es b n secret
kept-from card es true n secret e = brought es (last_opened es) n secret refl e
kept-from card es false n secret e = own-kept card es n secret e

kept-given : (card : KeyPair) (es : List PairEvent) (b : Bool) (n : ℕ) (secret : Bytes) → IsKept card es b n secret
    → key_at (own_key card es) (dropped es) (last_opened es) b n ≡ Some secret
kept-given card es true n secret k = brought-given es n secret k
kept-given card es false n secret k = own-given card es n secret k

and_then-some : {A B : Type 0} (f : A → Option B) (o : Option A) (b : B) → option_and_then f o ≡ Some b
    → (a : A) × (o ≡ Some a) × (f a ≡ Some b)
and_then-some f None b e = cc
and_then-some f (Some a) b e = (a, refl, e)

module _ (K : Primitives) (card : KeyPair) (es : List PairEvent) (part : Part) (content : Content) where
  opens-from : (o : Option Bytes) → key_of card es part ≡ o → opened_by K o part ≡ Some content → OpensTo K card es part content
  opens-from None k e = cc
  opens-from (Some secret) k e =
      let r = and_then-some K.read (option_and_then (λ key. K.unseal key part.sealed) (K.decapsulate secret part.ciphertext)) content e in
      let u = and_then-some (λ key. K.unseal key part.sealed) (K.decapsulate secret part.ciphertext) r.0 r.1 in
      record {
        secret = secret;
        kept = kept-from card es part.made_by_sender part.number secret k;
        key = u.0;
        decapsulates = u.1;
        written = r.0;
        unseals = u.2;
        reads = r.2;
      }

  opens-given : OpensTo K card es part content → opened K card es part ≡ Some content
  opens-given k =
      ap (λ z. opened_by K z part) (kept-given card es part.made_by_sender part.number k.secret k.kept)
      ∙ ap (λ z. option_and_then K.read (option_and_then (λ key. K.unseal key part.sealed) z)) k.decapsulates
      ∙ ap (λ z. option_and_then K.read z) k.unseals ∙ k.reads

  pub opens_exactly : (opened K card es part ≡ Some content) ↔ OpensTo K card es part content
  opens_exactly = (λ e. opens-from (key_of card es part) refl e, λ k. opens-given k)
