-- What a side keeps follows its events.
use Rattle.std.proofs.Common.{◌≡◌, ℕ, zero, suc, ◌+◌, ◌-◌, ◌<◌, ◌≤◌, Bool, true, false, List, [], ◌∷◌, ◌++◌, length, get_or, drop, Option, Some, None, refl, sym, ◌∙◌, ap, ap₂, inl, inr, nat_lt, nat_eq, arith, length-append, length-drop}
use Rattle.std.proofs.lemmas.Bool.{cases_lt}
use Rattle.std.proofs.lemmas.Bool.Decides.{Decides-eqb, nat_tests}
use Rattle.std.proofs.lemmas.List.{get_or_append_left, get_or_at, get_or-drop}
use Rattle.group_model.specs.Sets.{Bytes}
use Rattle.group_model.specs.Primitives.{KeyPair, Content, Primitives}
use Rattle.group_model.specs.Pairing.{Part, Draws, PairEvent, Sent, Opened, Target, sends, own_key, drop_by, dropped, last_opened, secret_if, key_at, sealed_part, part_to, opened_by, opened}
use Rattle.member_book.specs.PairStates.{Brought, PairState, at_start, after_send, drops, after_open, brought_if, kept_key, brought, PairStands, next_part, opens_to}

less : (m n : ℕ) → m < n → nat_lt m n ≡ true
less m n h = grind (arith, nat_tests)

not-less : (m n : ℕ) → n ≤ m → nat_lt m n ≡ false
not-less m n h = grind (arith, nat_tests)

-- there is no own key of a number above the sends
own-none : (card : KeyPair) (es : List PairEvent) (i : ℕ) → sends es < i → own_key card es i ≡ None
unfolding own_key
own-none card [] i h = let e : nat_eq i 0 ≡ false = grind (arith, nat_tests) in rw e refl
own-none card (Sent d ∷ es) i h =
    let e : nat_eq i (sends es + 1) ≡ false = grind (arith, nat_tests) in rw e (own-none card es i (omega arith))
own-none card (Opened part content ∷ es) i h = own-none card es i h

own-old : (card : KeyPair) (es : List PairEvent) (d : Draws) (i : ℕ) → i ≤ sends es → own_key card (Sent d ∷ es) i ≡ own_key card es i
unfolding own_key
own-old card es d i h = let e : nat_eq i (sends es + 1) ≡ false = grind (arith, nat_tests) in rw e refl

own-new : (card : KeyPair) (es : List PairEvent) (d : Draws) → own_key card (Sent d ∷ es) (sends es + 1) ≡ Some d.own.secret
unfolding own_key
own-new card es d = rw ((Decides-eqb (sends es + 1) (sends es + 1)).1 refl) refl

own-zero : (card : KeyPair) → own_key card [] 0 ≡ Some card.secret
unfolding own_key
own-zero card = refl

own-same : (card : KeyPair) (es : List PairEvent) (part : Part) (content : Content) (i : ℕ) → own_key card (Opened part content ∷ es) i ≡ own_key card es i
unfolding own_key
own-same card es part content i = refl

-- what is dropped
drops-is : (b : Bool) (n below : ℕ) → below + drops b n below ≡ drop_by b n below
unfolding drop_by
drops-is true n below = omega arith
drops-is false n below = elim (cases_lt below (n + 1)) [
  | inl h ↦ rw (less below (n + 1) h) (omega arith)
  | inr h ↦ rw (not-less below (n + 1) h) (omega arith)
]

first : (card : KeyPair) (j : ℕ) → j < 1 → own_key card [] (0 + j) ≡ Some (get_or (card.secret ∷ []) j [])
first card zero h = own-zero card
first card (suc j) h = absurd (omega arith)

pub stands-start : (card : KeyPair) (theirs : Bytes) → PairStands card theirs [] (at_start card.secret theirs)
unfolding at_start
stands-start card theirs = record { target = refl; below = refl; last = refl; sends = refl; count = refl; own = first card }

last-is : (o : Option Content) (n : ℕ) → brought_if (brought o) n ≡ secret_if o n
last-is None n = refl
last-is (Some c) n = refl

module _ {card : KeyPair} {theirs : Bytes} {es : List PairEvent} {k : PairState} (s : PairStands card theirs es k) where
  sent-own : (d : Draws) (j : ℕ) → j < length (after_send k d).own
      → own_key card (Sent d ∷ es) (k.below + j) ≡ Some (get_or (after_send k d).own j [])
  sent-own d j h =
      let n : length (k.own ++ d.own.secret ∷ []) ≡ length k.own + 1 = length-append k.own (d.own.secret ∷ []) in
      let count : k.below + length k.own ≡ k.sends + 1 = s.count in
      let number : k.sends ≡ sends es = s.sends in
      elim (cases_lt j (length k.own)) [
        | inl low ↦ own-old card es d (k.below + j) (omega arith) ∙ s.own j low
            ∙ ap Some (sym (get_or_append_left k.own (d.own.secret ∷ []) [] j low))
        | inr high ↦
            let at : j ≡ length k.own = omega arith in
            let i : k.below + j ≡ sends es + 1 = omega arith in
            ap (own_key card (Sent d ∷ es)) i ∙ own-new card es d
            ∙ ap Some (sym (get_or_at k.own d.own.secret [] [] j (sym at)))
      ]

  pub stands-send : (d : Draws) → PairStands card theirs (Sent d ∷ es) (after_send k d)
  stands-send d = record {
    target = ap (λ (n : ℕ). record { made_by_sender = true; number = n + 1; public = d.other.public }) s.sends;
    below = s.below;
    last = s.last;
    sends = ap (λ (n : ℕ). n + 1) s.sends;
    count = let count : k.below + length k.own ≡ k.sends + 1 = s.count in omega (arith, length-append k.own (d.own.secret ∷ []));
    own = sent-own d;
  }

  -- the kept key is the key by which a part would open
  pub kept_key-is : (b : Bool) (n : ℕ) → kept_key k b n ≡ key_at (own_key card es) (dropped es) (last_opened es) b n
  kept_key-is true n = ap (λ (o : Option Brought). brought_if o n) s.last ∙ last-is (last_opened es) n
  kept_key-is false n =
      let count : k.below + length k.own ≡ k.sends + 1 = s.count in
      let number : k.sends ≡ sends es = s.sends in
      let low_is : k.below ≡ dropped es = s.below in
      elim (cases_lt n k.below) [
        | inl h ↦
            let a : nat_lt n k.below ≡ true = less n k.below h in
            let b : nat_lt n (dropped es) ≡ true = less n (dropped es) (omega arith) in
            rw (a, b) refl
        | inr h ↦
            let a : nat_lt n k.below ≡ false = not-less n k.below h in
            let b : nat_lt n (dropped es) ≡ false = not-less n (dropped es) (omega arith) in
            rw (a, b) (elim (cases_lt (n - k.below) (length k.own)) [
              | inl g ↦
                  let c : nat_lt (n - k.below) (length k.own) ≡ true = less (n - k.below) (length k.own) g in
                  let i : k.below + (n - k.below) ≡ n = omega arith in
                  rw c (sym (s.own (n - k.below) g) ∙ ap (own_key card es) i)
              | inr g ↦
                  let c : nat_lt (n - k.below) (length k.own) ≡ false = not-less (n - k.below) (length k.own) g in
                  rw c (sym (own-none card es n (omega arith)))
            ])
      ]

  -- a kept own key has a number up to the sends
  kept-low : (n : ℕ) (key : Bytes) → kept_key k false n ≡ Some key → n + 1 - k.below ≤ length k.own
  kept-low n key e = elim (cases_lt (n - k.below) (length k.own)) [
    | inl g ↦ elim (cases_lt n k.below) [ inl h ↦ omega arith | inr h ↦ omega arith ]
    | inr g ↦ elim (cases_lt n k.below) [
      | inl h ↦ omega arith
      | inr h ↦
          let a : nat_lt n k.below ≡ false = not-less n k.below h in
          let c : nat_lt (n - k.below) (length k.own) ≡ false = not-less (n - k.below) (length k.own) g in
          let f : None ≡ Some key = rw (a, c) at e in cc
    ]
  ]

  drops-low : (b : Bool) (n : ℕ) (key : Bytes) → kept_key k b n ≡ Some key → drops b n k.below ≤ length k.own
  drops-low true n key e = omega arith
  drops-low false n key e = kept-low n key e

  opened-own : (part : Part) (content : Content) (m : ℕ) (j : ℕ) → j < length (drop m k.own)
      → own_key card (Opened part content ∷ es) (k.below + m + j) ≡ Some (get_or (drop m k.own) j [])
  opened-own part content m j h =
      let low : m + j < length k.own = omega (arith, length-drop m k.own) in
      let i : k.below + m + j ≡ k.below + (m + j) = omega arith in
      own-same card es part content (k.below + m + j) ∙ ap (own_key card es) i ∙ s.own (m + j) low
      ∙ ap Some (sym (get_or-drop m k.own j []))

  pub stands-open : (part : Part) (content : Content) (key : Bytes) → kept_key k part.made_by_sender part.number ≡ Some key
      → PairStands card theirs (Opened part content ∷ es) (after_open k part.made_by_sender part.number content)
  stands-open part content key e =
      let m : ℕ = drops part.made_by_sender part.number k.below in
      let low : m ≤ length k.own = drops-low part.made_by_sender part.number key e in
      let count : k.below + length k.own ≡ k.sends + 1 = s.count in
      record {
        target = refl;
        below = drops-is part.made_by_sender part.number k.below ∙ ap (drop_by part.made_by_sender part.number) s.below;
        last = refl;
        sends = s.sends;
        count = omega (arith, length-drop m k.own);
        own = opened-own part content m;
      }

  -- what the next part is, and what a part opens to
  pub next_part-is : (K : Primitives) (d : Draws) (payload : Bytes) → next_part K k d payload ≡ part_to K theirs es d payload
  next_part-is K d payload =
      ap₂ (λ (t : Target) (n : ℕ). sealed_part K t (K.encapsulate t.public d.encapsulation)
      (K.write (record { payload = payload; secret = d.other.secret; number = n + 1; public = d.own.public }))) s.target s.sends

  pub opens_to-is : (K : Primitives) (part : Part) → opens_to K k part ≡ opened K card es part
  opens_to-is K part = ap (λ (o : Option Bytes). opened_by K o part) (kept_key-is part.made_by_sender part.number)

  key-from : (K : Primitives) (o : Option Bytes) (part : Part) (content : Content) → opened_by K o part ≡ Some content → (key : Bytes) × (o ≡ Some key)
  key-from K (Some key) part content e = (key, refl)
  key-from K None part content e = cc

  pub stands-opened : (K : Primitives) (part : Part) (content : Content) → opens_to K k part ≡ Some content
      → PairStands card theirs (Opened part content ∷ es) (after_open k part.made_by_sender part.number content)
  stands-opened K part content e =
      let f = key-from K (kept_key k part.made_by_sender part.number) part content e in
      stands-open part content f.0 f.1
