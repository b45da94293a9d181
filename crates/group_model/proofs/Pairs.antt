-- Each part opens, however the two directions cross.
use Rattle.std.proofs.Common.{◌≡◌, ℕ, ◌+◌, ◌<◌, ◌≤◌, Bool, true, false, List, [], ◌∷◌, ◌++◌, Option, Some, None, nat_eq, nat_lt, refl, sym, ◌∙◌, subst, ap, arith}
use Rattle.std.proofs.lemmas.Bool.Decides.{Decides-eqb}
use Rattle.std.proofs.lemmas.Bool.{ltb-true, lt-ltb}
use Rattle.group_model.specs.Sets.{Bytes}
use Rattle.group_model.specs.Primitives.{KeyPair, Encapsulation, Content, Primitives}
use Rattle.group_model.specs.Pairing.{Part, Draws, PairEvent, Sent, Opened, sends, own_key, drop_by, dropped, last_opened, key_at, sealed_part, opened_by, opened, Target, target, content_of, IsTested, Sending, Sends, Joint, start, a_sends, b_sends, b_takes, a_takes}
use Rattle.group_model.proofs.ListFacts.{yes_is, no_is, test}

-- where a receiver stands
record Standing : Type 0 where
  below : ℕ
  last : Option Content

abbrev standing : List PairEvent → Standing
standing es = record { below = dropped es; last = last_opened es }

abbrev next : Standing → Sending → Standing
next st s = record { below = drop_by s.part.made_by_sender s.part.number st.below; last = Some s.content }

abbrev after : Standing → List Sending → Standing
after st [] = st
after st (s ∷ q) = after (next st s) q

-- the part is sealed to the target with this content
record Sealed (K : Primitives) (t : Target) (content : Content) (part : Part) : Type 0 where
  seed : Bytes
  e : Encapsulation
  written : Bytes
  encapsulated : K.encapsulate t.public seed ≡ Some e
  is_written : K.write content ≡ Some written
  is : part ≡ record {
    made_by_sender = t.made_by_sender;
    number = t.number;
    ciphertext = e.ciphertext;
    sealed = K.seal e.key written;
  }

record WillOpen (K : Primitives) (own : ℕ → Option Bytes) (st : Standing) (s : Sending) : Type 0 where
  key : Bytes
  to : Target
  is_key : key_at own st.below st.last to.made_by_sender to.number ≡ Some key
  tested : K.is_pair key to.public ≡ true
  sealed : Sealed K to s.content s.part

abbrev AllOpen : Primitives → (ℕ → Option Bytes) → Standing → List Sending → Type 0
AllOpen K own st [] = Unit {0}
AllOpen K own st (s ∷ q) = WillOpen K own st s × AllOpen K own (next st s) q

record Aimed (K : Primitives) (own : ℕ → Option Bytes) (st : Standing) (t : Target) : Type 0 where
  key : Bytes
  is_key : key_at own st.below st.last t.made_by_sender t.number ≡ Some key
  tested : K.is_pair key t.public ≡ true

record New (K : Primitives) (own : ℕ → Option Bytes) (bound : ℕ) (s : Sending) : Type 0 where
  key : Bytes
  is_key : own s.content.number ≡ Some key
  tested : K.is_pair key s.content.public ≡ true
  above : bound ≤ s.content.number

abbrev Rising : Primitives → (ℕ → Option Bytes) → ℕ → List Sending → Type 0
Rising K own bound [] = Unit {0}
Rising K own bound (s ∷ r) = New K own bound s × Rising K own (s.content.number + 1) r

-- From the sender, whose next part goes to the target, to the receiver with the events es, while q is on the
-- way to it and r is on the way back.
record Way (K : Primitives) (card : KeyPair) (t : Target) (es : List PairEvent) (q r : List Sending) : Type 0 where
  open_all : AllOpen K (own_key card es) (standing es) q
  aimed : Aimed K (own_key card es) (after (standing es) q) t
  rising : Rising K (own_key card es) (drop_by t.made_by_sender t.number (after (standing es) q).below) r
  low : drop_by t.made_by_sender t.number (after (standing es) q).below ≤ sends es + 1

-- own keys have numbers up to the sends
own_key-low : (card : KeyPair) (es : List PairEvent) (i : ℕ) (k : Bytes) → own_key card es i ≡ Some k → i ≤ sends es
unfolding own_key
own_key-low card [] i k e = elim (test (nat_eq i 0)) [
  | yes_is d ↦ let f : i ≡ 0 = (Decides-eqb i 0).0 d in omega arith
  | no_is d ↦ let f : None ≡ Some k = rw d at e in cc
]
own_key-low card (Sent t ∷ es) i k e = elim (test (nat_eq i (sends es + 1))) [
  | yes_is d ↦ let f : i ≡ sends es + 1 = (Decides-eqb i (sends es + 1)).0 d in omega arith
  | no_is d ↦ let f : i ≤ sends es = own_key-low card es i k (rw d at e) in omega arith
]
own_key-low card (Opened part content ∷ es) i k e = own_key-low card es i k e

-- a send keeps the own keys
own_key-kept : (card : KeyPair) (es : List PairEvent) (d : Draws) (i : ℕ) (k : Bytes) → own_key card es i ≡ Some k
    → own_key card (Sent d ∷ es) i ≡ Some k
unfolding own_key
own_key-kept card es t i k e = elim (test (nat_eq i (sends es + 1))) [
  | yes_is d ↦ let f : i ≡ sends es + 1 = (Decides-eqb i (sends es + 1)).0 d in
      let low : i ≤ sends es = own_key-low card es i k e in absurd (omega arith)
  | no_is d ↦ rw d e
]

own_key-new : (card : KeyPair) (es : List PairEvent) (d : Draws) → own_key card (Sent d ∷ es) (sends es + 1) ≡ Some d.own.secret
unfolding own_key
own_key-new card es d = rw ((Decides-eqb (sends es + 1) (sends es + 1)).1 refl) refl

-- what opens by some keys opens by more
record More (own more : ℕ → Option Bytes) : Type 0 where
  kept : (i : ℕ) (k : Bytes) → own i ≡ Some k → more i ≡ Some k

key_at-more : {own more : ℕ → Option Bytes} → More own more → (below : ℕ) (last : Option Content) (b : Bool) (n : ℕ) (k : Bytes)
    → key_at own below last b n ≡ Some k → key_at more below last b n ≡ Some k
key_at-more m below last true n k e = e
key_at-more {own} m below last false n k e = elim (test (nat_lt n below)) [
  | yes_is d ↦ let f : None ≡ Some k = rw d at e in cc
  | no_is d ↦ let f : own n ≡ Some k = rw d at e in rw d (m.kept n k f)
]

-- a number that is not dropped, and the drop by it
drop-by_new : (below n : ℕ) → below ≤ n → drop_by false n below ≡ n + 1
unfolding drop_by
drop-by_new below n h = rw (lt-ltb below (n + 1) (omega arith)) refl

pub drop-by_sender : (n below : ℕ) → drop_by true n below ≡ below
unfolding drop_by
drop-by_sender n below = refl

drop-by_more : (b : Bool) (n below : ℕ) → below ≤ drop_by b n below
unfolding drop_by
drop-by_more true n below = omega arith
drop-by_more false n below = elim (test (nat_lt below (n + 1))) [
  | yes_is d ↦ rw d (let l : below < n + 1 = ltb-true below (n + 1) d in omega arith)
  | no_is d ↦ rw d (omega arith)
]

pub not_below : (n below : ℕ) → below ≤ n → nat_lt n below ≡ false
not_below n below h = elim (test (nat_lt n below)) [
  | yes_is d ↦ let l : n < below = ltb-true n below d in absurd (omega arith)
  | no_is d ↦ d
]

after-push : (st : Standing) (q : List Sending) (s : Sending) → after st (q ++ s ∷ []) ≡ next (after st q) s
after-push st [] s = refl
after-push st (x ∷ q) s = after-push (next st x) q s

module _ (K : Primitives) where
  AllOpen-more : {own more : ℕ → Option Bytes} → More own more → (st : Standing) (q : List Sending) → AllOpen K own st q → AllOpen K more st q
  AllOpen-more m st [] a = tt
  AllOpen-more m st (s ∷ q) a = (
    record {
      key = a.0.key;
      to = a.0.to;
      tested = a.0.tested;
      sealed = a.0.sealed;
      is_key = key_at-more m st.below st.last a.0.to.made_by_sender a.0.to.number a.0.key a.0.is_key;
    },
    AllOpen-more m (next st s) q a.1,
  )

  Rising-more : {own more : ℕ → Option Bytes} → More own more → (bound : ℕ) (r : List Sending) → Rising K own bound r → Rising K more bound r
  Rising-more m bound [] a = tt
  Rising-more m bound (s ∷ r) a = (
    record {
      key = a.0.key;
      is_key = m.kept s.content.number a.0.key a.0.is_key;
      tested = a.0.tested;
      above = a.0.above;
    },
    Rising-more m (s.content.number + 1) r a.1,
  )

  AllOpen-push : (own : ℕ → Option Bytes) (st : Standing) (q : List Sending) (s : Sending) → AllOpen K own st q
      → WillOpen K own (after st q) s → AllOpen K own st (q ++ s ∷ [])
  AllOpen-push own st [] s a w = (w, tt)
  AllOpen-push own st (x ∷ q) s a w = (a.0, AllOpen-push own (next st x) q s a.1 w)

  Rising-push : {own more : ℕ → Option Bytes} → More own more → (bound top : ℕ) (r : List Sending) (s : Sending) → bound ≤ top + 1
      → ((i : ℕ) (k : Bytes) → own i ≡ Some k → i ≤ top) → s.content.number ≡ top + 1 → (key : Bytes) → more (top + 1) ≡ Some key
      → K.is_pair key s.content.public ≡ true → Rising K own bound r → Rising K more bound (r ++ s ∷ [])
  Rising-push {own} {more} m bound top [] s b low e key k p a =
      (record { key = key; is_key = ap more e ∙ k; tested = p; above = omega arith }, tt)
  Rising-push m bound top (x ∷ r) s b low e key k p a =
      let l : x.content.number ≤ top = low x.content.number a.0.key a.0.is_key in (
        record { key = a.0.key; is_key = m.kept x.content.number a.0.key a.0.is_key; tested = a.0.tested; above = a.0.above },
        Rising-push m (x.content.number + 1) top r s (omega arith) low e key k p a.1,
      )

  -- the sender sends
  Way-sends : {card : KeyPair} {t : Target} {es : List PairEvent} {q r : List Sending} → Way K card t es q r
      → (part : Part) (content : Content) (public : Bytes) → Sealed K t content part → K.is_pair content.secret public ≡ true
      → Way K card (record { made_by_sender = true; number = content.number; public = public }) es
      (q ++ record { part = part; content = content } ∷ []) r
  Way-sends {card} {t} {es} {q} {r} w part content public sealed tested =
      let s : Sending = record { part = part; content = content } in
      let e : after (standing es) (q ++ s ∷ []) ≡ next (after (standing es) q) s = after-push (standing es) q s in
      let f : drop_by true content.number (after (standing es) (q ++ s ∷ [])).below ≡ drop_by t.made_by_sender t.number (after (standing es) q).below =
      drop-by_sender content.number (after (standing es) (q ++ s ∷ [])).below ∙ ap (λ (z : Standing). z.below) e
      ∙ ap (λ (z : Part). drop_by z.made_by_sender z.number (after (standing es) q).below) sealed.is in
      record {
        open_all = AllOpen-push (own_key card es) (standing es) q s w.open_all
            (record { key = w.aimed.key; to = t; is_key = w.aimed.is_key; tested = w.aimed.tested; sealed = sealed });
        aimed = subst (λ z. Aimed K (own_key card es) z (record { made_by_sender = true; number = content.number; public = public })) (sym e)
            (record { key = content.secret; is_key = rw ((Decides-eqb content.number content.number).1 refl) refl; tested = tested });
        rising = subst (λ z. Rising K (own_key card es) z r) (sym f) w.rising;
        low = subst (λ z. z ≤ sends es + 1) (sym f) w.low;
      }

  -- the receiver takes
  Way-taken : {card : KeyPair} {t : Target} {es : List PairEvent} {q r : List Sending} {s : Sending} → Way K card t es (s ∷ q) r
      → Way K card t (Opened s.part s.content ∷ es) q r
  unfolding own_key
  Way-taken w = record { open_all = w.open_all.1; aimed = w.aimed; rising = w.rising; low = w.low }

  -- the receiver sends
  Way-answered : {card : KeyPair} {t : Target} {es : List PairEvent} {q r : List Sending} → Way K card t es q r → (d : Draws) (s : Sending)
      → s.content.number ≡ sends es + 1 → K.is_pair d.own.secret s.content.public ≡ true → Way K card t (Sent d ∷ es) q (r ++ s ∷ [])
  Way-answered {card} {t} {es} {q} {r} w d s n p =
      let m : More (own_key card es) (own_key card (Sent d ∷ es)) = record { kept = own_key-kept card es d } in
      let l = w.low in
      record {
        open_all = AllOpen-more m (standing es) q w.open_all;
        aimed = record {
          key = w.aimed.key;
          tested = w.aimed.tested;
          is_key = key_at-more m _ (after (standing es) q).last t.made_by_sender t.number w.aimed.key w.aimed.is_key;
        };
        rising = Rising-push m _ (sends es) r s w.low (own_key-low card es) n d.own.secret (own_key-new card es d) p w.rising;
        low = omega arith;
      }

  -- the sender takes
  Way-heard : {card : KeyPair} {t : Target} {es : List PairEvent} {q r : List Sending} {s : Sending} → Way K card t es q (s ∷ r)
      → Way K card (record { made_by_sender = false; number = s.content.number; public = s.content.public }) es q r
  Way-heard {card} {t} {es} {q} {r} {s} w =
      let below : ℕ = (after (standing es) q).below in
      let h : below ≤ s.content.number = (let d = drop-by_more t.made_by_sender t.number below in let u = w.rising.0.above in omega arith) in
      let f : drop_by false s.content.number below ≡ s.content.number + 1 = drop-by_new below s.content.number h in
      let l : s.content.number ≤ sends es = own_key-low card es s.content.number w.rising.0.key w.rising.0.is_key in
      record {
        open_all = w.open_all;
        aimed = record { key = w.rising.0.key; is_key = rw (not_below s.content.number below h) w.rising.0.is_key; tested = w.rising.0.tested };
        rising = subst (λ z. Rising K (own_key card es) z r) (sym f) w.rising.1;
        low = subst (λ z. z ≤ sends es + 1) (sym f) (omega arith);
      }

  Way-start : (card : KeyPair) → IsTested K card → Way K card (record { made_by_sender = false; number = 0; public = card.public }) [] [] []
  unfolding own_key drop_by
  Way-start card p = record { open_all = tt; aimed = record { key = card.secret; is_key = refl; tested = p }; rising = tt; low = omega arith }

  -- how a part comes to be
  sealed_part-is : (t : Target) (seed : Bytes) (content : Content) (a : Option Encapsulation) (b : Option Bytes) (part : Part)
      → K.encapsulate t.public seed ≡ a → K.write content ≡ b → sealed_part K t a b ≡ Some part → Sealed K t content part
  sealed_part-is t seed content None b part p q e = cc
  sealed_part-is t seed content (Some x) None part p q e = cc
  sealed_part-is t seed content (Some x) (Some y) part p q e =
      record { seed = seed; e = x; written = y; encapsulated = p; is_written = q; is = cc }

  record Both (a b : KeyPair) (ea eb : List PairEvent) (qa qb : List Sending) : Type 0 where
    to_b : Way K b (target b.public ea) eb qa qb
    to_a : Way K a (target a.public eb) ea qb qa

  Way-sends_next : {card : KeyPair} {es ea : List PairEvent} {q r : List Sending} → Way K card (target card.public ea) es q r
      → (d : Draws) (payload : Bytes) (s : Sending) → Sends K card.public ea d payload s
      → Way K card (target card.public (Sent d ∷ ea)) es (q ++ s ∷ []) r
  Way-sends_next {card} {es} {ea} {q} {r} w d payload s k =
      let e : s ≡ record { part = s.part; content = content_of ea d payload } = ap (λ z. record { part = s.part; content = z }) k.content in
      subst (λ z. Way K card (target card.public (Sent d ∷ ea)) es (q ++ z ∷ []) r) (sym e)
      (Way-sends w s.part (content_of ea d payload) d.other.public
      (sealed_part-is (target card.public ea) d.encapsulation (content_of ea d payload) _ _ s.part refl refl k.part) k.other_tested)

  Way-answered_next : {card : KeyPair} {t : Target} {es : List PairEvent} {q r : List Sending} {theirs : Bytes} → Way K card t es q r
      → (d : Draws) (payload : Bytes) (s : Sending) → Sends K theirs es d payload s → Way K card t (Sent d ∷ es) q (r ++ s ∷ [])
  Way-answered_next w d payload s k = Way-answered w d s (ap (λ (z : Content). z.number) k.content)
      (ap (λ (z : Content). K.is_pair d.own.secret z.public) k.content ∙ k.own_tested)

  both : {a b : KeyPair} {ea eb : List PairEvent} {qa qb : List Sending} → Joint K a b ea eb qa qb → Both a b ea eb qa qb
  both {a} {b} (start p q) = record { to_b = Way-start b q; to_a = Way-start a p }
  both (a_sends d v s k j) = let w = both j in
      record { to_b = Way-sends_next w.to_b d v s k; to_a = Way-answered_next w.to_a d v s k }
  both (b_sends d v s k j) = let w = both j in
      record { to_a = Way-sends_next w.to_a d v s k; to_b = Way-answered_next w.to_b d v s k }
  both (b_takes s j) = let w = both j in record { to_b = Way-taken w.to_b; to_a = Way-heard w.to_a }
  both (a_takes s j) = let w = both j in record { to_a = Way-taken w.to_a; to_b = Way-heard w.to_b }

  -- a sealed part opens by the secret key
  opens : (own : ℕ → Option Bytes) (st : Standing) (t : Target) (key : Bytes) (content : Content) (part : Part)
      → key_at own st.below st.last t.made_by_sender t.number ≡ Some key → K.is_pair key t.public ≡ true → Sealed K t content part
      → opened_by K (key_at own st.below st.last part.made_by_sender part.number) part ≡ Some content
  opens own st t key content part k p s =
      ap (λ (z : Part). opened_by K (key_at own st.below st.last z.made_by_sender z.number) z) s.is
      ∙ rw (k) (rw (K.decapsulate_encapsulate key t.public s.seed s.e p s.encapsulated)
      (rw (K.unseal_seal s.e.key s.written) (K.read_write content s.written s.is_written)))

  -- every part opens to its content when the other side takes it in its turn
  pub opens_for_b : {a b : KeyPair} {ea eb : List PairEvent} {qa qb : List Sending} → (s : Sending) → Joint K a b ea eb (s ∷ qa) qb
      → opened K b eb s.part ≡ Some s.content
  opens_for_b {b = b} {eb = eb} s j = let w = (both j).to_b.open_all.0 in
      opens (own_key b eb) (standing eb) w.to w.key s.content s.part w.is_key w.tested w.sealed

  pub opens_for_a : {a b : KeyPair} {ea eb : List PairEvent} {qa qb : List Sending} → (s : Sending) → Joint K a b ea eb qa (s ∷ qb)
      → opened K a ea s.part ≡ Some s.content
  opens_for_a {a = a} {ea = ea} s j = let w = (both j).to_a.open_all.0 in
      opens (own_key a ea) (standing ea) w.to w.key s.content s.part w.is_key w.tested w.sealed
