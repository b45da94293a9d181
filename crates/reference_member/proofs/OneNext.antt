-- The next message of a member is one.
use Rattle.std.proofs.Common.{◌≡◌, ℕ, false, List, [], ◌∷◌, ◌++◌, length, map, take, drop, Option, Some, refl, sym, ◌∙◌, ap, subst, inl, inr, arith, length-append}
use Rattle.std.specs.Str.{bytes_eq}
use Rattle.std.proofs.lemmas.List.{take_at, drop_at}
use Rattle.std.proofs.lemmas.Slice.Eq.{bytes_eq-Decides}
use Rattle.kem_trait.specs.declared.kem.Kem.{Ghosts}
use Rattle.sha2.specs.Sha256.{sha256}
use Rattle.group_fields.specs.Cards.{card_id}
use Rattle.group_fields.specs.Layouts.{Spells, bytes_of}
use Rattle.group_fields.specs.declared.card.Card.{Card}
use Rattle.group_fields.specs.declared.header.Header.{Header}
use Rattle.group_fields.specs.declared.header.Kind.{Kind as HeaderKind}
use Rattle.group_fields.specs.declared.header.Kind.TheVariants as kinds
use Rattle.group_fields.specs.declared.header.Target.{Target}
use Rattle.group_fields.specs.declared.ids.Digest.{Digest}
use Rattle.group_fields.specs.declared.ids.GroupId.{GroupId}
use Rattle.group_fields.specs.declared.ids.MemberId.{MemberId}
use Rattle.group_fields.proofs.LayoutLaws.{one_spelling}
use Rattle.group_model.specs.Sets.{Bytes, Id, In, here, there, IsDistinct}
use Rattle.group_model.specs.Messages.{Kind, Create, Update, Remove, Add, Ack, AddAck, Text, Message, History, IsHistory}
use Rattle.group_model.specs.Membership.{AreAddressees, IsMembershipRule}
use Rattle.group_model.specs.Packets.{Given}
use Rattle.group_model.specs.Parts.{part_sent, parts_of}
use Rattle.group_model.proofs.Addressees.{addressees_move}
use Rattle.group_model.proofs.Ascending.{addressees-same, ascending-same, heads-same}
use Rattle.group_model.proofs.ListFacts.{In-cases, other_id, same_id-true, some_same}
use Rattle.group_keys.specs.Primitives.{primitives_of}
use Rattle.group_messages.specs.Messages.{ids_of, kind_by, kind_of, message_of}
use Rattle.group_messages.proofs.HeaderFacts.{ascending-distinct}
use Rattle.group_packets.specs.Packets.{part_written}
use Rattle.causal_history.specs.Rows.{Row, card_among, cards_of}
use Rattle.wire_codec.specs.Packets as packets
use Rattle.wire_codec.specs.Packets.{AddressedPart, Body, Sealed, WelcomeRows, text, text_body}
use Rattle.welcome_history.specs.Welcomes.{IsWelcomeOf}
use Rattle.reference_member.specs.Members.{Member, known, own_id, own_pair, public_key_by}
use Rattle.reference_member.specs.Messages.{AreFounders, CarriesText, HandsOn, IsNext, MadeMessage}
use Rattle.reference_member.proofs.Commands.{next-history, next-kind}
use Rattle.reference_member.proofs.OwnerForms.{in-map, from-map}

-- ---- fields

digest-one : (a b : Digest) → a.0 ≡ b.0 → a ≡ b
digest-one a b e = ap (λ (z : Bytes). let d : Digest = record { 0 = z } in d) e

digests-one : (xs ys : List Digest) → ids_of xs ≡ ids_of ys → xs ≡ ys
digests-one [] [] e = refl
digests-one [] (y ∷ ys) e = absurd cc
digests-one (x ∷ xs) [] e = absurd cc
digests-one (x ∷ xs) (y ∷ ys) e =
    let head : x.0 ≡ y.0 = cc in
    let tail : ids_of xs ≡ ids_of ys = cc in
    let one : x ≡ y = digest-one x y head in
    let others : xs ≡ ys = digests-one xs ys tail in
    cc

header-one : (s s' : ℕ) (g g' : GroupId) (f f' : MemberId) (n n' : ℕ) (k k' : HeaderKind) (t t' : Target) (p p' : List Digest)
    (b b' : Digest) → s ≡ s' → g ≡ g' → f ≡ f' → n ≡ n' → k ≡ k' → t ≡ t' → p ≡ p' → b ≡ b'
    → ◌≡◌ {A = Header} (record { set = s; group = g; sender = f; seq = n; kind = k; target = t; predecessors = p; body = b })
    (record { set = s'; group = g'; sender = f'; seq = n'; kind = k'; target = t'; predecessors = p'; body = b' })
header-one s s' g g' f f' n n' k k' t t' p p' b b' e1 e2 e3 e4 e5 e6 e7 e8 = rw (e1, e2, e3, e4, e5, e6, e7, e8) refl

message-one : (i b : Bytes) (s s' : ℕ) (g g' f f' : Id) (n n' : ℕ) (k k' : Kind) (p p' : List Id)
    → s ≡ s' → g ≡ g' → f ≡ f' → n ≡ n' → k ≡ k' → p ≡ p'
    → ◌≡◌ {A = Message} (record { id = i; set = s; group = g; sender = f; seq = n; kind = k; predecessors = p; body = b })
    (record { id = i; set = s'; group = g'; sender = f'; seq = n'; kind = k'; predecessors = p'; body = b })
message-one i b s s' g g' f f' n n' k k' p p' e1 e2 e3 e4 e5 e6 = rw (e1, e2, e3, e4, e5, e6) refl

body-one : (c c' : List Card) (p p' : List AddressedPart) (h h' : Option WelcomeRows) (t t' : Option Sealed)
    → c ≡ c' → p ≡ p' → h ≡ h' → t ≡ t'
    → ◌≡◌ {A = Body} (record { cards = c; parts = p; history = h; text = t }) (record { cards = c'; parts = p'; history = h'; text = t' })
body-one c c' p p' h h' t t' e1 e2 e3 e4 = rw (e1, e2, e3, e4) refl

made-one : (h h' : Header) (c c' : Body) (b b' : Bytes) → h ≡ h' → c ≡ c' → b ≡ b'
    → ◌≡◌ {A = MadeMessage} (record { header = h; carried = c; body = b }) (record { header = h'; carried = c'; body = b' })
made-one h h' c c' b b' e1 e2 e3 = rw (e1, e2, e3) refl

-- ---- cards

-- cards of the same ids, of which none stands twice, are the same where the first of each id is
cards-same : (a b : List Card) → map card_id a ≡ map card_id b → IsDistinct (map card_id a)
    → ((x : Id) → In x (map card_id a) → card_among a x ≡ card_among b x) → a ≡ b
cards-same [] [] e d f = refl
cards-same [] (y ∷ b) e d f = absurd cc
cards-same (x ∷ a) [] e d f = absurd cc
cards-same (x ∷ a) (y ∷ b) e d f =
    let ids : card_id x ≡ card_id y = cc in
    let rest : map card_id a ≡ map card_id b = cc in
    let found = f (card_id x) here in
    let first : Some x ≡ Some y =
    rw ((bytes_eq-Decides (card_id y) (card_id x)).1 (sym ids)) at (rw (same_id-true (card_id x)) at found) in
    let one : x ≡ y = some_same first in
    let others : a ≡ b = cards-same a b rest d.1 (λ z i.
    let apart : bytes_eq (card_id x) z ≡ false = other_id (card_id x) z (λ s. d.0 (subst (λ w. In w (map card_id a)) (sym s) i)) in
    let apart_y : bytes_eq (card_id y) z ≡ false = ap (λ w. bytes_eq w z) (sym ids) ∙ apart in
    rw apart_y at (rw apart at (f z (there i)))) in
    cc

welcome-one : (rows : List Row) (a b : WelcomeRows) → IsWelcomeOf rows a → IsWelcomeOf rows b → a ≡ b
welcome-one rows a b x y =
    let ids : map card_id a.cards ≡ map card_id b.cards = ascending-same (map card_id a.cards) (map card_id b.cards) x.ascending y.ascending
    (λ z i. (y.named z).1 ((x.named z).0 i)) (λ z i. (x.named z).1 ((y.named z).0 i)) in
    both a.cards b.cards a.rows b.rows
    (cards-same a.cards b.cards ids (ascending-distinct (map card_id a.cards) x.ascending)
    (λ z i. x.first z ((x.named z).0 i) ∙ sym (y.first z ((x.named z).0 i))))
    (x.headers ∙ sym y.headers)
  where
    both : (c d : List Card) (r s : List Header) → c ≡ d → r ≡ s
        → ◌≡◌ {A = WelcomeRows} (record { cards = c; rows = r }) (record { cards = d; rows = s })
    both c d r s e f = rw (e, f) refl

-- cards that ascend by their ids and are the same cards
same-set : (a b : List Card) → map card_id a ≡ map card_id b → IsDistinct (map card_id b) → ((c : Card) → In c a → In c b) → a ≡ b
same-set [] [] e d f = refl
same-set [] (y ∷ b) e d f = absurd cc
same-set (x ∷ a) [] e d f = absurd cc
same-set (x ∷ a) (y ∷ b) e d f =
    let ids : card_id x ≡ card_id y = cc in
    let rest : map card_id a ≡ map card_id b = cc in
    let one : x ≡ y = first ids in
    let others : a ≡ b = same-set a b rest d.1 (λ c i. elim (In-cases (f c (there i))) [
      | inl s ↦ absurd (d.0 (subst (λ w. In w (map card_id b)) (ap card_id s) (subst (λ w. In (card_id c) w) rest (in-map card_id i))))
      | inr j ↦ j
    ]) in
    cc
  where
    first : card_id x ≡ card_id y → x ≡ y
    first ids = elim (In-cases (f x here)) [
      | inl s ↦ s
      | inr j ↦ absurd (d.0 (subst (λ w. In w (map card_id b)) ids (in-map card_id j)))
    ]

pub founders-one : (own : Card) (others a b : List Card) → AreFounders own others a → AreFounders own others b → a ≡ b
founders-one own others a b x y =
    same-set a b
    (ascending-same (map card_id a) (map card_id b) x.ascending y.ascending
    (λ z i. across a b x y z i) (λ z i. across b a y x z i))
    (ascending-distinct (map card_id b) y.ascending) (λ c i. (y.whose c).1 ((x.whose c).0 i))
  where
    across : (a b : List Card) → AreFounders own others a → AreFounders own others b → (z : Id) → In z (map card_id a)
        → In z (map card_id b)
    across a b x y z i =
        let c = from-map card_id a z i in
        subst (λ w. In w (map card_id b)) (sym c.2) (in-map card_id ((y.whose c.0).1 ((x.whose c.0).0 c.1)))

-- ---- texts

-- a tag has 32 bytes
tag-long : (bytes : Bytes) (b : Body) (sealed : Sealed) → Spells text_body bytes b → b.text ≡ Some sealed → length sealed.tag ≡ 32
unfolding text_body text bytes_of
tag-long bytes b sealed (inner, (pair, (front, back, e, one, (fills, is_tag)), fits_inner, is_inner), fits, is) has =
    let same : Some inner ≡ Some sealed = ap (λ (z : Body). z.text) (sym is) ∙ has in
    let text_is : inner ≡ sealed = some_same same in
    ap (λ (z : Sealed). length z.tag) (sym text_is) ∙ ap (λ (z : Sealed). length z.tag) is_inner ∙ ap length is_tag ∙ fills.size

sealed-one : (a b : Sealed) → length a.tag ≡ 32 → length b.tag ≡ 32 → a.body ++ a.tag ≡ b.body ++ b.tag → a ≡ b
sealed-one a b la lb e =
    let n = ap length e in
    let long : length a.body ≡ length b.body = omega (arith, n, la, lb, length-append a.body a.tag, length-append b.body b.tag) in
    both a.body b.body a.tag b.tag
    (sym (take_at a.body a.tag (length b.body) long) ∙ ap (take (length b.body)) e ∙ take_at b.body b.tag (length b.body) refl)
    (sym (drop_at a.body a.tag (length b.body) long) ∙ ap (drop (length b.body)) e ∙ drop_at b.body b.tag (length b.body) refl)
  where
    both : (c d r s : Bytes) → c ≡ d → r ≡ s → ◌≡◌ {A = Sealed} (record { body = c; tag = r }) (record { body = d; tag = s })
    both c d r s e f = rw (e, f) refl

module _ {K P : Type 0} (kem : Ghosts K P) (rule : History → List Id) (M : Member) (t : Given) where
  hands-one : (k : Kind) (g h : Option WelcomeRows) → HandsOn kem rule M t k g → HandsOn kem rule M t k h → g ≡ h
  hands-one (Create members) g h x y = x ∙ sym y
  hands-one Update g h x y = x ∙ sym y
  hands-one (Remove z) g h x y = x ∙ sym y
  hands-one (Add z) g h x y = x.1 ∙ ap (λ (w : WelcomeRows). Some w) (welcome-one M.rows x.0 y.0 x.2 y.2) ∙ sym y.1
  hands-one (Ack o took) g h x y = x ∙ sym y
  hands-one (AddAck o) g h x y = x ∙ sym y
  hands-one Text g h x y = x ∙ sym y

  text-one : (kind : HeaderKind) (target : Target) (p q : Bytes) (a b : Body) → Spells (packets.body kem.SET kind target) p a
      → Spells (packets.body kem.SET kind target) q b → CarriesText kem rule M t (kind_by kind target) a.text
      → CarriesText kem rule M t (kind_by kind target) b.text → a.text ≡ b.text
  unfolding packets.body
  text-one kinds.Create target p q a b s r x y = x ∙ sym y
  text-one kinds.Update target p q a b s r x y = x ∙ sym y
  text-one kinds.Remove target p q a b s r x y = x ∙ sym y
  text-one kinds.Add target p q a b s r x y = x ∙ sym y
  text-one kinds.Ack target p q a b s r x y = x ∙ sym y
  text-one kinds.AddAck target p q a b s r x y = x ∙ sym y
  text-one kinds.Text target p q a b s r x y =
      x.1 ∙ ap (λ (w : Sealed). Some w) (sealed-one x.0 y.0 (tag-long p a x.0 s x.1) (tag-long q b y.0 r y.1)
      (some_same (sym x.2.is ∙ y.2.is))) ∙ sym y.1

  module _ (is_rule : IsMembershipRule rule) (old : IsHistory (known M)) (cards : List Card) (kind : HeaderKind) (target : Target)
      (a b : MadeMessage) (x : IsNext kem rule M t cards kind target a) (y : IsNext kem rule M t cards kind target b) where
    kinds-same : kind_of a.header ≡ kind_of b.header
    kinds-same = next-kind a kind target x.kind_is x.target_is ∙ sym (next-kind b kind target y.kind_is y.target_is)

    predecessors-same : ids_of a.header.predecessors ≡ ids_of b.header.predecessors
    predecessors-same = heads-same (known M) (ids_of a.header.predecessors) (ids_of b.header.predecessors) x.predecessors y.predecessors

    -- the message of the one with the digests of the other
    abbrev renamed : Message
    renamed = record (message_of a.header) { id = (message_of b.header).id; body = b.header.body.0 }

    renamed-is : message_of b.header ≡ renamed
    renamed-is = message-one (message_of b.header).id b.header.body.0 b.header.set a.header.set b.header.group.0.0 a.header.group.0.0
        b.header.sender.0.0 a.header.sender.0.0 b.header.seq a.header.seq (kind_of b.header) (kind_of a.header)
        (ids_of b.header.predecessors) (ids_of a.header.predecessors) (y.set ∙ sym x.set) (y.group ∙ sym x.group)
        (y.sender ∙ sym x.sender) (y.seq ∙ sym x.seq) (sym kinds-same) (sym predecessors-same)

    addressees-one : x.addressees ≡ y.addressees
    addressees-one =
        let m = message_of a.header in
        addressees-same rule (renamed ∷ known M) renamed x.addressees y.addressees
        (addressees_move rule is_rule (known M) m (message_of b.header).id b.header.body.0 x.addressees
        (next-history kem rule M t cards kind target a x old)
        (subst (λ z. IsHistory (z ∷ known M)) renamed-is (next-history kem rule M t cards kind target b y old)) x.to_whom)
        (subst (λ (z : Message). AreAddressees rule (z ∷ known M) z y.addressees) renamed-is y.to_whom)

    parts-one : a.carried.parts ≡ b.carried.parts
    parts-one =
        let sent = λ (k : Kind). part_sent (primitives_of kem) (own_pair kem M) (own_id kem M)
        (public_key_by (cards_of M.rows ++ cards)) M.log t k in
        sym x.written
        ∙ ap (map (part_written kem)) (some_same (sym x.parts ∙ ap (λ k. parts_of (sent k) x.addressees) kinds-same
        ∙ ap (λ z. parts_of (sent (kind_of b.header)) z) addressees-one ∙ y.parts))
        ∙ y.written

    carried-one : a.carried ≡ b.carried
    carried-one = body-one a.carried.cards b.carried.cards a.carried.parts b.carried.parts a.carried.history b.carried.history
        a.carried.text b.carried.text (x.cards_are ∙ sym y.cards_are) parts-one
        (hands-one (kind_of a.header) a.carried.history b.carried.history x.handed_on
        (subst (λ k. HandsOn kem rule M t k b.carried.history) (sym kinds-same) y.handed_on))
        (text-one kind target a.body b.body a.carried b.carried x.spelled y.spelled
        (subst (λ k. CarriesText kem rule M t k a.carried.text) (next-kind a kind target x.kind_is x.target_is) x.text)
        (subst (λ k. CarriesText kem rule M t k b.carried.text) (next-kind b kind target y.kind_is y.target_is) y.text))

    bytes-one : a.body ≡ b.body
    bytes-one = one_spelling (packets.body kem.SET kind target) b.carried a.body b.body
        (subst (λ z. Spells (packets.body kem.SET kind target) a.body z) carried-one x.spelled) y.spelled

    headers-one : a.header ≡ b.header
    headers-one = header-one a.header.set b.header.set a.header.group b.header.group a.header.sender b.header.sender a.header.seq
        b.header.seq a.header.kind b.header.kind a.header.target b.header.target a.header.predecessors b.header.predecessors
        a.header.body b.header.body (x.set ∙ sym y.set)
        (ap (λ (z : Bytes). let g : GroupId = record { 0 = record { 0 = z } } in g) (x.group ∙ sym y.group))
        (ap (λ (z : Bytes). let g : MemberId = record { 0 = record { 0 = z } } in g) (x.sender ∙ sym y.sender))
        (x.seq ∙ sym y.seq) (x.kind_is ∙ sym y.kind_is) (x.target_is ∙ sym y.target_is)
        (digests-one a.header.predecessors b.header.predecessors predecessors-same)
        (digest-one a.header.body b.header.body (x.digest ∙ ap sha256 bytes-one ∙ sym y.digest))

    pub next-one : a ≡ b
    next-one = made-one a.header b.header a.carried b.carried a.body b.body headers-one carried-one bytes-one
