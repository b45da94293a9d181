-- The cards in the history of a member are ones that bytes spell: so two of one id are one, or digests collide.
use Rattle.std.proofs.Common.{◌≡◌, ◌⊎◌, ℕ, zero, suc, ◌≤◌, IsTrue, ◌==◌, ◌||◌, List, [], ◌∷◌, ◌++◌, length, map, Option, Some, None, refl, sym, subst, inl, inr, arith}
use Rattle.std.specs.Int.{w8}
use Rattle.std.specs.Str.{bytes_eq}
use Rattle.std.proofs.lemmas.Bool.Decides.{nat_tests}
use Rattle.kem_trait.specs.declared.kem.Kem.{Ghosts}
use Rattle.group_fields.specs.Cards as card_words
use Rattle.group_fields.specs.Cards.{card_id, card_of_sets, spelling}
use Rattle.group_fields.specs.Layouts.{Spells}
use Rattle.group_fields.specs.declared.card.Card.{Card}
use Rattle.group_fields.specs.declared.header.Header.{Header}
use Rattle.group_fields.specs.declared.header.Kind.{Kind as HeaderKind}
use Rattle.group_fields.specs.declared.header.Kind.TheVariants as kinds
use Rattle.group_fields.specs.declared.header.Target.{Target}
use Rattle.group_fields.specs.declared.header.Target.TheVariants as targets
use Rattle.group_fields.specs.declared.ids.Digest.{Digest}
use Rattle.group_fields.specs.declared.ids.MemberId.{MemberId}
use Rattle.group_fields.proofs.CardBytes.{of_some_sets, one_card, spelling_is}
use Rattle.group_model.specs.Sets.{Bytes, Id, In, here, there}
use Rattle.group_model.specs.Messages.{History}
use Rattle.group_model.specs.Membership.{IsMembershipRule, named_by}
use Rattle.group_model.specs.Packets.{Given}
use Rattle.group_model.specs.Settings.{Owner}
use Rattle.group_model.proofs.ListFacts.{In-cases, In-either, In-nothing, no_is, some_same, test, yes_is}
use Rattle.group_model.proofs.Parts.{gives, gives_none, present}
use Rattle.group_messages.specs.Messages.{kind_of, message_of}
use Rattle.group_messages.proofs.HeaderFacts.{one_or_collision}
use Rattle.causal_history.specs.Rows.{Row, card_among, cards_of}
use Rattle.wire_codec.specs.Packets.{Body, IsPacket, Packet as ReadPacket, WelcomeRows, add_body, body, body_of, card_named, cards_above, create_body, history, id_of, member_named, members_named, parts_body, text_body}
use Rattle.wire_codec.specs.Repeated.{repeated}
use Rattle.wire_codec.proofs.CardBytes.{cards_above_plain, cards_named_plain}
use Rattle.wire_codec.proofs.InOrder.{counted_items}
use Rattle.wire_codec.proofs.Joins.{apart, in_order}
use Rattle.welcome_history.specs.Welcomes.{before, cards_for, row_of, rows_of}
use Rattle.reference_member.specs.Members.{HaveCollision, IsOwner, Member, own_id}
use Rattle.reference_member.specs.Messages.{IsByCommand, IsNext, MadeMessage, answer_kind}
use Rattle.reference_member.specs.Steps as inputs
use Rattle.reference_member.specs.Steps.{HasBytes, Input, Step}
use Rattle.reference_member.specs.Accepted.{Accepts, BeginsBy, Commands, IsRunOf, Moves, given_by, known_before, part_opens, row_of_packet, with_made, with_taken, with_taken_over}
use Rattle.reference_member.proofs.Answering.{answer-target}
use Rattle.reference_member.proofs.Deciding.{answer-or-not, same-or-not}
use Rattle.reference_member.proofs.OwnersThere.{owner-there}
use Rattle.reference_member.proofs.RowsNamed.{cards-more}
use Rattle.reference_member.proofs.Runs.{run-holds}

abbrev AreSpelled : List Card → Type 0
AreSpelled cards = (card : Card) → In card cards → HasBytes card

none-spelled : AreSpelled []
none-spelled card i = absurd (In-nothing i)

both-spelled : (a b : List Card) → AreSpelled a → AreSpelled b → AreSpelled (a ++ b)
both-spelled a b x y card i = elim (In-either a i) [ inl j ↦ x card j | inr j ↦ y card j ]

-- ---- what a body carries

spelled-by : (set : ℕ) (bytes : Bytes) (card : Card) → 1 ≤ set → set ≤ 2 → Spells (card_of_sets set set) bytes card → HasBytes card
spelled-by set bytes card low high s =
    let wide = of_some_sets set set bytes card low high s in
    subst (λ z. card_words.Spells card z) (spelling_is card bytes wide) wide

each-spelled : (set count : ℕ) (bytes : Bytes) (v : List Card) → 1 ≤ set → set ≤ 2
    → Spells (repeated count (card_of_sets set set)) bytes v → AreSpelled v
unfolding repeated
each-spelled set zero bytes v low high s = subst AreSpelled (sym s.1) none-spelled
each-spelled set (suc count) bytes v low high (pair, (front, back, e, one, rest), fits, is) =
    subst AreSpelled (sym is) (λ card i. elim (In-cases i) [
      | inl d ↦ subst HasBytes (sym d) (spelled-by set front pair.0 low high one)
      | inr j ↦ each-spelled set count back pair.1 low high rest card j
    ])

record Carries (b : Body) : Type 0 where
  cards : AreSpelled b.cards
  welcome : (w : WelcomeRows) → b.history ≡ Some w → AreSpelled w.cards

none-welcome : (h : Option WelcomeRows) → h ≡ None → (w : WelcomeRows) → h ≡ Some w → AreSpelled w.cards
none-welcome h none w some = absurd cc

create-carries : (set : ℕ) (ids : List Digest) (bytes : Bytes) (b : Body) → 1 ≤ set → set ≤ 2 → Spells (create_body set ids) bytes b
    → Carries b
unfolding create_body
create-carries set ids bytes b low high (pair, (front, back, e, one, rest), fits, is) =
    subst Carries (sym is) (record {
      cards = each-spelled set (length ids) front pair.0 low high (cards_named_plain set ids front pair.0 one);
      welcome = none-welcome None refl;
    })

parts-carry : (set greatest : ℕ) (bytes : Bytes) (b : Body) → Spells (parts_body set greatest) bytes b → Carries b
unfolding parts_body
parts-carry set greatest bytes b (v, spelled, fits, is) =
    subst Carries (sym is) (record { cards = none-spelled; welcome = none-welcome None refl })

named-spelled : (set : ℕ) (id : Digest) (bytes : Bytes) (card : Card) → 1 ≤ set → set ≤ 2 → Spells (card_named set id) bytes card
    → HasBytes card
unfolding card_named
named-spelled set id bytes card low high (inner, spelled, fits, is) =
    subst HasBytes (sym is) (spelled-by set bytes inner low high spelled)

history-spelled : (set : ℕ) (bytes : Bytes) (welcome : WelcomeRows) → 1 ≤ set → set ≤ 2 → Spells (history set) bytes welcome
    → AreSpelled welcome.cards
unfolding history
history-spelled set bytes welcome low high (pair, (front, back, e, one, rest), fits, is) =
    let cards = counted_items w8 32 (λ n. cards_above set n None) front pair.0 one in
    subst (λ (z : WelcomeRows). AreSpelled z.cards) (sym is) (each-spelled set cards.count cards.bytes pair.0 low high
    (cards_above_plain set cards.count None cards.bytes pair.0 cards.spelled))

add-carries : (set : ℕ) (of : MemberId) (bytes : Bytes) (b : Body) → 1 ≤ set → set ≤ 2 → Spells (add_body set of) bytes b
    → Carries b
unfolding add_body
add-carries set of bytes b low high ((card, (part, rows)), (f1, b1, e1, one, (f2, b2, e2, two, three)), fits, is) =
    subst Carries (sym is) (record {
      cards = λ c i. elim (In-cases i) [
        | inl d ↦ subst HasBytes (sym d) (named-spelled set of.0 f1 card low high one)
        | inr n ↦ absurd (In-nothing n)
      ];
      welcome = λ w e. subst (λ (z : WelcomeRows). AreSpelled z.cards) (some_same e) (history-spelled set b2 rows low high three);
    })

text-carries : (bytes : Bytes) (b : Body) → Spells text_body bytes b → Carries b
unfolding text_body
text-carries bytes b (sealed, spelled, fits, is) =
    subst Carries (sym is) (record { cards = none-spelled; welcome = none-welcome None refl })

body-carries : (set : ℕ) (kind : HeaderKind) (target : Target) (bytes : Bytes) (b : Body) → 1 ≤ set → set ≤ 2
    → Spells (body set kind target) bytes b → Carries b
unfolding body
body-carries set kinds.Create target bytes b low high s = create-carries set (members_named target) bytes b low high s
body-carries set kinds.Update target bytes b low high s = parts-carry set 31 bytes b s
body-carries set kinds.Remove target bytes b low high s = parts-carry set 31 bytes b s
body-carries set kinds.Add target bytes b low high s =
    add-carries set (member_named target) bytes b low high s
body-carries set kinds.Ack target bytes b low high s = parts-carry set 31 bytes b s
body-carries set kinds.AddAck target bytes b low high s = parts-carry set 1 bytes b s
body-carries set kinds.Text target bytes b low high s = text-carries bytes b s

one-or-two : (set : ℕ) → IsTrue ((set == 1) || (set == 2)) → (set ≡ 1) ⊎ (set ≡ 2)
one-or-two set is = grind (arith, nat_tests)

low : (set : ℕ) → (set ≡ 1) ⊎ (set ≡ 2) → 1 ≤ set
low set (inl e) = omega (arith, e)
low set (inr e) = omega (arith, e)

high : (set : ℕ) → (set ≡ 1) ⊎ (set ≡ 2) → set ≤ 2
high set (inl e) = omega (arith, e)
high set (inr e) = omega (arith, e)

packet-carries : (packet : ReadPacket) (bytes : Bytes) → IsPacket packet bytes → Carries (body_of packet)
packet-carries packet bytes is =
    let set = one-or-two packet.header.set (in_order packet bytes is).header.set in
    let parts = apart packet bytes is in
    body-carries packet.header.set packet.header.kind packet.header.target parts.carried (body_of packet)
    (low packet.header.set set) (high packet.header.set set) parts.are_of.body

-- ---- cards of rows

among-in : (cards : List Card) (x : Id) (card : Card) → card_among cards x ≡ Some card → In card cards
among-in [] x card e = absurd cc
among-in (c ∷ cards) x card e = elim (test (bytes_eq (card_id c) x)) [
  | yes_is d ↦ let k : Some c ≡ Some card = rw d at e in subst (λ z. In z (c ∷ cards)) (some_same k) here
  | no_is d ↦ there (among-in cards x card (rw d at e))
]

cards_for-in : (cards : List Card) (ids : List Id) (card : Card) → In card (cards_for cards ids) → In card cards
cards_for-in cards [] card i = absurd (In-nothing i)
cards_for-in cards (x ∷ ids) card i = elim (present (card_among cards x)) [
  | gives c e ↦ elim (In-cases (subst (λ (z : Option Card). In card (before z (cards_for cards ids))) e i)) [
    | inl d ↦ subst (λ z. In z cards) (sym d) (among-in cards x c e)
    | inr j ↦ cards_for-in cards ids card j
  ]
  | gives_none e ↦ cards_for-in cards ids card (subst (λ (z : Option Card). In card (before z (cards_for cards ids))) e i)
]

rows-spelled : (cards : List Card) (headers : List Header) → AreSpelled cards → AreSpelled (cards_of (map (row_of cards) headers))
rows-spelled cards [] s = none-spelled
rows-spelled cards (header ∷ headers) s =
    both-spelled (cards_for cards (named_by (kind_of header))) (cards_of (map (row_of cards) headers))
    (λ card i. s card (cards_for-in cards (named_by (kind_of header)) card i)) (rows-spelled cards headers s)

module _ {K P : Type 0} (kem : Ghosts K P) (rule : History → List Id) where
  abbrev HasSpelled : Member → Type 0
  HasSpelled M = AreSpelled (cards_of M.rows)

  kem-set : (kem.SET ≡ 1) ⊎ (kem.SET ≡ 2)
  kem-set = elim kem.has_set_lengths [ inl l ↦ inl l.0 | inr l ↦ inr l.0 ]

  next-spelled : (M : Member) (t : Given) (cards : List Card) (kind : HeaderKind) (target : Target) (made : MadeMessage)
      → IsNext kem rule M t cards kind target made → AreSpelled made.carried.cards
  next-spelled M t cards kind target made next =
      (body-carries kem.SET kind target made.body made.carried (low kem.SET kem-set) (high kem.SET kem-set) next.spelled).cards

  command-spelled : (M : Member) (t : Given) (input : Input) (made : MadeMessage) → IsByCommand kem rule M t input made
      → AreSpelled made.carried.cards
  command-spelled M t (inputs.Init inviter height) made by = absurd by
  command-spelled M t (inputs.Create others) made by = next-spelled M t by.0 kinds.Create (targets.Members (map id_of by.0)) made by.2
  command-spelled M t (inputs.Add card) made by =
      next-spelled M t (card ∷ []) kinds.Add (targets.Member (record { 0 = record { 0 = card_id card } })) made by
  command-spelled M t (inputs.Remove target) made by =
      next-spelled M t [] kinds.Remove (targets.Member (record { 0 = record { 0 = target } })) made by
  command-spelled M t inputs.Update made by = next-spelled M t [] kinds.Update targets.Nothing made by
  command-spelled M t (inputs.Send text) made by = next-spelled M t [] kinds.Text targets.Nothing made by
  command-spelled M t (inputs.Take packet) made by = absurd by

  spelled-more : (rows : List Row) (row : Row) → AreSpelled (cards_of rows) → AreSpelled row.cards → AreSpelled (cards_of (rows ++ row ∷ []))
  spelled-more rows row x y = subst AreSpelled (sym (cards-more rows row)) (both-spelled (cards_of rows) row.cards x y)

  made-spelled : (t : Given) (made : MadeMessage) (M : Member) → HasSpelled M → AreSpelled made.carried.cards
      → HasSpelled (with_made kem t made M)
  unfolding with_made
  made-spelled t made M x y = spelled-more M.rows (record { header = made.header; cards = made.carried.cards }) x y

  taken-spelled : (packet : ReadPacket) (M : Member) → HasSpelled M → Carries (body_of packet) → HasSpelled (with_taken kem packet M)
  unfolding with_taken
  taken-spelled packet M x y = over M.rows packet.history refl
    where
      over : (rows : List Row) (handed_on : Option WelcomeRows) → packet.history ≡ handed_on
          → HasSpelled (with_taken_over kem rows handed_on packet M)
      over [] None same = spelled-more [] (row_of_packet kem packet) none-spelled y.cards
      over [] (Some welcome) same =
          spelled-more (rows_of welcome) (row_of_packet kem packet) (rows-spelled welcome.cards welcome.rows (y.welcome welcome same)) y.cards
      over (row ∷ rows) handed_on same = spelled-more M.rows (row_of_packet kem packet) x y.cards

  begun : (step : Step) (made : Option MadeMessage) (after : Member) → Accepts kem rule None step made after → HasSpelled after
  begun step made after accepts = by step.input accepts.becomes
    where
      by : (input : Input) → BeginsBy kem rule input step.random made after → HasSpelled after
      by (inputs.Init inviter height) b = subst HasSpelled (sym b.0.is) none-spelled
      by (inputs.Create cards) b = absurd b
      by (inputs.Add card) b = absurd b
      by (inputs.Remove target) b = absurd b
      by inputs.Update b = absurd b
      by (inputs.Send text) b = absurd b
      by (inputs.Take packet) b = absurd b

  moved : (step : Step) (M : Member) (made : Option MadeMessage) (after : Member) → Accepts kem rule (Some M) step made after
      → HasSpelled M → HasSpelled after
  moved step M made after accepts x = by step.input accepts.becomes
    where
      t : Given
      t = given_by step

      command : (input : Input) → Commands kem rule t input M made after → HasSpelled after
      command input c =
          subst HasSpelled (sym c.after_is) (made-spelled t c.message M x (command-spelled M t input c.message c.by_command))

      by : (input : Input) → Moves kem rule t input M made after → HasSpelled after
      by (inputs.Init inviter height) m = absurd m
      by (inputs.Create cards) m = command (inputs.Create cards) m
      by (inputs.Add card) m = command (inputs.Add card) m
      by (inputs.Remove target) m = command (inputs.Remove target) m
      by inputs.Update m = command inputs.Update m
      by (inputs.Send text) m = command (inputs.Send text) m
      by (inputs.Take bytes) k =
          let packet = k.packet in
          let m = message_of packet.header in
          let now = taken-spelled packet M x (packet-carries packet bytes k.is_read) in
          elim (answer-or-not rule (own_id kem M) (known_before kem packet M) m) [
            | inl needs ↦ (let a = k.answered needs in
                let kind = answer_kind (own_id kem M) m.kind in
                subst HasSpelled (sym a.3) (made-spelled t a.0 (with_taken kem packet M) now
                (next-spelled (with_taken kem packet M) t [] kind (answer-target m kind (part_opens kem packet M)) a.0 a.2.is_next)))
            | inr none ↦ subst HasSpelled (sym (k.unanswered none).1) now
          ]

  cards-spelled : (steps : List Step) (M : Member) (made : List MadeMessage) → IsRunOf kem rule steps (Some M) made → HasSpelled M
  cards-spelled = run-holds kem rule HasSpelled begun moved

-- ---- cards of one id

module _ (all : List Card) where
  pair-one : (a b : Card) → In a all → In b all → HasBytes a → HasBytes b → (card_id a ≡ card_id b → a ≡ b) ⊎ HaveCollision all
  unfolding card_id
  pair-one a b in_a in_b x y = elim (same-or-not (card_id a) (card_id b)) [
    | inr n ↦ inl (λ e. absurd (n e))
    | inl e ↦ elim (one_or_collision (spelling a) (spelling b) e) [
      | inl s ↦ inl (λ d. one_card (spelling b) a b (subst (λ z. card_words.Spells a z) s x) y)
      | inr c ↦ inr (record { one = a; other = b; has_one = in_a; has_other = in_b; collide = c })
    ]
  ]

  against-one : (a : Card) → In a all → HasBytes a → (cards : List Card) → ((b : Card) → In b cards → In b all) → AreSpelled cards
      → ((b : Card) → In b cards → card_id a ≡ card_id b → a ≡ b) ⊎ HaveCollision all
  against-one a in_a x [] w s = inl (λ b i e. absurd (In-nothing i))
  against-one a in_a x (c ∷ cards) w s = elim (pair-one a c in_a (w c here) x (s c here)) [
    | inr d ↦ inr d
    | inl f ↦ elim (against-one a in_a x cards (λ b i. w b (there i)) (λ b i. s b (there i))) [
      | inr d ↦ inr d
      | inl g ↦ inl (λ b i. elim (In-cases i) [
        | inl e ↦ subst (λ z. card_id a ≡ card_id z → a ≡ z) (sym e) f
        | inr j ↦ g b j
      ])
    ]
  ]

  all-one : (xs : List Card) → ((b : Card) → In b xs → In b all) → AreSpelled all
      → ((a b : Card) → In a xs → In b all → card_id a ≡ card_id b → a ≡ b) ⊎ HaveCollision all
  all-one [] w k = inl (λ a b i j e. absurd (In-nothing i))
  all-one (x ∷ xs) w k = elim (against-one x (w x here) (k x (w x here)) all (λ b i. i) k) [
    | inr d ↦ inr d
    | inl f ↦ elim (all-one xs (λ b i. w b (there i)) k) [
      | inr d ↦ inr d
      | inl g ↦ inl (λ a b i j. elim (In-cases i) [
        | inl e ↦ subst (λ z. card_id z ≡ card_id b → z ≡ b) (sym e) (f b j)
        | inr l ↦ g a b l j
      ])
    ]
  ]

-- the member of a run has an owner, or two of the cards collide
pub owner-or-collision : {K P : Type 0} (kem : Ghosts K P) (rule : History → List Id) → IsMembershipRule rule → (steps : List Step)
    (M : Member) (made : List MadeMessage) → IsRunOf kem rule steps (Some M) made
    → ((O : Owner) × IsOwner kem rule M O) ⊎ HaveCollision (cards_of M.rows)
owner-or-collision kem rule is_rule steps M made run =
    let s = cards-spelled kem rule steps M made run in
    elim (all-one (cards_of M.rows) (cards_of M.rows) (λ b i. i) s) [
      | inl one ↦ inl (owner-there kem rule M is_rule one)
      | inr d ↦ inr d
    ]
