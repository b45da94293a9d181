-- The spellings of cards: how many bytes they have, which cards have one, and that they were appended.
use Rattle.std.proofs.Common.{◌≡◌, ◌⊎◌, ℕ, ◌+◌, ◌-◌, ◌*◌, ◌≤◌, ◌==◌, ◌||◌, IsTrue, List, [], ◌∷◌, ◌++◌, length, get_or, take, drop, ap, sym, subst, ◌∙◌, inl, inr, arith, refl, ◌<◌, ◌^◌, Bool, false, ◌↔◌}
use Rattle.std.specs.Int.{w8, to_be_bytes}
use Rattle.std.proofs.lemmas.Bool.Decides.{nat_tests}
use Rattle.std.proofs.lemmas.List.{length-append, take_all}
use Rattle.group_fields.specs.Cards as card_words
use Rattle.group_fields.specs.Cards.{HasSpelling, Spells, card_of_sets, key_size, lms_public, spelling}
use Rattle.group_fields.specs.LayoutWrites.{Appends}
use Rattle.group_fields.specs.Layouts as layouts
use Rattle.group_fields.specs.Layouts.{Layout, bytes_of, digest, known, number}
use Rattle.group_fields.specs.declared.card.Card.{Card}
use Rattle.group_fields.proofs.CardBytes.{fields_appended, spelled, spelled_has, spelling_is}
use Rattle.group_fields.proofs.WriteSteps.{bytes_spelled, digest_spelled, known_spelled, u8_spelled}
use Rattle.group_model.specs.Sets.{Bytes, In, here, there}
use Rattle.group_model.proofs.ListFacts.{In-cases}
use Rattle.reference_member.specs.Steps.{HasBytes, spellings}

-- ---- how many bytes they have

spelled-size : (bytes : Bytes) (a : Card) → Spells a bytes → length bytes ≡ 91 + length a.kem_public
unfolding card_of_sets lms_public known number bytes_of digest
spelled-size bytes a (
  (tag, (version, (of_set, (key, (inviter, kem))))),
  (
    f1,
    b1,
    e1,
    (s1, v1),
    (
      f2,
      b2,
      e2,
      (s2, v2),
      (
        f3,
        b3,
        e3,
        (s3, v3),
        (
          f4,
          b4,
          e4,
          (types, (k1, r1, d1, (t1, u1), (k2, r2, d2, (t2, u2), (k3, r3, d3, (t3, u3), (t4, u4)))), key_is),
          (f5, b5, e5, (s5, v5), (s6, v6)),
        ),
      ),
    ),
  ),
  fits,
  renamed,
) =
    let n1 = ap length e1 ∙ length-append f1 b1 in
    let n2 = ap length e2 ∙ length-append f2 b2 in
    let n3 = ap length e3 ∙ length-append f3 b3 in
    let n4 = ap length e4 ∙ length-append f4 b4 in
    let n5 = ap length e5 ∙ length-append f5 b5 in
    let m1 = ap length d1 ∙ length-append k1 r1 in
    let m2 = ap length d2 ∙ length-append k2 r2 in
    let m3 = ap length d3 ∙ length-append k3 r3 in
    let same : length a.kem_public ≡ length b5 = ap (λ (c : Card). length c.kem_public) renamed ∙ ap length v6 in
    sum (length a.kem_public) (length b1) (length b2) (length b3) (length b4) (length r1) (length r2)
    (n1 ∙ ap (λ (n : ℕ). n + length b1) s1.size) (n2 ∙ ap (λ (n : ℕ). n + length b2) s2.size) (n3 ∙ ap (λ (n : ℕ). n + length b3) s3.size)
    (n4 ∙ ap (λ (n : ℕ). n + length b4) (m1 ∙ ap (λ (n : ℕ). n + length r1) t1.size)) (m2 ∙ ap (λ (n : ℕ). n + length r2) t2.size)
    (m3 ∙ omega (arith, t3.size, t4.size)) (n5 ∙ omega (arith, s5.size, same))
  where
    sum : (size n1 n2 n3 n4 m1 m2 : ℕ) {n : ℕ} → n ≡ 1 + n1 → n1 ≡ 1 + n2 → n2 ≡ 1 + n3 → n3 ≡ 4 + m1 + n4 → m1 ≡ 4 + m2 → m2 ≡ 48 → n4 ≡ 32 + size
        → n ≡ 91 + size
    sum size n1 n2 n3 n4 m1 m2 a b c d e f g = omega arith

pub card-size : (card : Card) → HasBytes card → length (spelling card) ≡ 91 + length card.kem_public
card-size card is = spelled-size (spelling card) card is

known-set : (set : ℕ) → IsTrue ((set == 1) || (set == 2)) → (set ≡ 1) ⊎ (set ≡ 2)
known-set set is = grind (arith, nat_tests)

key-few : (set size : ℕ) → (set ≡ 1) ⊎ (set ≡ 2) → size ≡ key_size set → size ≤ 1158
key-few set size (inl e) is = let s = is ∙ ap key_size e in omega (arith, s)
key-few set size (inr e) is = let s = is ∙ ap key_size e in omega (arith, s)

-- a public key has at most 1,158 bytes
pub key-at-most : (card : Card) → HasBytes card → length card.kem_public ≤ 1158
key-at-most card is =
    let has = spelled_has card (spelling card) is in
    key-few card.set (length card.kem_public) (known-set card.set has.set) has.kem_public

pub card-at-most : (card : Card) → HasBytes card → length (spelling card) ≤ 1249
card-at-most card is = omega (arith, card-size card is, key-at-most card is)

pub cards-at-most : (cards : List Card) → ((card : Card) → In card cards → HasBytes card) → length (spellings cards) ≤ 1249 * length cards
cards-at-most [] all = omega arith
cards-at-most (card ∷ cards) all =
    let one = card-at-most card (all card here) in
    let others = cards-at-most cards (λ c i. all c (there i)) in
    omega (arith, one, others, length-append (spelling card) (spellings cards))

-- ---- which cards bytes spell

append-one : {A : Type 0} (part : Layout A) (a : A) (old back : Bytes) → layouts.Spells part back a → Appends part a old (old ++ back)
append-one part a old back is = record { back = back; whole = refl; spelled = is }

pub has-bytes : (card : Card) → HasSpelling card → card.set < 2 ^ 8 → length card.lms_public ≡ 56 → length card.inviter.0.0 ≡ 32
    → HasBytes card
has-bytes card has small key inviter =
    let tag : Bytes = [] ++ (0x43 ∷ []) in
    let version : Bytes = tag ++ (1 ∷ []) in
    let set : Bytes = version ++ to_be_bytes w8 card.set in
    let lms : Bytes = set ++ card.lms_public in
    let id : Bytes = lms ++ card.inviter.0.0 in
    let whole : Bytes = id ++ card.kem_public in
    let all = fields_appended card [] tag version set lms id whole has key
    (append-one (known (0x43 ∷ [])) tt [] (0x43 ∷ []) (known_spelled (0x43 ∷ [])))
    (append-one (known (1 ∷ [])) tt tag (1 ∷ []) (known_spelled (1 ∷ [])))
    (λ least greatest between. append-one (number w8 least greatest) card.set version (to_be_bytes w8 card.set)
    (u8_spelled least greatest card.set small between)) refl
    (append-one digest card.inviter.0 lms card.inviter.0.0 (digest_spelled card.inviter.0 inviter))
    (append-one (bytes_of (length card.kem_public)) card.kem_public id card.kem_public (bytes_spelled card.kem_public)) in
    let is = spelled card whole all in
    subst (λ (b : Bytes). Spells card b) (spelling_is card whole is) is

-- ---- that they were appended

pub card-appended : (card : Card) (old new : Bytes) → Appends card_words.card card old new → new ≡ old ++ spelling card
card-appended card old new a = a.whole ∙ ap (λ (b : Bytes). old ++ b) (spelling_is card a.back a.spelled)

-- ---- the first card of a slice, and the others

-- all cards of a slice but the first
abbrev pub rest_of : List Card → List Card
rest_of cards = take (length cards - 1) (drop 1 cards)

rest_is : (card : Card) (others : List Card) → others ≡ rest_of (card ∷ others)
rest_is card others = sym (take_all (length (card ∷ others) - 1) others (omega arith))

pub first_in : (cards : List Card) (first : Card) → 1 ≤ length cards → first ≡ get_or cards 0 first → In first cards
first_in [] first some is = absurd (omega (arith, some))
first_in (card ∷ others) first some is = subst (λ (c : Card). In c (card ∷ others)) (sym is) here

pub rest_in : (cards : List Card) (card : Card) → In card (rest_of cards) → In card cards
rest_in [] card i = i
rest_in (first ∷ others) card i = there (subst (In card) (sym (rest_is first others)) i)

-- ---- whether all have bytes

abbrev pub HaveBytes : List Card → Type 0
HaveBytes cards = (card : Card) → In card cards → HasBytes card

pub first-and-others : (cards : List Card) (first : Card) (b : Bool) → 1 ≤ length cards → first ≡ get_or cards 0 first → HasBytes first
    → IsTrue b ↔ HaveBytes (rest_of cards) → IsTrue b ↔ HaveBytes cards
first-and-others [] first b some is has others = absurd (omega (arith, some))
first-and-others (card ∷ cards) first b some is has others =
    let same : rest_of (card ∷ cards) ≡ cards = sym (rest_is card cards) in (
      λ yes c i. elim (In-cases i) [
        | inl e ↦ subst HasBytes (is ∙ sym e) has
        | inr j ↦ others.0 yes c (subst (λ (l : List Card). In c l) (sym same) j)
      ],
      λ all. others.1 (λ c i. all c (there (subst (λ (l : List Card). In c l) same i))),
    )

pub first-alone : (cards : List Card) (first : Card) (b : Bool) → 1 ≤ length cards → first ≡ get_or cards 0 first → b ≡ false
    → IsTrue b ↔ HasBytes first → IsTrue b ↔ HaveBytes cards
first-alone cards first b some is wrong says = (λ yes. absurd cc, λ all. says.1 (all first (first_in cards first some is)))
