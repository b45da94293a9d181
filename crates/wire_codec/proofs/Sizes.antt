-- How many bytes the parts and the cards of a packet have.
use Rattle.std.proofs.Common.{◌≡◌, ℕ, ◌+◌, true, nat_le, List, length, bytes_eq, ap, ◌∙◌, arith}
use Rattle.std.specs.Prelude.{Option}
use Rattle.std.specs.Int.{w8, from_be_bytes, to_be_bytes}
use Rattle.std.proofs.lemmas.Bool.{and_parts, leb-true}
use Rattle.std.proofs.lemmas.List.{length-append}
use Rattle.group_fields.specs.Cards.{card_of_sets, key_size, lms_public}
use Rattle.group_fields.specs.Fields.{is_between}
use Rattle.group_fields.specs.Layouts.{Spells, bytes_of, digest, known, next_id, number}
use Rattle.group_fields.specs.declared.card.Card.{Card}
use Rattle.group_fields.specs.declared.ids.Digest.{Digest}
use Rattle.wire_codec.specs.Packets.{AddressedPart, addressed, card_size, part, part_size}

pub part_long : (set : ℕ) (bytes a : List ℕ) → Spells (part set) bytes a → length bytes ≡ part_size set
unfolding part number bytes_of
part_long set bytes a (inner, (f1, b1, e1, (s1, v1), (f2, b2, e2, (s2, v2), (f3, b3, e3, (s3, v3), (f4, b4, e4, (s4, v4), (s5, v5))))), is) =
    let n1 = ap length e1 ∙ length-append f1 b1 in
    let n2 = ap length e2 ∙ length-append f2 b2 in
    let n3 = ap length e3 ∙ length-append f3 b3 in
    let n4 = ap length e4 ∙ length-append f4 b4 in
    omega (arith, n1, n2, n3, n4, s1.size, s2.size, s3.size, s4.size, s5.size)

pub addressed_long : (set : ℕ) (last : Option Digest) (bytes : List ℕ) (a : AddressedPart) → Spells (addressed set last) bytes a
    → length bytes ≡ 32 + part_size set
unfolding addressed next_id
addressed_long set last bytes a (pair, (front, back, e, (fills, id_is), spelled), fits, is) =
    let long = part_long set back pair.1 spelled in
    omega (arith, ap length e, length-append front back, fills.size, long)

-- a number between itself and itself
pub only_one : (set n : ℕ) → is_between set set n ≡ true → n ≡ set
only_one set n is =
    let both = and_parts (nat_le set n) (nat_le n set) is in
    let above = leb-true set n both.0 in
    let below = leb-true n set both.1 in
    omega arith

pub card_long : (set : ℕ) (bytes : List ℕ) (a : Card) → Spells (card_of_sets set set) bytes a → length bytes ≡ card_size set
unfolding card_of_sets lms_public known number bytes_of digest
card_long set bytes a (
  (tag, (version, (of_set, (key, (inviter, kem))))),
  (
    f1,
    b1,
    e1,
    (s1, v1),
    (
      f2,
      b2,
      e2,
      (s2, v2),
      (
        f3,
        b3,
        e3,
        (s3, v3),
        (
          f4,
          b4,
          e4,
          (types, (k1, r1, d1, (t1, u1), (k2, r2, d2, (t2, u2), (k3, r3, d3, (t3, u3), (t4, u4)))), key_is),
          (f5, b5, e5, (s5, v5), (s6, v6)),
        ),
      ),
    ),
  ),
  fits,
  renamed,
) =
    let between = (and_parts (is_between set set (from_be_bytes w8 f3)) (bytes_eq (to_be_bytes w8 (from_be_bytes w8 f3)) f3) s3.allowed).0 in
    let same : of_set ≡ set = v3 ∙ only_one set (from_be_bytes w8 f3) between in
    let kem_size : length b5 ≡ key_size set = s6.size ∙ ap key_size same in
    let n1 = ap length e1 ∙ length-append f1 b1 in
    let n2 = ap length e2 ∙ length-append f2 b2 in
    let n3 = ap length e3 ∙ length-append f3 b3 in
    let n4 = ap length e4 ∙ length-append f4 b4 in
    let n5 = ap length e5 ∙ length-append f5 b5 in
    let m1 = ap length d1 ∙ length-append k1 r1 in
    let m2 = ap length d2 ∙ length-append k2 r2 in
    let m3 = ap length d3 ∙ length-append k3 r3 in
    sum (key_size set) (length b1) (length b2) (length b3) (length b4) (length r1) (length r2)
    (n1 ∙ ap (λ (n : ℕ). n + length b1) s1.size) (n2 ∙ ap (λ (n : ℕ). n + length b2) s2.size) (n3 ∙ ap (λ (n : ℕ). n + length b3) s3.size)
    (n4 ∙ ap (λ (n : ℕ). n + length b4) (m1 ∙ ap (λ (n : ℕ). n + length r1) t1.size)) (m2 ∙ ap (λ (n : ℕ). n + length r2) t2.size)
    (m3 ∙ omega (arith, t3.size, t4.size)) (n5 ∙ omega (arith, s5.size, kem_size))
  where
    sum : (size n1 n2 n3 n4 m1 m2 : ℕ) {n : ℕ} → n ≡ 1 + n1 → n1 ≡ 1 + n2 → n2 ≡ 1 + n3 → n3 ≡ 4 + m1 + n4 → m1 ≡ 4 + m2 → m2 ≡ 48 → n4 ≡ 32 + size
        → n ≡ 91 + size
    sum size n1 n2 n3 n4 m1 m2 a b c d e f g = omega arith
