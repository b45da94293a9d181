-- Parts that are written, and parts of a packet, read as parts.
use Rattle.std.proofs.Common.{◌≡◌, inl, inr, ℕ, Bool, true, false, cond, ◌&&◌, nat_eq, nat_lt, ◌∙◌, ap, ap₂, sym, refl, List, [], ◌∷◌, ◌++◌, length, take, drop, map, ◌+◌, Some, None, arith, length-drop, take-append-drop}
use Rattle.std.specs.Prelude.{slice_index}
use Rattle.std.specs.Int.{w8, w32, to_be_bytes}
use Rattle.std.proofs.lemmas.List.{length-take-le}
use Rattle.group_fields.specs.Layouts.{Spells, bytes_of, number}
use Rattle.kem_trait.specs.declared.kem.Kem.{Ghosts}
use Rattle.group_model.specs.Packets.{Addressed}
use Rattle.group_model.specs.Pairing.{Part}
use Rattle.group_model.specs.Sets.{Bytes}
use Rattle.group_parts.specs.Contents.{content_len}
use Rattle.group_parts.specs.Parts.{IsSized, origin_of, part_bytes, part_in, part_len, part_read}
use Rattle.wire_codec.specs.Packets.{ciphertext_size, part, part_size, sealed_size}
use Rattle.group_packets.specs.Packets.{AreSized, addressed_of, part_written}

let_through : (b : Bool) (x y : Part) → cond b (Some x) None ≡ Some y → x ≡ y
let_through true x y e = cc
let_through false x y e = absurd cc

origin_spelled : (b : Bool) → Spells (number w8 0 1) (origin_of b ∷ []) (origin_of b)
unfolding number
origin_spelled true = (record { size = refl; allowed = refl }, refl)
origin_spelled false = (record { size = refl; allowed = refl }, refl)

module _ {K P : Type 0} (kem : Ghosts K P) where
  read_is : (bytes : Bytes) (part : Part) → part_read kem bytes ≡ Some part → part_in kem bytes ≡ part
  unfolding part_read
  read_is bytes part e =
      let_through (nat_eq (length bytes) (part_len kem) && nat_lt (slice_index bytes 0) 2) (part_in kem bytes) part e

  pub written_back : ((part : Part) → IsSized kem part → part_read kem (part_bytes kem part) ≡ Some part) → (parts : List Addressed)
      → AreSized kem parts → map (addressed_of kem) (map (part_written kem) parts) ≡ parts
  written_back back [] h = refl
  written_back back (one ∷ others) (sized, rest) =
      ap₂ (λ (p : Part) (l : List Addressed). let a : Addressed = record { to = one.to; part = p } in a ∷ l)
      (read_is (part_bytes kem one.part) one.part (back one.part sized)) (written_back back others rest)

  -- the length of a part by the number of the set
  pub part_long : part_size kem.SET ≡ part_len kem
  part_long = elim kem.has_set_lengths [
    | inl first ↦ lengths_of kem.SET 1 first.0 refl (omega (arith, first.1, first.2, first.3))
    | inr second ↦ lengths_of kem.SET 2 second.0 refl (omega (arith, second.1, second.2, second.3))
  ]
    where
      lengths_of : (set n : ℕ) → set ≡ n → {size : ℕ} → part_size n ≡ size → size ≡ part_len kem → part_size set ≡ part_len kem
      lengths_of set n e known is = ap part_size e ∙ known ∙ is

  -- the lengths of what a part has, by the number of the set
  pub cipher_long : ciphertext_size kem.SET ≡ kem.CIPHER_LEN
  cipher_long = elim kem.has_set_lengths [
    | inl first ↦ ap ciphertext_size first.0 ∙ sym first.3
    | inr second ↦ ap ciphertext_size second.0 ∙ sym second.3
  ]

  pub sealed_long : sealed_size kem.SET ≡ content_len kem
  sealed_long = elim kem.has_set_lengths [
    | inl first ↦ let size : sealed_size kem.SET ≡ 2957 = ap sealed_size first.0 in omega (arith, first.1, first.2, first.3, size)
    | inr second ↦ let size : sealed_size kem.SET ≡ 164 = ap sealed_size second.0 in omega (arith, second.1, second.2, second.3, size)
  ]

  pub part_spelled : (q : Part) → IsSized kem q → Spells (part kem.SET) (part_bytes kem q) (part_bytes kem q)
  unfolding part part_bytes bytes_of
  part_spelled q sized =
      let four = to_be_bytes w32 q.number in
      let front = take (sealed_size kem.SET) q.sealed in
      let back = drop (sealed_size kem.SET) q.sealed in
      let long : length q.sealed ≡ sealed_size kem.SET + 32 = omega (arith, sized.sealed, sealed_long) in (
        (origin_of q.made_by_sender, (four, (q.ciphertext, (front, back)))),
        (
          origin_of q.made_by_sender ∷ [],
          four ++ (q.ciphertext ++ q.sealed),
          refl,
          origin_spelled q.made_by_sender,
          (
            four,
            q.ciphertext ++ q.sealed,
            refl,
            (record { size = refl; allowed = refl }, refl),
            (
              q.ciphertext,
              q.sealed,
              refl,
              (record { size = sized.ciphertext ∙ sym cipher_long; allowed = refl }, refl),
              (
                front,
                back,
                sym (take-append-drop (sealed_size kem.SET) q.sealed),
                (record { size = length-take-le (sealed_size kem.SET) q.sealed (omega (arith, long)); allowed = refl }, refl),
                (record { size = length-drop (sealed_size kem.SET) q.sealed ∙ omega (arith, long); allowed = refl }, refl),
              ),
            ),
          ),
        ),
        refl,
      )
