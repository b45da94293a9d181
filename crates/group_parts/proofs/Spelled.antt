-- The spelling of a part and its reading are inverse.
use Rattle.std.proofs.Common.{◌≡◌, ℕ, zero, suc, ◌+◌, ◌^◌, ◌<◌, Bool, true, false, ◌&&◌, cond, List, [], ◌∷◌, ◌++◌, length, take, drop, Some, None, refl, sym, ◌∙◌, ap, ap₂, subst, nat_eq, nat_lt, arith, length-append, length-drop, take-append-drop}
use Rattle.std.specs.Prelude.{slice_index}
use Rattle.std.specs.Int.{w32, to_be_bytes, from_be_bytes}
use Rattle.std.proofs.lemmas.Nat.{from_be_bytes-to_be_bytes_4, be_bytes_4}
use Rattle.std.proofs.lemmas.Bool.{and_from, and_parts}
use Rattle.std.proofs.lemmas.Bool.Decides.{nat_tests}
use Rattle.std.proofs.lemmas.List.{take_at, drop_at, drop-drop, length-take-le}
use Rattle.std.proofs.lemmas.List.Elements.{All-take, All-drop}
use Rattle.kem_trait.specs.declared.kem.Kem.{Ghosts}
use Rattle.group_model.specs.Sets.{Bytes}
use Rattle.group_model.specs.Pairing.{Part}
use Rattle.group_parts.specs.Parts.{AreBytes, origin_of, sealed_len, part_len, IsSized, part_bytes, part_in, part_read}
use Rattle.group_parts.proofs.Written.{byte-at, let_through, length-four}

origin-is : (b : Bool) → nat_eq (origin_of b) 1 ≡ b
origin-is true = refl
origin-is false = refl

origin-low : (b : Bool) → nat_lt (origin_of b) 2 ≡ true
origin-low true = refl
origin-low false = refl

origin-back : (x : ℕ) → x < 2 → origin_of (nat_eq x 1) ≡ x
origin-back zero h = refl
origin-back (suc zero) h = refl
origin-back (suc (suc x)) h = absurd (omega arith)

four-fits : (bs : List ℕ) → length bs ≡ 4 → AreBytes bs → from_be_bytes w32 bs < 2 ^ 32
four-fits bs n h =
    let a : slice_index bs 0 < 256 = byte-at bs h 0 in
    let b : slice_index bs 1 < 256 = byte-at bs h 1 in
    let c : slice_index bs 2 < 256 = byte-at bs h 2 in
    let d : slice_index bs 3 < 256 = byte-at bs h 3 in
    omega arith

module _ {K P : Type 0} (kem : Ghosts K P) where
  pub length-spelled : (part : Part) → IsSized kem part → length (part_bytes kem part) ≡ part_len kem
  unfolding part_bytes
  length-spelled part h =
      let four : Bytes = to_be_bytes w32 part.number in
      let n4 : length four ≡ 4 = length-four part.number in
      let rest : length (four ++ (part.ciphertext ++ part.sealed)) ≡ 4 + (kem.CIPHER_LEN + sealed_len kem) =
      length-append four (part.ciphertext ++ part.sealed)
      ∙ ap₂ (λ (a b : ℕ). a + b) n4 (length-append part.ciphertext part.sealed ∙ ap₂ (λ (a b : ℕ). a + b) h.ciphertext h.sealed) in
      omega arith

  fields-back : (part : Part) → IsSized kem part → part_in kem (part_bytes kem part) ≡ part
  unfolding part_bytes
  fields-back part h =
      let four : Bytes = to_be_bytes w32 part.number in
      let n4 : length four ≡ 4 = length-four part.number in
      let rest : Bytes = four ++ (part.ciphertext ++ part.sealed) in
      let whole : Bytes = origin_of part.made_by_sender ∷ rest in
      let d5 : drop 5 whole ≡ part.ciphertext ++ part.sealed = drop_at four (part.ciphertext ++ part.sealed) 4 n4 in
      let d6 : drop (5 + kem.CIPHER_LEN) whole ≡ part.sealed =
      sym (drop-drop kem.CIPHER_LEN 5 whole) ∙ ap (drop kem.CIPHER_LEN) d5 ∙ drop_at part.ciphertext part.sealed kem.CIPHER_LEN h.ciphertext in
      let cipher : take kem.CIPHER_LEN (drop 5 whole) ≡ part.ciphertext =
      ap (take kem.CIPHER_LEN) d5 ∙ take_at part.ciphertext part.sealed kem.CIPHER_LEN h.ciphertext in
      let number : from_be_bytes w32 (take 4 rest) ≡ part.number =
      ap (from_be_bytes w32) (take_at four (part.ciphertext ++ part.sealed) 4 n4) ∙ from_be_bytes-to_be_bytes_4 part.number h.number in
      let origin : nat_eq (origin_of part.made_by_sender) 1 ≡ part.made_by_sender = origin-is part.made_by_sender in
      let cipher' : take kem.CIPHER_LEN (drop 4 rest) ≡ part.ciphertext = cipher in
      let sealed : drop (5 + kem.CIPHER_LEN) whole ≡ part.sealed = d6 in
      rw (origin, number, cipher', sealed) refl

  first-low : (part : Part) → nat_lt (slice_index (part_bytes kem part) 0) 2 ≡ true
  unfolding part_bytes
  first-low part = origin-low part.made_by_sender

  -- a part reads back from its spelling
  pub part_read-part_bytes : (part : Part) → IsSized kem part → part_read kem (part_bytes kem part) ≡ Some part
  unfolding part_read
  part_read-part_bytes part h =
      let whole : Bytes = part_bytes kem part in
      let long : nat_eq (length whole) (part_len kem) ≡ true = (let l : length whole ≡ part_len kem = length-spelled part h in rw l (grind (arith, nat_tests))) in
      let low : nat_lt (slice_index whole 0) 2 ≡ true = first-low part in
      let test : (nat_eq (length whole) (part_len kem) && nat_lt (slice_index whole 0) 2) ≡ true =
      and_from (nat_eq (length whole) (part_len kem)) (nat_lt (slice_index whole 0) 2) long low in
      ap (λ (b : Bool). cond b (Some (part_in kem whole)) None) test ∙ ap Some (fields-back part h)

  -- bytes of the right length with origin 0 or 1 are the spelling of their fields
  spelled-from : (x : ℕ) (rest : Bytes) → AreBytes (x ∷ rest) → length (x ∷ rest) ≡ part_len kem → x < 2
      → IsSized kem (part_in kem (x ∷ rest)) × (part_bytes kem (part_in kem (x ∷ rest)) ≡ x ∷ rest)
  unfolding part_bytes
  spelled-from x rest h n low =
      let whole : Bytes = x ∷ rest in
      let four : length (take 4 rest) ≡ 4 = length-take-le 4 rest (omega arith) in
      let of_rest : AreBytes rest = All-drop (λ (b : ℕ). b < 256) 1 (x ∷ rest) h in
      let bytes4 : AreBytes (take 4 rest) = All-take (λ (b : ℕ). b < 256) 4 rest of_rest in
      let spelt : to_be_bytes w32 (from_be_bytes w32 (take 4 rest)) ≡ take 4 rest =
      be_bytes_4 (take 4 rest) (from_be_bytes w32 (take 4 rest)) four (byte-at (take 4 rest) bytes4) refl in
      let rest4 : Bytes = drop 4 rest in
      let tail : drop (5 + kem.CIPHER_LEN) whole ≡ drop kem.CIPHER_LEN rest4 = sym (drop-drop kem.CIPHER_LEN 5 whole) in
      let n4 : length rest4 ≡ kem.CIPHER_LEN + sealed_len kem = omega (arith, length-drop 4 rest) in
      let joined : take kem.CIPHER_LEN rest4 ++ drop (5 + kem.CIPHER_LEN) whole ≡ rest4 =
      ap (λ (z : Bytes). take kem.CIPHER_LEN rest4 ++ z) tail ∙ take-append-drop kem.CIPHER_LEN rest4 in (
        record {
          number = four-fits (take 4 rest) four bytes4;
          ciphertext = length-take-le kem.CIPHER_LEN rest4 (omega arith);
          sealed = ap length tail ∙ omega (arith, length-drop kem.CIPHER_LEN rest4);
        },
        ap₂ (λ (a : ℕ) (b : Bytes). a ∷ b) (origin-back x low) (ap₂ (λ (a b : Bytes). a ++ b) spelt joined ∙ take-append-drop 4 rest),
      )

  -- what reads as a part is its spelling
  pub one_spelling : (bytes : Bytes) (part : Part) → AreBytes bytes → part_read kem bytes ≡ Some part
      → IsSized kem part × (part_bytes kem part ≡ bytes)
  unfolding part_read
  one_spelling [] part h e = let t = let_through (nat_eq (length {A = ℕ} []) (part_len kem) && nat_lt (slice_index [] 0) 2) (part_in kem []) part e in
      let a = and_parts (nat_eq (length {A = ℕ} []) (part_len kem)) (nat_lt (slice_index [] 0) 2) t.0 in
      let n : 0 ≡ part_len kem = (let b : nat_eq 0 (part_len kem) ≡ true = a.0 in grind (arith, nat_tests)) in absurd (omega arith)
  one_spelling (x ∷ rest) part h e =
      let t = let_through (nat_eq (length (x ∷ rest)) (part_len kem) && nat_lt x 2) (part_in kem (x ∷ rest)) part e in
      let a = and_parts (nat_eq (length (x ∷ rest)) (part_len kem)) (nat_lt x 2) t.0 in
      let n : length (x ∷ rest) ≡ part_len kem = (let b : nat_eq (length (x ∷ rest)) (part_len kem) ≡ true = a.0 in grind (arith, nat_tests)) in
      let low : x < 2 = (let b : nat_lt x 2 ≡ true = a.1 in grind (arith, nat_tests)) in
      subst (λ (p : Part). IsSized kem p × (part_bytes kem p ≡ x ∷ rest)) t.1 (spelled-from x rest h n low)

  -- each string of the right length with origin 0 or 1 reads as a part
  pub reads : (bytes : Bytes) → length bytes ≡ part_len kem → slice_index bytes 0 < 2 → part_read kem bytes ≡ Some (part_in kem bytes)
  unfolding part_read
  reads bytes n low =
      let long : nat_eq (length bytes) (part_len kem) ≡ true = rw n (grind (arith, nat_tests)) in
      let first : nat_lt (slice_index bytes 0) 2 ≡ true = grind (arith, nat_tests) in
      ap (λ (b : Bool). cond b (Some (part_in kem bytes)) None)
      (and_from (nat_eq (length bytes) (part_len kem)) (nat_lt (slice_index bytes 0) 2) long first)
