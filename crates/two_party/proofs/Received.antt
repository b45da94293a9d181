-- What bytes bring to a side.
use Rattle.std.proofs.Common.{◌≡◌, ℕ, ◌+◌, Bool, true, false, cond, ◌&&◌, length, take, drop, Option, Some, None, refl, sym, ◌∙◌, ap, ap₂, option_map, nat_eq, nat_lt}
use Rattle.std.specs.Prelude.{slice_index}
use Rattle.std.specs.Option.{option_and_then}
use Rattle.std.specs.Int.{w32, from_be_bytes}
use Rattle.kem_trait.specs.declared.kem.Kem.{Ghosts}
use Rattle.group_model.specs.Sets.{Bytes}
use Rattle.group_model.specs.Primitives.{Content}
use Rattle.group_model.specs.Pairing.{Part}
use Rattle.group_parts.specs.Parts.{part_len, part_read, part_in}
use Rattle.group_keys.specs.Primitives.{primitives_of}
use Rattle.member_book.specs.PairStates.{PairState, opens_to, after_open}
use Rattle.two_party.specs.Received.{received, payload_of, after_opened, after_part}

module _ {K P : Type 0} (kem : Ghosts K P) (k : PairState) (bytes : Bytes) where
  abbrev passes : Bool
  passes = nat_eq (length bytes) (part_len kem) && nat_lt (slice_index bytes 0) 2

  pub received-none : (b : Bool) → b ≡ passes → b ≡ false → received kem k bytes ≡ None
  unfolding part_read
  received-none b e f =
      ap (λ (x : Bool). option_and_then (λ (part : Part). opens_to (primitives_of kem) k part) (cond x (Some (part_in kem bytes)) None)) (sym e ∙ f)

  pub received-is : (b : Bool) → b ≡ passes → b ≡ true → (m : Bool) (n : ℕ) (c s : Bytes)
      → m ≡ nat_eq (slice_index bytes 0) 1 → n ≡ from_be_bytes w32 (take 4 (drop 1 bytes)) → c ≡ take kem.CIPHER_LEN (drop 5 bytes)
      → s ≡ drop (5 + kem.CIPHER_LEN) bytes
      → received kem k bytes ≡ opens_to (primitives_of kem) k (record { made_by_sender = m; number = n; ciphertext = c; sealed = s })
  unfolding part_read
  received-is b e f m n c s me ne ce se =
      let same : part_in kem bytes ≡ record { made_by_sender = m; number = n; ciphertext = c; sealed = s } = rw (← me, ← ne, ← ce, ← se) refl in
      ap (λ (x : Bool). option_and_then (λ (part : Part). opens_to (primitives_of kem) k part) (cond x (Some (part_in kem bytes)) None)) (sym e ∙ f)
      ∙ ap (opens_to (primitives_of kem) k) same

  pub answer-is : (o : Option Content) → received kem k bytes ≡ o → option_map payload_of o ≡ option_map payload_of (received kem k bytes)
  answer-is o e = ap (option_map payload_of) (sym e)

  pub kept-is : (o : Option Content) → received kem k bytes ≡ o → after_opened k (part_in kem bytes) o ≡ after_part kem k bytes
  kept-is o e = ap (after_opened k (part_in kem bytes)) (sym e)

  pub kept-some : (z : PairState) (m : Bool) (n : ℕ) (content : Content) → z ≡ after_open k m n content
      → m ≡ nat_eq (slice_index bytes 0) 1 → n ≡ from_be_bytes w32 (take 4 (drop 1 bytes)) → received kem k bytes ≡ Some content
      → z ≡ after_part kem k bytes
  kept-some z m n content h me ne e =
      h ∙ ap₂ (λ (x : Bool) (y : ℕ). after_open k x y content) me ne ∙ kept-is (Some content) e
