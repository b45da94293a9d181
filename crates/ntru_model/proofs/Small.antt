-- Small numbers.
use Rattle.std.proofs.Common.{inl, inr, zero, suc, List, All, ℤ, pos, negsuc, refl, arith}
use Rattle.std.proofs.lemmas.Int.{ints}
use Rattle.std.proofs.lemmas.List.Elements.{All-weaker}
use Rattle.ring_poly.specs.Ring.{IsCentred, IsWithin}
use Rattle.ring_laws.specs.Laws.{AreSmall}
use Rattle.ntru_codec.specs.Small.{IsSmall}

pub small_within : (c : ℤ) → IsSmall c → IsWithin 1 c
small_within c h =
    elim h [
      | inl e ↦ (omega (arith, ints), omega (arith, ints))
      | inr r ↦ elim r [ inl e ↦ (omega (arith, ints), omega (arith, ints)) | inr e ↦ (omega (arith, ints), omega (arith, ints)) ]
    ]

pub within_small : (c : ℤ) → IsWithin 1 c → IsSmall c
within_small (pos zero) w = inr (inl refl)
within_small (pos (suc zero)) w = inr (inr refl)
within_small (pos (suc (suc n))) w = let hi = w.1 in absurd (omega (arith, ints))
within_small (negsuc zero) w = inl refl
within_small (negsuc (suc n)) w = let lo = w.0 in absurd (omega (arith, ints))

centred_within : (c : ℤ) → IsCentred (pos 3) c → IsWithin 1 c
centred_within c v = let lo = v.0 in let hi = v.1 in (omega (arith, ints), omega (arith, ints))

within_centred : (c : ℤ) → IsWithin 1 c → IsCentred (pos 3) c
within_centred c w = let lo = w.0 in let hi = w.1 in (omega (arith, ints), omega (arith, ints))

pub all_small_within : (a : List ℤ) → All IsSmall a → AreSmall a
all_small_within a h = All-weaker IsSmall (IsWithin 1) small_within a h

pub all_within_small : (a : List ℤ) → AreSmall a → All IsSmall a
all_within_small a h = All-weaker (IsWithin 1) IsSmall within_small a h

pub all_centred_within : (a : List ℤ) → All (IsCentred (pos 3)) a → AreSmall a
all_centred_within a h = All-weaker (IsCentred (pos 3)) (IsWithin 1) centred_within a h

pub all_within_centred : (a : List ℤ) → AreSmall a → All (IsCentred (pos 3)) a
all_within_centred a h = All-weaker (IsWithin 1) (IsCentred (pos 3)) within_centred a h
