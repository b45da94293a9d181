use Rattle.std.proofs.Common.{◌≡◌, ℕ, ◌≤◌, inl, inr, arith}
use Rattle.kem_trait.specs.Lengths.{HasSetLengths}
use Rattle.kem_trait.proofs.laws.has_set_lengths.Goals as goal

most : (set public secret cipher : ℕ) → HasSetLengths set public secret cipher → (public ≤ 1158) × (secret ≤ 1763) × (cipher ≤ 1039)
most set public secret cipher has = elim has [
  | inl first ↦
      let of_public : public ≡ 1158 = first.1 in
      let of_secret : secret ≡ 1763 = first.2 in
      let of_cipher : cipher ≡ 1039 = first.3 in
      (omega arith, omega arith, omega arith)
  | inr second ↦
      let of_public : public ≡ 33 = second.1 in
      let of_secret : secret ≡ 95 = second.2 in
      let of_cipher : cipher ≡ 58 = second.3 in
      (omega arith, omega arith, omega arith)
]

pub returns-clause-set : goal.returns-clause-set
returns-clause-set g c = g.K.Kem.has_set_lengths

pub returns-clause-most : goal.returns-clause-most
returns-clause-most g c = most g.K.Kem.SET g.K.Kem.PUBLIC_LEN g.K.Kem.SECRET_LEN g.K.Kem.CIPHER_LEN g.K.Kem.has_set_lengths
