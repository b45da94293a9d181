-- Bits of numbers and of words.
use Rattle.std.proofs.Common.{◌≡◌, ◌≢◌, ℕ, zero, suc, ◌*◌, ◌/◌, ◌%◌, ◌^◌, ◌-◌, ◌<◌, ◌≤◌, ◌⊎◌, inl, inr, false, true, List, length, get_or, refl, sym, ap, ◌∙◌, arith, slice_set, slice_index, bit_or, bit_and, replicate, get_or-set_same, get_or-set_other, w64, nat_eq, ltb, ◌&&◌, ◌||◌, not, min}
use Rattle.std.specs.Int.{bit_at}
use Rattle.std.proofs.lemmas.Nat.Bits.{bit_at_set_same, bit_at_set_other, bit_at-zero, bit_at_and, bit_at_or, bit_at_not, bit_at-lt, bit_at_above, same_from_bits}
use Rattle.std.proofs.lemmas.Bool.Decides.{eqb_tells}
use Rattle.std.proofs.lemmas.Bool.{ltb-true, ltb-false}
use Rattle.group_model.proofs.ListFacts.{test, yes_is, no_is}
use Rattle.causal_history.specs.Bits.{mark, bit}

-- ---- bits of words

zeros : (n i : ℕ) → ◌≡◌ {A = ℕ} (get_or (replicate n 0) i 0) 0
zeros zero i = refl
zeros (suc n) zero = refl
zeros (suc n) (suc i) = zeros n i

pub mark-zeros : (n i : ℕ) → mark (replicate n 0) i ≡ false
unfolding mark
mark-zeros n i = rw (zeros n (i / 64)) (rw (bit_at-zero (i % 64)) refl)

pub mark-put_same : (words : List ℕ) (i : ℕ) → i / 64 < length words
    → mark (slice_set words (i / 64) (bit_or (slice_index words (i / 64)) (1 * 2 ^ (i % 64) % 2 ^ 64))) i ≡ true
unfolding mark
mark-put_same words i l =
    rw (get_or-set_same words (i / 64) (bit_or (get_or words (i / 64) 0) (1 * 2 ^ (i % 64) % 2 ^ 64)) 0 l)
    (rw (bit_at_set_same w64 (get_or words (i / 64) 0) (i % 64) (omega arith)) refl)

pub mark-put_other : (words : List ℕ) (i j : ℕ) → i / 64 < length words → j ≢ i
    → mark (slice_set words (i / 64) (bit_or (slice_index words (i / 64)) (1 * 2 ^ (i % 64) % 2 ^ 64))) j ≡ mark words j
unfolding mark
mark-put_other words i j l n =
    let v : ℕ = bit_or (get_or words (i / 64) 0) (1 * 2 ^ (i % 64) % 2 ^ 64) in
    elim (eqb_tells (j / 64) (i / 64)) [
      | inl e ↦
          let d : j % 64 ≢ i % 64 = λ q. n (omega arith) in
          ap (λ k. nat_eq (bit_at (get_or (slice_set words (i / 64) v) k 0) (j % 64)) 1) (e.1)
          ∙ ap (λ k. nat_eq (bit_at k (j % 64)) 1) (get_or-set_same words (i / 64) v 0 l)
          ∙ ap (λ k. nat_eq k 1) (bit_at_set_other w64 (get_or words (i / 64) 0) (i % 64) (omega arith) (j % 64) d)
          ∙ ap (λ k. nat_eq (bit_at (get_or words k 0) (j % 64)) 1) (sym (e.1))
      | inr e ↦ ap (λ k. nat_eq (bit_at k (j % 64)) 1) (get_or-set_other words (i / 64) (j / 64) v 0 e.1)
    ]

-- ---- bits of a number

pub bit-none : (p : ℕ) → bit 0 p ≡ false
unfolding bit
bit-none p = rw (bit_at-zero p) refl

pub bit-put_same : (n p : ℕ) → p < 64 → bit (bit_or n (1 * 2 ^ p % 2 ^ 64)) p ≡ true
unfolding bit
bit-put_same n p l = rw (bit_at_set_same w64 n p l) refl

pub bit-put_other : (n p q : ℕ) → p < 64 → q ≢ p → bit (bit_or n (1 * 2 ^ p % 2 ^ 64)) q ≡ bit n q
unfolding bit
bit-put_other n p q l d = rw (bit_at_set_other w64 n p l q d) refl

zero_or_one : (n : ℕ) → n < 2 → (n ≡ 0) ⊎ (n ≡ 1)
zero_or_one zero l = inl refl
zero_or_one (suc zero) l = inr refl
zero_or_one (suc (suc n)) l = absurd (omega arith)

pub bit-without : (n m p : ℕ) → n < 2 ^ 64 → m < 2 ^ 64 → bit (bit_and n (2 ^ 64 - 1 - m)) p ≡ (bit n p && not (bit m p))
unfolding bit
bit-without n m p f g = rw (bit_at_and n (2 ^ 64 - 1 - m) p) (elim (below_or_not p) [
  | inl l ↦ rw (bit_at_not w64 m p g l) (elim (zero_or_one (bit_at n p) (bit_at-lt n p)) [
    | inl a ↦ elim (zero_or_one (bit_at m p) (bit_at-lt m p)) [ inl b ↦ rw (a, b) refl | inr b ↦ rw (a, b) refl ]
    | inr a ↦ elim (zero_or_one (bit_at m p) (bit_at-lt m p)) [ inl b ↦ rw (a, b) refl | inr b ↦ rw (a, b) refl ]
  ])
  | inr l ↦ rw (bit_at_above n 64 p f l) (beyond (bit_at (2 ^ 64 - 1 - m) p))
])
  where
    below_or_not : (p : ℕ) → (p < 64) ⊎ (64 ≤ p)
    below_or_not p = elim (test (ltb p 64)) [ yes_is e ↦ inl (ltb-true p 64 e) | no_is e ↦ inr (ltb-false p 64 e) ]

    beyond : (k : ℕ) → nat_eq (min 0 k) 1 ≡ false
    beyond k = let e : min 0 k ≡ 0 = omega arith in rw e refl

-- the bits of the one number or the other
pub bit-union : (n m p : ℕ) → bit (bit_or n m) p ≡ (bit n p || bit m p)
unfolding bit
bit-union n m p = rw (bit_at_or n m p) (elim (zero_or_one (bit_at n p) (bit_at-lt n p)) [
  | inl a ↦ elim (zero_or_one (bit_at m p) (bit_at-lt m p)) [ inl b ↦ rw (a, b) refl | inr b ↦ rw (a, b) refl ]
  | inr a ↦ elim (zero_or_one (bit_at m p) (bit_at-lt m p)) [ inl b ↦ rw (a, b) refl | inr b ↦ rw (a, b) refl ]
])

-- a number with no bit is none
pub none-empty : (n : ℕ) → ((p : ℕ) → bit n p ≡ false) → n ≡ 0
unfolding bit
none-empty n none = same_from_bits n 0 (λ i. elim (zero_or_one (bit_at n i) (bit_at-lt n i)) [
  | inl a ↦ a ∙ sym (bit_at-zero i)
  | inr b ↦ absurd (let e = none i in let f : nat_eq (bit_at n i) 1 ≡ true = rw b refl in cc)
])

pub empty-none : (n : ℕ) → n ≡ 0 → (p : ℕ) → bit n p ≡ false
empty-none n e p = ap (λ z. bit z p) e ∙ bit-none p
