-- Centred numbers, and rounding.
use Rattle.std.proofs.Common.{◌≡◌, ℕ, ◌+◌, ◌*◌, List, length, ◌/◌, ℤ, pos, negsuc, ◌+ℤ◌, ◌-ℤ◌, ◌*ℤ◌, neg_ℤ, arith, ⊎_elim, All}
use Rattle.std.proofs.lemmas.Int.{ints}
use Rattle.std.proofs.lemmas.Bool.{cases_lt}
use Rattle.std.proofs.lemmas.List.{get_or_past}
use Rattle.std.proofs.lemmas.List.Elements.{All-get_or, All-from_get_or}
use Rattle.std.proofs.Math.IntN.{*ℤ_comm}
use Rattle.ring_poly.specs.Ring.{coefficient, IsModulus, IsCentred, IsWithin, IsCongruent, IsRounded, AreRounded}
use Rattle.ring_poly.proofs.Congruences.{neg-mul}

pub within_from_centred : (q : ℤ) (a : List ℤ) → IsModulus q → All (IsCentred q) a → (j : ℕ) → IsWithin 2295 (coefficient a j)
within_from_centred q a m h j =
    ⊎_elim (λ lt. let w = All-get_or (IsCentred q) a j (pos 0) lt h in let lo = w.0 in let hi = w.1 in let most = m.most in (omega (arith, ints), omega (arith, ints)))
    (λ ge. let e = get_or_past a j (pos 0) ge in (omega (arith, ints), omega (arith, ints)))
    (cases_lt j (length a))

-- what is left without its rest modulo 3
pub rounded_without : (c r rest : ℤ) → IsCongruent (pos 3) rest c → IsCentred (pos 3) rest → r ≡ c -ℤ rest → IsRounded c r
rounded_without c r rest h w e =
    let lo = w.0 in let hi = w.1 in
    record {
      third = neg_ℤ h.factor;
      multiple =
          let s : pos 3 *ℤ neg_ℤ h.factor ≡ neg_ℤ h.factor *ℤ pos 3 = *ℤ_comm (pos 3) (neg_ℤ h.factor) in
          let n : neg_ℤ h.factor *ℤ pos 3 ≡ neg_ℤ (h.factor *ℤ pos 3) = neg-mul h.factor (pos 3) in
          let f : rest ≡ c +ℤ h.factor *ℤ pos 3 = h.is in
          omega (arith, ints);
      near = (omega (arith, ints), omega (arith, ints));
    }

pub centred_from_rounded : (q c r : ℤ) (h : ℕ) → q ≡ pos (6 * h + 1) → IsCentred q c → IsRounded c r → IsCentred q r
centred_from_rounded q c r h e w d =
    let lo = w.0 in let hi = w.1 in let m = d.multiple in let nl = d.near.0 in let nh = d.near.1 in
    (omega (arith, ints), omega (arith, ints))

pub all_centred_from_rounded : (q : ℤ) (a r : List ℤ) (h : ℕ) → q ≡ pos (6 * h + 1) → All (IsCentred q) a → AreRounded a r → All (IsCentred q) r
all_centred_from_rounded q a r h e w d = All-from_get_or (IsCentred q) r (pos 0) (λ i lt.
    let n = d.len in
    centred_from_rounded q (coefficient a i) (coefficient r i) h e (All-get_or (IsCentred q) a i (pos 0) (omega arith) w) (d.each i (omega arith)))

pub half_of : (m : ℤ) → IsModulus m → (h : ℕ) × (m ≡ pos (2 * h + 1))
half_of (pos n) r = let o = r.odd in (n / 2, omega (arith, ints))
half_of (negsuc n) r = absurd (let l = r.least in omega (arith, ints))
