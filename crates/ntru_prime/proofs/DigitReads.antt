-- What the readers of polynomials answer, by what they read of digits.
use Rattle.std.proofs.Common.{◌≡◌, ap, sym, subst, ◌∙◌, ℕ, ◌+◌, ◌*◌, ◌/◌, arith, unsigned_abs, Some, None, List, length, map, ℤ, pos, ◌-ℤ◌}
use Rattle.ntru_codec.specs.Mixed.{Spells, IsSpelling}
use Rattle.ntru_model.specs.Encodings.{public_read, rounded_read}
use Rattle.ntru_prime.specs.Sets.{IsSet, set_of}
use Rattle.ntru_model.proofs.Computed.{public_read_from, public_read_none, rounded_read_from, rounded_read_none}

pub public_by : {p : ℕ} {q : ℤ} {w : ℕ} → IsSet p q w → (m : ℕ) (bytes rs : List ℕ) (h : List ℤ) → m ≡ unsigned_abs q → length rs ≡ p → Spells m bytes rs
    → h ≡ map (λ r. pos r -ℤ pos (m / 2)) rs → Some h ≡ public_read (set_of p q w) bytes
public_by {p} {q} {w} set m bytes rs h e len spells is =
    ap Some (is ∙ ap (λ k. map (λ r. pos r -ℤ pos (k / 2)) rs) e)
    ∙ sym (public_read_from (set_of p q w) bytes rs (let high = set.high in omega arith) len (subst (λ k. Spells k bytes rs) e spells))

pub public_none_by : {p : ℕ} {q : ℤ} {w : ℕ} → IsSet p q w → (n m : ℕ) (bytes : List ℕ) → n ≡ p → m ≡ unsigned_abs q → (IsSpelling n m bytes → ⊥) → None ≡ public_read (set_of p q w) bytes
public_none_by {p} {q} {w} set n m bytes en em none =
    sym (public_read_none (set_of p q w) bytes (λ spelled. none (subst (λ k. IsSpelling k m bytes) (sym en) (subst (λ k. IsSpelling p k bytes) (sym em) spelled))))

pub rounded_by : {p : ℕ} {q : ℤ} {w : ℕ} → IsSet p q w → (m : ℕ) (bytes rs : List ℕ) (c : List ℤ) → m ≡ unsigned_abs q → length rs ≡ p → Spells ((m + 2) / 3) bytes rs
    → c ≡ map (λ r. pos (3 * r) -ℤ pos (m / 2)) rs → Some c ≡ rounded_read (set_of p q w) bytes
rounded_by {p} {q} {w} set m bytes rs c e len spells is =
    ap Some (is ∙ ap (λ k. map (λ r. pos (3 * r) -ℤ pos (k / 2)) rs) e)
    ∙ sym (rounded_read_from (set_of p q w) bytes rs (let high = set.high in omega arith) len (subst (λ k. Spells ((k + 2) / 3) bytes rs) e spells))

pub rounded_none_by : {p : ℕ} {q : ℤ} {w : ℕ} → IsSet p q w → (n m : ℕ) (bytes : List ℕ) → n ≡ p → m ≡ unsigned_abs q → (IsSpelling n ((m + 2) / 3) bytes → ⊥) → None ≡ rounded_read (set_of p q w) bytes
rounded_none_by {p} {q} {w} set n m bytes en em none =
    sym (rounded_read_none (set_of p q w) bytes (λ spelled. none (subst (λ k. IsSpelling k ((m + 2) / 3) bytes) (sym en) (subst (λ k. IsSpelling p ((k + 2) / 3) bytes) (sym em) spelled))))
