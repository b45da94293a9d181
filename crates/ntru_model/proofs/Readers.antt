-- What the readers of the encodings give.
use Rattle.std.proofs.Common.{◌≡◌, inl, inr, ℕ, ◌%◌, ◌<◌, true, Some, None, List, [], ◌∷◌, length, All, nat_eq, ℤ, pos, negsuc, refl, sym, ◌∙◌, arith}
use Rattle.std.specs.List.{range_with_len}
use Rattle.std.specs.Cmp.Lexicographic.{pointwise}
use Rattle.std.proofs.lemmas.Slice.Eq.{bytes_eq-Decides}
use Rattle.std.proofs.lemmas.List.Elements.{All-weaker}
use Rattle.ntru_codec.specs.Mixed.{mixed_encoding, Spells, IsSpelling}
use Rattle.ntru_codec.specs.Small.{IsSmall, small_encoding, SpellsSmall, IsSmallSpelling}
use Rattle.ntru_model.specs.Search.{lists_of}
use Rattle.ntru_model.specs.Encodings.{small_read, mixed_read}
use Rattle.ntru_model.proofs.Search.{Occurs, occurs_below, from_below, listed, from_listed, found, not_found, from_found}
use Rattle.ntru_model.proofs.Injective.{mixed_injective, small_injective}

-- digits
digits_listed : (n m : ℕ) (rs : List ℕ) → length rs ≡ n → All (λ r. r < m) rs → Occurs rs (lists_of n (range_with_len 0 m))
digits_listed n m rs len h = listed n (range_with_len 0 m) rs len (All-weaker (λ r. r < m) (λ r. Occurs r (range_with_len 0 m)) (λ r lt. occurs_below m r lt) rs h)

from_digits_listed : (n m : ℕ) (bytes rs : List ℕ) → Occurs rs (lists_of n (range_with_len 0 m)) → pointwise nat_eq (mixed_encoding m rs) bytes ≡ true → (length rs ≡ n) × Spells m bytes rs
from_digits_listed n m bytes rs o t =
    let c = from_listed n (range_with_len 0 m) rs o in (
      c.0,
      record {
        below = All-weaker (λ r. Occurs r (range_with_len 0 m)) (λ r. r < m) (λ r w. from_below m r w) rs c.1;
        encoded = (bytes_eq-Decides (mixed_encoding m rs) bytes).0 t;
      },
    )

pub mixed_read_is : (n m : ℕ) (bytes rs : List ℕ) → length rs ≡ n → Spells m bytes rs → ((ds : List ℕ) → length ds ≡ n → Spells m bytes ds → ds ≡ rs) → mixed_read n m bytes ≡ Some rs
unfolding mixed_read
mixed_read_is n m bytes rs len h only =
    found (λ a. pointwise nat_eq (mixed_encoding m a) bytes) (lists_of n (range_with_len 0 m)) rs (digits_listed n m rs len h.below)
    ((bytes_eq-Decides (mixed_encoding m rs) bytes).1 h.encoded)
    (λ ds o t. let c = from_digits_listed n m bytes ds o t in only ds c.0 c.1)

pub mixed_read_none : (n m : ℕ) (bytes : List ℕ) → (IsSpelling n m bytes → ⊥) → mixed_read n m bytes ≡ None
unfolding mixed_read
mixed_read_none n m bytes none =
    not_found (λ a. pointwise nat_eq (mixed_encoding m a) bytes) (lists_of n (range_with_len 0 m))
    (λ ds o t. let c = from_digits_listed n m bytes ds o t in none (ds, c.0, c.1))

pub from_mixed_read : (n m : ℕ) (bytes rs : List ℕ) → mixed_read n m bytes ≡ Some rs → (length rs ≡ n) × Spells m bytes rs
unfolding mixed_read
from_mixed_read n m bytes rs e =
    let f = from_found (λ a. pointwise nat_eq (mixed_encoding m a) bytes) (lists_of n (range_with_len 0 m)) rs e in
    from_digits_listed n m bytes rs f.0 f.1

-- the digits of an encoding
pub mixed_read-encoding : (n m : ℕ) (rs : List ℕ) → m < 65536 → length rs ≡ n → All (λ r. r < m) rs → mixed_read n m (mixed_encoding m rs) ≡ Some rs
mixed_read-encoding n m rs few len h =
    mixed_read_is n m (mixed_encoding m rs) rs len (record { below = h; encoded = refl })
    (λ ds ld s. mixed_injective m ds rs few (ld ∙ sym len) s.below h s.encoded)

-- small coefficients
small_occurs : (a : ℤ) → IsSmall a → Occurs a (negsuc 0 ∷ pos 0 ∷ pos 1 ∷ [])
small_occurs a h = elim h [ inl e ↦ inl (sym e) | inr r ↦ elim r [ inl e ↦ inr (inl (sym e)) | inr e ↦ inr (inr (inl (sym e))) ] ]

from_small_occurs : (a : ℤ) → Occurs a (negsuc 0 ∷ pos 0 ∷ pos 1 ∷ []) → IsSmall a
from_small_occurs a h =
    elim h [
      | inl e ↦ inl (sym e)
      | inr r ↦ elim r [ inl e ↦ inr (inl (sym e)) | inr s ↦ elim s [ inl e ↦ inr (inr (sym e)) | inr n ↦ absurd n ] ]
    ]

small_listed : (n : ℕ) (a : List ℤ) → length a ≡ n → All IsSmall a → Occurs a (lists_of n (negsuc 0 ∷ pos 0 ∷ pos 1 ∷ []))
small_listed n a len h = listed n (negsuc 0 ∷ pos 0 ∷ pos 1 ∷ []) a len (All-weaker IsSmall (λ c. Occurs c (negsuc 0 ∷ pos 0 ∷ pos 1 ∷ [])) small_occurs a h)

from_small_listed : (n : ℕ) (bytes : List ℕ) (a : List ℤ) → Occurs a (lists_of n (negsuc 0 ∷ pos 0 ∷ pos 1 ∷ [])) → pointwise nat_eq (small_encoding a) bytes ≡ true → (length a ≡ n) × SpellsSmall bytes a
from_small_listed n bytes a o t =
    let c = from_listed n (negsuc 0 ∷ pos 0 ∷ pos 1 ∷ []) a o in (
      c.0,
      record {
        small = All-weaker (λ c. Occurs c (negsuc 0 ∷ pos 0 ∷ pos 1 ∷ [])) IsSmall from_small_occurs a c.1;
        encoded = (bytes_eq-Decides (small_encoding a) bytes).0 t;
      },
    )

pub small_read_is : (n : ℕ) (bytes : List ℕ) (a : List ℤ) → length a ≡ n → SpellsSmall bytes a → ((b : List ℤ) → length b ≡ n → SpellsSmall bytes b → b ≡ a) → small_read n bytes ≡ Some a
unfolding small_read
small_read_is n bytes a len h only =
    found (λ c. pointwise nat_eq (small_encoding c) bytes) (lists_of n (negsuc 0 ∷ pos 0 ∷ pos 1 ∷ [])) a (small_listed n a len h.small)
    ((bytes_eq-Decides (small_encoding a) bytes).1 h.encoded)
    (λ b o t. let c = from_small_listed n bytes b o t in only b c.0 c.1)

pub small_read_none : (n : ℕ) (bytes : List ℕ) → (IsSmallSpelling n bytes → ⊥) → small_read n bytes ≡ None
unfolding small_read
small_read_none n bytes none =
    not_found (λ c. pointwise nat_eq (small_encoding c) bytes) (lists_of n (negsuc 0 ∷ pos 0 ∷ pos 1 ∷ []))
    (λ b o t. let c = from_small_listed n bytes b o t in none (b, c.0, c.1))

pub from_small_read : (n : ℕ) (bytes : List ℕ) (a : List ℤ) → small_read n bytes ≡ Some a → (length a ≡ n) × SpellsSmall bytes a
unfolding small_read
from_small_read n bytes a e =
    let f = from_found (λ c. pointwise nat_eq (small_encoding c) bytes) (lists_of n (negsuc 0 ∷ pos 0 ∷ pos 1 ∷ [])) a e in
    from_small_listed n bytes a f.0 f.1

pub small_read-encoding : (n : ℕ) (a : List ℤ) → n % 4 ≡ 1 → length a ≡ n → All IsSmall a → small_read n (small_encoding a) ≡ Some a
small_read-encoding n a one len h =
    small_read_is n (small_encoding a) a len (record { small = h; encoded = refl })
    (λ b lb s. small_injective b a (omega arith) (lb ∙ sym len) s.small h s.encoded)
