-- Fields: how many bytes each has, which are allowed as its value, and what they stand for.
use Rattle.std.proofs.Common.{◌≡◌, ℕ, Bool, true, ◌&&◌, nat_le, List, length, Option, Some, None, bytes_eq, refl, sym}
use Rattle.std.proofs.lemmas.Bool.{and_parts}
use Rattle.std.proofs.lemmas.Slice.Eq.{bytes_eq-Decides}
use Rattle.std.specs.Int.{Width, byte_len, from_be_bytes, to_be_bytes}
use Rattle.std.specs.Ordering.{is_lt, nat_cmp}
use Rattle.std.specs.Cmp.Lexicographic.{slice_cmp}
use Rattle.group_fields.specs.declared.fault.FieldFault.{FieldFault}
use Rattle.group_fields.specs.declared.fault.FieldFault.TheVariants.{Short, Excess, Range}
use Rattle.group_fields.specs.declared.ids.Digest.{Digest}

-- A field of values of a type. A value has one spelling: bytes that are allowed are those of the value that they stand
-- for.
pub record Field (A : Type 0) : Type 0 where
  pub size : ℕ
  pub allows : List ℕ → Bool
  pub value : List ℕ → A
  pub spelling : A → List ℕ
  pub once : (bytes : List ℕ) → allows bytes ≡ true → spelling (value bytes) ≡ bytes

-- bytes of a field's size that it allows
pub record Fills {A : Type 0} (field : Field A) (bytes : List ℕ) : Type 0 where
  pub size : length bytes ≡ field.size
  pub allowed : field.allows bytes ≡ true

-- so many bytes with a property, which stand for themselves
abbrev pub bytes_with : ℕ → (List ℕ → Bool) → Field (List ℕ)
bytes_with size allows =
    record { size = size; allows = allows; value = λ bytes. bytes; spelling = λ bytes. bytes; once = λ bytes is. refl }

-- so many bytes, whatever they are
abbrev pub any_bytes : ℕ → Field (List ℕ)
any_bytes size = bytes_with size (λ bytes. true)

-- 32 bytes with a property, which stand for a digest
abbrev pub digest_with : (List ℕ → Bool) → Field Digest
digest_with allows =
    record {
      size = 32;
      allows = allows;
      value = λ bytes. record { 0 = bytes };
      spelling = λ digest. digest.0;
      once = λ bytes is. refl;
    }

-- ids are ordered by their bytes; any id is above none
abbrev pub is_above : Option Digest → List ℕ → Bool
is_above None bytes = true
is_above (Some last) bytes = is_lt (slice_cmp nat_cmp last.0 bytes)

pub same_bytes : (a b : List ℕ) → bytes_eq a b ≡ true → a ≡ b
same_bytes a b is = (bytes_eq-Decides a b).0 is

-- what a number stands for, its high byte first; the bytes are those of a number for which it stands
abbrev pub numbered : {A : Type 0} → Width → (ℕ → Bool) → (ℕ → A) → (A → ℕ) → Field A
numbered width allows value number =
    record {
      size = byte_len width;
      allows = λ bytes. allows (from_be_bytes width bytes)
          && bytes_eq (to_be_bytes width (number (value (from_be_bytes width bytes)))) bytes;
      value = λ bytes. value (from_be_bytes width bytes);
      spelling = λ a. to_be_bytes width (number a);
      once = λ bytes is.
          let parts = and_parts (allows (from_be_bytes width bytes))
          (bytes_eq (to_be_bytes width (number (value (from_be_bytes width bytes)))) bytes) is in
          same_bytes (to_be_bytes width (number (value (from_be_bytes width bytes)))) bytes parts.1;
    }

abbrev pub is_between : ℕ → ℕ → ℕ → Bool
is_between least greatest n = nat_le least n && nat_le n greatest

-- a number from the least to the greatest
abbrev pub number_from : Width → ℕ → ℕ → Field ℕ
number_from width least greatest = numbered width (is_between least greatest) (λ n. n) (λ n. n)

-- these bytes and no others, which stand for nothing more
abbrev pub known_bytes : List ℕ → Field (Unit {0})
known_bytes known =
    record {
      size = length known;
      allows = λ bytes. bytes_eq bytes known;
      value = λ bytes. tt;
      spelling = λ nothing. known;
      once = λ bytes is. sym (same_bytes bytes known is);
    }

abbrev pub place_of : FieldFault → ℕ
place_of (Short place) = place
place_of (Range place) = place
place_of (Excess place) = place
