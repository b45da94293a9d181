-- Layouts: formats as their tables read. How bytes spell a value, part behind part, and the places at which other
-- bytes are refused.
use Rattle.std.proofs.Common.{◌≡◌, ◌⊎◌, ℕ, zero, suc, ◌+◌, ◌<◌, ◌≤◌, Bool, true, false, nat_eq, List, [], ◌∷◌, ◌++◌}
use Rattle.std.proofs.Common.{length, take, Option, Some, None, refl, ap}
use Rattle.std.proofs.lemmas.Bool.{eqb-true}
use Rattle.std.specs.Int.{Width, w8}
use Rattle.std.specs.Option.{option_map_or}
use Rattle.group_fields.specs.Fields.{Field, Fills, any_bytes, bytes_with, digest_with, is_above, known_bytes}
use Rattle.group_fields.specs.Fields.{number_from, place_of}
use Rattle.group_fields.specs.declared.fault.FieldFault.{FieldFault}
use Rattle.group_fields.specs.declared.fault.FieldFault.TheVariants.{Short, Excess, Range}
use Rattle.group_fields.specs.declared.ids.Digest.{Digest}

-- Which values stand for others, for what, and back.
pub record Shape (A B : Type 0) : Type 0 where
  pub fits : A → Bool
  pub to : A → B
  pub from : B → Option A
  pub back : (a : A) → fits a ≡ true → from (to a) ≡ Some a

-- A layout of values of a type.
pub data Layout : Type 0 → Type 1 where
  -- no bytes, which spell this value
  value : {A : Type 0} → A → Layout A
  field : {A : Type 0} → Field A → Layout A
  -- a part, and behind it one that may depend on its value
  behind : {A B : Type 0} → Layout A → (A → Layout B) → Layout (A × B)
  -- a field whose bytes are laid out in turn, all of them
  enclosed : {A : Type 0} → Field (List ℕ) → Layout A → Layout A
  -- a part whose value stands for another; once it has no fault inside it is asked whether it does
  shaped : {A B : Type 0} → Layout A → Shape A B → Layout B
  -- a part that stands for its bytes
  verbatim : {A : Type 0} → Layout A → Layout (List ℕ)

infixl 10 ◌>>=◌
abbrev pub ◌>>=◌ : {A B : Type 0} → Layout A → (A → Layout B) → Layout (A × B)
part >>= next = behind part next

-- Bytes spell a value, all of them.
abbrev pub Spells : {A : Type 0} → Layout A → List ℕ → A → Type 0
Spells (value a) bytes b = (bytes ≡ []) × (b ≡ a)
Spells (field f) bytes b = Fills f bytes × (b ≡ f.value bytes)
Spells (behind part next) bytes pair =
    (front : List ℕ) × (back : List ℕ) × (bytes ≡ front ++ back) × Spells part front pair.0
    × Spells (next pair.0) back pair.1
Spells (enclosed f inside) bytes b = Fills f bytes × Spells inside bytes b
Spells (shaped {A} part shape) bytes b = (a : A) × Spells part bytes a × (shape.fits a ≡ true) × (b ≡ shape.to a)
Spells (verbatim {A} part) bytes b = (a : A) × Spells part bytes a × (b ≡ bytes)

-- the one spelling of a value, where it has any
abbrev pub written : {A : Type 0} → Layout A → A → List ℕ
written (value a) b = []
written (field f) b = f.spelling b
written (behind part next) pair = written part pair.0 ++ written (next pair.0) pair.1
written (enclosed f inside) b = written inside b
written (shaped part shape) b = option_map_or (λ a. written part a) (shape.from b) []
written (verbatim part) b = b

-- Where a field is refused that begins a byte string at a place: it doesn't fit, or its value is not allowed.
abbrev pub IsFieldRefused : {A : Type 0} → Field A → ℕ → List ℕ → FieldFault → Type 0
IsFieldRefused f place bytes fault =
    ((length bytes < f.size) × (fault ≡ Short place))
    ⊎ ((f.size ≤ length bytes) × (f.allows (take f.size bytes) ≡ false) × (fault ≡ Range place))

-- A part is spelled, and bytes are left over: they are refused at the first of them.
abbrev pub LeavesOver : {A : Type 0} → (List ℕ → A → Type 0) → ℕ → List ℕ → FieldFault → Type 0
LeavesOver {A} IsSpelled place bytes fault =
    (a : A) × (front : List ℕ) × (over : List ℕ) × (bytes ≡ front ++ over) × IsSpelled front a × (0 < length over)
    × (fault ≡ Excess (place + length front))

-- Where bytes are refused that begin at a place, and end with what encloses them.
abbrev pub IsRefused : {A : Type 0} → Layout A → ℕ → List ℕ → FieldFault → Type 0
IsRefused (value a) place bytes fault = ⊥
IsRefused (field f) place bytes fault = IsFieldRefused f place bytes fault
-- what comes behind a part is asked where that part is spelled
IsRefused (behind {A} part next) place bytes fault =
    IsRefused part place bytes fault
    ⊎ ((a : A) × (front : List ℕ) × (back : List ℕ) × (bytes ≡ front ++ back) × Spells part front a
    × IsRefused (next a) (place + length front) back fault)
-- the inside is asked where the field fits, even if its value is not allowed
IsRefused (enclosed f inside) place bytes fault =
    IsFieldRefused f place bytes fault
    ⊎ ((f.size ≤ length bytes)
    × (IsRefused inside place (take f.size bytes) fault ⊎ LeavesOver (Spells inside) place (take f.size bytes) fault))
-- a part that stands for nothing is refused at its first place
IsRefused (shaped {A} part shape) place bytes fault =
    IsRefused part place bytes fault
    ⊎ ((a : A) × (front : List ℕ) × (back : List ℕ) × (bytes ≡ front ++ back) × Spells part front a
    × (shape.fits a ≡ false) × (fault ≡ Range place))
IsRefused (verbatim part) place bytes fault = IsRefused part place bytes fault

-- the same where no bytes may be left over
abbrev pub IsWholeRefused : {A : Type 0} → Layout A → ℕ → List ℕ → FieldFault → Type 0
IsWholeRefused part place bytes fault = IsRefused part place bytes fault ⊎ LeavesOver (Spells part) place bytes fault

-- the fault with the least place
pub record IsLeastFault {A : Type 0} (part : Layout A) (bytes : List ℕ) (fault : FieldFault) : Type 0 where
  pub refused : IsWholeRefused part 0 bytes fault
  pub least : (other : FieldFault) → IsWholeRefused part 0 bytes other → place_of fault ≤ place_of other

-- ---- fields and what is built of them

-- a number from the least to the greatest, its high byte first
unfoldable pub number : Width → ℕ → ℕ → Layout ℕ
number width least greatest = field (number_from width least greatest)

-- these bytes and no others
unfoldable pub known : List ℕ → Layout (Unit {0})
known bytes = field (known_bytes bytes)

-- so many bytes, whatever they are
unfoldable pub bytes_of : ℕ → Layout (List ℕ)
bytes_of size = field (any_bytes size)

unfoldable pub digest : Layout Digest
digest = field (digest_with (λ bytes. true))

-- an id above the one before it
unfoldable pub next_id : Option Digest → Layout Digest
next_id last = field (digest_with (is_above last))

-- a part with a property, which is asked for once the part has no fault inside
abbrev pub checked : {A : Type 0} → Layout A → (A → Bool) → Layout A
checked part ok = shaped part (record { fits = ok; to = λ a. a; from = λ a. Some a; back = λ a is. refl })

-- the same value under other names
abbrev pub renamed : {A B : Type 0} → (to : A → B) → (from : B → Option A) → ((a : A) → from (to a) ≡ Some a)
    → Shape A B
renamed to from back = record { fits = λ a. true; to = to; from = from; back = λ a is. back a }

abbrev first_of : {A : Type 0} → List A → Option (A × List A)
first_of [] = None
first_of (a ∷ others) = Some (a, others)

-- a first item and the others
abbrev pub first_and_others : {A : Type 0} → Shape (A × List A) (List A)
first_and_others = renamed (λ pair. pair.0 ∷ pair.1) first_of (λ pair. refl)

-- so many ids, each above the one before it
unfoldable pub ids_above : ℕ → Option Digest → Layout (List Digest)
ids_above zero last = value []
ids_above (suc count) last = shaped (behind (next_id last) (λ id. ids_above count (Some id))) first_and_others

-- a number that is known from what stands behind it
abbrev pub implied : {A : Type 0} → (A → ℕ) → Shape (ℕ × A) A
implied {A} number_of =
    record {
      fits = λ pair. nat_eq (number_of pair.1) pair.0;
      to = λ pair. pair.1;
      from = λ a. Some (number_of a, a);
      back = λ pair is. ap (λ (n : ℕ). let both : ℕ × A = (n, pair.1) in Some both)
          (eqb-true (number_of pair.1) pair.0 is);
    }

-- a count, and so many items behind it
unfoldable pub counted : {A : Type 0} → Layout ℕ → (ℕ → Layout (List A)) → Layout (List A)
counted count items = shaped (behind count items) (implied length)

-- a count from the least to the greatest, and so many ids, each above the one before it
abbrev pub counted_ids : ℕ → ℕ → Layout (List Digest)
counted_ids least greatest = counted (number w8 least greatest) (λ count. ids_above count None)

-- a length, and behind it so many bytes with a property, which are laid out in turn
unfoldable pub sized : {A : Type 0} → Layout ℕ → (List ℕ → Bool) → Layout A → Layout A
sized size allows inside =
    shaped (behind size (λ n. enclosed (bytes_with n allows) inside)) (implied (λ a. length (written inside a)))
