-- What reading a layout from left to right gives: the value and what is behind it, or the first fault.
use Rattle.std.specs.Prelude.{◌≡◌, ℕ, ◌+◌, ◌-◌, ◌≤◌, Bool, nat_lt, if◌then◌else◌, List, [], ◌∷◌, length, take, drop}
use Rattle.std.specs.Prelude.{Result, Ok, Err}
use Rattle.group_fields.specs.Fields.{Field}
use Rattle.group_fields.specs.Layouts.{Layout, value, field, behind, enclosed, shaped, verbatim}
use Rattle.group_fields.specs.Reading.{Reading}
use Rattle.group_fields.specs.declared.fault.FieldFault.{FieldFault}
use Rattle.group_fields.specs.declared.fault.FieldFault.TheVariants.{Short, Excess, Range}

-- a value, and the place and the bytes behind it
pub record Found (A : Type 0) : Type 0 where
  pub value : A
  pub place : ℕ
  pub rest : List ℕ

abbrev pub found : {A : Type 0} → A → ℕ → List ℕ → Found A
found a place rest = record { value = a; place = place; rest = rest }

abbrev pub on_ok : {A B : Type 0} → Result A FieldFault → (A → Result B FieldFault) → Result B FieldFault
on_ok (Ok x) next = next x
on_ok (Err fault) next = Err fault

-- the bytes of a field
unfoldable pub read_field : {A : Type 0} → Field A → ℕ → List ℕ → Result (Found (List ℕ)) FieldFault
read_field f place bytes =
    if nat_lt (length bytes) f.size
    then Err (Short place)
    else (if f.allows (take f.size bytes)
    then Ok (found (take f.size bytes) (place + f.size) (drop f.size bytes))
    else Err (Range place))

-- nothing is left over
abbrev pub ended : {A : Type 0} → A → ℕ → List ℕ → Result A FieldFault
ended a place [] = Ok a
ended a place (b ∷ bytes) = Err (Excess place)

abbrev pub asked : {A : Type 0} → Bool → ℕ → Found A → Result (Found A) FieldFault
asked fits place x = if fits then Ok x else Err (Range place)

-- the bytes before a rest
abbrev pub before : List ℕ → List ℕ → List ℕ
before rest bytes = take (length bytes - length rest) bytes

unfoldable pub read : {A : Type 0} → Layout A → ℕ → List ℕ → Result (Found A) FieldFault
read (value a) place bytes = Ok (found a place bytes)
read (field f) place bytes = on_ok (read_field f place bytes) (λ x. Ok (found (f.value x.value) x.place x.rest))
read (behind part next) place bytes =
    on_ok (read part place bytes) (λ x. on_ok (read (next x.value) x.place x.rest)
    (λ y. Ok (found (x.value, y.value) y.place y.rest)))
read (enclosed f inside) place bytes =
    on_ok (read_field f place bytes) (λ x.
    on_ok (on_ok (read inside place x.value) (λ y. ended y.value y.place y.rest)) (λ a. Ok (found a x.place x.rest)))
read (shaped part shape) place bytes =
    on_ok (read part place bytes) (λ x. asked (shape.fits x.value) place (found (shape.to x.value) x.place x.rest))
read (verbatim part) place bytes = on_ok (read part place bytes) (λ x. Ok (found (before x.rest bytes) x.place x.rest))

-- the whole of a byte string
unfoldable pub read_whole : {A : Type 0} → Layout A → ℕ → List ℕ → Result A FieldFault
read_whole part place bytes = on_ok (read part place bytes) (λ x. ended x.value x.place x.rest)

-- ---- what a reader answers

-- what is left
abbrev pub left : Reading → List ℕ
left reading = drop reading.place reading.whole

-- an answer, seen by view, and where the reader is then
abbrev pub seen : {T A : Type 0} → (T → A) → Reading → Result T FieldFault → Result (Found A) FieldFault
seen view reader (Ok v) = Ok (found (view v) reader.place (left reader))
seen view reader (Err fault) = Err fault

-- The answer is what reading the layout gives, seen by view.
pub record Takes {T A : Type 0} (view : T → A) (part : Layout A) (old new : Reading) (result : Result T FieldFault)
    : Type 0 where
  pub gives : read part old.place (left old) ≡ seen view new result
  pub same : new.whole ≡ old.whole
  pub within : new.place ≤ length new.whole

-- the answer of a reader of whole byte strings, seen by view
abbrev pub whole_seen : {T A : Type 0} → (T → A) → Result T FieldFault → Result A FieldFault
whole_seen view (Ok v) = Ok (view v)
whole_seen view (Err fault) = Err fault

-- ---- the same at another place

abbrev pub shift_fault : ℕ → FieldFault → FieldFault
shift_fault by (Short place) = Short (by + place)
shift_fault by (Range place) = Range (by + place)
shift_fault by (Excess place) = Excess (by + place)

abbrev pub shift : {A : Type 0} → ℕ → Result (Found A) FieldFault → Result (Found A) FieldFault
shift by (Ok x) = Ok (found x.value (by + x.place) x.rest)
shift by (Err fault) = Err (shift_fault by fault)

abbrev pub shift_answer : {A : Type 0} → ℕ → Result A FieldFault → Result A FieldFault
shift_answer by (Ok a) = Ok a
shift_answer by (Err fault) = Err (shift_fault by fault)
