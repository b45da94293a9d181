-- What a reader may say of a layout from what it read of its parts.
use Rattle.std.proofs.Common.{◌≡◌, ℕ, zero, suc, ◌+◌, ◌-◌, ◌%◌, ◌<◌, ◌≤◌, Bool, true, false, not, ◌&&◌, List, [], ◌∷◌, length, get_or, take, drop, refl, ap, sym, subst, ◌∙◌, arith, inl, inr, bytes_eq}
use Rattle.std.specs.Prelude.{Ok, Err}
use Rattle.std.specs.Int.{Width, w8, w16, w32, byte_len, from_be_bytes, to_be_bytes}
use Rattle.std.proofs.lemmas.Bool.{cases_lt, lt-ltb, le-ltb, and_from}
use Rattle.std.proofs.lemmas.List.{length-drop}
use Rattle.std.proofs.lemmas.Nat.{be_bytes_2, be_bytes_4}
use Rattle.std.proofs.lemmas.Slice.Eq.{bytes_eq-Decides}
use Rattle.group_fields.specs.Fields.{Field, is_between, number_from, numbered}
use Rattle.group_fields.specs.Layouts.{Layout, field, bytes_of, number}
use Rattle.group_fields.specs.LayoutReads.{Found, Takes, before, found, left, on_ok, read, read_field}
use Rattle.group_fields.specs.Reading.{Reading}
use Rattle.group_fields.specs.declared.fault.FieldFault.{FieldFault}
use Rattle.group_fields.specs.declared.fault.FieldFault.TheVariants.{Range}
use Rattle.group_fields.proofs.LayoutLaws.{field_outcome, found_is, is_refused, is_short, is_taken, not_allowed, short, taken}

-- ---- a field whose bytes are taken first, and then judged

pub bytes_allowed : {A : Type 0} (f : Field A) (place : ℕ) (bytes : List ℕ) (to : ℕ) (rest part : List ℕ)
    → read (bytes_of f.size) place bytes ≡ Ok (found part to rest) → f.allows part ≡ true
    → read (field f) place bytes ≡ Ok (found (f.value part) to rest)
unfolding read read_field bytes_of
bytes_allowed f place bytes to rest part e allowed =
    elim (cases_lt (length bytes) f.size) [
      | inl lt ↦ absurd (let k = rw (lt-ltb (length bytes) f.size lt) at e in cc)
      | inr le ↦
          let k = rw (le-ltb (length bytes) f.size le) at e in
          let same : found (take f.size bytes) (place + f.size) (drop f.size bytes) ≡ found part to rest = cc in
          let first : take f.size bytes ≡ part = ap (λ (x : Found (List ℕ)). x.value) same in
          let P : Found (List ℕ) → Type 0 = λ x. read (field f) place bytes ≡ Ok (found (f.value x.value) x.place x.rest) in
          subst P same (rw (le-ltb (length bytes) f.size le, ap f.allows first ∙ allowed) refl)
    ]

pub bytes_refused : {A : Type 0} (f : Field A) (place : ℕ) (bytes : List ℕ) (to : ℕ) (rest part : List ℕ)
    → read (bytes_of f.size) place bytes ≡ Ok (found part to rest) → f.allows part ≡ false
    → read (field f) place bytes ≡ Err (Range place)
unfolding read read_field bytes_of
bytes_refused f place bytes to rest part e refused =
    elim (cases_lt (length bytes) f.size) [
      | inl lt ↦ absurd (let k = rw (lt-ltb (length bytes) f.size lt) at e in cc)
      | inr le ↦
          let k = rw (le-ltb (length bytes) f.size le) at e in
          let same : found (take f.size bytes) (place + f.size) (drop f.size bytes) ≡ found part to rest = cc in
          let first : take f.size bytes ≡ part = ap (λ (x : Found (List ℕ)). x.value) same in
          rw (le-ltb (length bytes) f.size le, ap f.allows first ∙ refused) refl
    ]

pub bytes_fault : {A : Type 0} (f : Field A) (place : ℕ) (bytes : List ℕ) (fault : FieldFault)
    → read (bytes_of f.size) place bytes ≡ Err fault → read (field f) place bytes ≡ Err fault
unfolding read read_field bytes_of
bytes_fault f place bytes fault e =
    elim (cases_lt (length bytes) f.size) [
      | inl lt ↦ let k = rw (lt-ltb (length bytes) f.size lt) at e in rw (lt-ltb (length bytes) f.size lt) cc
      | inr le ↦ absurd (let k = rw (le-ltb (length bytes) f.size le) at e in cc)
    ]

-- ---- the same of a reader's answer

module _ {T A U : Type 0} (view : T → A) (f : Field A) {seen_as : U → List ℕ} {old new : Reading} where
  pub field_fault : {fault : FieldFault} → Takes seen_as (bytes_of f.size) old new (Err fault) → Takes view (field f) old new (Err fault)
  field_fault {fault} takes =
      record { gives = bytes_fault f old.place (left old) fault takes.gives; same = takes.same; within = takes.within }

  pub field_value : {bytes : U} (v : T) → Takes seen_as (bytes_of f.size) old new (Ok bytes) → f.allows (seen_as bytes) ≡ true
      → f.value (seen_as bytes) ≡ view v → Takes view (field f) old new (Ok v)
  field_value {bytes} v takes allowed is =
      record {
        gives = bytes_allowed f old.place (left old) new.place (left new) (seen_as bytes) takes.gives allowed
            ∙ ap (λ a. Ok (found a new.place (left new))) is;
        same = takes.same;
        within = takes.within;
      }

  pub field_refused : {bytes : U} (place : ℕ) → Takes seen_as (bytes_of f.size) old new (Ok bytes) → f.allows (seen_as bytes) ≡ false
      → place ≡ old.place → Takes view (field f) old new (Err (Range place))
  field_refused {bytes} place takes refused at =
      record {
        gives = bytes_refused f old.place (left old) new.place (left new) (seen_as bytes) takes.gives refused
            ∙ ap (λ (n : ℕ). Err (Range n)) (sym at);
        same = takes.same;
        within = takes.within;
      }

-- ---- numbers

-- the number of bytes, and the bytes of that number
pub record IsNumber (width : Width) (bytes : List ℕ) (n : ℕ) : Type 0 where
  pub is : n ≡ from_be_bytes width bytes
  pub back : to_be_bytes width n ≡ bytes

pub one_byte : (bytes : List ℕ) (n : ℕ) → length bytes ≡ 1 → get_or bytes 0 0 < 256 → n ≡ get_or bytes 0 0 → IsNumber w8 bytes n
one_byte [] n long small is = absurd (omega arith)
one_byte (a ∷ []) n long small is =
    let rest : n % 256 ≡ a = omega arith in
    record { is = omega arith; back = ap (λ (b : ℕ). b ∷ []) rest }
one_byte (a ∷ b ∷ bytes) n long small is = absurd (omega arith)

pub two_bytes : (bytes : List ℕ) (n : ℕ) → length bytes ≡ 2 → get_or bytes 0 0 < 256 → get_or bytes 1 0 < 256
    → n ≡ from_be_bytes w16 (get_or bytes 0 0 ∷ get_or bytes 1 0 ∷ []) → IsNumber w16 bytes n
two_bytes [] n long sa sb is = absurd (omega arith)
two_bytes (a ∷ []) n long sa sb is = absurd (omega arith)
two_bytes (a ∷ b ∷ []) n long sa sb is = record { is = is; back = be_bytes_2 (a ∷ b ∷ []) n refl small is }
  where
    small : (i : ℕ) → get_or (a ∷ b ∷ []) i 0 < 256
    small zero = sa
    small (suc zero) = sb
    small (suc (suc i)) = omega arith
two_bytes (a ∷ b ∷ c ∷ bytes) n long sa sb is = absurd (omega arith)

pub four_bytes : (bytes : List ℕ) (n : ℕ) → length bytes ≡ 4 → get_or bytes 0 0 < 256 → get_or bytes 1 0 < 256 → get_or bytes 2 0 < 256
    → get_or bytes 3 0 < 256 → n ≡ from_be_bytes w32 (get_or bytes 0 0 ∷ get_or bytes 1 0 ∷ get_or bytes 2 0 ∷ get_or bytes 3 0 ∷ [])
    → IsNumber w32 bytes n
four_bytes [] n long sa sb sc sd is = absurd (omega arith)
four_bytes (a ∷ []) n long sa sb sc sd is = absurd (omega arith)
four_bytes (a ∷ b ∷ []) n long sa sb sc sd is = absurd (omega arith)
four_bytes (a ∷ b ∷ c ∷ []) n long sa sb sc sd is = absurd (omega arith)
four_bytes (a ∷ b ∷ c ∷ d ∷ []) n long sa sb sc sd is =
    record { is = is; back = be_bytes_4 (a ∷ b ∷ c ∷ d ∷ []) n refl small is }
  where
    small : (i : ℕ) → get_or (a ∷ b ∷ c ∷ d ∷ []) i 0 < 256
    small zero = sa
    small (suc zero) = sb
    small (suc (suc zero)) = sc
    small (suc (suc (suc zero))) = sd
    small (suc (suc (suc (suc i)))) = omega arith
four_bytes (a ∷ b ∷ c ∷ d ∷ e ∷ bytes) n long sa sb sc sd is = absurd (omega arith)

same_test : (a b : List ℕ) → a ≡ b → bytes_eq a b ≡ true
same_test a b e = (bytes_eq-Decides a b).1 e

is_back : (width : Width) (part : List ℕ) (n : ℕ) → IsNumber width part n → bytes_eq (to_be_bytes width (from_be_bytes width part)) part ≡ true
is_back width part n is =
    same_test (to_be_bytes width (from_be_bytes width part)) part (ap (to_be_bytes width) (sym is.is) ∙ is.back)

module _ (width : Width) (least greatest n : ℕ) {U : Type 0} {seen_as : U → List ℕ} {old new : Reading} {bytes : U} where
  pub number_value : Takes seen_as (bytes_of (byte_len width)) old new (Ok bytes) → IsNumber width (seen_as bytes) n
      → is_between least greatest n ≡ true → Takes (λ m. m) (number width least greatest) old new (Ok n)
  unfolding number
  number_value takes is within =
      field_value (λ m. m) (number_from width least greatest) n takes
      (and_from (is_between least greatest (from_be_bytes width (seen_as bytes))) (bytes_eq (to_be_bytes width (from_be_bytes width (seen_as bytes))) (seen_as bytes))
      (ap (is_between least greatest) (sym is.is) ∙ within) (is_back width (seen_as bytes) n is))
      (sym is.is)

  pub number_refused : (place : ℕ) → Takes seen_as (bytes_of (byte_len width)) old new (Ok bytes) → IsNumber width (seen_as bytes) n
      → is_between least greatest n ≡ false → place ≡ old.place → Takes (λ m. m) (number width least greatest) old new (Err (Range place))
  unfolding number
  number_refused place takes is out at =
      field_refused (λ m. m) (number_from width least greatest) place takes
      (ap (λ (b : Bool). b && bytes_eq (to_be_bytes width (from_be_bytes width (seen_as bytes))) (seen_as bytes)) (ap (is_between least greatest) (sym is.is) ∙ out))
      at

pub number_fault : (width : Width) (least greatest : ℕ) {U : Type 0} {seen_as : U → List ℕ} {old new : Reading} {fault : FieldFault}
    → Takes seen_as (bytes_of (byte_len width)) old new (Err fault) → Takes (λ m. m) (number width least greatest) old new (Err fault)
unfolding number
number_fault width least greatest takes = field_fault (λ m. m) (number_from width least greatest) takes

-- ---- what numbers stand for

module _ {A : Type 0} (width : Width) (least greatest : ℕ) (value : ℕ → A) (number_of : A → ℕ)
    (back : (n : ℕ) → is_between least greatest n ≡ true → number_of (value n) ≡ n) where
  as_numbers : (n : ℕ) (bytes : List ℕ) → (is_between least greatest n && bytes_eq (to_be_bytes width (number_of (value n))) bytes)
      ≡ (is_between least greatest n && bytes_eq (to_be_bytes width n) bytes)
  as_numbers n bytes = by_test (is_between least greatest n) refl
    where
      by_test : (b : Bool) → is_between least greatest n ≡ b → (is_between least greatest n && bytes_eq (to_be_bytes width (number_of (value n))) bytes)
          ≡ (is_between least greatest n && bytes_eq (to_be_bytes width n) bytes)
      by_test true e = ap (λ (m : ℕ). is_between least greatest n && bytes_eq (to_be_bytes width m) bytes) (back n e)
      by_test false e = rw e refl

  numbered_read : (place : ℕ) (bytes : List ℕ) → read (field (numbered width (is_between least greatest) value number_of)) place bytes
      ≡ on_ok (read (field (number_from width least greatest)) place bytes) (λ x. Ok (found (value x.value) x.place x.rest))
  unfolding read
  numbered_read place bytes =
      let part = take (byte_len width) bytes in
      let same = as_numbers (from_be_bytes width part) part in
      let f = numbered width (is_between least greatest) value number_of in
      elim (field_outcome (number_from width least greatest) place bytes) [
        | is_short lt e ↦ rw (e, short f place bytes lt) refl
        | is_refused le refused e ↦ rw (e, not_allowed f place bytes le (same ∙ refused)) refl
        | is_taken le allowed e ↦ rw (e, taken f place bytes le (same ∙ allowed)) refl
      ]

  pub numbered_fault : {old new : Reading} {fault : FieldFault} → Takes (λ n. n) (number width least greatest) old new (Err fault)
      → Takes (λ a. a) (field (numbered width (is_between least greatest) value number_of)) old new (Err fault)
  unfolding number
  numbered_fault {old} {new} {fault} takes =
      record {
        gives = numbered_read old.place (left old) ∙ ap (λ r. on_ok r (λ x. Ok (found (value x.value) x.place x.rest))) takes.gives;
        same = takes.same;
        within = takes.within;
      }

  pub numbered_value : {old new : Reading} {n : ℕ} (a : A) → a ≡ value n → Takes (λ n. n) (number width least greatest) old new (Ok n)
      → Takes (λ a. a) (field (numbered width (is_between least greatest) value number_of)) old new (Ok a)
  unfolding number
  numbered_value {old} {new} {n} a is takes =
      record {
        gives = numbered_read old.place (left old) ∙ ap (λ r. on_ok r (λ x. Ok (found (value x.value) x.place x.rest))) takes.gives
            ∙ ap (λ (v : A). Ok (found v new.place (left new))) (sym is);
        same = takes.same;
        within = takes.within;
      }

-- ---- what a test that was negated says

pub holds_from : (b r : Bool) → r ≡ not b → r ≡ false → b ≡ true
holds_from true r e is = refl
holds_from false r e is = absurd cc

pub fails_from : (b r : Bool) → r ≡ not b → r ≡ true → b ≡ false
fails_from true r e is = absurd cc
fails_from false r e is = refl

-- ---- the bytes that were taken since a place

-- a reader never moves back
pub never_back : {A : Type 0} (part : Layout A) (place : ℕ) (bytes : List ℕ) (to : ℕ) (rest : List ℕ) (a : A)
    → read part place bytes ≡ Ok (found a to rest) → place ≤ to
never_back part place bytes to rest a e = let is = found_is part place bytes (found a to rest) e in omega (arith, is.place_is)

pub since_is : (from : ℕ) (old new : Reading) → from ≡ old.place → old.place ≤ new.place → new.place ≤ length new.whole → new.whole ≡ old.whole
    → take (new.place - from) (drop from new.whole) ≡ before (left new) (left old)
since_is from old new at forth within same =
    let long_old : length (left old) ≡ length old.whole - old.place = length-drop old.place old.whole in
    let long_new : length (left new) ≡ length new.whole - new.place = length-drop new.place new.whole in
    let whole : length new.whole ≡ length old.whole = ap length same in
    let n : new.place - from ≡ length (left old) - length (left new) = omega arith in
    ap (λ (k : ℕ). take k (drop from new.whole)) n
    ∙ ap (λ (w : List ℕ). take (length (left old) - length (left new)) (drop from w)) same
    ∙ ap (λ (k : ℕ). take (length (left old) - length (left new)) (drop k old.whole)) at
