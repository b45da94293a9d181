-- The same bytes at another place, and what stands in a field that encloses it.
use Rattle.std.proofs.Common.{◌≡◌, ℕ, ◌+◌, ◌≤◌, Bool, true, false, List, [], ◌∷◌, length, take, drop, nat_eq, refl, ap, sym, ◌∙◌, arith}
use Rattle.std.specs.Prelude.{Result, Ok, Err}
use Rattle.std.proofs.lemmas.Bool.{eq-eqb}
use Rattle.std.proofs.lemmas.List.{length-take}
use Rattle.group_fields.specs.Fields.{Field, any_bytes, bytes_with}
use Rattle.group_fields.specs.LayoutReads.{Found, Takes, asked, before, ended, found, left, on_ok, read, read_field, read_whole, shift, shift_answer, shift_fault}
use Rattle.group_fields.specs.Layouts.{Layout, value, field, behind, enclosed, shaped, verbatim, bytes_of, counted, sized, written}
use Rattle.group_fields.specs.Reading.{Reading}
use Rattle.group_fields.specs.declared.fault.FieldFault.{FieldFault}
use Rattle.group_fields.specs.declared.fault.FieldFault.TheVariants.{Range}
use Rattle.group_fields.proofs.LayoutLaws.{FieldOutcome, is_short, is_refused, is_taken, field_outcome, short, not_allowed, taken, whole_found, written_is}

shift_on : {A B : Type 0} (by : ℕ) (r : Result (Found A) FieldFault) (f g : Found A → Result (Found B) FieldFault)
    → ((x : Found A) → f (found x.value (by + x.place) x.rest) ≡ shift by (g x)) → on_ok (shift by r) f ≡ shift by (on_ok r g)
shift_on by (Ok x) f g same = same x
shift_on by (Err fault) f g same = refl

shifted_field : {F : Type 0} (f : Field F) (by place : ℕ) (bytes : List ℕ) → read_field f (by + place) bytes ≡ shift by (read_field f place bytes)
shifted_field f by place bytes = both (field_outcome f (by + place) bytes) (field_outcome f place bytes)
  where
    both : FieldOutcome f (by + place) bytes → FieldOutcome f place bytes → read_field f (by + place) bytes ≡ shift by (read_field f place bytes)
    both (is_short lt e) (is_short lt_too d) = rw (e, d) refl
    both (is_refused le no_value e) (is_refused le_too no_value_too d) = rw (e, d) refl
    both (is_taken le good e) (is_taken le_too good_too d) =
        let assoc : by + place + f.size ≡ by + (place + f.size) = omega arith in
        rw (e, d) (ap (λ (n : ℕ). Ok (found (take f.size bytes) n (drop f.size bytes))) assoc)
    both (is_short lt e) (is_refused le no_value d) = absurd (omega arith)
    both (is_short lt e) (is_taken le good d) = absurd (omega arith)
    both (is_refused le no_value e) (is_short lt d) = absurd (omega arith)
    both (is_refused le no_value e) (is_taken le_too good d) = absurd cc
    both (is_taken le good e) (is_short lt d) = absurd (omega arith)
    both (is_taken le good e) (is_refused le_too no_value d) = absurd cc

ended_at : {A : Type 0} (by to : ℕ) (rest : List ℕ) (r : Result (Found A) FieldFault)
    → on_ok (on_ok (shift by r) (λ z. ended z.value z.place z.rest)) (λ a. Ok (found a (by + to) rest))
    ≡ shift by (on_ok (on_ok r (λ z. ended z.value z.place z.rest)) (λ a. Ok (found a to rest)))
ended_at by to rest (Err fault) = refl
ended_at by to rest (Ok x) = by_rest x.value x.place x.rest
  where
    by_rest : {A : Type 0} (a : A) (place : ℕ) (over : List ℕ)
        → on_ok (ended a (by + place) over) (λ b. Ok (found b (by + to) rest)) ≡ shift by (on_ok (ended a place over) (λ b. Ok (found b to rest)))
    by_rest a place [] = refl
    by_rest a place (b ∷ over) = refl

asked_at : {A : Type 0} (by place : ℕ) (fits : Bool) (a : A) (to : ℕ) (rest : List ℕ)
    → asked fits (by + place) (found a (by + to) rest) ≡ shift by (asked fits place (found a to rest))
asked_at by place true a to rest = refl
asked_at by place false a to rest = refl

pub shifted : {A : Type 0} (l : Layout A) (by place : ℕ) (bytes : List ℕ) → read l (by + place) bytes ≡ shift by (read l place bytes)
unfolding read
shifted (value a) by place bytes = refl
shifted (field f) by place bytes =
    rw (shifted_field f by place bytes)
    (shift_on by (read_field f place bytes) (λ y. Ok (found (f.value y.value) y.place y.rest)) (λ y. Ok (found (f.value y.value) y.place y.rest)) (λ x. refl))
shifted (behind part next) by place bytes =
    rw (shifted part by place bytes)
    (shift_on by (read part place bytes)
    (λ y. on_ok (read (next y.value) y.place y.rest) (λ z. Ok (found (y.value, z.value) z.place z.rest)))
    (λ y. on_ok (read (next y.value) y.place y.rest) (λ z. Ok (found (y.value, z.value) z.place z.rest)))
    (λ x. rw (shifted (next x.value) by x.place x.rest)
    (shift_on by (read (next x.value) x.place x.rest) (λ z. Ok (found (x.value, z.value) z.place z.rest)) (λ z. Ok (found (x.value, z.value) z.place z.rest)) (λ z. refl))))
shifted (enclosed f inside) by place bytes =
    rw (shifted_field f by place bytes)
    (shift_on by (read_field f place bytes)
    (λ y. on_ok (on_ok (read inside (by + place) y.value) (λ z. ended z.value z.place z.rest)) (λ a. Ok (found a y.place y.rest)))
    (λ y. on_ok (on_ok (read inside place y.value) (λ z. ended z.value z.place z.rest)) (λ a. Ok (found a y.place y.rest)))
    (λ x. rw (shifted inside by place x.value) (ended_at by x.place x.rest (read inside place x.value))))
shifted (shaped part shape) by place bytes =
    rw (shifted part by place bytes)
    (shift_on by (read part place bytes)
    (λ y. asked (shape.fits y.value) (by + place) (found (shape.to y.value) y.place y.rest))
    (λ y. asked (shape.fits y.value) place (found (shape.to y.value) y.place y.rest))
    (λ x. asked_at by place (shape.fits x.value) (shape.to x.value) x.place x.rest))
shifted (verbatim part) by place bytes =
    rw (shifted part by place bytes)
    (shift_on by (read part place bytes) (λ y. Ok (found (before y.rest bytes) y.place y.rest)) (λ y. Ok (found (before y.rest bytes) y.place y.rest)) (λ x. refl))

-- ---- a field that encloses

taken_is : {F : Type 0} (f : Field F) (place : ℕ) (bytes : List ℕ) (to : ℕ) (rest part : List ℕ) → read (bytes_of f.size) place bytes ≡ Ok (found part to rest)
    → f.allows part ≡ true → read_field f place bytes ≡ Ok (found part to rest)
unfolding read bytes_of
taken_is f place bytes to rest part e good =
    elim (field_outcome (any_bytes f.size) place bytes) [
      | is_short lt err ↦ absurd (let k = rw err at e in cc)
      | is_refused le no_value err ↦ absurd cc
      | is_taken le fine ok ↦
          let k = rw ok at e in
          let same : found (take f.size bytes) (place + f.size) (drop f.size bytes) ≡ found part to rest = cc in
          let first : take f.size bytes ≡ part = ap (λ (x : Found (List ℕ)). x.value) same in
          taken f place bytes le (ap f.allows first ∙ good) ∙ ap (λ (x : Found (List ℕ)). Ok x) same
    ]

refused_field : {F : Type 0} (f : Field F) (place : ℕ) (bytes : List ℕ) (to : ℕ) (rest part : List ℕ) → read (bytes_of f.size) place bytes ≡ Ok (found part to rest)
    → f.allows part ≡ false → read_field f place bytes ≡ Err (Range place)
unfolding read bytes_of
refused_field f place bytes to rest part e refused =
    elim (field_outcome (any_bytes f.size) place bytes) [
      | is_short lt err ↦ absurd (let k = rw err at e in cc)
      | is_refused le no_value err ↦ absurd cc
      | is_taken le good ok ↦
          let k = rw ok at e in
          let same : found (take f.size bytes) (place + f.size) (drop f.size bytes) ≡ found part to rest = cc in
          let first : take f.size bytes ≡ part = ap (λ (x : Found (List ℕ)). x.value) same in
          not_allowed f place bytes le (ap f.allows first ∙ refused)
    ]

short_field : {F : Type 0} (f : Field F) (place : ℕ) (bytes : List ℕ) (fault : FieldFault) → read (bytes_of f.size) place bytes ≡ Err fault
    → read_field f place bytes ≡ Err fault
unfolding read bytes_of
short_field f place bytes fault e =
    elim (field_outcome (any_bytes f.size) place bytes) [
      | is_short lt err ↦ let k = rw err at e in short f place bytes lt ∙ cc
      | is_refused le no_value err ↦ absurd cc
      | is_taken le good ok ↦ absurd (let k = rw ok at e in cc)
    ]

zero_right : (place : ℕ) → place + 0 ≡ place
zero_right place = omega arith

at_zero : {A : Type 0} (l : Layout A) (place : ℕ) (bytes : List ℕ) → read l place bytes ≡ shift place (read l 0 bytes)
at_zero l place bytes = ap (λ (p : ℕ). read l p bytes) (sym (zero_right place)) ∙ shifted l place 0 bytes

whole_at : {A : Type 0} (l : Layout A) (place : ℕ) (bytes : List ℕ)
    → on_ok (read l place bytes) (λ z. ended z.value z.place z.rest) ≡ shift_answer place (read_whole l 0 bytes)
unfolding read_whole
whole_at l place bytes = rw (at_zero l place bytes) (by_read (read l 0 bytes))
  where
    by_rest : {A : Type 0} (a : A) (p : ℕ) (over : List ℕ) → ended a (place + p) over ≡ shift_answer place (ended a p over)
    by_rest a p [] = refl
    by_rest a p (b ∷ over) = refl

    by_read : {A : Type 0} (r : Result (Found A) FieldFault)
        → on_ok (shift place r) (λ z. ended z.value z.place z.rest) ≡ shift_answer place (on_ok r (λ z. ended z.value z.place z.rest))
    by_read (Ok x) = by_rest x.value x.place x.rest
    by_read (Err fault) = refl

inside_ok : {A : Type 0} (f : Field (List ℕ)) (inside : Layout A) (place : ℕ) (bytes : List ℕ) (to : ℕ) (rest part : List ℕ) (a : A)
    → read (bytes_of f.size) place bytes ≡ Ok (found part to rest) → f.allows part ≡ true → read_whole inside 0 part ≡ Ok a
    → read (enclosed f inside) place bytes ≡ Ok (found a to rest)
unfolding read
inside_ok f inside place bytes to rest part a e good whole = rw (taken_is f place bytes to rest part e good, whole_at inside place part, whole) refl

inside_err : {A : Type 0} (f : Field (List ℕ)) (inside : Layout A) (place : ℕ) (bytes : List ℕ) (to : ℕ) (rest part : List ℕ) (fault : FieldFault)
    → read (bytes_of f.size) place bytes ≡ Ok (found part to rest) → f.allows part ≡ true → read_whole inside 0 part ≡ Err fault
    → read (enclosed f inside) place bytes ≡ Err (shift_fault place fault)
unfolding read
inside_err f inside place bytes to rest part fault e good whole = rw (taken_is f place bytes to rest part e good, whole_at inside place part, whole) refl

inside_refused : {A : Type 0} (f : Field (List ℕ)) (inside : Layout A) (place : ℕ) (bytes : List ℕ) (to : ℕ) (rest part : List ℕ)
    → read (bytes_of f.size) place bytes ≡ Ok (found part to rest) → f.allows part ≡ false → read (enclosed f inside) place bytes ≡ Err (Range place)
unfolding read
inside_refused f inside place bytes to rest part e refused = rw (refused_field f place bytes to rest part e refused) refl

inside_short : {A : Type 0} (f : Field (List ℕ)) (inside : Layout A) (place : ℕ) (bytes : List ℕ) (fault : FieldFault)
    → read (bytes_of f.size) place bytes ≡ Err fault → read (enclosed f inside) place bytes ≡ Err fault
unfolding read
inside_short f inside place bytes fault e = rw (short_field f place bytes fault e) refl

-- ---- a length, and behind it so many bytes that are laid out in turn

-- what the inside spells is as long as the field
length_is : {A : Type 0} (inside : Layout A) (size place : ℕ) (bytes : List ℕ) (to : ℕ) (rest part : List ℕ) (a : A)
    → read (bytes_of size) place bytes ≡ Ok (found part to rest) → read_whole inside 0 part ≡ Ok a → nat_eq (length (written inside a)) size ≡ true
unfolding read bytes_of
length_is inside size place bytes to rest part a e whole =
    let is = written_is inside part a (whole_found inside part a whole) in
    elim (field_outcome (any_bytes size) place bytes) [
      | is_short lt err ↦ absurd (let k = rw err at e in cc)
      | is_refused le no_value err ↦ absurd cc
      | is_taken le good ok ↦
          let k = rw ok at e in
          let same : found (take size bytes) (place + size) (drop size bytes) ≡ found part to rest = cc in
          let first : take size bytes ≡ part = ap (λ (x : Found (List ℕ)). x.value) same in
          let long : length (take size bytes) ≡ size = length-take_le size bytes le in
          eq-eqb (length (written inside a)) size (ap length (sym is) ∙ ap length (sym first) ∙ long)
    ]
  where
    length-take_le : (n : ℕ) (xs : List ℕ) → n ≤ length xs → length (take n xs) ≡ n
    length-take_le n xs le = omega (arith, length-take n xs)

module _ {U V A : Type 0} (view : V → A) (size : Layout ℕ) (allows : List ℕ → Bool) (inside : Layout A) {seen_as : U → List ℕ} {old mid new : Reading} where
  pub sized_value : (n : ℕ) {part : U} (v : V) → Takes (λ m. m) size old mid (Ok n) → Takes seen_as (bytes_of n) mid new (Ok part)
      → allows (seen_as part) ≡ true → read_whole inside 0 (seen_as part) ≡ Ok (view v) → Takes view (sized size allows inside) old new (Ok v)
  unfolding read sized
  sized_value n {part} v one two good whole =
      record {
        gives = rw (
          one.gives,
          inside_ok (bytes_with n allows) inside mid.place (left mid) new.place (left new) (seen_as part) (view v) two.gives good whole,
          length_is inside n mid.place (left mid) new.place (left new) (seen_as part) (view v) two.gives whole,
        ) refl;
        same = two.same ∙ one.same;
        within = two.within;
      }

  pub sized_fault : (n : ℕ) {part : U} {fault moved : FieldFault} → Takes (λ m. m) size old mid (Ok n) → Takes seen_as (bytes_of n) mid new (Ok part)
      → allows (seen_as part) ≡ true → read_whole inside 0 (seen_as part) ≡ Err fault → moved ≡ shift_fault mid.place fault
      → Takes view (sized size allows inside) old new (Err moved)
  unfolding read sized
  sized_fault n {part} {fault} one two good whole is =
      record {
        gives = rw (
          one.gives,
          inside_err (bytes_with n allows) inside mid.place (left mid) new.place (left new) (seen_as part) fault two.gives good whole,
        ) (ap Err (sym is));
        same = two.same ∙ one.same;
        within = two.within;
      }

  pub sized_refused : (n : ℕ) {part : U} {place : ℕ} → Takes (λ m. m) size old mid (Ok n) → Takes seen_as (bytes_of n) mid new (Ok part)
      → allows (seen_as part) ≡ false → place ≡ mid.place → Takes view (sized size allows inside) old new (Err (Range place))
  unfolding read sized
  sized_refused n {part} one two bad at =
      record {
        gives = rw (
          one.gives,
          inside_refused (bytes_with n allows) inside mid.place (left mid) new.place (left new) (seen_as part) two.gives bad,
        ) (ap (λ (p : ℕ). Err (Range p)) (sym at));
        same = two.same ∙ one.same;
        within = two.within;
      }

  pub sized_short : (n : ℕ) {fault : FieldFault} → Takes (λ m. m) size old mid (Ok n) → Takes seen_as (bytes_of n) mid new (Err fault)
      → Takes view (sized size allows inside) old new (Err fault)
  unfolding read sized
  sized_short n {fault} one two =
      record {
        gives = rw (one.gives, inside_short (bytes_with n allows) inside mid.place (left mid) fault two.gives) refl;
        same = two.same ∙ one.same;
        within = two.within;
      }

pub size_fault : {V A : Type 0} (view : V → A) (size : Layout ℕ) (allows : List ℕ → Bool) (inside : Layout A) {old new : Reading} {fault : FieldFault}
    → Takes (λ m. m) size old new (Err fault) → Takes view (sized size allows inside) old new (Err fault)
unfolding read sized
size_fault view size allows inside one = record { gives = rw one.gives refl; same = one.same; within = one.within }

-- ---- a count, and so many items behind it

module _ {V A : Type 0} (view : V → List A) (count : Layout ℕ) (items : ℕ → Layout (List A)) {old mid new : Reading} where
  pub counted_value : (n : ℕ) (v : V) → Takes (λ m. m) count old mid (Ok n) → Takes view (items n) mid new (Ok v) → length (view v) ≡ n
      → Takes view (counted count items) old new (Ok v)
  unfolding read counted
  counted_value n v one two long =
      record {
        gives = rw (one.gives, two.gives, eq-eqb (length (view v)) n long) refl;
        same = two.same ∙ one.same;
        within = two.within;
      }

  pub counted_fault : (n : ℕ) {fault : FieldFault} → Takes (λ m. m) count old mid (Ok n) → Takes view (items n) mid new (Err fault)
      → Takes view (counted count items) old new (Err fault)
  unfolding read counted
  counted_fault n one two = record { gives = rw (one.gives, two.gives) refl; same = two.same ∙ one.same; within = two.within }

pub count_fault : {V A : Type 0} (view : V → List A) (count : Layout ℕ) (items : ℕ → Layout (List A)) {old new : Reading} {fault : FieldFault}
    → Takes (λ m. m) count old new (Err fault) → Takes view (counted count items) old new (Err fault)
unfolding read counted
count_fault view count items one = record { gives = rw one.gives refl; same = one.same; within = one.within }
