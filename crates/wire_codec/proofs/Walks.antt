-- Items that are passed or walked over one by one.
use Rattle.std.proofs.Common.{◌≡◌, ℕ, zero, suc, ◌+◌, ◌-◌, ◌<◌, ◌≤◌, List, [], ◌∷◌, ◌++◌, length, refl, ap, sym, subst, ◌∙◌, arith, append_assoc}
use Rattle.std.specs.Prelude.{Result, Ok, Err}
use Rattle.group_fields.specs.LayoutReads.{Found, Takes, found, left, on_ok, read}
use Rattle.group_fields.specs.Layouts.{Layout, Spells}
use Rattle.group_fields.specs.Reading.{Reading}
use Rattle.group_fields.specs.declared.fault.FieldFault.{FieldFault}
use Rattle.group_fields.proofs.LayoutLaws.{complete}
use Rattle.wire_codec.specs.Readings.{Passes}
use Rattle.wire_codec.specs.Repeated.{SpellsItems, items_in, listed, repeated}
use Rattle.wire_codec.proofs.ListReads.{are_items, items_are}

-- what is read behind items that were passed
abbrev pub resumed : {A : Type 0} → List A → Result (Found (List A)) FieldFault → Result (Found (List A)) FieldFault
resumed items r = on_ok r (λ x. Ok (found (items ++ x.value) x.place x.rest))

-- So many items of a count are passed.
pub record IsPassing {A : Type 0} (item : Layout A) (count passed : ℕ) (old now : Reading) : Type 0 where
  pub items : List A
  pub gives : read (repeated count item) old.place (left old) ≡ resumed items (read (repeated (count - passed) item) now.place (left now))
  pub same : now.whole ≡ old.whole
  pub within : now.place ≤ length now.whole

same_read : {A : Type 0} (r : Result (Found (List A)) FieldFault) → r ≡ resumed [] r
same_read (Ok x) = refl
same_read (Err fault) = refl

pub passing_none : {A : Type 0} (item : Layout A) (count : ℕ) (old : Reading) → old.place ≤ length old.whole → IsPassing item count 0 old old
passing_none item count old within =
    let n : count ≡ count - 0 = omega arith in
    record {
      items = [];
      gives = ap (λ (k : ℕ). read (repeated k item) old.place (left old)) n ∙ same_read (read (repeated (count - 0) item) old.place (left old));
      same = refl;
      within = within;
    }

one_less : (count passed : ℕ) → passed < count → count - passed ≡ suc (count - (passed + 1))
one_less count passed lt = omega arith

module _ {A T : Type 0} (view : T → A) (item : Layout A) (count passed : ℕ) {old now new : Reading} (lt : passed < count) where
  pub passing_more : (v : T) → IsPassing item count passed old now → Takes view item now new (Ok v) → IsPassing item count (passed + 1) old new
  unfolding repeated read
  passing_more v is one =
      let k = count - (passed + 1) in
      let first : read (repeated (suc k) item) now.place (left now)
      ≡ on_ok (read (repeated k item) new.place (left new)) (λ y. Ok (found (view v ∷ y.value) y.place y.rest)) =
      rw one.gives (by_rest (read (repeated k item) new.place (left new))) in
      record {
        items = is.items ++ view v ∷ [];
        gives = is.gives ∙ ap (λ (n : ℕ). resumed is.items (read (repeated n item) now.place (left now))) (one_less count passed lt)
            ∙ ap (resumed is.items) first ∙ moved is.items (view v) (read (repeated k item) new.place (left new));
        same = one.same ∙ is.same;
        within = one.within;
      }
    where
      by_rest : (r : Result (Found (List A)) FieldFault)
          → on_ok (on_ok r (λ y. Ok (found {A = A × List A} (view v, y.value) y.place y.rest))) (λ x. Ok (found (x.value.0 ∷ x.value.1) x.place x.rest))
          ≡ on_ok r (λ y. Ok (found (view v ∷ y.value) y.place y.rest))
      by_rest (Ok y) = refl
      by_rest (Err fault) = refl

      moved : (items : List A) (a : A) (r : Result (Found (List A)) FieldFault)
          → resumed items (on_ok r (λ y. Ok (found (a ∷ y.value) y.place y.rest))) ≡ resumed (items ++ a ∷ []) r
      moved items a (Ok y) = ap (λ (l : List A). Ok (found l y.place y.rest)) (sym (append_assoc items (a ∷ []) y.value))
      moved items a (Err fault) = refl

  pub passing_stop : {fault : FieldFault} → IsPassing item count passed old now → Takes view item now new (Err fault)
      → Passes (repeated count item) old new (Err fault)
  unfolding repeated read
  passing_stop {fault} is one =
      let first : read (repeated (suc (count - (passed + 1))) item) now.place (left now) ≡ Err fault = rw one.gives refl in
      record {
        gives = is.gives ∙ ap (λ (n : ℕ). resumed is.items (read (repeated n item) now.place (left now))) (one_less count passed lt) ∙ ap (resumed is.items) first;
        same = one.same ∙ is.same;
        within = one.within;
      }

pub passing_all : {A : Type 0} (item : Layout A) (count passed : ℕ) (old now : Reading) → count ≤ passed → IsPassing item count passed old now
    → Passes (repeated count item) old now (Ok tt)
unfolding repeated read
passing_all item count passed old now le is =
    let n : count - passed ≡ 0 = omega arith in
    let e : read (repeated count item) old.place (left old) ≡ Ok (found (is.items ++ []) now.place (left now)) =
    is.gives ∙ ap (λ (k : ℕ). resumed is.items (read (repeated k item) now.place (left now))) n in
    record {
      gives = e ∙ ap (λ (l : List _). Ok (found l now.place (left now))) (sym (ap listed e));
      same = is.same;
      within = is.within;
    }

-- ---- a walk over items

-- The first of some items, and the bytes of the others.
pub record IsFirst {A : Type 0} (item : Layout A) (count : ℕ) (bytes : List ℕ) (v : List A) : Type 0 where
  pub one : A
  pub front : List ℕ
  pub back : List ℕ
  pub whole : bytes ≡ front ++ back
  pub spelled : Spells item front one
  pub others : SpellsItems item (count - 1) back
  pub are : v ≡ one ∷ items_in item (count - 1) back

pub first_of : {A : Type 0} (item : Layout A) (count : ℕ) (bytes : List ℕ) (v : List A) → 0 < count → Spells (repeated count item) bytes v
    → IsFirst item count bytes v
unfolding repeated
first_of item zero bytes v some s = absurd (omega arith)
first_of item (suc count) bytes v some (pair, (front, back, e, one, rest), fits, is) =
    let n : count ≡ suc count - 1 = omega arith in
    record {
      one = pair.0;
      front = front;
      back = back;
      whole = e;
      spelled = one;
      others = subst (λ (k : ℕ). SpellsItems item k back) n (are_items item count back pair.1 rest);
      are = is ∙ ap (λ (l : List _). pair.0 ∷ l) (sym (items_are item count back pair.1 rest))
          ∙ ap (λ (k : ℕ). pair.0 ∷ items_in item k back) n;
    }

-- what reading the first item gives
pub first_read : {A : Type 0} (item : Layout A) (count : ℕ) (bytes : List ℕ) (v : List A) → (f : IsFirst item count bytes v)
    → read item 0 bytes ≡ Ok (found f.one (length f.front) f.back)
first_read item count bytes v f =
    let n : 0 + length f.front ≡ length f.front = omega arith in
    ap (read item 0) f.whole ∙ complete item 0 f.front f.back f.one f.spelled ∙ ap (λ (k : ℕ). Ok (found f.one k f.back)) n

pub no_items : {A : Type 0} (item : Layout A) (count : ℕ) (bytes : List ℕ) (v : List A) → count ≡ 0 → Spells (repeated count item) bytes v → v ≡ []
unfolding repeated
no_items item zero bytes v none s = s.1
no_items item (suc count) bytes v none s = absurd (omega arith)
