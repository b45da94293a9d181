-- Lists of items, and readers that pass them.
use Rattle.std.proofs.Common.{◌≡◌, ℕ, zero, suc, ◌+◌, ◌-◌, ◌*◌, ◌<◌, ◌≤◌, List, [], ◌∷◌, ◌++◌, length, take, drop, refl, ap, sym, subst, ◌∙◌, arith, slice_get}
use Rattle.std.specs.Prelude.{Result, Ok, Err, Some}
use Rattle.std.proofs.lemmas.List.{append-nil, length-append, take_at, drop_at, drop-drop}
use Rattle.group_fields.specs.LayoutReads.{Takes, found, left, read}
use Rattle.group_fields.specs.Layouts.{Layout, Spells, value}
use Rattle.group_fields.specs.Reading.{Reading}
use Rattle.group_fields.specs.declared.fault.FieldFault.{FieldFault}
use Rattle.group_fields.proofs.LayoutLaws.{complete}
use Rattle.group_fields.proofs.WholeReads.{taken_spelled}
use Rattle.wire_codec.specs.Readings.{Passes, list_at}
use Rattle.wire_codec.specs.Repeated.{SpellsItems, first_then, items_in, listed, repeated}

-- ---- items

pub count_is : {A : Type 0} (item : Layout A) (count : ℕ) (bytes : List ℕ) (v : List A) → Spells (repeated count item) bytes v → length v ≡ count
unfolding repeated
count_is item zero bytes v s = ap length s.1
count_is item (suc count) bytes v (pair, (front, back, e, one, rest), fits, is) = ap length is ∙ ap suc (count_is item count back pair.1 rest)

-- items are those that the bytes spell
pub items_are : {A : Type 0} (item : Layout A) (count : ℕ) (bytes : List ℕ) (v : List A) → Spells (repeated count item) bytes v → items_in item count bytes ≡ v
items_are item count bytes v s =
    ap (λ (b : List ℕ). listed (read (repeated count item) 0 b)) (sym (append-nil bytes)) ∙ ap listed (complete (repeated count item) 0 bytes [] v s)

pub are_items : {A : Type 0} (item : Layout A) (count : ℕ) (bytes : List ℕ) (v : List A) → Spells (repeated count item) bytes v → SpellsItems item count bytes
are_items item count bytes v s = subst (λ (l : List _). Spells (repeated count item) bytes l) (sym (items_are item count bytes v s)) s

-- the item at an index, where all have the same size
pub record IsItem {A : Type 0} (item : Layout A) (size index : ℕ) (bytes : List ℕ) (v : List A) : Type 0 where
  pub one : A
  pub is : slice_get v index ≡ Some one
  pub within : size * index + size ≤ length bytes
  pub spelled : Spells item (take size (drop (size * index) bytes)) one

pub item_at : {A : Type 0} (item : Layout A) (size : ℕ) → ((bytes : List ℕ) (a : A) → Spells item bytes a → length bytes ≡ size)
    → (count index : ℕ) (bytes : List ℕ) (v : List A) → Spells (repeated count item) bytes v → index < count → IsItem item size index bytes v
unfolding repeated
item_at item size long zero index bytes v s lt = absurd (omega arith)
item_at item size long (suc count) zero bytes v (pair, (front, back, e, one, rest), fits, is) lt =
    let n = long front pair.0 one in
    let whole : drop (size * 0) bytes ≡ front ++ back = ap (λ (k : ℕ). drop k bytes) (zero_times size) ∙ e in
    let first : take size (drop (size * 0) bytes) ≡ front = ap (take size) whole ∙ take_at front back size n in
    record {
      one = pair.0;
      is = ap (λ (l : List _). slice_get l 0) is;
      within = omega (arith, zero_times size, n, ap length e, length-append front back);
      spelled = subst (λ (b : List ℕ). Spells item b pair.0) (sym first) one;
    }
  where
    zero_times : (n : ℕ) → n * 0 ≡ 0
    zero_times n = omega arith
item_at item size long (suc count) (suc index) bytes v (pair, (front, back, e, one, rest), fits, is) lt =
    let n = long front pair.0 one in
    let next = item_at item size long count index back pair.1 rest (omega (arith, lt)) in
    let at : size * suc index ≡ size + size * index = step size index in
    let behind : drop (size * suc index) bytes ≡ drop (size * index) back =
    ap (λ (k : ℕ). drop k bytes) at ∙ sym (drop-drop (size * index) size bytes)
    ∙ ap (λ (b : List ℕ). drop (size * index) b) (ap (drop size) e ∙ drop_at front back size n) in
    record {
      one = next.one;
      is = ap (λ (l : List _). slice_get l (suc index)) is ∙ next.is;
      within = omega (arith, at, n, next.within, ap length e, length-append front back);
      spelled = subst (λ (b : List ℕ). Spells item (take size b) next.one) (sym behind) next.spelled;
    }
  where
    step : (n i : ℕ) → n * suc i ≡ n + n * i
    step n i = omega arith

-- ---- readers that pass a list

pub pass_none : {A : Type 0} (reader : Reading) → reader.place ≤ length reader.whole → Passes {A = A} (value []) reader reader (Ok tt)
unfolding read
pass_none reader within = record { gives = refl; same = refl; within = within }

module _ {T A : Type 0} (view : T → A) (first : Layout A) (others : A → Layout (List A)) where
  pub pass_stops : {old new : Reading} {fault : FieldFault} → Takes view first old new (Err fault) → Passes (first_then first others) old new (Err fault)
  unfolding read
  pass_stops {old} {new} {fault} one = record { gives = rw one.gives refl; same = one.same; within = one.within }

  pub pass_more : {old mid new : Reading} (v : T) (result : Result (Unit {0}) FieldFault) → Takes view first old mid (Ok v)
      → Passes (others (view v)) mid new result → Passes (first_then first others) old new result
  unfolding read
  pass_more {old} {mid} {new} v (Ok done) one rest =
      let e : read (first_then first others) old.place (left old) ≡ Ok (found (view v ∷ list_at (others (view v)) mid) new.place (left new)) =
      rw (one.gives, rest.gives) refl in
      record {
        gives = e ∙ ap (λ (l : List A). Ok (found l new.place (left new))) (sym (ap listed e));
        same = rest.same ∙ one.same;
        within = rest.within;
      }
  pass_more {old} {mid} {new} v (Err fault) one rest =
      record { gives = rw (one.gives, rest.gives) refl; same = rest.same ∙ one.same; within = rest.within }

-- ---- what stands between two places

pub record AreTaken {A : Type 0} (part : Layout (List A)) (item : Layout A) (count : ℕ) (bytes : List ℕ) (old new : Reading) : Type 0 where
  pub spelled : SpellsItems item count bytes
  pub gives : read part old.place (left old) ≡ Ok (found (items_in item count bytes) new.place (left new))

pub are_taken : {A : Type 0} (part : Layout (List A)) (item : Layout A) (count from : ℕ) (old new : Reading) (bytes : List ℕ)
    → ((b : List ℕ) (v : List A) → Spells part b v → Spells (repeated count item) b v) → from ≡ old.place → Passes part old new (Ok tt)
    → bytes ≡ take (new.place - from) (drop from new.whole) → AreTaken part item count bytes old new
are_taken part item count from old new bytes plain at passes is =
    let v = list_at part old in
    let one = taken_spelled part from old new v at passes.gives passes.same passes.within in
    let all = subst (λ (b : List ℕ). Spells (repeated count item) b v) (sym is) (plain (take (new.place - from) (drop from new.whole)) v one) in
    record {
      spelled = are_items item count bytes v all;
      gives = passes.gives ∙ ap (λ (l : List _). Ok (found l new.place (left new))) (sym (items_are item count bytes v all));
    }
