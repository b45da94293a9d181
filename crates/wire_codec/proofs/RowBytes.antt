-- Headers behind their lengths.
use Rattle.std.proofs.Common.{◌≡◌, ℕ, zero, suc, ◌+◌, ◌-◌, ◌<◌, ◌≤◌, List, [], ◌∷◌, length, take, drop, refl, ap, sym, subst, ◌∙◌, arith, slice_get}
use Rattle.std.specs.Prelude.{slice_index, Result, Ok, Err, IsOk, Option, Some, None, IfSome, IfNone, IsSome}
use Rattle.std.specs.Int.{w16, from_be_bytes}
use Rattle.std.proofs.lemmas.List.{drop_at, drop-drop, length-append, length-drop, take_all, take_at, take-append-le}
use Rattle.group_fields.specs.LayoutReads.{Found, Takes, found, left, read, seen}
use Rattle.group_fields.specs.Layouts.{Spells, number, sized}
use Rattle.group_fields.specs.Reading.{Reading}
use Rattle.group_fields.specs.declared.fault.FieldFault.{FieldFault}
use Rattle.group_fields.specs.declared.header.Header.{Header}
use Rattle.wire_codec.specs.Packets.{row}
use Rattle.wire_codec.specs.Readings.{AreRows}
use Rattle.wire_codec.specs.Repeated.{items_in, repeated}
use Rattle.wire_codec.proofs.ListReads.{count_is}
use Rattle.wire_codec.proofs.Walks.{IsFirst, first_of, first_read, no_items}

-- how long a header with its length is
pub row_long : (bytes : List ℕ) (one : Header) → Spells row bytes one → (2 ≤ length bytes) × (length bytes ≡ 2 + from_be_bytes w16 (take 2 bytes))
unfolding row sized number
row_long bytes one (pair, (front, back, e, (fills, size_is), (inside, spelled)), fits, is) =
    let first : take 2 bytes ≡ front = ap (take 2) e ∙ take_at front back 2 fills.size in
    let n : from_be_bytes w16 (take 2 bytes) ≡ pair.0 = ap (from_be_bytes w16) first ∙ sym size_is in (
      omega (arith, ap length e, length-append front back, fills.size),
      omega (arith, ap length e, length-append front back, fills.size, inside.size, n),
    )

-- the number of the first two bytes
pub size_is : (bytes : List ℕ) (n : ℕ) → 2 ≤ length bytes → n ≡ from_be_bytes w16 (slice_index bytes 0 ∷ slice_index bytes 1 ∷ []) → from_be_bytes w16 (take 2 bytes) ≡ n
size_is [] n long e = absurd (omega arith)
size_is (a ∷ []) n long e = absurd (omega arith)
size_is (a ∷ b ∷ rest) n long e = sym e

-- what is left behind the first header
pub record AreRest (count from : ℕ) (bytes : List ℕ) (v : List Header) : Type 0 where
  pub within : from ≤ length bytes
  pub rest : AreRows (count - 1) (take (length bytes - from) (drop from bytes))
  pub are : drop 1 v ≡ items_in row (count - 1) (take (length bytes - from) (drop from bytes))

pub rest_of : (count from : ℕ) (bytes : List ℕ) (v : List Header) → AreRows count bytes → (f : IsFirst row count bytes v) → from ≡ length f.front
    → AreRest count from bytes v
rest_of count from bytes v of f at =
    let long = ap length f.whole ∙ length-append f.front f.back in
    let behind : drop from bytes ≡ f.back = ap (drop from) f.whole ∙ drop_at f.front f.back from (sym at) in
    let all : take (length bytes - from) (drop from bytes) ≡ f.back = ap (take (length bytes - from)) behind ∙ take_all (length bytes - from) f.back (omega (arith, long, at)) in
    record {
      within = omega (arith, long, at);
      rest = subst (λ (b : List ℕ). AreRows (count - 1) b) (sym all) (record { spelled = f.others; short = omega (arith, long, of.short) });
      are = ap (drop 1) f.are ∙ ap (items_in row (count - 1)) (sym all);
    }

-- the rows that a walk sees, and the first of them
pub first_row : (count : ℕ) (bytes : List ℕ) (v : List Header) → items_in row count bytes ≡ v → AreRows count bytes → 0 < count → IsFirst row count bytes v
first_row count bytes v are of some =
    first_of row count bytes v some (subst (λ (l : List Header). Spells (repeated count row) bytes l) are of.spelled)

pub counted : (count : ℕ) (bytes : List ℕ) (v : List Header) → items_in row count bytes ≡ v → AreRows count bytes → length v ≡ count
counted count bytes v are of = count_is row count bytes v (subst (λ (l : List Header). Spells (repeated count row) bytes l) are of.spelled)

pub none_left : (count : ℕ) (bytes : List ℕ) (v : List Header) → items_in row count bytes ≡ v → AreRows count bytes → count ≡ 0 → v ≡ []
none_left count bytes v are of none = no_items row count bytes v none (subst (λ (l : List Header). Spells (repeated count row) bytes l) are of.spelled)

-- how long the first row is
pub first_long : (count : ℕ) (bytes : List ℕ) (v : List Header) → (f : IsFirst row count bytes v)
    → (2 ≤ length bytes) × (2 + from_be_bytes w16 (take 2 bytes) ≡ length f.front)
first_long count bytes v f =
    let long = row_long f.front f.one f.spelled in
    let first : take 2 bytes ≡ take 2 f.front = ap (take 2) f.whole ∙ take-append-le 2 f.front f.back long.0 in
    (omega (arith, long.0, ap length f.whole, length-append f.front f.back), ap (λ (b : List ℕ). 2 + from_be_bytes w16 b) first ∙ sym long.1)

-- what a reader of the first row answers
pub first_taken : (count : ℕ) (bytes : List ℕ) (v : List Header) (old new : Reading) (result : Result Header FieldFault)
    → old ≡ record { whole = bytes; place = 0 } → Takes (λ header. header) row old new result → (f : IsFirst row count bytes v)
    → (result ≡ Ok f.one) × (new.place ≡ length f.front)
first_taken count bytes v old new result at takes f = by_result result (sym (first_read row count bytes v f)
    ∙ subst (λ (o : Reading). read row o.place (left o) ≡ seen (λ header. header) new result) at takes.gives)
  where
    by_result : (r : Result Header FieldFault) → Ok (found f.one (length f.front) f.back) ≡ seen (λ header. header) new r
        → (r ≡ Ok f.one) × (new.place ≡ length f.front)
    by_result (Ok h) e =
        let same : found f.one (length f.front) f.back ≡ found h new.place (left new) = cc in
        (ap (λ (x : Found Header). Ok x.value) (sym same), ap (λ (x : Found Header). x.place) (sym same))
    by_result (Err fault) e = absurd cc

-- an item behind so many others
pub item_behind : (v : List Header) (index : ℕ) (one : Header) (others : List Header) → drop index v ≡ one ∷ others → slice_get v index ≡ Some one
item_behind [] zero one others e = absurd cc
item_behind [] (suc index) one others e = absurd cc
item_behind (x ∷ v) zero one others e = let same : x ≡ one = cc in ap (λ (h : Header). Some h) same
item_behind (x ∷ v) (suc index) one others e = item_behind v index one others e

-- ---- a walk that passes a row by its length

module _ (count : ℕ) (bytes : List ℕ) (v : List Header) (are : items_in row count bytes ≡ v) (of : AreRows count bytes) (some : 0 < length v) where
  pub is_some : 0 < count
  is_some = omega (arith, counted count bytes v are of, some)

  pub two_long : 2 ≤ length bytes
  two_long = (first_long count bytes v (first_row count bytes v are of is_some)).0

  pub rest_behind : (size : ℕ) → size ≡ 2 + from_be_bytes w16 (take 2 bytes) → AreRest count size bytes v
  rest_behind size is =
      let f = first_row count bytes v are of is_some in
      rest_of count size bytes v of f (is ∙ (first_long count bytes v f).1)

-- ---- a walk that reads a row

-- the first row is this one, and the others are behind it
pub record IsNext (count size : ℕ) (bytes : List ℕ) (v : List Header) (one : Header) : Type 0 where
  pub rest : AreRows (count - 1) (take (length bytes - size) (drop size bytes))
  pub are : v ≡ one ∷ items_in row (count - 1) (take (length bytes - size) (drop size bytes))

module _ (count : ℕ) (bytes : List ℕ) (v : List Header) (are : items_in row count bytes ≡ v) (of : AreRows count bytes) (some : 0 < count)
    (old new : Reading) (result : Result Header FieldFault) (at : old ≡ record { whole = bytes; place = 0 }) (takes : Takes (λ header. header) row old new result) where
  pub is_read : IsOk result
  is_read =
      let is = first_taken count bytes v old new result at takes (first_row count bytes v are of some) in
      subst IsOk (sym is.0) refl

  pub is_next : (header : Header) (size : ℕ) → result ≡ Ok header → size ≡ new.place → IsNext count size bytes v header
  is_next header size is end =
      let f = first_row count bytes v are of some in
      let taken = first_taken count bytes v old new result at takes f in
      let rest = rest_of count size bytes v of f (end ∙ taken.1) in
      let same : f.one ≡ header = let a = taken.0 in cc in
      let others : items_in row (count - 1) f.back ≡ items_in row (count - 1) (take (length bytes - size) (drop size bytes)) = sym (ap (drop 1) f.are) ∙ rest.are in
      record { rest = rest.rest; are = f.are ∙ ap (λ (l : List Header). f.one ∷ l) others ∙ ap (λ (h : Header). h ∷ items_in row (count - 1) (take (length bytes - size) (drop size bytes))) same }

-- ---- a row behind others

pub more_left : (v rows : List Header) (index at : ℕ) → rows ≡ drop index v → index < at → at < length v → 0 < length rows
more_left v rows index at is lt le = omega (arith, ap length is, length-drop index v)

pub one_more : (v rows next : List Header) (index : ℕ) → rows ≡ drop index v → next ≡ drop 1 rows → next ≡ drop (index + 1) v
one_more v rows next index is passed = passed ∙ ap (drop 1) is ∙ drop-drop 1 index v

pub some_left : (v rows : List Header) (index at : ℕ) (result : Option Header) → rows ≡ drop index v → index ≡ at → at < length v
    → IfNone result (rows ≡ []) → IsSome result
some_left v rows index at (Some header) is same lt none = refl
some_left v rows index at None is same lt none = absurd (omega (arith, ap length none, ap length is, length-drop index v, same, lt))

pub row_behind : (v rows others : List Header) (index at : ℕ) (result : Option Header) (header : Header) → rows ≡ drop index v → index ≡ at
    → IfSome result (λ first. rows ≡ first ∷ others) → result ≡ Some header → slice_get v at ≡ Some header
row_behind v rows others index at (Some first) header is same some e =
    let one : first ≡ header = cc in
    item_behind v at header others (ap (λ (n : ℕ). drop n v) (sym same) ∙ sym is ∙ some ∙ ap (λ (h : Header). h ∷ others) one)
row_behind v rows others index at None header is same some e = absurd cc
