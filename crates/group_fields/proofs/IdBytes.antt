-- Ids one behind the other, and the layout of them.
use Rattle.std.proofs.Common.{◌≡◌, ℕ, zero, suc, ◌+◌, ◌-◌, ◌*◌, ◌<◌, ◌≤◌, List, ◌∷◌, length, take, drop, refl, ap, sym, subst, ◌∙◌, arith, slice_get}
use Rattle.std.specs.Prelude.{Result, Ok, Err, Option, Some}
use Rattle.std.proofs.lemmas.List.{take-take, drop-drop, drop-take}
use Rattle.group_fields.specs.Ids.{ids_in}
use Rattle.group_fields.specs.LayoutReads.{Takes, found, left, read, seen}
use Rattle.group_fields.specs.Layouts.{ids_above, next_id}
use Rattle.group_fields.specs.Reading.{Reading}
use Rattle.group_fields.specs.declared.fault.FieldFault.{FieldFault}
use Rattle.group_fields.specs.declared.ids.Digest.{Digest}

abbrev as_digest : List ℕ → Digest
as_digest bytes = record { 0 = bytes }

pub ids_in-length : (count : ℕ) (bytes : List ℕ) → length (ids_in count bytes) ≡ count
ids_in-length zero bytes = refl
ids_in-length (suc count) bytes = ap suc (ids_in-length count (drop 32 bytes))

pub id_at : (count index : ℕ) (bytes : List ℕ) → index < count
    → slice_get (ids_in count bytes) index ≡ Some (as_digest (take 32 (drop (32 * index) bytes)))
id_at zero index bytes lt = absurd (omega arith)
id_at (suc count) zero bytes lt = refl
id_at (suc count) (suc index) bytes lt =
    let e : 32 + 32 * index ≡ 32 * suc index = omega arith in
    id_at count index (drop 32 bytes) (omega (arith, lt))
    ∙ ap (λ (x : List ℕ). Some (as_digest (take 32 x))) (drop-drop (32 * index) 32 bytes ∙ ap (λ (n : ℕ). drop n bytes) e)

ids_cut : (count : ℕ) (bytes : List ℕ) → ids_in count (take (32 * count) bytes) ≡ ids_in count bytes
ids_cut zero bytes = refl
ids_cut (suc count) bytes =
    let e : 32 * suc count ≡ 32 + 32 * count = omega arith in
    let first : take 32 (take (32 * suc count) bytes) ≡ take 32 bytes = take-take 32 (32 * suc count) bytes (omega arith) in
    let others : drop 32 (take (32 * suc count) bytes) ≡ take (32 * count) (drop 32 bytes) =
    ap (λ (n : ℕ). drop 32 (take n bytes)) e ∙ drop-take 32 (32 * count) bytes in
    let rest : ids_in count (drop 32 (take (32 * suc count) bytes)) ≡ ids_in count (drop 32 bytes) = ap (ids_in count) others ∙ ids_cut count (drop 32 bytes) in
    rw (first, rest) refl

-- ---- one id more

pub pass_none : (count : ℕ) (last : Option Digest) (cursor : Reading) → count ≡ 0 → cursor.place ≤ length cursor.whole
    → Takes (λ _. ids_in count (left cursor)) (ids_above count last) cursor cursor (Ok (tt {0}))
unfolding ids_above read
pass_none count last cursor none within =
    let at_zero : Takes {T = Unit {0}} (λ _. ids_in 0 (left cursor)) (ids_above 0 last) cursor cursor (Ok (tt {0})) = record { gives = refl; same = refl; within = within } in
    subst (λ (n : ℕ). Takes {T = Unit {0}} (λ _. ids_in n (left cursor)) (ids_above n last) cursor cursor (Ok (tt {0}))) (sym none) at_zero

pub pass_stops : (count : ℕ) (last : Option Digest) {old new : Reading} {fault : FieldFault} → 0 < count → Takes (λ x. x) (next_id last) old new (Err fault)
    → Takes {T = Unit {0}} (λ _. ids_in count (left old)) (ids_above count last) old new (Err fault)
unfolding ids_above read
pass_stops count last {old} {new} {fault} pos one =
    let e : suc (count - 1) ≡ count = omega arith in
    let at_suc : Takes {T = Unit {0}} (λ _. ids_in (suc (count - 1)) (left old)) (ids_above (suc (count - 1)) last) old new (Err fault) =
    record { gives = rw one.gives refl; same = one.same; within = one.within } in
    subst (λ (n : ℕ). Takes {T = Unit {0}} (λ _. ids_in n (left old)) (ids_above n last) old new (Err fault)) e at_suc

pass_one : (count : ℕ) (last : Option Digest) (old mid new : Reading) (id : Digest) (result : Result (Unit {0}) FieldFault)
    → Takes (λ x. x) (next_id last) old mid (Ok id) → id.0 ≡ take 32 (left old) → mid.place ≡ old.place + 32
    → Takes (λ _. ids_in count (left mid)) (ids_above count (Some id)) mid new result
    → Takes (λ _. ids_in (suc count) (left old)) (ids_above (suc count) last) old new result
unfolding ids_above read
pass_one count last old mid new id result one first moved rest =
    record { gives = by_result result rest.gives; same = rest.same ∙ one.same; within = rest.within }
  where
    left_is : left mid ≡ drop 32 (left old)
    left_is = ap (λ (w : List ℕ). drop mid.place w) one.same ∙ ap (λ (n : ℕ). drop n old.whole) moved ∙ sym (drop-drop 32 old.place old.whole)

    ids_are : id ∷ ids_in count (left mid) ≡ ids_in (suc count) (left old)
    ids_are = let id_is : id ≡ as_digest (take 32 (left old)) = ap as_digest first in rw (left_is, id_is) refl

    by_result : (r : Result (Unit {0}) FieldFault) → read (ids_above count (Some id)) mid.place (left mid) ≡ seen (λ _. ids_in count (left mid)) new r
        → read (ids_above (suc count) last) old.place (left old) ≡ seen (λ _. ids_in (suc count) (left old)) new r
    by_result (Ok u) e = rw (one.gives, e) (ap (λ (ids : List Digest). Ok (found ids new.place (left new))) ids_are)
    by_result (Err fault) e = rw (one.gives, e) refl

pub pass_more : (count : ℕ) (last : Option Digest) (old mid new : Reading) (id : Digest) (result : Result (Unit {0}) FieldFault) → 0 < count
    → Takes (λ x. x) (next_id last) old mid (Ok id) → id.0 ≡ take 32 (left old) → mid.place ≡ old.place + 32
    → Takes (λ _. ids_in (count - 1) (left mid)) (ids_above (count - 1) (Some id)) mid new result
    → Takes (λ _. ids_in count (left old)) (ids_above count last) old new result
pass_more count last old mid new id result pos one first moved rest =
    let e : suc (count - 1) ≡ count = omega arith in
    subst (λ (n : ℕ). Takes (λ _. ids_in n (left old)) (ids_above n last) old new result) e
    (pass_one (count - 1) last old mid new id result one first moved rest)

-- the ids between two places
pub ids_between : (count from : ℕ) (old new : Reading) → from ≡ old.place → new.place ≡ old.place + 32 * count → new.whole ≡ old.whole
    → ids_in count (take (new.place - from) (drop from new.whole)) ≡ ids_in count (left old)
ids_between count from old new at moved same =
    let long : new.place - from ≡ 32 * count = omega arith in
    ap (λ (n : ℕ). ids_in count (take n (drop from new.whole))) long ∙ ap (λ (w : List ℕ). ids_in count (take (32 * count) (drop from w))) same
    ∙ ap (λ (n : ℕ). ids_in count (take (32 * count) (drop n old.whole))) at ∙ ids_cut count (left old)
