-- How the front of a journal grows, and what it stands for.
use Rattle.std.proofs.Common.{◌≡◌, ◌≢◌, ℕ, zero, suc, ◌+◌, ◌-◌, ◌<◌, ◌≤◌, true, nat_eq, List, [], ◌∷◌, ◌++◌, length, take, drop, get_or, Result, Ok, Err, refl, sym, ◌∙◌, ap, subst, arith, length-append, length-drop, w32}
use Rattle.std.proofs.lemmas.List.{drop_more, drop-drop, drop-take, take-take, map-append}
use Rattle.std.specs.Cmp.Lexicographic.{pointwise}
use Rattle.std.specs.Int.{from_be_bytes}
use Rattle.std.specs.List.{starts_with, AllByRecursion}
use Rattle.member_journal.specs.declared.room.Room.{Room}
use Rattle.member_journal.specs.Format.{magic, most_records, Entry, length_of, HoldsRecord, with_entry, entries_from, journal_of}
use Rattle.member_journal.specs.Front.{Front, entry_at, entries_at, with_entries}
use Rattle.member_journal.specs.Room.{FitsBefore}
use Rattle.member_journal.specs.Scan.{ReadsGate}
use Rattle.member_journal.proofs.Entries.{begun_journal, shut_gate, open_gate, open_gate_full, open_gate_wrong}

-- what two lists with the same front have in common
pub same_part : (c content : List ℕ) (m at n : ℕ) → take m c ≡ take m content → at + n ≤ m → take n (drop at c) ≡ take n (drop at content)
same_part c content m at n same within =
    sym (drop-take at n c) ∙ ap (drop at) (sym (take-take (at + n) m c within) ∙ ap (take (at + n)) same ∙ take-take (at + n) m content within) ∙ drop-take at n content

pub same_front : (c content : List ℕ) (m n : ℕ) → take m c ≡ take m content → n ≤ m → take n c ≡ take n content
same_front c content m n same within = sym (take-take n m c within) ∙ ap (take n) same ∙ take-take n m content within

pub first_of_one : (xs : List ℕ) → get_or (take 1 xs) 0 0 ≡ get_or xs 0 0
first_of_one [] = refl
first_of_one (x ∷ xs) = refl

pub get_or-drop_first : (xs : List ℕ) (i : ℕ) → get_or (drop i xs) 0 0 ≡ get_or xs i 0
get_or-drop_first xs zero = refl
get_or-drop_first [] (suc i) = refl
get_or-drop_first (x ∷ xs) (suc i) = get_or-drop_first xs i

pub same_at : (c content : List ℕ) (m i : ℕ) → take m c ≡ take m content → i + 1 ≤ m → get_or c i 0 ≡ get_or content i 0
same_at c content m i same within =
    sym (get_or-drop_first c i) ∙ sym (first_of_one (drop i c)) ∙ ap (λ (l : List ℕ). get_or l 0 0) (same_part c content m i 1 same within)
    ∙ first_of_one (drop i content) ∙ get_or-drop_first content i

pub with_entries-ok : (entries : List Entry) → with_entries entries (Ok []) ≡ Ok entries
with_entries-ok [] = refl
with_entries-ok (entry ∷ entries) = ap (with_entry entry) (with_entries-ok entries)

pub with_entries-err : (entries : List Entry) (place : ℕ) → with_entries entries (Err place) ≡ Err place
with_entries-err [] place = refl
with_entries-err (entry ∷ entries) place = ap (with_entry entry) (with_entries-err entries place)

with_entries-push : (entries : List Entry) (entry : Entry) (result : Result (List Entry) ℕ) → with_entries (entries ++ entry ∷ []) result ≡ with_entries entries (with_entry entry result)
with_entries-push [] entry result = refl
with_entries-push (first ∷ entries) entry result = ap (with_entry first) (with_entries-push entries entry result)

-- before the first gate
pub front_start : (content : List ℕ) → starts_with nat_eq content magic ≡ true → Front [] most_records 8 content
front_start content begins c within long same =
    begun_journal c long (ap (pointwise nat_eq magic) same ∙ begins)

-- a front is one of all bytes that begin so
pub front_same : (entries : List Entry) (left gate : ℕ) (content other : List ℕ) → take gate other ≡ take gate content → Front entries left gate content → Front entries left gate other
front_same entries left gate content other alike front c within long same = front c within long (same ∙ alike)

module _ (entries : List Entry) (left gate : ℕ) (content : List ℕ) where
  -- behind a gate that isn't open nothing counts
  pub front_shut : Front entries left gate content → gate < length content → 9 < length content → get_or content gate 0 ≢ 1 → journal_of content ≡ Ok entries
  front_shut front within long shut =
      front content within long refl
      ∙ ap (λ (l : List ℕ). with_entries entries (entries_from left gate l)) (drop_more content gate 0 within)
      ∙ ap (with_entries entries) (shut_gate left gate (get_or content gate 0) (drop (gate + 1) content) shut) ∙ with_entries-ok entries

  pub front_wrong : Front entries (suc left) gate content → gate < length content → 9 < length content → get_or content gate 0 ≡ 1 → (HoldsRecord (drop (gate + 1) content) → ⊥)
      → journal_of content ≡ Err (gate + 1)
  front_wrong front within long is_open wrong =
      front content within long refl
      ∙ ap (λ (l : List ℕ). with_entries entries (entries_from (suc left) gate l)) (drop_more content gate 0 within)
      ∙ ap (with_entries entries) (open_gate_wrong left gate (get_or content gate 0) (drop (gate + 1) content) is_open wrong) ∙ with_entries-err entries (gate + 1)

  pub front_full : Front entries 0 gate content → gate < length content → 9 < length content → get_or content gate 0 ≡ 1 → journal_of content ≡ Err (gate + 1)
  front_full front within long is_open =
      front content within long refl
      ∙ ap (λ (l : List ℕ). with_entries entries (entries_from 0 gate l)) (drop_more content gate 0 within)
      ∙ ap (with_entries entries) (open_gate_full gate (get_or content gate 0) (drop (gate + 1) content) is_open) ∙ with_entries-err entries (gate + 1)

-- a record behind an open gate joins the front
pub front_more : (entries : List Entry) (left gate n : ℕ) (content : List ℕ) → Front entries (suc left) gate content → get_or content gate 0 ≡ 1
    → HoldsRecord (drop (gate + 1) content) → n ≡ length_of (drop (gate + 1) content)
    → Front (entries ++ entry_at content (record { place = gate + 1; length = n }) ∷ []) left (gate + 5 + n) content
front_more entries left gate n content front is_open holds count c within long same =
    let behind : List ℕ = drop (gate + 1) c in
    let head : take gate c ≡ take gate content = same_front c content (gate + 5 + n) gate same (omega arith) in
    let opened : get_or c gate 0 ≡ 1 = same_at c content (gate + 5 + n) gate same (omega arith) ∙ is_open in
    let length_field : take 4 (drop (gate + 1) c) ≡ take 4 (drop (gate + 1) content) = same_part c content (gate + 5 + n) (gate + 1) 4 same (omega arith) in
    let same_length : length_of (drop (gate + 1) c) ≡ n = length_same c length_field ∙ sym count in
    let holds_too : HoldsRecord (drop (gate + 1) c) = record {
      has_length = omega (arith, within, length-drop (gate + 1) c);
      not_empty = omega (arith, same_length, count, holds.not_empty);
      not_long = omega (arith, same_length, count, holds.not_long);
      whole = omega (arith, same_length, within, length-drop (gate + 1) c);
    } in
    let bytes : take n (drop (gate + 1 + 4) c) ≡ take n (drop (gate + 1 + 4) content) = same_part c content (gate + 5 + n) (gate + 1 + 4) n same (omega arith) in
    front c (omega (arith, within)) long head
    ∙ ap (λ (l : List ℕ). with_entries entries (entries_from (suc left) gate l)) (drop_more c gate 0 (omega (arith, within)))
    ∙ ap (with_entries entries) (open_gate left gate (get_or c gate 0) (drop (gate + 1) c) opened holds_too)
    ∙ ap (λ (m : ℕ). with_entries entries (with_entry (record { place = gate + 1; bytes = take m (drop 4 (drop (gate + 1) c)) }) (entries_from left (gate + 5 + m) (drop (4 + m) (drop (gate + 1) c))))) same_length
    ∙ ap (λ (l : List ℕ). with_entries entries (with_entry (record { place = gate + 1; bytes = take n l }) (entries_from left (gate + 5 + n) (drop (4 + n) (drop (gate + 1) c))))) (drop-drop 4 (gate + 1) c)
    ∙ ap (λ (l : List ℕ). with_entries entries (with_entry (record { place = gate + 1; bytes = l }) (entries_from left (gate + 5 + n) (drop (4 + n) (drop (gate + 1) c))))) bytes
    ∙ ap (λ (l : List ℕ). with_entries entries (with_entry (entry_at content (record { place = gate + 1; length = n })) (entries_from left (gate + 5 + n) l)))
    (drop-drop (4 + n) (gate + 1) c ∙ ap (λ (k : ℕ). drop k c) (omega arith))
    ∙ sym (with_entries-push entries (entry_at content (record { place = gate + 1; length = n })) (entries_from left (gate + 5 + n) (drop (gate + 5 + n) c)))
  where
    length_same : (c : List ℕ) → take 4 (drop (gate + 1) c) ≡ take 4 (drop (gate + 1) content) → length_of (drop (gate + 1) c) ≡ length_of (drop (gate + 1) content)
    length_same c field = ap (from_be_bytes w32) field

pub entries_at-push : (content : List ℕ) (rooms : List Room) (room : Room) → entries_at content (rooms ++ room ∷ []) ≡ entries_at content rooms ++ entry_at content room ∷ []
entries_at-push content rooms room = map-append (entry_at content) rooms (room ∷ [])

-- before the first record
pub front_begin : (content : List ℕ) (rooms : List Room) (gate : ℕ) → rooms ≡ [] → gate ≡ 8 → starts_with nat_eq content magic ≡ true
    → Front (entries_at content rooms) (most_records - length rooms) gate content
front_begin content rooms gate none is begins =
    subst (λ (rs : List Room). Front (entries_at content rs) (most_records - length rs) gate content) (sym none)
    (subst (λ (g : ℕ). Front [] most_records g content) (sym is) (front_start content begins))

-- one record more
pub front_add : (content : List ℕ) (rooms rooms' : List Room) (gate gate' n : ℕ) → length rooms < most_records → Front (entries_at content rooms) (most_records - length rooms) gate content
    → ReadsGate content gate n → rooms' ≡ rooms ++ record { place = gate + 1; length = n } ∷ [] → gate' ≡ gate + 5 + n
    → Front (entries_at content rooms') (most_records - length rooms') gate' content
front_add content rooms rooms' gate gate' n few front reads grown moved =
    let room : Room = record { place = gate + 1; length = n } in
    let fewer : most_records - length rooms ≡ suc (most_records - length (rooms ++ room ∷ [])) = omega (arith, length-append rooms (room ∷ [])) in
    let front_now = subst (λ (left : ℕ). Front (entries_at content rooms) left gate content) fewer front in
    let more = front_more (entries_at content rooms) (most_records - length (rooms ++ room ∷ [])) gate n content front_now reads.is_open reads.holds reads.count in
    let more_rooms = subst (λ (es : List Entry). Front es (most_records - length (rooms ++ room ∷ [])) (gate + 5 + n) content) (sym (entries_at-push content rooms room)) more in
    let there = subst (λ (g : ℕ). Front (entries_at content (rooms ++ room ∷ [])) (most_records - length (rooms ++ room ∷ [])) g content) (sym moved) more_rooms in
    subst (λ (rs : List Room). Front (entries_at content rs) (most_records - length rs) gate' content) (sym grown) there

-- an open gate with no record behind it
pub front_no_record : (entries : List Entry) (left gate : ℕ) (content : List ℕ) → Front entries left gate content → gate < length content → 9 < length content → get_or content gate 0 ≡ 1
    → (HoldsRecord (drop (gate + 1) content) → ⊥) → journal_of content ≡ Err (gate + 1)
front_no_record entries zero gate content front within long is_open wrong = front_full entries 0 gate content front within long is_open
front_no_record entries (suc left) gate content front within long is_open wrong = front_wrong entries left gate content front within long is_open wrong

-- what stands before a gate stands there in all bytes that begin so
pub entries_kept : (content now : List ℕ) (gate : ℕ) (rooms : List Room) → AllByRecursion (FitsBefore gate) rooms → take gate now ≡ take gate content → entries_at now rooms ≡ entries_at content rooms
entries_kept content now gate [] fit same = refl
entries_kept content now gate (room ∷ rooms) fit same = λ i. entry_kept i ∷ entries_kept content now gate rooms fit.1 same i
  where
    entry_kept : entry_at now room ≡ entry_at content room
    entry_kept = ap (λ (l : List ℕ). let e : Entry = record { place = room.place; bytes = l } in e) (same_part now content gate (room.place + 4) room.length same fit.0.within)
