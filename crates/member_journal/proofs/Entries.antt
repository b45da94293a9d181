-- What stands behind a gate.
use Rattle.std.proofs.Common.{◌≡◌, ◌≢◌, ◌⊎◌, inl, inr, ⊎_elim, ℕ, zero, suc, ◌+◌, ◌<◌, ◌≤◌, Bool, true, false, ◌==◌, nat_eq, nat_le, List, [], ◌∷◌, length, take, drop, Ok, Err, refl, arith}
use Rattle.std.proofs.lemmas.Bool.Decides.{nat_tests}
use Rattle.std.specs.List.{starts_with}
use Rattle.member_journal.specs.Format.{magic, most_records, length_of, HoldsRecord, holds_record, with_entry, entries_from, journal_of}

pub holds_record_true : (bytes : List ℕ) → HoldsRecord bytes → holds_record bytes ≡ true
holds_record_true bytes holds = grind (arith, nat_tests, holds.has_length, holds.not_empty, holds.not_long, holds.whole)

bool_cases : (b : Bool) → (b ≡ true) ⊎ (b ≡ false)
bool_cases true = inl refl
bool_cases false = inr refl

holds_record_holds : (bytes : List ℕ) → holds_record bytes ≡ true → HoldsRecord bytes
holds_record_holds bytes holds = record {
  has_length = grind (arith, nat_tests, holds);
  not_empty = grind (arith, nat_tests, holds);
  not_long = grind (arith, nat_tests, holds);
  whole = grind (arith, nat_tests, holds);
}

pub holds_record_false : (bytes : List ℕ) → (HoldsRecord bytes → ⊥) → holds_record bytes ≡ false
holds_record_false bytes none = ⊎_elim (λ holds. absurd (none (holds_record_holds bytes holds))) (λ fails. fails) (bool_cases (holds_record bytes))

pub shut_gate : (left place gate : ℕ) (bytes : List ℕ) → gate ≢ 1 → entries_from left place (gate ∷ bytes) ≡ Ok []
unfolding entries_from
shut_gate zero place gate bytes shut = grind (arith, nat_tests)
shut_gate (suc left) place gate bytes shut = grind (arith, nat_tests)

pub open_gate_full : (place gate : ℕ) (bytes : List ℕ) → gate ≡ 1 → entries_from 0 place (gate ∷ bytes) ≡ Err (place + 1)
unfolding entries_from
open_gate_full place gate bytes is_open = grind (arith, nat_tests)

pub open_gate : (left place gate : ℕ) (bytes : List ℕ) → gate ≡ 1 → HoldsRecord bytes
    → entries_from (suc left) place (gate ∷ bytes)
    ≡ with_entry (record { place = place + 1; bytes = take (length_of bytes) (drop 4 bytes) })
    (entries_from left (place + 5 + length_of bytes) (drop (4 + length_of bytes) bytes))
unfolding entries_from
open_gate left place gate bytes is_open holds =
    let test : (gate == 1) ≡ true = grind (arith, nat_tests) in
    rw (test, holds_record_true bytes holds) refl

pub open_gate_wrong : (left place gate : ℕ) (bytes : List ℕ) → gate ≡ 1 → (HoldsRecord bytes → ⊥) → entries_from (suc left) place (gate ∷ bytes) ≡ Err (place + 1)
unfolding entries_from
open_gate_wrong left place gate bytes is_open wrong =
    let test : (gate == 1) ≡ true = grind (arith, nat_tests) in
    rw (test, holds_record_false bytes wrong) refl

pub empty_journal : (bytes : List ℕ) → length bytes ≤ 9 → journal_of bytes ≡ Ok []
unfolding journal_of
empty_journal bytes short = grind (arith, nat_tests)

pub other_magic : (bytes : List ℕ) → 9 < length bytes → starts_with nat_eq bytes magic ≡ false → journal_of bytes ≡ Err 0
unfolding journal_of
other_magic bytes long other =
    let test : nat_le (length bytes) 9 ≡ false = grind (arith, nat_tests) in
    rw (test, other) refl

pub begun_journal : (bytes : List ℕ) → 9 < length bytes → starts_with nat_eq bytes magic ≡ true → journal_of bytes ≡ entries_from most_records 8 (drop 8 bytes)
unfolding journal_of
begun_journal bytes long begins =
    let test : nat_le (length bytes) 9 ≡ false = grind (arith, nat_tests) in
    rw (test, begins) refl
