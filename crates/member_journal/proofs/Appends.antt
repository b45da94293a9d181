-- What an append makes of the bytes, and what they stand for at each moment of it.
use Rattle.std.proofs.Common.{◌≡◌, inl, ℕ, ◌+◌, ◌-◌, ◌<◌, ◌≤◌, nat_le, Bool, true, false, List, [], ◌∷◌, ◌++◌, length, take, drop, Ok, refl, sym, ◌∙◌, ap, subst, arith, append_assoc, length-append}
use Rattle.std.proofs.lemmas.Bool.Decides.{nat_tests}
use Rattle.std.proofs.lemmas.List.{append-nil, drop_all}
use Rattle.std.specs.Int.{to_be_bytes, w32}
use Rattle.std.specs.List.{AllByRecursion}
use Rattle.disk_trait.specs.Disk.{Torn, Wrote}
use Rattle.member_journal.specs.Append.{framed, header, with_header, with_record, IsAppending, IsBeginning, begins, stores, opens, starts, started}
use Rattle.member_journal.specs.declared.room.Room.{Room}
use Rattle.member_journal.specs.Entries.{StandsFor, IsBeforeOrAfter, Appended}
use Rattle.member_journal.specs.Format.{magic, most_records, longest_record, Entry}
use Rattle.member_journal.specs.Front.{Begun, Holds, entries_at}
use Rattle.member_journal.specs.Room.{FitsBefore}
use Rattle.member_journal.proofs.Entries.{empty_journal}
use Rattle.member_journal.proofs.Fronts.{entries_kept}
use Rattle.member_journal.proofs.Stages.{bare_entries, begun_after, header_begun, opened_torn, staged, staged_torn}
use Rattle.member_journal.proofs.Writes.{front_kept, torn_none, wrote_behind, wrote_is}

pub with_header-short : (old : List ℕ) → length old ≤ 9 → with_header old ≡ header
unfolding with_header
with_header-short old short =
    let test : nat_le (length old) 9 ≡ true = grind (arith, nat_tests) in rw test refl

pub with_header-long : (old : List ℕ) → 9 < length old → with_header old ≡ old
unfolding with_header
with_header-long old long =
    let test : nat_le (length old) 9 ≡ false = grind (arith, nat_tests) in rw test refl

with_record-short : (old : List ℕ) (place : ℕ) (payload : List ℕ) → length old ≤ 9 → with_record old place payload ≡ magic ++ 1 ∷ framed payload
unfolding with_record
with_record-short old place payload short =
    let test : nat_le (length old) 9 ≡ true = grind (arith, nat_tests) in rw test refl

with_record-long : (old : List ℕ) (place : ℕ) (payload : List ℕ) → 9 < length old
    → with_record old place payload ≡ take (place - 1) old ++ 1 ∷ framed payload ++ drop (place + 5 + length payload) old
unfolding with_record
with_record-long old place payload long =
    let test : nat_le (length old) 9 ≡ false = grind (arith, nat_tests) in rw test refl

length-framed : (payload : List ℕ) → length (framed payload) ≡ length payload + 5
length-framed payload =
    omega (arith, length-append (to_be_bytes w32 (length payload) ++ payload) (0 ∷ []), length-append (to_be_bytes w32 (length payload)) payload)

-- a record behind a gate, and the gate open
put_in : (old stored now : List ℕ) (gate : ℕ) (payload : List ℕ) → gate < length old → Wrote (gate + 1) (framed payload) old stored → Wrote gate (1 ∷ []) stored now
    → now ≡ take gate old ++ 1 ∷ framed payload ++ drop (gate + 1 + 5 + length payload) old
put_in old stored now gate payload within first second =
    let front : take gate stored ≡ take gate old =
    front_kept (gate + 1) (length (framed payload)) gate old stored first.elsewhere (omega (arith, within)) (omega arith) in
    let behind : drop (gate + 1) stored ≡ framed payload ++ drop (gate + 1 + 5 + length payload) old =
    wrote_behind (gate + 1) (framed payload) old stored first
    ∙ ap (λ (k : ℕ). framed payload ++ drop k old) (omega (arith, length-framed payload)) in
    wrote_is gate (1 ∷ []) stored now (omega (arith, within, first.elsewhere.no_shorter)) second
    ∙ (λ i. front i ++ 1 ∷ [] ++ behind i)
    ∙ append_assoc (take gate old) (1 ∷ []) (framed payload ++ drop (gate + 1 + 5 + length payload) old)
    ∙ sym (append_assoc (take gate old) (1 ∷ framed payload) (drop (gate + 1 + 5 + length payload) old))

pub beginning : (old : List ℕ) (place : ℕ) (payload image : List ℕ) → IsBeginning old image → IsAppending old place payload image
beginning old place payload image (starts short still) = begins short still
beginning old place payload image (started is) =
    stores (subst (Torn place (length payload + 5) (with_header old)) (sym is) (torn_none place (length payload + 5) (with_header old)))

module _ (content : List ℕ) (images : List ℕ → Type 0) (rooms : List Room) (gate : ℕ) where
  -- the magic and the first gate change nothing
  pub has_begun : (is_bare : Bool) → Holds content images rooms gate is_bare
      → Begun (with_header content) rooms gate × (entries_at (with_header content) rooms ≡ entries_at content rooms)
  has_begun true holds =
      let bare = holds.bare refl in (
        subst (λ (bytes : List ℕ). Begun bytes rooms gate) (sym (with_header-short content bare.0)) (header_begun rooms gate bare.1 bare.2),
        bare_entries content (with_header content) rooms bare.1,
      )
  has_begun false holds =
      let same = with_header-long content (holds.long refl) in (
        subst (λ (bytes : List ℕ). Begun bytes rooms gate) (sym same) (holds.begun refl),
        ap (λ (bytes : List ℕ). entries_at bytes rooms) same,
      )

  pub is_empty : (is_bare : Bool) → Holds content images rooms gate is_bare → length content ≤ 9 → (rooms ≡ []) × (gate ≡ 8)
  is_empty true holds short = let bare = holds.bare refl in (bare.1, bare.2)
  is_empty false holds short = absurd (omega (arith, short, holds.long refl))

  module _ (is_bare : Bool) (payload : List ℕ) (holds : Holds content images rooms gate is_bare) where
    entry : Entry
    entry = record { place = gate + 1; bytes = payload }

    pub before_or_after : (image : List ℕ) → length rooms < most_records → 1 ≤ length payload → length payload ≤ longest_record → IsAppending content (gate + 1) payload image
        → IsBeforeOrAfter (entries_at content rooms) (record { place = gate + 1; bytes = payload }) image
    before_or_after image few some not_long (begins short still) =
        inl (empty_journal image still ∙ ap (λ (rs : List Room). Ok (entries_at content rs)) (sym (is_empty is_bare holds short).0))
    before_or_after image few some not_long (stores torn) =
        let begun = has_begun is_bare holds in
        inl (subst (λ (es : List Entry). StandsFor es image) begun.1 (staged_torn (with_header content) image rooms gate (length payload + 5) begun.0 torn))
    before_or_after image few some not_long (opens stored written torn) =
        let begun = has_begun is_bare holds in
        let same : gate + 1 - 1 ≡ gate = omega arith in
        let stage = staged (with_header content) stored rooms gate payload begun.0 few some written in
        subst (λ (es : List Entry). IsBeforeOrAfter es (record { place = gate + 1; bytes = payload }) image) begun.1
        (opened_torn stored image (entries_at (with_header content) rooms) (most_records - (length rooms + 1)) gate payload not_long some stage
        (subst (λ (g : ℕ). Torn g 1 stored image) same torn))

    module _ (stored now : List ℕ) (first : Wrote (gate + 1) (framed payload) (with_header content) stored) (second : Wrote gate (1 ∷ []) stored now) where
      bytes_are : now ≡ take gate (with_header content) ++ 1 ∷ framed payload ++ drop (gate + 1 + 5 + length payload) (with_header content)
      bytes_are = put_in (with_header content) stored now gate payload (has_begun is_bare holds).0.within first second

      record_short : length content ≤ 9 → now ≡ with_record content (gate + 1) payload
      record_short short =
          let eight : gate ≡ 8 = (is_empty is_bare holds short).1 in
          bytes_are
          ∙ ap (λ (old : List ℕ). take gate old ++ 1 ∷ framed payload ++ drop (gate + 1 + 5 + length payload) old) (with_header-short content short)
          ∙ ap (λ (g : ℕ). take g header ++ 1 ∷ framed payload ++ drop (g + 1 + 5 + length payload) header) eight
          ∙ ap (λ (l : List ℕ). magic ++ 1 ∷ framed payload ++ l) (drop_all (8 + 1 + 5 + length payload) header (omega arith))
          ∙ append-nil (magic ++ 1 ∷ framed payload)
          ∙ sym (with_record-short content (gate + 1) payload short)

      record_long : 9 < length content → now ≡ with_record content (gate + 1) payload
      record_long long =
          let same : gate ≡ gate + 1 - 1 = omega arith in
          bytes_are
          ∙ ap (λ (old : List ℕ). take gate old ++ 1 ∷ framed payload ++ drop (gate + 1 + 5 + length payload) old) (with_header-long content long)
          ∙ ap (λ (g : ℕ). take g content ++ 1 ∷ framed payload ++ drop (gate + 1 + 5 + length payload) content) same
          ∙ sym (with_record-long content (gate + 1) payload long)

      pub record_written : now ≡ with_record content (gate + 1) payload
      record_written = either is_bare holds
        where
          either : (b : Bool) → Holds content images rooms gate b → now ≡ with_record content (gate + 1) payload
          either true held = record_short (held.bare refl).0
          either false held = record_long (held.long refl)

      pub appended : length rooms < most_records → 1 ≤ length payload → length payload ≤ longest_record → AllByRecursion (FitsBefore gate) rooms
          → Appended content now rooms gate payload
      appended few some not_long fit =
          let begun = has_begun is_bare holds in
          let stage = staged (with_header content) stored rooms gate payload begun.0 few some first in
          let kept : take gate now ≡ take gate (with_header content) =
          front_kept gate 1 gate stored now second.elsewhere (omega (arith, stage.within)) (omega arith)
          ∙ front_kept (gate + 1) (length (framed payload)) gate (with_header content) stored first.elsewhere (omega (arith, begun.0.within)) (omega arith) in
          let done = begun_after (with_header content) stored now rooms (rooms ++ record { place = gate + 1; length = length payload } ∷ []) gate (gate + 5 + length payload) payload not_long some few
          begun.0.far stage second (entries_kept (with_header content) now gate rooms fit kept) refl refl in
          record {
            begun = done.0;
            long = omega (arith, done.0.within, begun.0.far);
            entries = done.1 ∙ ap (λ (es : List Entry). es ++ record { place = gate + 1; bytes = payload } ∷ []) begun.1;
          }
