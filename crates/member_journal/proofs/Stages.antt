-- What a journal stands for while a record is appended.
use Rattle.std.proofs.Common.{◌≡◌, ◌≢◌, ◌⊎◌, inl, inr, ⊎_elim, ℕ, suc, ◌+◌, ◌-◌, ◌<◌, ◌≤◌, Bool, true, false, List, [], ◌∷◌, ◌++◌, length, take, drop, get_or, Ok, refl, sym, ◌∙◌, ap, subst, arith, length-append, length-drop, append_assoc, take-append-drop}
use Rattle.std.proofs.lemmas.Bool.{cases_eq}
use Rattle.std.proofs.lemmas.List.{take_all, take_at, drop_at, drop-drop, length-take}
use Rattle.std.proofs.lemmas.Nat.{from_be_bytes-to_be_bytes_4}
use Rattle.std.specs.Int.{to_be_bytes, w32}
use Rattle.disk_trait.specs.Disk.{Torn, Wrote}
use Rattle.member_journal.specs.Append.{framed, header}
use Rattle.member_journal.specs.declared.room.Room.{Room}
use Rattle.member_journal.specs.Format.{most_records, longest_record, Entry, length_of, HoldsRecord, journal_of}
use Rattle.member_journal.specs.Front.{Front, Begun, Holds, entry_at, entries_at}
use Rattle.member_journal.specs.Entries.{IsBeforeOrAfter}
use Rattle.member_journal.proofs.Entries.{empty_journal}
use Rattle.member_journal.proofs.Fronts.{front_shut, front_same, front_more, front_begin, same_at, get_or-drop_first, first_of_one, entries_at-push}
use Rattle.member_journal.proofs.Writes.{front_kept}

-- with at most nine bytes or with more
short_or_long : (content : List ℕ) → (length content ≤ 9) ⊎ (9 < length content)
short_or_long content = grind arith

-- what has begun stands for its records
pub begun_journal_is : (content : List ℕ) (rooms : List Room) (gate : ℕ) → Begun content rooms gate → journal_of content ≡ Ok (entries_at content rooms)
begun_journal_is content rooms gate begun = ⊎_elim
    (λ short. empty_journal content short ∙ ap (λ (rs : List Room). Ok (entries_at content rs)) (sym (begun.none short)))
    (λ long. front_shut (entries_at content rooms) (most_records - length rooms) gate content begun.front begun.within long begun.shut)
    (short_or_long content)

pub holds_journal : (content : List ℕ) (image : List ℕ → Type 0) (rooms : List Room) (gate : ℕ) (is_bare : Bool) → Holds content image rooms gate is_bare → journal_of content ≡ Ok (entries_at content rooms)
holds_journal content image rooms gate true holds =
    let bare = holds.bare refl in
    empty_journal content bare.0 ∙ ap (λ (rs : List Room). Ok (entries_at content rs)) (sym bare.1)
holds_journal content image rooms gate false holds = begun_journal_is content rooms gate (holds.begun refl)

-- a write behind the last gate leaves the records as they are
pub staged_torn : (content c : List ℕ) (rooms : List Room) (gate n : ℕ) → Begun content rooms gate → Torn (gate + 1) n content c → journal_of c ≡ Ok (entries_at content rooms)
staged_torn content c rooms gate n begun torn =
    let inside : gate + 1 ≤ length content = omega (arith, begun.within) in
    let front : take gate c ≡ take gate content = front_kept (gate + 1) n gate content c torn inside (omega arith) in
    let whole : take (gate + 1) c ≡ take (gate + 1) content = front_kept (gate + 1) n (gate + 1) content c torn inside (omega arith) in
    let at_gate : get_or c gate 0 ≡ get_or content gate 0 = same_at c content (gate + 1) gate whole (omega arith) in
    ⊎_elim
    (λ short. empty_journal c short ∙ ap (λ (rs : List Room). Ok (entries_at content rs)) (sym (begun.none (omega (arith, short, torn.no_shorter)))))
    (λ long. front_shut (entries_at content rooms) (most_records - length rooms) gate c
    (front_same (entries_at content rooms) (most_records - length rooms) gate content c front begun.front)
    (omega (arith, begun.within, torn.no_shorter)) long (λ opened. begun.shut (sym at_gate ∙ opened)))
    (short_or_long c)

-- with such a record behind the last gate
pub record Staged (content : List ℕ) (entries : List Entry) (left gate : ℕ) (payload : List ℕ) : Type 0 where
  pub front : Front entries (suc left) gate content
  pub behind : (tail : List ℕ) × (drop (gate + 1) content ≡ framed payload ++ tail)
  pub within : gate < length content
  pub long : 9 < length content

module _ (payload tail : List ℕ) (few : length payload ≤ longest_record) (some : 1 ≤ length payload) where
  four : take 4 (framed payload ++ tail) ≡ to_be_bytes w32 (length payload)
  four = refl

  rest : drop 4 (framed payload ++ tail) ≡ payload ++ 0 ∷ tail
  rest = ap (λ (l : List ℕ). drop 4 l) (append_assoc (to_be_bytes w32 (length payload) ++ payload) (0 ∷ []) tail ∙ append_assoc (to_be_bytes w32 (length payload)) payload (0 ∷ tail))

  counts : length_of (framed payload ++ tail) ≡ length payload
  counts = from_be_bytes-to_be_bytes_4 (length payload) (omega (arith, few))

  long_enough : length (framed payload ++ tail) ≡ 4 + length payload + 1 + length tail
  long_enough = omega (arith, length-append (framed payload) tail, length-append (to_be_bytes w32 (length payload) ++ payload) (0 ∷ []), length-append (to_be_bytes w32 (length payload)) payload)

  pub framed_holds : HoldsRecord (framed payload ++ tail)
  framed_holds = record {
    has_length = omega (arith, long_enough);
    not_empty = omega (arith, counts, some);
    not_long = omega (arith, counts, few);
    whole = omega (arith, counts, long_enough);
  }

-- a record behind an open gate, and a gate behind it that is shut
module _ (entries : List Entry) (left gate : ℕ) (content payload tail : List ℕ) (few : length payload ≤ longest_record) (some : 1 ≤ length payload)
    (front : Front entries (suc left) gate content) (behind : drop (gate + 1) content ≡ framed payload ++ tail) (is_open : get_or content gate 0 ≡ 1) (within : gate < length content) where
  room : Room
  room = record { place = gate + 1; length = length payload }

  holds : HoldsRecord (drop (gate + 1) content)
  holds = subst HoldsRecord (sym behind) (framed_holds payload tail few some)

  counted : length payload ≡ length_of (drop (gate + 1) content)
  counted = sym (counts payload tail few some) ∙ sym (ap (λ (l : List ℕ). length_of l) behind)

  pub whole : gate + 5 + length payload < length content
  whole = omega (arith, within, ap length behind, long_enough payload tail few some, length-drop (gate + 1) content)

  behind_length : drop (gate + 1 + 4) content ≡ payload ++ 0 ∷ tail
  behind_length = sym (drop-drop 4 (gate + 1) content) ∙ ap (drop 4) behind ∙ rest payload tail few some

  pub entry_is : entry_at content (record { place = gate + 1; length = length payload }) ≡ record { place = gate + 1; bytes = payload }
  entry_is = ap (λ (l : List ℕ). let e : Entry = record { place = gate + 1; bytes = l } in e)
      (ap (take (length payload)) behind_length ∙ take_at payload (0 ∷ tail) (length payload) refl)

  pub front_behind : Front (entries ++ record { place = gate + 1; bytes = payload } ∷ []) left (gate + 5 + length payload) content
  front_behind = subst (λ (e : Entry). Front (entries ++ e ∷ []) left (gate + 5 + length payload) content) entry_is
      (front_more entries left gate (length payload) content front is_open holds counted)

  pub shut_behind : get_or content (gate + 5 + length payload) 0 ≡ 0
  shut_behind =
      sym (get_or-drop_first content (gate + 5 + length payload)) ∙ ap (λ (k : ℕ). get_or (drop k content) 0 0) (omega arith)
      ∙ sym (ap (λ (l : List ℕ). get_or l 0 0) (drop-drop (length payload) (gate + 1 + 4) content))
      ∙ ap (λ (l : List ℕ). get_or (drop (length payload) l) 0 0) behind_length ∙ ap (λ (l : List ℕ). get_or l 0 0) (drop_at payload (0 ∷ tail) (length payload) refl)

  pub stands_behind : 9 < length content → journal_of content ≡ Ok (entries ++ record { place = gate + 1; bytes = payload } ∷ [])
  stands_behind long = front_shut (entries ++ record { place = gate + 1; bytes = payload } ∷ []) left (gate + 5 + length payload) content front_behind whole long
      (λ opened. let zero : 0 ≡ 1 = sym shut_behind ∙ opened in absurd (omega (arith, zero)))

-- the record and the shut gate behind it were written behind the last gate
pub staged : (content after : List ℕ) (rooms : List Room) (gate : ℕ) (payload : List ℕ) → Begun content rooms gate → length rooms < most_records → 1 ≤ length payload
    → Wrote (gate + 1) (framed payload) content after → Staged after (entries_at content rooms) (most_records - (length rooms + 1)) gate payload
staged content after rooms gate payload begun few some written =
    let inside : gate + 1 ≤ length content = omega (arith, begun.within) in
    let kept : take gate after ≡ take gate content = front_kept (gate + 1) (length (framed payload)) gate content after written.elsewhere inside (omega arith) in
    let left : most_records - length rooms ≡ suc (most_records - (length rooms + 1)) = omega arith in
    let size : length (framed payload) ≡ 4 + length payload + 1 =
    omega (arith, length-append (to_be_bytes w32 (length payload) ++ payload) (0 ∷ []), length-append (to_be_bytes w32 (length payload)) payload) in
    record {
      front = subst (λ (n : ℕ). Front (entries_at content rooms) n gate after) left
          (front_same (entries_at content rooms) (most_records - length rooms) gate content after kept begun.front);
      behind = (
        drop (length (framed payload)) (drop (gate + 1) after),
        sym (take-append-drop (length (framed payload)) (drop (gate + 1) after)) ∙ ap (λ (l : List ℕ). l ++ drop (length (framed payload)) (drop (gate + 1) after)) written.there,
      );
      within = omega (arith, begun.within, written.elsewhere.no_shorter);
      long = omega (arith, begun.far, begun.long, begun.within, some, size, ap length written.there, length-take (length (framed payload)) (drop (gate + 1) after), length-drop (gate + 1) after);
    }

-- what a crash in the write of the gate leaves
pub opened_torn : (after c : List ℕ) (entries : List Entry) (left gate : ℕ) (payload : List ℕ) → length payload ≤ longest_record → 1 ≤ length payload
    → Staged after entries left gate payload → Torn gate 1 after c → IsBeforeOrAfter entries (record { place = gate + 1; bytes = payload }) c
opened_torn after c entries left gate payload few some stage torn =
    let kept : take gate c ≡ take gate after = front_kept gate 1 gate after c torn (omega (arith, stage.within)) (omega arith) in
    let front = front_same entries (suc left) gate after c kept stage.front in
    let behind = torn.behind ∙ stage.behind.1 in
    let within : gate < length c = omega (arith, stage.within, torn.no_shorter) in
    let long : 9 < length c = omega (arith, stage.long, torn.no_shorter) in
    ⊎_elim
    (λ is_open. inr (stands_behind entries left gate c payload stage.behind.0 few some front behind is_open within long))
    (λ shut. inl (front_shut entries (suc left) gate c front within long shut))
    (cases_eq (get_or c gate 0) 1)

-- the gate was opened
pub begun_after : (content after now : List ℕ) (rooms rooms' : List Room) (gate gate' : ℕ) (payload : List ℕ) → length payload ≤ longest_record → 1 ≤ length payload → length rooms < most_records → 8 ≤ gate
    → Staged after (entries_at content rooms) (most_records - (length rooms + 1)) gate payload → Wrote gate (1 ∷ []) after now
    → entries_at now rooms ≡ entries_at content rooms → rooms' ≡ rooms ++ record { place = gate + 1; length = length payload } ∷ [] → gate' ≡ gate + 5 + length payload
    → Begun now rooms' gate' × (entries_at now rooms' ≡ entries_at content rooms ++ record { place = gate + 1; bytes = payload } ∷ [])
begun_after content after now rooms rooms' gate gate' payload few some fewer far stage written same grown moved =
    let entries : List Entry = entries_at content rooms in
    let left : ℕ = most_records - (length rooms + 1) in
    let kept : take gate now ≡ take gate after = front_kept gate 1 gate after now written.elsewhere (omega (arith, stage.within)) (omega arith) in
    let front = front_same (entries_at content rooms) (suc (most_records - (length rooms + 1))) gate after now kept stage.front in
    let behind = written.elsewhere.behind ∙ stage.behind.1 in
    let within : gate < length now = omega (arith, stage.within, written.elsewhere.no_shorter) in
    let is_open : get_or now gate 0 ≡ 1 = sym (get_or-drop_first now gate) ∙ sym (first_of_one (drop gate now)) ∙ ap (λ (l : List ℕ). get_or l 0 0) written.there in
    let tail = stage.behind.0 in
    let front_now = front_behind (entries_at content rooms) (most_records - (length rooms + 1)) gate now payload tail few some front behind is_open within in
    let is_shut = shut_behind (entries_at content rooms) (most_records - (length rooms + 1)) gate now payload tail few some front behind is_open within in
    let reach = whole (entries_at content rooms) (most_records - (length rooms + 1)) gate now payload tail few some front behind is_open within in
    let entry = entry_is (entries_at content rooms) (most_records - (length rooms + 1)) gate now payload tail few some front behind is_open within in
    let all : entries_at now rooms' ≡ entries_at content rooms ++ record { place = gate + 1; bytes = payload } ∷ [] =
    ap (entries_at now) grown ∙ entries_at-push now rooms (record { place = gate + 1; length = length payload }) ∙ (λ i. same i ++ entry i ∷ []) in
    let count : most_records - (length rooms + 1) ≡ most_records - length rooms' = omega (arith, ap length grown, length-append rooms (record { place = gate + 1; length = length payload } ∷ [])) in (
      record {
        far = omega (arith, far, moved);
        within = omega (arith, reach, moved);
        shut = λ opened. let zero : 0 ≡ 1 = sym is_shut ∙ sym (ap (λ (k : ℕ). get_or now k 0) moved) ∙ opened in absurd (omega (arith, zero));
        front = subst (λ (k : ℕ). Front (entries_at now rooms') (most_records - length rooms') k now) (sym moved)
            (subst (λ (n : ℕ). Front (entries_at now rooms') n (gate + 5 + length payload) now) count
            (subst (λ (es : List Entry). Front es (most_records - (length rooms + 1)) (gate + 5 + length payload) now) (sym all) front_now));
        long = omega (arith, reach, far);
        none = λ short. absurd (omega (arith, short, reach, far, some));
      },
      all,
    )

-- on a bare disk
pub header_begun : (rooms : List Room) (gate : ℕ) → rooms ≡ [] → gate ≡ 8 → Begun header rooms gate
header_begun rooms gate none is = record {
  far = omega (arith, is);
  within = omega (arith, is);
  shut = subst (λ (k : ℕ). get_or header k 0 ≢ 1) (sym is) (λ opened. absurd (omega (arith, opened)));
  front = front_begin header rooms gate none is refl;
  long = omega arith;
  none = λ short. none;
}

pub header_is : (content now : List ℕ) → length content ≤ 9 → Wrote 0 header content now → now ≡ header
header_is content now short written =
    let long : 9 ≤ length now = omega (arith, ap length written.there, length-take 9 now) in
    let exact : length now ≤ 9 = omega (arith, short, written.elsewhere.no_longer) in
    sym (take_all 9 now exact) ∙ written.there

pub bare_entries : (content now : List ℕ) (rooms : List Room) → rooms ≡ [] → entries_at now rooms ≡ entries_at content rooms
bare_entries content now rooms none = ap (entries_at now) none ∙ ap (entries_at content) (sym none)
