-- The spelling of a header that has one.
use Rattle.std.proofs.Common.{◌≡◌, ◌⊎◌, ℕ, zero, suc, ◌+◌, ◌*◌, ◌^◌, ◌<◌, ◌≤◌, nat_le, bytes_eq, IsTrue, Bool, true, false, ◌==◌, ◌||◌, List, [], ◌∷◌, length, refl, ap, ◌∙◌, sym, subst, arith, ⊎_elim}
use Rattle.std.specs.Prelude.{Result, Ok, OnOk, Option, Some, None}
use Rattle.std.proofs.lemmas.Bool.{and_from, and_parts, eqb-true, le-leb, leb-true}
use Rattle.std.proofs.lemmas.Bool.Decides.{nat_tests}
use Rattle.std.proofs.lemmas.List.{append-nil, length-append}
use Rattle.std.proofs.lemmas.Result.{on_ok_weaker}
use Rattle.std.specs.Int.{w8, w32, from_be_bytes, to_be_bytes}
use Rattle.sha2.specs.Sha256.{sha256}
use Rattle.group_fields.specs.Fields.{is_above, is_between}
use Rattle.group_fields.specs.Headers.{AreCounted, HasSpelling, Spells, SuitsKind, answer, flag_number, header, kind, kind_number, kind_of, member, members, message_id, spelling, taken_answer, target, took_flag}
use Rattle.group_fields.specs.LayoutReads.{Found, read}
use Rattle.group_fields.specs.LayoutWrites.{Appends, ascends}
use Rattle.group_fields.specs.Layouts as layouts
use Rattle.group_fields.specs.Layouts.{counted, counted_ids, digest, ids_above, known, next_id, number}
use Rattle.group_fields.specs.declared.header.Header.{Header}
use Rattle.group_fields.specs.declared.header.Kind.{Kind}
use Rattle.group_fields.specs.declared.header.Kind.TheVariants.{Create, Update, Remove, Add, Ack, AddAck, Text}
use Rattle.group_fields.specs.declared.header.Target.{Target}
use Rattle.group_fields.specs.declared.header.Target.TheVariants.{Members, Nothing, Member, Answer}
use Rattle.group_fields.specs.declared.ids.Digest.{Digest}
use Rattle.group_fields.specs.declared.ids.MemberId.{MemberId}
use Rattle.group_fields.specs.declared.ids.MessageId.{MessageId}
use Rattle.group_fields.proofs.LayoutLaws.{IsPlain, found_is, one_spelling, one_value, written_is}
use Rattle.group_fields.proofs.WriteSteps.{behind_appended, numbered_appended, shaped_appended}

-- bytes that spell a header are its spelling
pub spelling_is : (value : Header) (bytes : List ℕ) → Spells value bytes → bytes ≡ spelling value
unfolding spelling
spelling_is value bytes spells = written_is header bytes value spells

pub id_is : (value : Header) (bytes : List ℕ) → Spells value bytes → sha256 bytes ≡ message_id value
unfolding message_id
id_is value bytes spells = ap sha256 (spelling_is value bytes spells)

pub one_header : (bytes : List ℕ) (a b : Header) → Spells a bytes → Spells b bytes → a ≡ b
one_header bytes a b of_a of_b = one_value header bytes a b of_a of_b

pub one_header_spelling : (value : Header) (a b : List ℕ) → Spells value a → Spells value b → a ≡ b
one_header_spelling value a b is_a is_b = one_spelling header value a b is_a is_b

-- ---- numbers

between : (least greatest n : ℕ) → least ≤ n → n ≤ greatest → is_between least greatest n ≡ true
between least greatest n low high = and_from (nat_le least n) (nat_le n greatest) (le-leb least n low) (le-leb n greatest high)

bounds : (least greatest n : ℕ) → is_between least greatest n ≡ true → (least ≤ n) × (n ≤ greatest)
bounds least greatest n is =
    let both = and_parts (nat_le least n) (nat_le n greatest) is in
    (leb-true least n both.0, leb-true n greatest both.1)

pub kind_back : (n : ℕ) → is_between 1 7 n ≡ true → kind_number (kind_of n) ≡ n
kind_back n is = let range = bounds 1 7 n is in one_of n range.0 range.1
  where
    one_of : (n : ℕ) → 1 ≤ n → n ≤ 7 → kind_number (kind_of n) ≡ n
    one_of zero low high = absurd (omega arith)
    one_of (suc zero) low high = refl
    one_of (suc (suc zero)) low high = refl
    one_of (suc (suc (suc zero))) low high = refl
    one_of (suc (suc (suc (suc zero)))) low high = refl
    one_of (suc (suc (suc (suc (suc zero))))) low high = refl
    one_of (suc (suc (suc (suc (suc (suc zero)))))) low high = refl
    one_of (suc (suc (suc (suc (suc (suc (suc zero))))))) low high = refl
    one_of (suc (suc (suc (suc (suc (suc (suc (suc n)))))))) low high = absurd (omega arith)

pub flag_back : (n : ℕ) → is_between 0 1 n ≡ true → flag_number (n == 1) ≡ n
flag_back n is = let range = bounds 0 1 n is in one_of n range.1
  where
    one_of : (n : ℕ) → n ≤ 1 → flag_number (n == 1) ≡ n
    one_of zero high = refl
    one_of (suc zero) high = refl
    one_of (suc (suc n)) high = absurd (omega arith)

kind_again : (of : Kind) → kind_of (kind_number of) ≡ of
kind_again Create = refl
kind_again Update = refl
kind_again Remove = refl
kind_again Add = refl
kind_again Ack = refl
kind_again AddAck = refl
kind_again Text = refl

kind_between : (of : Kind) → is_between 1 7 (kind_number of) ≡ true
kind_between Create = refl
kind_between Update = refl
kind_between Remove = refl
kind_between Add = refl
kind_between Ack = refl
kind_between AddAck = refl
kind_between Text = refl

flag_again : (took : Bool) → (flag_number took == 1) ≡ took
flag_again true = refl
flag_again false = refl

flag_between : (took : Bool) → is_between 0 1 (flag_number took) ≡ true
flag_between true = refl
flag_between false = refl

module _ {E : Type 0} (n : ℕ) (old new : List ℕ) (result : Result (Unit {0}) E)
    (one : OnOk result ((least greatest : ℕ) → is_between least greatest n ≡ true → Appends (number w8 least greatest) n old new)) where
  pub kind_appended : (of : Kind) → n ≡ kind_number of → OnOk result (Appends kind of old new)
  unfolding kind
  kind_appended of is =
      on_ok_weaker result
      (λ each. numbered_appended w8 1 7 kind_of kind_number of n old new (ap kind_of is ∙ kind_again of) (sym is)
      (each 1 7 (ap (is_between 1 7) is ∙ kind_between of)))
      one

  pub flag_appended : (took : Bool) → n ≡ flag_number took → OnOk result (Appends took_flag took old new)
  unfolding took_flag
  flag_appended took is =
      on_ok_weaker result
      (λ each. numbered_appended w8 0 1 (λ m. m == 1) flag_number took n old new (ap (λ (m : ℕ). m == 1) is ∙ flag_again took) (sym is)
      (each 0 1 (ap (is_between 0 1) is ∙ flag_between took)))
      one

-- ---- ids that bytes spell

ids_ascend : (count : ℕ) (last : Option Digest) (bytes : List ℕ) (ids : List Digest) → layouts.Spells (ids_above count last) bytes ids
    → ascends last ids ≡ true
unfolding ids_above next_id
ids_ascend zero last bytes ids (none, is) = ap (ascends last) is
ids_ascend (suc count) last bytes ids ((id, others), (front, back, e, (fills, id_is), rest), fits, is) =
    ap (ascends last) is
    ∙ and_from (is_above last id.0) (ascends (Some id) others) (ap (λ (d : Digest). is_above last d.0) id_is ∙ fills.allowed)
    (ids_ascend count (Some id) back others rest)

ids_size : (count : ℕ) (last : Option Digest) (bytes : List ℕ) (ids : List Digest) → layouts.Spells (ids_above count last) bytes ids
    → length bytes ≡ 32 * count
unfolding ids_above next_id
ids_size zero last bytes ids (none, is) = ap length none
ids_size (suc count) last bytes ids ((id, others), (front, back, e, (fills, id_is), rest), fits, is) =
    let long : length bytes ≡ length front + length back = ap length e ∙ length-append front back in
    omega (arith, long, fills.size, ids_size count (Some id) back others rest)

-- what a count and the ids behind it tell
record IsCounted (least greatest : ℕ) (bytes : List ℕ) (ids : List Digest) : Type 0 where
  pub counted : AreCounted least greatest ids
  pub size : length bytes ≡ 1 + 32 * length ids

counted_spelled : (least greatest : ℕ) (bytes : List ℕ) (ids : List Digest) → layouts.Spells (counted_ids least greatest) bytes ids
    → IsCounted least greatest bytes ids
unfolding counted number
counted_spelled least greatest bytes ids ((n, items), (front, back, e, (fills, n_is), rest), fits, is) =
    let both = and_parts (is_between least greatest (from_be_bytes w8 front)) (bytes_eq (to_be_bytes w8 (from_be_bytes w8 front)) front) fills.allowed in
    let range = bounds least greatest (from_be_bytes w8 front) both.0 in
    let count : length ids ≡ n = ap length is ∙ eqb-true (length items) n fits in
    let long : length bytes ≡ length front + length back = ap length e ∙ length-append front back in
    record {
      counted = record {
        enough = omega (arith, range.0, count, n_is);
        few = omega (arith, range.1, count, n_is);
        ascending = ap (ascends None) is ∙ ids_ascend n None back items rest;
      };
      size = omega (arith, long, fills.size, count, ids_size n None back items rest);
    }

pub counted_few : (least greatest place : ℕ) (bytes : List ℕ) (x : Found (List Digest)) → read (counted_ids least greatest) place bytes ≡ Ok x
    → length x.value ≤ greatest
counted_few least greatest place bytes x e =
    let is = found_is (counted_ids least greatest) place bytes x e in
    (counted_spelled least greatest is.front x.value is.spelled).counted.few

-- ---- targets that bytes spell

suits : (of : Kind) (bytes : List ℕ) (about : Target) → layouts.Spells (target of) bytes about → SuitsKind of about
unfolding members member answer taken_answer
suits Create bytes about (ids, spells, fits, is) = subst (SuitsKind Create) (sym is) (counted_spelled 1 32 bytes ids spells).counted
suits Update bytes about (none, is) = subst (SuitsKind Update) (sym is) tt
suits Remove bytes about (id, spells, fits, is) = subst (SuitsKind Remove) (sym is) tt
suits Add bytes about (id, spells, fits, is) = subst (SuitsKind Add) (sym is) tt
suits Ack bytes about (both, spells, fits, is) = subst (SuitsKind Ack) (sym is) tt
suits AddAck bytes about (id, spells, fits, is) = subst (SuitsKind AddAck) (sym is) refl
suits Text bytes about (none, is) = subst (SuitsKind Text) (sym is) tt

target_size : (of : Kind) (bytes : List ℕ) (about : Target) → layouts.Spells (target of) bytes about → length bytes ≤ 1025
unfolding members member answer taken_answer digest took_flag
target_size Create bytes about (ids, spells, fits, is) =
    let counted = counted_spelled 1 32 bytes ids spells in omega (arith, counted.size, counted.counted.few)
target_size Update bytes about (none, is) = omega (arith, ap length none)
target_size Remove bytes about (id, (fills, id_is), fits, is) = omega (arith, fills.size)
target_size Add bytes about (id, (fills, id_is), fits, is) = omega (arith, fills.size)
target_size Ack bytes about (both, (front, back, e, (fills, id_is), (flag_fills, flag_is)), fits, is) =
    let long : length bytes ≡ length front + length back = ap length e ∙ length-append front back in
    omega (arith, long, fills.size, flag_fills.size)
target_size AddAck bytes about (id, (fills, id_is), fits, is) = omega (arith, fills.size)
target_size Text bytes about (none, is) = omega (arith, ap length none)

-- ---- a header that bytes spell

sets : (set : ℕ) → IsTrue ((set == 1) || (set == 2)) → (set ≡ 1) ⊎ (set ≡ 2)
sets set is = grind (arith, nat_tests)

set_between : (set : ℕ) → IsTrue ((set == 1) || (set == 2)) → is_between 1 2 set ≡ true
set_between set is = ⊎_elim (λ e. ap (is_between 1 2) e) (λ e. ap (is_between 1 2) e) (sets set is)

between_sets : (set : ℕ) → is_between 1 2 set ≡ true → IsTrue ((set == 1) || (set == 2))
between_sets set is = let range = bounds 1 2 set is in let above = range.0 in let below = range.1 in grind (arith, nat_tests)

-- what bytes that spell a header tell
record IsSpelled (value : Header) (bytes : List ℕ) : Type 0 where
  pub has : HasSpelling value
  pub size : length bytes ≤ 2154

is_spelled : (value : Header) (bytes : List ℕ) → Spells value bytes → IsSpelled value bytes
unfolding header known number digest kind
is_spelled value bytes (
  (tag, (version, (set, (group, (sender, (seq, (of, (about, (ids, body))))))))),
  (
    f1,
    b1,
    e1,
    (tag_fills, tag_is),
    (
      f2,
      b2,
      e2,
      (version_fills, version_is),
      (
        f3,
        b3,
        e3,
        (set_fills, set_is),
        (
          f4,
          b4,
          e4,
          (group_fills, group_is),
          (
            f5,
            b5,
            e5,
            (sender_fills, sender_is),
            (f6, b6, e6, (seq_fills, seq_is), (f7, b7, e7, (kind_fills, kind_is), (f8, b8, e8, is_target, (f9, b9, e9, are_ids, (body_fills, body_is))))),
          ),
        ),
      ),
    ),
  ),
  fits,
  renamed,
) =
    let in_sets : is_between 1 2 set ≡ true = ap (is_between 1 2) set_is
    ∙ (and_parts (is_between 1 2 (from_be_bytes w8 f3)) (bytes_eq (to_be_bytes w8 (from_be_bytes w8 f3)) f3) set_fills.allowed).0 in
    let in_seqs = bounds 1 0xffff_ffff (from_be_bytes w32 f6)
    (and_parts (is_between 1 0xffff_ffff (from_be_bytes w32 f6)) (bytes_eq (to_be_bytes w32 (from_be_bytes w32 f6)) f6) seq_fills.allowed).0 in
    let predecessors = counted_spelled 0 32 f9 ids are_ids in
    let l1 : length bytes ≡ length f1 + length b1 = ap length e1 ∙ length-append f1 b1 in
    let l2 : length b1 ≡ length f2 + length b2 = ap length e2 ∙ length-append f2 b2 in
    let l3 : length b2 ≡ length f3 + length b3 = ap length e3 ∙ length-append f3 b3 in
    let l4 : length b3 ≡ length f4 + length b4 = ap length e4 ∙ length-append f4 b4 in
    let l5 : length b4 ≡ length f5 + length b5 = ap length e5 ∙ length-append f5 b5 in
    let l6 : length b5 ≡ length f6 + length b6 = ap length e6 ∙ length-append f6 b6 in
    let l7 : length b6 ≡ length f7 + length b7 = ap length e7 ∙ length-append f7 b7 in
    let l8 : length b7 ≡ length f8 + length b8 = ap length e8 ∙ length-append f8 b8 in
    let l9 : length b8 ≡ length f9 + length b9 = ap length e9 ∙ length-append f9 b9 in
    let tail : length b5 ≤ 4 + 1 + 1025 + 1025 + 32 =
    omega (arith, l6, l7, l8, l9, seq_fills.size, kind_fills.size, target_size of f8 about is_target, predecessors.size, predecessors.counted.few, body_fills.size) in
    record {
      has = subst HasSpelling (sym renamed) (record {
        set = between_sets set in_sets;
        seq = omega (arith, in_seqs.0, seq_is);
        target = suits of f8 about is_target;
        predecessors = predecessors.counted;
      });
      size = omega (arith, l1, l2, l3, l4, l5, tail, tag_fills.size, version_fills.size, set_fills.size, group_fills.size, sender_fills.size);
    }

-- it is one that has a spelling
pub spelled_has : (value : Header) (bytes : List ℕ) → Spells value bytes → HasSpelling value
spelled_has value bytes spells = (is_spelled value bytes spells).has

pub header_short : (value : Header) (bytes : List ℕ) → Spells value bytes → length bytes ≤ 2154
header_short value bytes spells = (is_spelled value bytes spells).size

-- ---- no part of a header encloses another, so at each place there is one fault at most

ids_plain : (count : ℕ) (last : Option Digest) → IsPlain (ids_above count last)
unfolding ids_above next_id
ids_plain zero last = tt
ids_plain (suc count) last = (tt, λ id. ids_plain count (Some id))

counted_plain : (least greatest : ℕ) → IsPlain (counted_ids least greatest)
unfolding counted number
counted_plain least greatest = (tt, λ count. ids_plain count None)

target_plain : (of : Kind) → IsPlain (target of)
unfolding members member answer taken_answer digest took_flag
target_plain Create = counted_plain 1 32
target_plain Update = tt
target_plain Remove = tt
target_plain Add = tt
target_plain Ack = (tt, λ id. tt)
target_plain AddAck = tt
target_plain Text = tt

pub header_plain : IsPlain header
unfolding header known number digest kind
header_plain =
    (tt, λ tag. (tt, λ version. (tt, λ set. (tt, λ group. (tt, λ sender. (tt, λ seq. (tt, λ of. (target_plain of, λ about. (counted_plain 0 32, λ ids. tt)))))))))

-- ---- targets that are appended

module _ {E : Type 0} (old new : List ℕ) (result : Result (Unit {0}) E) where
  pub members_appended : (of : Kind) (ids : List Digest) → SuitsKind of (Members ids)
      → OnOk result ((least greatest : ℕ) → is_between least greatest (length ids) ≡ true → Appends (counted_ids least greatest) ids old new)
      → OnOk result (Appends (target of) (Members ids) old new)
  unfolding members
  members_appended Create ids suits one =
      on_ok_weaker result (λ each. shaped_appended _ _ ids old new (each 1 32 (between 1 32 (length ids) suits.enough suits.few)) refl) one
  members_appended Update ids suits one = absurd suits
  members_appended Remove ids suits one = absurd suits
  members_appended Add ids suits one = absurd suits
  members_appended Ack ids suits one = absurd suits
  members_appended AddAck ids suits one = absurd suits
  members_appended Text ids suits one = absurd suits

  pub member_appended : (of : Kind) (id : MemberId) → SuitsKind of (Member id) → OnOk result (Appends digest id.0 old new)
      → OnOk result (Appends (target of) (Member id) old new)
  unfolding member
  member_appended Remove id suits one = on_ok_weaker result (λ each. shaped_appended _ _ id.0 old new each refl) one
  member_appended Add id suits one = on_ok_weaker result (λ each. shaped_appended _ _ id.0 old new each refl) one
  member_appended Create id suits one = absurd suits
  member_appended Update id suits one = absurd suits
  member_appended Ack id suits one = absurd suits
  member_appended AddAck id suits one = absurd suits
  member_appended Text id suits one = absurd suits

  pub answer_appended : (mid : List ℕ) (id : MessageId) (took : Bool) → Appends digest id.0 old mid → OnOk result (Appends took_flag took mid new)
      → OnOk result (Appends (target Ack) (Answer id took) old new)
  unfolding answer
  answer_appended mid id took one two =
      on_ok_weaker result (λ each. shaped_appended _ _ (id.0, took) old new (behind_appended _ _ id.0 took old mid new one each) refl) two

pub nothing_appended : (of : Kind) (bytes : List ℕ) → SuitsKind of Nothing → Appends (target of) Nothing bytes bytes
nothing_appended Update bytes suits = record { back = []; whole = sym (append-nil bytes); spelled = (refl, refl) }
nothing_appended Text bytes suits = record { back = []; whole = sym (append-nil bytes); spelled = (refl, refl) }
nothing_appended Create bytes suits = absurd suits
nothing_appended Remove bytes suits = absurd suits
nothing_appended Add bytes suits = absurd suits
nothing_appended Ack bytes suits = absurd suits
nothing_appended AddAck bytes suits = absurd suits

pub taken_answer_appended : (of : Kind) (old new : List ℕ) (id : MessageId) (took : Bool) → (of ≡ Ack → ⊥) → SuitsKind of (Answer id took)
    → Appends digest id.0 old new → Appends (target of) (Answer id took) old new
unfolding taken_answer
taken_answer_appended AddAck old new id took other suits one =
    subst (λ (t : Bool). Appends (target AddAck) (Answer id t) old new) (sym suits) (shaped_appended _ _ id.0 old new one refl)
taken_answer_appended Ack old new id took other suits one = absurd (other refl)
taken_answer_appended Create old new id took other suits one = absurd suits
taken_answer_appended Update old new id took other suits one = absurd suits
taken_answer_appended Remove old new id took other suits one = absurd suits
taken_answer_appended Add old new id took other suits one = absurd suits
taken_answer_appended Text old new id took other suits one = absurd suits

-- a header that has a spelling, field behind field
pub fields_appended : (value : Header) (start with_tag with_version with_set with_group with_sender with_seq with_kind with_target with_ids whole : List ℕ)
    → HasSpelling value → value.seq < 2 ^ 32 → Appends (known (0x48 ∷ [])) tt start with_tag → Appends (known (1 ∷ [])) tt with_tag with_version
    → ((least greatest : ℕ) → is_between least greatest value.set ≡ true → Appends (number w8 least greatest) value.set with_version with_set)
    → Appends digest value.group.0 with_set with_group → Appends digest value.sender.0 with_group with_sender
    → ((least greatest : ℕ) → is_between least greatest value.seq ≡ true → Appends (number w32 least greatest) value.seq with_sender with_seq)
    → Appends kind value.kind with_seq with_kind → Appends (target value.kind) value.target with_kind with_target
    → ((least greatest : ℕ) → is_between least greatest (length value.predecessors) ≡ true → Appends (counted_ids least greatest) value.predecessors with_target with_ids)
    → Appends digest value.body with_ids whole → Appends header value start whole
unfolding header
fields_appended value start with_tag with_version with_set with_group with_sender with_seq with_kind with_target with_ids whole
    has small tag version set group sender seq of about ids body =
    shaped_appended _ _
    (tt, (tt, (value.set, (value.group.0, (value.sender.0, (value.seq, (value.kind, (value.target, (value.predecessors, value.body)))))))))
    start whole
    (behind_appended _ _ tt _ start with_tag whole tag
    (behind_appended _ _ tt _ with_tag with_version whole version
    (behind_appended _ _ value.set _ with_version with_set whole (set 1 2 (set_between value.set has.set))
    (behind_appended _ _ value.group.0 _ with_set with_group whole group
    (behind_appended _ _ value.sender.0 _ with_group with_sender whole sender
    (behind_appended _ _ value.seq _ with_sender with_seq whole (seq 1 0xffff_ffff (between 1 0xffff_ffff value.seq has.seq (omega (arith, small))))
    (behind_appended _ _ value.kind _ with_seq with_kind whole of
    (behind_appended _ _ value.target _ with_kind with_target whole about
    (behind_appended _ _ value.predecessors value.body with_target with_ids whole
    (ids 0 32 (between 0 32 (length value.predecessors) has.predecessors.enough has.predecessors.few)) body)))))))))
    refl

-- what was appended to nothing is spelled
pub spelled : (value : Header) (bytes : List ℕ) → Appends header value [] bytes → Spells value bytes
spelled value bytes one = subst (Spells value) (sym one.whole) one.spelled
