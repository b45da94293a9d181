-- The spelling of a card that has one.
use Rattle.std.proofs.Common.{◌≡◌, ◌⊎◌, ℕ, ◌<◌, ◌≤◌, nat_le, bytes_eq, IsTrue, ◌==◌, ◌&&◌, ◌||◌, true, List, [], ◌∷◌, ◌++◌, length, take, drop, refl, ap, ◌∙◌, sym, subst, arith, ⊎_elim}
use Rattle.std.proofs.lemmas.Bool.{and_from, and_parts, le-leb, leb-true}
use Rattle.std.proofs.lemmas.Bool.Decides.{nat_tests}
use Rattle.std.proofs.lemmas.List.{drop_at, length-drop, length-take, take-append-drop, take_at}
use Rattle.std.specs.Int.{w8, w32, from_be_bytes, to_be_bytes}
use Rattle.sha2.specs.Sha256.{sha256}
use Rattle.group_fields.specs.Cards.{HasSpelling, Spells, card, card_id, card_of_sets, key_size, least_lms_type, lms_public, lms_type, spelling}
use Rattle.group_fields.specs.Fields.{Fills, any_bytes, is_between, number_from, same_bytes}
use Rattle.group_fields.specs.LayoutWrites.{Appends}
use Rattle.group_fields.specs.Layouts as layouts
use Rattle.group_fields.specs.Layouts.{bytes_of, digest, known, number}
use Rattle.group_fields.specs.declared.card.Card.{Card}
use Rattle.group_fields.proofs.LayoutLaws.{IsPlain, one_spelling, one_value, written_is}
use Rattle.group_fields.proofs.WriteSteps.{behind_appended, shaped_appended}

-- bytes that spell a card are its spelling
pub spelling_is : (value : Card) (bytes : List ℕ) → Spells value bytes → bytes ≡ spelling value
unfolding spelling
spelling_is value bytes spells = written_is card bytes value spells

pub id_is : (value : Card) (bytes : List ℕ) → Spells value bytes → sha256 bytes ≡ card_id value
unfolding card_id
id_is value bytes spells = ap sha256 (spelling_is value bytes spells)

pub one_card : (bytes : List ℕ) (a b : Card) → Spells a bytes → Spells b bytes → a ≡ b
one_card bytes a b of_a of_b = one_value card bytes a b of_a of_b

pub one_card_spelling : (value : Card) (a b : List ℕ) → Spells value a → Spells value b → a ≡ b
one_card_spelling value a b is_a is_b = one_spelling card value a b is_a is_b

-- ---- a card that has a spelling

sets : (set : ℕ) → IsTrue ((set == 1) || (set == 2)) → (set ≡ 1) ⊎ (set ≡ 2)
sets set is = grind (arith, nat_tests)

set_between : (set : ℕ) → IsTrue ((set == 1) || (set == 2)) → is_between 1 2 set ≡ true
set_between set is = ⊎_elim (λ e. ap (is_between 1 2) e) (λ e. ap (is_between 1 2) e) (sets set is)

-- the two types at the front of an LMS public key
record IsKey (key : List ℕ) (type : ℕ) : Type 0 where
  pub rest : List ℕ
  pub is : key ≡ 0 ∷ 0 ∷ 0 ∷ type ∷ 0 ∷ 0 ∷ 0 ∷ 3 ∷ rest
  pub size : length rest ≡ 48

is_key : (key : List ℕ) (type : ℕ) → length key ≡ 56 → type < 256 → from_be_bytes w32 (take 4 key) ≡ type
    → from_be_bytes w32 (take 4 (drop 4 key)) ≡ 3 → IsKey key type
is_key (a ∷ b ∷ c ∷ d ∷ e ∷ f ∷ g ∷ h ∷ rest) type long small first second =
    let a0 : a ≡ 0 = omega arith in
    let b0 : b ≡ 0 = omega arith in
    let c0 : c ≡ 0 = omega arith in
    let d0 : d ≡ type = omega arith in
    let e0 : e ≡ 0 = omega arith in
    let f0 : f ≡ 0 = omega arith in
    let g0 : g ≡ 0 = omega arith in
    let h0 : h ≡ 3 = omega arith in
    record { rest = rest; is = cc; size = omega arith }
is_key _ type long small first second = absurd (omega arith)

key_spelled : (set type : ℕ) (rest : List ℕ) → length rest ≡ 48
    → Fills (number_from w32 (least_lms_type set) 6) (0 ∷ 0 ∷ 0 ∷ type ∷ []) → type ≡ from_be_bytes w32 (0 ∷ 0 ∷ 0 ∷ type ∷ [])
    → layouts.Spells (lms_public set) (0 ∷ 0 ∷ 0 ∷ type ∷ 0 ∷ 0 ∷ 0 ∷ 3 ∷ rest) (0 ∷ 0 ∷ 0 ∷ type ∷ 0 ∷ 0 ∷ 0 ∷ 3 ∷ rest)
unfolding lms_public known number bytes_of
key_spelled set type rest long fills value =
    let identifier : Fills (any_bytes 16) (take 16 rest) = record { size = omega (arith, length-take 16 rest, long); allowed = refl } in (
      (type, (tt, (take 16 rest, drop 16 rest))),
      (
        0 ∷ 0 ∷ 0 ∷ type ∷ [],
        0 ∷ 0 ∷ 0 ∷ 3 ∷ rest,
        refl,
        (fills, value),
        (
          0 ∷ 0 ∷ 0 ∷ 3 ∷ [],
          rest,
          refl,
          (record { size = refl; allowed = refl }, refl),
          (take 16 rest, drop 16 rest, sym (take-append-drop 16 rest), (identifier, refl), (record { size = omega (arith, length-drop 16 rest, long); allowed = refl }, refl)),
        ),
      ),
      refl,
    )

type_fills : (set : ℕ) → IsTrue ((set == 1) || (set == 2)) → Fills (number_from w32 (least_lms_type set) 6) (0 ∷ 0 ∷ 0 ∷ 6 ∷ [])
type_fills set is = ⊎_elim one two (sets set is)
  where
    one : set ≡ 1 → Fills (number_from w32 (least_lms_type set) 6) (0 ∷ 0 ∷ 0 ∷ 6 ∷ [])
    one e = subst (λ (s : ℕ). Fills (number_from w32 (least_lms_type s) 6) (0 ∷ 0 ∷ 0 ∷ 6 ∷ [])) (sym e) (record { size = refl; allowed = refl })

    two : set ≡ 2 → Fills (number_from w32 (least_lms_type set) 6) (0 ∷ 0 ∷ 0 ∷ 6 ∷ [])
    two e = subst (λ (s : ℕ). Fills (number_from w32 (least_lms_type s) 6) (0 ∷ 0 ∷ 0 ∷ 6 ∷ [])) (sym e) (record { size = refl; allowed = refl })

types : (set type : ℕ) → IsTrue ((type == 6) || ((set == 2) && (type == 5))) → (type ≡ 6) ⊎ ((set ≡ 2) × (type ≡ 5))
types set type is = grind (arith, nat_tests)

lms_spelled : (value : Card) → HasSpelling value → length value.lms_public ≡ 56 → layouts.Spells (lms_public value.set) value.lms_public value.lms_public
lms_spelled value has long = ⊎_elim ten five (types value.set (lms_type value) has.lms_type)
  where
    ten : lms_type value ≡ 6 → layouts.Spells (lms_public value.set) value.lms_public value.lms_public
    ten at =
        let key = is_key value.lms_public 6 long (omega arith) at has.one_time_type in
        subst (λ (k : List ℕ). layouts.Spells (lms_public value.set) k k) (sym key.is)
        (key_spelled value.set 6 key.rest key.size (type_fills value.set has.set) refl)

    five : (value.set ≡ 2) × (lms_type value ≡ 5) → layouts.Spells (lms_public value.set) value.lms_public value.lms_public
    five at =
        let key = is_key value.lms_public 5 long (omega arith) at.1 has.one_time_type in
        let at_two : layouts.Spells (lms_public 2) (0 ∷ 0 ∷ 0 ∷ 5 ∷ 0 ∷ 0 ∷ 0 ∷ 3 ∷ key.rest) (0 ∷ 0 ∷ 0 ∷ 5 ∷ 0 ∷ 0 ∷ 0 ∷ 3 ∷ key.rest) =
        key_spelled 2 5 key.rest key.size (record { size = refl; allowed = refl }) refl in
        subst (λ (k : List ℕ). layouts.Spells (lms_public value.set) k k) (sym key.is)
        (subst (λ (s : ℕ). layouts.Spells (lms_public s) (0 ∷ 0 ∷ 0 ∷ 5 ∷ 0 ∷ 0 ∷ 0 ∷ 3 ∷ key.rest) (0 ∷ 0 ∷ 0 ∷ 5 ∷ 0 ∷ 0 ∷ 0 ∷ 3 ∷ key.rest)) (sym at.0) at_two)

-- ---- a card that bytes spell

between_sets : (set : ℕ) → is_between 1 2 set ≡ true → IsTrue ((set == 1) || (set == 2))
between_sets set is =
    let both = and_parts (nat_le 1 set) (nat_le set 2) is in
    let above = leb-true 1 set both.0 in
    let below = leb-true set 2 both.1 in
    grind (arith, nat_tests)

between_types : (set type : ℕ) → IsTrue ((set == 1) || (set == 2)) → is_between (least_lms_type set) 6 type ≡ true
    → IsTrue ((type == 6) || ((set == 2) && (type == 5)))
between_types set type of is = ⊎_elim one two (sets set of)
  where
    one : set ≡ 1 → IsTrue ((type == 6) || ((set == 2) && (type == 5)))
    one e =
        let both = and_parts (nat_le 6 type) (nat_le type 6) (ap (λ (s : ℕ). is_between (least_lms_type s) 6 type) (sym e) ∙ is) in
        let above = leb-true 6 type both.0 in
        let below = leb-true type 6 both.1 in
        grind (arith, nat_tests)

    two : set ≡ 2 → IsTrue ((type == 6) || ((set == 2) && (type == 5)))
    two e =
        let both = and_parts (nat_le 5 type) (nat_le type 6) (ap (λ (s : ℕ). is_between (least_lms_type s) 6 type) (sym e) ∙ is) in
        let above = leb-true 5 type both.0 in
        let below = leb-true type 6 both.1 in
        grind (arith, nat_tests)

-- it is one that has a spelling
pub spelled_has : (value : Card) (bytes : List ℕ) → Spells value bytes → HasSpelling value
unfolding card_of_sets lms_public known number bytes_of digest
spelled_has value bytes (
  (tag, (version, (set, (key, (inviter, kem))))),
  (
    f1,
    b1,
    e1,
    is_tag,
    (
      f2,
      b2,
      e2,
      is_version,
      (
        f3,
        b3,
        e3,
        (set_fills, set_is),
        (
          f4,
          b4,
          e4,
          (types, (k1, r1, e5, (type_fills, type_is), (k2, r2, e6, (one_fills, one_is), others)), key_is),
          (f5, b5, e7, is_inviter, (kem_fills, kem_is)),
        ),
      ),
    ),
  ),
  fits,
  renamed,
) =
    let in_sets : is_between 1 2 set ≡ true = ap (is_between 1 2) set_is
    ∙ (and_parts (is_between 1 2 (from_be_bytes w8 f3)) (bytes_eq (to_be_bytes w8 (from_be_bytes w8 f3)) f3) set_fills.allowed).0 in
    let of_set : IsTrue ((set == 1) || (set == 2)) = between_sets set in_sets in
    let in_types : is_between (least_lms_type set) 6 (from_be_bytes w32 k1) ≡ true =
    (and_parts (is_between (least_lms_type set) 6 (from_be_bytes w32 k1)) (bytes_eq (to_be_bytes w32 (from_be_bytes w32 k1)) k1)
    type_fills.allowed).0 in
    let front : take 4 key ≡ k1 = ap (take 4) (key_is ∙ e5) ∙ take_at k1 r1 4 type_fills.size in
    let behind : take 4 (drop 4 key) ≡ 0 ∷ 0 ∷ 0 ∷ 3 ∷ [] = ap (λ (l : List ℕ). take 4 (drop 4 l)) (key_is ∙ e5)
    ∙ ap (take 4) (drop_at k1 r1 4 type_fills.size ∙ e6) ∙ take_at k2 r2 4 one_fills.size
    ∙ same_bytes k2 (0 ∷ 0 ∷ 0 ∷ 3 ∷ []) one_fills.allowed in
    subst HasSpelling (sym renamed) (record {
      set = of_set;
      lms_type = between_types set (from_be_bytes w32 (take 4 key)) of_set
          (ap (λ (l : List ℕ). is_between (least_lms_type set) 6 (from_be_bytes w32 l)) front ∙ in_types);
      one_time_type = ap (from_be_bytes w32) behind;
      kem_public = ap length kem_is ∙ kem_fills.size;
    })

-- a card of some sets is a card
pub of_some_sets : (from to : ℕ) (bytes : List ℕ) (value : Card) → 1 ≤ from → to ≤ 2 → layouts.Spells (card_of_sets from to) bytes value
    → Spells value bytes
unfolding card_of_sets number
of_some_sets from to bytes value low high (fields, (f1, b1, e1, tag, (f2, b2, e2, version, (f3, b3, e3, (fills, is), rest))), fits, renamed) =
    let both = and_parts (is_between from to (from_be_bytes w8 f3)) (bytes_eq (to_be_bytes w8 (from_be_bytes w8 f3)) f3) fills.allowed in
    let wider = and_from (is_between 1 2 (from_be_bytes w8 f3)) (bytes_eq (to_be_bytes w8 (from_be_bytes w8 f3)) f3)
    (within from to (from_be_bytes w8 f3) low high both.0) both.1 in
    (fields, (f1, b1, e1, tag, (f2, b2, e2, version, (f3, b3, e3, (record { size = fills.size; allowed = wider }, is), rest))), fits, renamed)
  where
    within : (from to n : ℕ) → 1 ≤ from → to ≤ 2 → is_between from to n ≡ true → is_between 1 2 n ≡ true
    within from to n low high is =
        let both = and_parts (nat_le from n) (nat_le n to) is in
        let above = leb-true from n both.0 in
        let below = leb-true n to both.1 in
        and_from (nat_le 1 n) (nat_le n 2) (le-leb 1 n (omega arith)) (le-leb n 2 (omega arith))

-- no part of a card encloses another, so at each place there is one fault at most
pub card_plain : IsPlain card
unfolding card_of_sets lms_public known number bytes_of digest
card_plain =
    (tt, λ tag. (tt, λ version. (tt, λ set. ((tt, λ lms_type. (tt, λ one_time_type. (tt, λ identifier. tt))), λ key. (tt, λ inviter. tt)))))

-- a card that has a spelling, field behind field
pub fields_appended : (value : Card) (start with_tag with_version with_set with_key with_inviter whole : List ℕ) → HasSpelling value
    → length value.lms_public ≡ 56 → Appends (known (0x43 ∷ [])) tt start with_tag → Appends (known (1 ∷ [])) tt with_tag with_version
    → ((least greatest : ℕ) → is_between least greatest value.set ≡ true → Appends (number w8 least greatest) value.set with_version with_set)
    → with_key ≡ with_set ++ value.lms_public → Appends digest value.inviter.0 with_key with_inviter
    → Appends (bytes_of (length value.kem_public)) value.kem_public with_inviter whole → Appends card value start whole
unfolding card_of_sets
fields_appended value start with_tag with_version with_set with_key with_inviter whole has long tag version set key inviter kem =
    let lms : Appends (lms_public value.set) value.lms_public with_set with_key =
    record { back = value.lms_public; whole = key; spelled = lms_spelled value has long } in
    let kem_sized : Appends (bytes_of (key_size value.set)) value.kem_public with_inviter whole =
    subst (λ (n : ℕ). Appends (bytes_of n) value.kem_public with_inviter whole) has.kem_public kem in
    shaped_appended _ _ (tt, (tt, (value.set, (value.lms_public, (value.inviter.0, value.kem_public))))) start whole
    (behind_appended _ _ tt _ start with_tag whole tag
    (behind_appended _ _ tt _ with_tag with_version whole version
    (behind_appended _ _ value.set _ with_version with_set whole (set 1 2 (set_between value.set has.set))
    (behind_appended _ _ value.lms_public _ with_set with_key whole lms
    (behind_appended _ _ value.inviter.0 value.kem_public with_key with_inviter whole inviter kem_sized)))))
    refl

-- what was appended to nothing is spelled
pub spelled : (value : Card) (bytes : List ℕ) → Appends card value [] bytes → Spells value bytes
spelled value bytes one = subst (Spells value) (sym one.whole) one.spelled
