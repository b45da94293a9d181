-- What a writer may say of a layout from what it appended.
use Rattle.std.proofs.Common.{◌≡◌, ℕ, suc, ◌-◌, ◌<◌, ◌^◌, Bool, true, nat_le, if◌then◌else◌, List, [], ◌∷◌, ◌++◌, length, get_or, take, drop, refl, ap, sym, subst, ◌∙◌, arith, append_assoc, bytes_eq}
use Rattle.std.specs.Prelude.{Result, Ok, Err, OnOk, OnErr, is_ok, Option, Some, None}
use Rattle.std.specs.Int.{Width, w8, w16, w32, byte_len, from_be_bytes, to_be_bytes}
use Rattle.std.proofs.lemmas.Bool.{and_from, and_parts, eq-eqb, le-leb}
use Rattle.std.proofs.lemmas.List.{append-nil, take_all, take_at}
use Rattle.std.proofs.lemmas.Result.{on_ok_weaker}
use Rattle.std.proofs.lemmas.Nat.{from_be_bytes-to_be_bytes_2, from_be_bytes-to_be_bytes_4}
use Rattle.std.proofs.lemmas.Slice.Eq.{bytes_eq-Decides}
use Rattle.group_fields.specs.Fields.{bytes_with, is_above, is_between, numbered}
use Rattle.group_fields.specs.LayoutWrites.{Appends, ascends}
use Rattle.group_fields.specs.Layouts.{Layout, Shape, Spells, behind, field, shaped, bytes_of, counted, counted_ids, digest, first_and_others, ids_above, implied, known, next_id, number, enclosed, sized, written}
use Rattle.group_fields.specs.declared.ids.Digest.{Digest}
use Rattle.group_fields.proofs.LayoutLaws.{written_is}

-- ---- what was appended, if it was

pub appended : {A E : Type 0} (part : Layout A) (value : A) (old new back : List ℕ) (result : Result (Unit {0}) E)
    → new ≡ (if is_ok result then old ++ back else old) → Spells part back value → OnOk result (Appends part value old new)
appended part value old new back (Ok done) is spelled = record { back = back; whole = is; spelled = spelled }
appended part value old new back (Err e) is spelled = tt

-- ---- leaves

pub bytes_spelled : (bytes : List ℕ) → Spells (bytes_of (length bytes)) bytes bytes
unfolding bytes_of
bytes_spelled bytes = (record { size = refl; allowed = refl }, refl)

same_test : (a b : List ℕ) → a ≡ b → bytes_eq a b ≡ true
same_test a b e = (bytes_eq-Decides a b).1 e

pub known_spelled : (bytes : List ℕ) → Spells (known bytes) bytes tt
unfolding known
known_spelled bytes = (record { size = refl; allowed = same_test bytes bytes refl }, refl)

pub digest_spelled : (id : Digest) → length id.0 ≡ 32 → Spells digest id.0 id
unfolding digest
digest_spelled id long = (record { size = long; allowed = refl }, refl)

pub next_id_spelled : (last : Option Digest) (id : Digest) → length id.0 ≡ 32 → is_above last id.0 ≡ true → Spells (next_id last) id.0 id
unfolding next_id
next_id_spelled last id long above = (record { size = long; allowed = above }, refl)

number_spelled : (width : Width) (least greatest n : ℕ) → length (to_be_bytes width n) ≡ byte_len width
    → from_be_bytes width (to_be_bytes width n) ≡ n → is_between least greatest n ≡ true
    → Spells (number width least greatest) (to_be_bytes width n) n
unfolding number
number_spelled width least greatest n long back between = (
  record {
    size = long;
    allowed = and_from (is_between least greatest (from_be_bytes width (to_be_bytes width n)))
        (bytes_eq (to_be_bytes width (from_be_bytes width (to_be_bytes width n))) (to_be_bytes width n))
        (ap (is_between least greatest) back ∙ between)
        (same_test (to_be_bytes width (from_be_bytes width (to_be_bytes width n))) (to_be_bytes width n) (ap (to_be_bytes width) back));
  },
  sym back,
)

pub u8_spelled : (least greatest n : ℕ) → n < 2 ^ 8 → is_between least greatest n ≡ true
    → Spells (number w8 least greatest) (to_be_bytes w8 n) n
u8_spelled least greatest n small between = number_spelled w8 least greatest n refl (omega arith) between

pub u16_spelled : (least greatest n : ℕ) → n < 2 ^ 16 → is_between least greatest n ≡ true
    → Spells (number w16 least greatest) (to_be_bytes w16 n) n
u16_spelled least greatest n small between = number_spelled w16 least greatest n refl (from_be_bytes-to_be_bytes_2 n small) between

pub u32_spelled : (least greatest n : ℕ) → n < 2 ^ 32 → is_between least greatest n ≡ true
    → Spells (number w32 least greatest) (to_be_bytes w32 n) n
u32_spelled least greatest n small between = number_spelled w32 least greatest n refl (from_be_bytes-to_be_bytes_4 n small) between

-- ---- part behind part

pub behind_appended : {A B : Type 0} (part : Layout A) (next : A → Layout B) (a : A) (b : B) (old mid new : List ℕ)
    → Appends part a old mid → Appends (next a) b mid new → Appends (behind part next) (a, b) old new
behind_appended part next a b old mid new one two =
    record {
      back = one.back ++ two.back;
      whole = two.whole ∙ ap (λ (bytes : List ℕ). bytes ++ two.back) one.whole ∙ append_assoc old one.back two.back;
      spelled = (one.back, two.back, refl, one.spelled, two.spelled);
    }

pub shaped_appended : {A B : Type 0} (part : Layout A) (shape : Shape A B) (a : A) (old new : List ℕ)
    → Appends part a old new → shape.fits a ≡ true → Appends (shaped part shape) (shape.to a) old new
shaped_appended part shape a old new one fits =
    record { back = one.back; whole = one.whole; spelled = (a, one.spelled, fits, refl) }

-- ---- numbers and ids, which stand in a field for each of its bounds

pub number_appended : {E : Type 0} (width : Width) (n : ℕ) (old new part : List ℕ) (result : Result (Unit {0}) E)
    → new ≡ (if is_ok result then old ++ part else old) → part ≡ to_be_bytes width n
    → ((least greatest : ℕ) → is_between least greatest n ≡ true → Spells (number width least greatest) (to_be_bytes width n) n)
    → OnOk result ((least greatest : ℕ) → is_between least greatest n ≡ true → Appends (number width least greatest) n old new)
number_appended width n old new part (Ok done) is same spelled = λ least greatest between.
    record { back = to_be_bytes width n; whole = is ∙ ap (λ (l : List ℕ). old ++ l) same; spelled = spelled least greatest between }
number_appended width n old new part (Err e) is same spelled = tt

-- what a number stands for
pub numbered_appended : {A : Type 0} (width : Width) (least greatest : ℕ) (value : ℕ → A) (number_of : A → ℕ) (a : A) (n : ℕ) (old new : List ℕ)
    → value n ≡ a → number_of a ≡ n → Appends (number width least greatest) n old new
    → Appends (field (numbered width (is_between least greatest) value number_of)) a old new
unfolding number
numbered_appended width least greatest value number_of a n old new is back one =
    let fills = one.spelled.0 in
    let read = from_be_bytes width one.back in
    let n_is : n ≡ read = one.spelled.1 in
    let both = and_parts (is_between least greatest read) (bytes_eq (to_be_bytes width read) one.back) fills.allowed in
    let same : number_of (value read) ≡ read = ap (λ (m : ℕ). number_of (value m)) (sym n_is) ∙ ap number_of is ∙ back ∙ n_is in
    let allowed = and_from (is_between least greatest read) (bytes_eq (to_be_bytes width (number_of (value read))) one.back) both.0
    (ap (λ (m : ℕ). bytes_eq (to_be_bytes width m) one.back) same ∙ both.1) in
    record { back = one.back; whole = one.whole; spelled = (record { size = fills.size; allowed = allowed }, sym is ∙ ap value n_is) }

pub id_appended : {E : Type 0} (id : Digest) (old new : List ℕ) (result : Result (Unit {0}) E)
    → new ≡ (if is_ok result then old ++ id.0 else old) → length id.0 ≡ 32
    → OnOk result ((last : Option Digest) → is_above last id.0 ≡ true → Appends (next_id last) id old new)
id_appended id old new (Ok done) is long = λ last above.
    record { back = id.0; whole = is; spelled = next_id_spelled last id long above }
id_appended id old new (Err e) is long = tt

-- ---- ids one behind the other

pub no_ids_appended : (last : Option Digest) (bytes : List ℕ) → Appends (ids_above 0 last) [] bytes bytes
unfolding ids_above
no_ids_appended last bytes = record { back = []; whole = sym (append-nil bytes); spelled = (refl, refl) }

pub one_id_appended : (last : Option Digest) (id : Digest) (others : List Digest) (old mid new : List ℕ)
    → Appends (next_id last) id old mid → Appends (ids_above (length others) (Some id)) others mid new
    → Appends (ids_above (suc (length others)) last) (id ∷ others) old new
unfolding ids_above
one_id_appended last id others old mid new one rest =
    shaped_appended (behind (next_id last) (λ first. ids_above (length others) (Some first))) first_and_others (id, others) old new
    (behind_appended (next_id last) (λ first. ids_above (length others) (Some first)) id others old mid new one rest) refl

-- ---- a count, and so many items behind it

pub counted_appended : {A : Type 0} (count : Layout ℕ) (items : ℕ → Layout (List A)) (xs : List A) (old mid new : List ℕ)
    → Appends count (length xs) old mid → Appends (items (length xs)) xs mid new → Appends (counted count items) xs old new
unfolding counted
counted_appended count items xs old mid new one rest =
    shaped_appended (behind count items) (implied length) (length xs, xs) old new
    (behind_appended count items (length xs) xs old mid new one rest) (eq-eqb (length xs) (length xs) refl)

-- ---- what a call that may fail appends behind what was appended

-- the ids of a list but the first
rest_is : (id : Digest) (others : List Digest) → take (length (id ∷ others) - 1) others ≡ others
rest_is id others = take_all (length (id ∷ others) - 1) others (omega arith)

pub ids_appended : {E : Type 0} (last : Option Digest) (ids : List Digest) (none : Digest) (old mid new : List ℕ) (result : Result (Unit {0}) E)
    → 0 < length ids → ascends last ids ≡ true
    → ((before : Option Digest) → is_above before (get_or ids 0 none).0 ≡ true → Appends (next_id before) (get_or ids 0 none) old mid)
    → OnOk result (Appends (ids_above (length (take (length ids - 1) (drop 1 ids))) (Some (get_or ids 0 none))) (take (length ids - 1) (drop 1 ids)) mid new)
    → OnOk result (Appends (ids_above (length ids) last) ids old new)
ids_appended last [] none old mid new result some up one rest = absurd (omega arith)
ids_appended last (id ∷ others) none old mid new result some up one rest =
    let above = and_parts (is_above last id.0) (ascends (Some id) others) up in
    on_ok_weaker result
    (λ more. one_id_appended last id others old mid new (one last above.0)
    (subst (λ (part : List Digest). Appends (ids_above (length part) (Some id)) part mid new) (rest_is id others) more))
    rest

pub counted_ids_appended : {E : Type 0} (ids : List Digest) (old mid new : List ℕ) (result : Result (Unit {0}) E)
    → ((least greatest : ℕ) → is_between least greatest (length ids) ≡ true → Appends (number w8 least greatest) (length ids) old mid)
    → OnOk result (Appends (ids_above (length ids) None) ids mid new)
    → OnOk result ((least greatest : ℕ) → is_between least greatest (length ids) ≡ true → Appends (counted_ids least greatest) ids old new)
counted_ids_appended ids old mid new result one rest =
    on_ok_weaker result
    (λ more least greatest between. counted_appended (number w8 least greatest) (λ n. ids_above n None) ids old mid new (one least greatest between) more)
    rest

between_itself : (n : ℕ) → is_between n n n ≡ true
between_itself n = and_from (nat_le n n) (nat_le n n) (le-leb n n (omega arith)) (le-leb n n (omega arith))

-- where all was appended, it stands
pub all_kept : {E : Type 0} (P : List ℕ → Type 0) (new kept : List ℕ) (appended result : Result (Unit {0}) E) → result ≡ appended
    → OnOk appended (kept ≡ new) → OnOk appended (P new) → OnOk result (P kept)
all_kept P new kept appended result answer same one =
    subst (λ r. OnOk r (P kept)) (sym answer) (either appended same one)
  where
    either : {E : Type 0} (r : Result (Unit {0}) E) → OnOk r (kept ≡ new) → OnOk r (P new) → OnOk r (P kept)
    either (Ok done) same one = subst P (sym same) one
    either (Err e) same one = tt

-- where not all of what was to stand behind a number was appended, the number is taken back too
pub none_kept : {E : Type 0} (width : Width) (n : ℕ) (old mid new kept : List ℕ) (before : ℕ) (appended result : Result (Unit {0}) E)
    → ((least greatest : ℕ) → is_between least greatest n ≡ true → Appends (number width least greatest) n old mid)
    → before ≡ length old → result ≡ appended → OnErr appended (new ≡ mid) → OnErr appended (kept ≡ take before new)
    → OnErr result (kept ≡ old)
none_kept width n old mid new kept before appended result one at answer same cut =
    let number = one n n (between_itself n) in
    subst (λ r. OnErr r (kept ≡ old)) (sym answer) (either number.back number.whole appended same cut)
  where
    either : {E : Type 0} (back : List ℕ) → mid ≡ old ++ back → (r : Result (Unit {0}) E) → OnErr r (new ≡ mid) → OnErr r (kept ≡ take before new)
        → OnErr r (kept ≡ old)
    either back whole (Ok done) same cut = tt
    either back whole (Err e) same cut = cut ∙ ap (take before) (same ∙ whole) ∙ take_at old back before (sym at)

pub no_ids : (ids : List Digest) → length ids < 1 → ids ≡ []
no_ids [] none = refl
no_ids (id ∷ others) none = absurd (omega arith)

-- ---- a length, and behind it so many bytes that are laid out in turn

pub sized_appended : {A : Type 0} (size : Layout ℕ) (allows : List ℕ → Bool) (inside : Layout A) (a : A) (part old mid new : List ℕ)
    → Spells inside part a → allows part ≡ true → Appends size (length part) old mid → Appends (bytes_of (length part)) part mid new
    → Appends (sized size allows inside) a old new
unfolding sized bytes_of
sized_appended size allows inside a part old mid new spelled allowed one two =
    let same : part ≡ two.back = two.spelled.1 in
    let laid_out : Appends (enclosed (bytes_with (length part) allows) inside) a mid new =
    record { back = part; whole = two.whole ∙ ap (λ (l : List ℕ). mid ++ l) (sym same); spelled = (record { size = refl; allowed = allowed }, spelled) } in
    let long : length (written inside a) ≡ length part = ap length (sym (written_is inside part a spelled)) in
    shaped_appended (behind size (λ n. enclosed (bytes_with n allows) inside)) (implied (λ value. length (written inside value))) (length part, a) old new
    (behind_appended size (λ n. enclosed (bytes_with n allows) inside) (length part) a old mid new one laid_out)
    (eq-eqb (length (written inside a)) (length part) long)
