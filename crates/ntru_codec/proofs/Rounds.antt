-- One round of a row: its pairs and what stands at the end.
use Rattle.std.proofs.Common.{◌≡◌, ◌⊎◌, inl, inr, ℕ, zero, ◌+◌, ◌-◌, ◌*◌, ◌/◌, ◌%◌, ◌^◌, ◌<◌, ◌≤◌, ◌↔◌, List, [], ◌∷◌, ◌++◌, length, take, drop, get_or, map, refl, sym, ap, ap₂, ◌∙◌, arith, append_assoc, append-nil, subst}
use Rattle.std.specs.List.{All}
use Rattle.std.proofs.Math.Nat.{div-one, div-lt_iff_lt-mul, one-le-pow}
use Rattle.std.proofs.lemmas.Bool.{and_from, and_parts, cases_lt}
use Rattle.std.proofs.lemmas.List.{map-append, length-map, length-take-le, take_more, get_or-take, take-take, nil_from_length, get_or-set_same, get_or-set_other, length-set, length-append, take-append-drop, take_all, take_more_same, take_at, drop_at, get_or_at, same_from_push}
use Rattle.std.proofs.lemmas.List.Elements.{All-tail, All-cons, All-nil, All-take, All-more}
use Rattle.std.specs.Bool.{IsTrue}
use Rattle.std.proofs.Common.{Bool, ◌&&◌, set, ◌≢◌}
use Rattle.std.proofs.lemmas.Nat.{mul-add-lt, same_from_place, mod_below}
use Rattle.ntru_codec.specs.declared.moduli.Moduli.{Moduli}
use Rattle.ntru_codec.specs.declared.moduli.Round.{Round}
use Rattle.ntru_codec.specs.Mixed.{Digit, digit, digits, joined, given_off, left_over, round_bytes, next_round, encoding}
use Rattle.ntru_codec.proofs.Coding.{encoding-round}
use Rattle.ntru_codec.specs.Rows.{low_bytes, low_parts, high_parts, FirstsBelow, SecondsBelow, row, Shrinks, IsEnd, IsEndBelow, IsBelow}
use Rattle.ntru_codec.specs.Round.{IsRound, digits_of, left_of, AreBelow, LeftBelow}
use Rattle.ntru_codec.proofs.Bytes.{low_bytes_none, length-low_bytes, same_value}
use Rattle.ntru_codec.proofs.Lists.{same_parts, take_front_written}
use Rattle.ntru_codec.proofs.Pairs.{div-add-mod, FirstsBelow-from_all, length-high_parts, length-low_parts, same_pairs, All-from_pairs, SecondsBelow-from_all}

pub parity : (n : ℕ) → (n % 2 ≡ 0) ⊎ (n % 2 ≡ 1)
parity n = elim (cases_lt (n % 2) 1) [ inl h ↦ inl (omega arith) | inr h ↦ inr (omega arith) ]

digits-append : (m : ℕ) (xs ys : List ℕ) → digits m (xs ++ ys) ≡ digits m xs ++ digits m ys
digits-append m xs ys = map-append (λ r. digit r m) xs ys

round_bytes-append : (ds es : List Digit) → length ds % 2 ≡ 0 → round_bytes (ds ++ es) ≡ round_bytes ds ++ round_bytes es
unfolding round_bytes
round_bytes-append [] es e = refl
round_bytes-append (d ∷ []) es e = absurd (omega arith)
round_bytes-append (d ∷ d' ∷ ds) es e =
    ap (λ zs. given_off 4 16384 (joined d d') ++ zs) (round_bytes-append ds es (omega arith))
    ∙ sym (append_assoc (given_off 4 16384 (joined d d')) (round_bytes ds) (round_bytes es))

next_round-append : (ds es : List Digit) → length ds % 2 ≡ 0 → next_round (ds ++ es) ≡ next_round ds ++ next_round es
unfolding next_round
next_round-append [] es e = refl
next_round-append (d ∷ []) es e = absurd (omega arith)
next_round-append (d ∷ d' ∷ ds) es e = ap (λ zs. left_over 4 16384 (joined d d') ∷ zs) (next_round-append ds es (omega arith))

round_bytes-digits : (m k left : ℕ) → Shrinks 16384 (m * m) k left → (xs : List ℕ) → length xs % 2 ≡ 0 → round_bytes (digits m xs) ≡ low_parts m k xs
unfolding round_bytes low_parts
round_bytes-digits m k left s [] e = refl
round_bytes-digits m k left s (a ∷ []) e = absurd (omega arith)
round_bytes-digits m k left s (a ∷ b ∷ xs) e = ap₂ (λ ys zs. ys ++ zs) (s.gives_off (a + m * b)) (round_bytes-digits m k left s xs (omega arith))

next_round-digits : (m k left : ℕ) → Shrinks 16384 (m * m) k left → (xs : List ℕ) → length xs % 2 ≡ 0 → next_round (digits m xs) ≡ digits left (high_parts m k xs)
unfolding next_round high_parts
next_round-digits m k left s [] e = refl
next_round-digits m k left s (a ∷ []) e = absurd (omega arith)
next_round-digits m k left s (a ∷ b ∷ xs) e = ap₂ (λ d ds. d ∷ ds) (s.leaves (a + m * b)) (next_round-digits m k left s xs (omega arith))

-- a row whose last digit has no neighbour
alone_bytes : (each last k left r : ℕ) → Shrinks 16384 (each * each) k left → (xs : List ℕ) → length xs % 2 ≡ 0 → round_bytes (digits each xs ++ digit r last ∷ []) ≡ low_parts each k xs
unfolding round_bytes
alone_bytes each last k left r s xs e =
    round_bytes-append (digits each xs) (digit r last ∷ []) (omega (arith, length-map xs (λ x. digit x each)))
    ∙ append-nil (round_bytes (digits each xs)) ∙ round_bytes-digits each k left s xs e

alone_left : (each last k left r : ℕ) → Shrinks 16384 (each * each) k left → (xs : List ℕ) → length xs % 2 ≡ 0 → next_round (digits each xs ++ digit r last ∷ []) ≡ digits left (high_parts each k xs) ++ digit r last ∷ []
unfolding next_round
alone_left each last k left r s xs e =
    next_round-append (digits each xs) (digit r last ∷ []) (omega (arith, length-map xs (λ x. digit x each)))
    ∙ ap (λ ds. ds ++ digit r last ∷ []) (next_round-digits each k left s xs e)

-- a row whose last digit is joined with the one before it
joined_bytes : (each last k left k' left' a b : ℕ) → Shrinks 16384 (each * each) k left → Shrinks 16384 (each * last) k' left' → (xs : List ℕ) → length xs % 2 ≡ 0 → round_bytes (digits each xs ++ digit a each ∷ digit b last ∷ []) ≡ low_parts each k xs ++ low_bytes k' (a + each * b)
unfolding round_bytes
joined_bytes each last k left k' left' a b s t xs e =
    round_bytes-append (digits each xs) (digit a each ∷ digit b last ∷ []) (omega (arith, length-map xs (λ x. digit x each)))
    ∙ ap₂ (λ ys zs. ys ++ zs) (round_bytes-digits each k left s xs e) (append-nil (given_off 4 16384 (digit (a + each * b) (each * last))) ∙ t.gives_off (a + each * b))

joined_left : (each last k left k' left' a b : ℕ) → Shrinks 16384 (each * each) k left → Shrinks 16384 (each * last) k' left' → (xs : List ℕ) → length xs % 2 ≡ 0 → next_round (digits each xs ++ digit a each ∷ digit b last ∷ []) ≡ digits left (high_parts each k xs) ++ digit ((a + each * b) / 256 ^ k') left' ∷ []
unfolding next_round
joined_left each last k left k' left' a b s t xs e =
    next_round-append (digits each xs) (digit a each ∷ digit b last ∷ []) (omega (arith, length-map xs (λ x. digit x each)))
    ∙ ap₂ (λ ys d. ys ++ d ∷ []) (next_round-digits each k left s xs e) (t.leaves (a + each * b))

-- the round of a row, at whose end v stands
pub record RoundIs (m : Moduli) (r : Round) (rs : List ℕ) (v : ℕ) : Type 0 where
  pub bytes_are : round_bytes (digits_of m rs) ≡ low_parts m.each r.each.bytes (take (2 * r.pairs) rs) ++ low_bytes r.last.bytes v
  pub left_are : next_round (digits_of m rs) ≡ digits r.each.modulus (high_parts m.each r.each.bytes (take (2 * r.pairs) rs)) ++ digit (v / 256 ^ r.last.bytes) r.last.modulus ∷ []

round_alone : (m : Moduli) (r : Round) (rs : List ℕ) (v : ℕ) → IsRound m r → m.front < length rs → IsEnd m.front m.each rs v → m.front % 2 ≡ 0 → RoundIs m r rs v
round_alone m r rs v s long end even =
    let pairs : m.front ≡ 2 * r.pairs = omega (arith, s.pairs) in
    let fronts : take m.front rs ≡ take (2 * r.pairs) rs = ap (λ n. take n rs) pairs in
    let evens : length (take (2 * r.pairs) rs) % 2 ≡ 0 = omega (arith, length-take-le (2 * r.pairs) rs (omega arith)) in
    let stays = s.alone even in
    let none : low_bytes r.last.bytes v ≡ [] = ap (λ n. low_bytes n v) stays.0 ∙ low_bytes_none v in
    let value : get_or rs m.front 0 ≡ v / 256 ^ r.last.bytes = sym (end.alone even) ∙ sym (ap (λ n. v / 256 ^ n) stays.0 ∙ div-one v) in
    record {
      bytes_are = ap (λ xs. round_bytes (digits m.each xs ++ digit (get_or rs m.front 0) m.last ∷ [])) fronts
          ∙ alone_bytes m.each m.last r.each.bytes r.each.modulus (get_or rs m.front 0) s.each (take (2 * r.pairs) rs) evens
          ∙ sym (append-nil (low_parts m.each r.each.bytes (take (2 * r.pairs) rs)))
          ∙ ap (λ ys. low_parts m.each r.each.bytes (take (2 * r.pairs) rs) ++ ys) (sym none);
      left_are = ap (λ xs. next_round (digits m.each xs ++ digit (get_or rs m.front 0) m.last ∷ [])) fronts
          ∙ alone_left m.each m.last r.each.bytes r.each.modulus (get_or rs m.front 0) s.each (take (2 * r.pairs) rs) evens
          ∙ ap₂ (λ w n. digits r.each.modulus (high_parts m.each r.each.bytes (take (2 * r.pairs) rs)) ++ digit w n ∷ []) value (sym stays.1);
    }

round_joined : (m : Moduli) (r : Round) (rs : List ℕ) (v : ℕ) → IsRound m r → m.front < length rs → IsEnd m.front m.each rs v → m.front % 2 ≡ 1 → RoundIs m r rs v
round_joined m r rs v s long end odd =
    let pairs : m.front ≡ 2 * r.pairs + 1 = omega (arith, s.pairs) in
    let before : m.front - 1 ≡ 2 * r.pairs = omega arith in
    let a = get_or rs (2 * r.pairs) 0 in
    let b = get_or rs m.front 0 in
    let fronts : take m.front rs ≡ take (2 * r.pairs) rs ++ a ∷ [] = ap (λ n. take n rs) pairs ∙ take_more rs (2 * r.pairs) 0 (omega arith) in
    let parts : digits_of m rs ≡ digits m.each (take (2 * r.pairs) rs) ++ digit a m.each ∷ digit b m.last ∷ [] =
    ap (λ xs. digits m.each xs ++ digit b m.last ∷ []) fronts
    ∙ ap (λ ds. ds ++ digit b m.last ∷ []) (digits-append m.each (take (2 * r.pairs) rs) (a ∷ []))
    ∙ append_assoc (digits m.each (take (2 * r.pairs) rs)) (digit a m.each ∷ []) (digit b m.last ∷ []) in
    let evens : length (take (2 * r.pairs) rs) % 2 ≡ 0 = omega (arith, length-take-le (2 * r.pairs) rs (omega arith)) in
    let t = s.joined odd in
    let value : a + m.each * b ≡ v = ap (λ n. get_or rs n 0 + m.each * b) (sym before) ∙ sym (end.joined odd) in
    record {
      bytes_are = ap round_bytes parts
          ∙ joined_bytes m.each m.last r.each.bytes r.each.modulus r.last.bytes r.last.modulus a b s.each t (take (2 * r.pairs) rs) evens
          ∙ ap (λ w. low_parts m.each r.each.bytes (take (2 * r.pairs) rs) ++ low_bytes r.last.bytes w) value;
      left_are = ap next_round parts
          ∙ joined_left m.each m.last r.each.bytes r.each.modulus r.last.bytes r.last.modulus a b s.each t (take (2 * r.pairs) rs) evens
          ∙ ap (λ w. digits r.each.modulus (high_parts m.each r.each.bytes (take (2 * r.pairs) rs)) ++ digit (w / 256 ^ r.last.bytes) r.last.modulus ∷ []) value;
    }

pub round_is : (m : Moduli) (r : Round) (rs : List ℕ) (v : ℕ) → IsRound m r → m.front < length rs → IsEnd m.front m.each rs v → RoundIs m r rs v
round_is m r rs v s long end =
    elim (parity m.front) [ inl even ↦ round_alone m r rs v s long end even | inr odd ↦ round_joined m r rs v s long end odd ]

pub end_exists : (front each : ℕ) (rs : List ℕ) → (v : ℕ) × IsEnd front each rs v
end_exists front each rs =
    elim (parity front) [
      | inl even ↦ (get_or rs front 0, record { alone = λ _. refl; joined = λ odd. absurd (omega arith) })
      | inr odd ↦ (get_or rs (front - 1) 0 + each * get_or rs front 0, record { alone = λ even. absurd (omega arith); joined = λ _. refl })
    ]

-- what stays is below its modulus
pub pair_below : (m n a b : ℕ) → a < m → b < n → a + m * b < m * n
pair_below m n a b f g = omega (arith, mul-add-lt b m a n g f)

pub left_below : (limit m k left v : ℕ) → Shrinks limit m k left → v < m → v / 256 ^ k < left
left_below limit m k left v s h =
    let above : zero < 256 ^ k = one-le-pow k 256 (omega arith) in
    (div-lt_iff_lt-mul above).1 (omega (arith, s.covers))

pub high_parts_below : (limit m k left : ℕ) → Shrinks limit (m * m) k left → (xs : List ℕ) → All (λ r. r < m) xs → All (λ r. r < left) (high_parts m k xs)
unfolding high_parts
high_parts_below limit m k left s [] h = All-nil (λ r. r < left)
high_parts_below limit m k left s (a ∷ []) h = All-nil (λ r. r < left)
high_parts_below limit m k left s (a ∷ b ∷ xs) h =
    All-cons (λ r. r < left) ((a + m * b) / 256 ^ k) (high_parts m k xs) (left_below limit (m * m) k left (a + m * b) s (pair_below m m a b (h 0 0 (omega arith)) (h 1 0 (omega arith))))
    (high_parts_below limit m k left s xs (All-tail (λ r. r < m) b xs (All-tail (λ r. r < m) a (b ∷ xs) h)))

-- the digit before the last, and the pairs
before_below : (front each : ℕ) (rs : List ℕ) → 0 < front → front < length rs → All (λ r. r < each) (take front rs) → get_or rs (front - 1) 0 < each
before_below front each rs some long h =
    let one = h (front - 1) 0 (omega (arith, length-take-le front rs (omega arith))) in
    omega (arith, one, get_or-take front rs (front - 1) 0 (omega arith))

pub pairs_below : (front each n : ℕ) (rs : List ℕ) → n ≤ front → All (λ r. r < each) (take front rs) → All (λ r. r < each) (take n rs)
pairs_below front each n rs less h =
    subst (λ xs. All (λ r. r < each) xs) (take-take n front rs less) (All-take (λ r. r < each) n (take front rs) h)

pub end_left_below : (m : Moduli) (r : Round) (rs : List ℕ) (v : ℕ) → IsRound m r → m.front < length rs → IsBelow m.front m.each m.last rs → IsEnd m.front m.each rs v → v / 256 ^ r.last.bytes < r.last.modulus
end_left_below m r rs v s long below end =
    elim (parity m.front) [
      | inl even ↦
          let stays = s.alone even in
          let value : v / 256 ^ r.last.bytes ≡ v = ap (λ n. v / 256 ^ n) stays.0 ∙ div-one v in
          omega (arith, below.last_below, end.alone even, stays.1, value)
      | inr odd ↦
          let before : get_or rs (m.front - 1) 0 < m.each = before_below m.front m.each rs (omega arith) long below.front_below in
          left_below 16384 (m.each * m.last) r.last.bytes r.last.modulus v (s.joined odd) (omega (arith, pair_below m.each m.last (get_or rs (m.front - 1) 0) (get_or rs m.front 0) before below.last_below, end.joined odd))
    ]

-- what is taken apart at the end of a row
pub alone_end : (m : Moduli) (r : Round) (ds bytes : List ℕ) (left v : ℕ) → IsRound m r → m.front % 2 ≡ 0 → m.front < length ds → length bytes ≡ r.last.bytes → IsEnd m.front m.each (set ds m.front left) v → (low_bytes r.last.bytes v ≡ bytes) × (v / 256 ^ r.last.bytes ≡ left)
alone_end m r ds bytes left v s even long size end =
    let stays = s.alone even in
    let none : bytes ≡ [] = nil_from_length bytes (size ∙ stays.0) in (
      ap (λ n. low_bytes n v) stays.0 ∙ low_bytes_none v ∙ sym none,
      ap (λ n. v / 256 ^ n) stays.0 ∙ div-one v ∙ end.alone even ∙ get_or-set_same ds m.front left 0 long,
    )

joined_parts : (m k value v a b : ℕ) → low_bytes k v ≡ low_bytes k value → v / 256 ^ k ≡ value / 256 ^ k → v ≡ a + m * b → a < m → (a ≡ value % m) × (b ≡ value / m)
joined_parts m k value v a b low high is below =
    let same = same_value k v value low high in
    let whole : value % m + m * (value / m) ≡ value = div-add-mod value m in
    let turned : b * m + a ≡ value / m * m + value % m = omega (arith, same, is, whole) in
    let places = same_from_place b a (value / m) (value % m) m below (mod_below value m (omega arith)) turned in
    (places.1, places.0)

pub joined_unique : (m : Moduli) (k value v : ℕ) (bytes ds rs : List ℕ) (left : ℕ) → m.front % 2 ≡ 1 → m.front < length ds → low_bytes k value ≡ bytes → value / 256 ^ k ≡ left → IsEnd m.front m.each rs v → IsEndBelow m.front m.each m.last rs → low_bytes k v ≡ bytes → v / 256 ^ k ≡ left → (get_or rs (m.front - 1) 0 ≡ get_or (set (set ds (m.front - 1) (value % m.each)) m.front (value / m.each)) (m.front - 1) 0) × (get_or rs m.front 0 ≡ get_or (set (set ds (m.front - 1) (value % m.each)) m.front (value / m.each)) m.front 0)
joined_unique m k value v bytes ds rs left odd long low high end below low-v high-v =
    let parts = joined_parts m.each k value v (get_or rs (m.front - 1) 0) (get_or rs m.front 0) (low-v ∙ sym low) (high-v ∙ sym high) (end.joined odd) (below.before odd) in
    let other : m.front - 1 ≢ m.front = omega arith in
    let first : get_or (set (set ds (m.front - 1) (value % m.each)) m.front (value / m.each)) (m.front - 1) 0 ≡ value % m.each =
    get_or-set_other (set ds (m.front - 1) (value % m.each)) m.front (m.front - 1) (value / m.each) 0 other
    ∙ get_or-set_same ds (m.front - 1) (value % m.each) 0 (omega arith) in
    let second : get_or (set (set ds (m.front - 1) (value % m.each)) m.front (value / m.each)) m.front 0 ≡ value / m.each =
    get_or-set_same (set ds (m.front - 1) (value % m.each)) m.front (value / m.each) 0 (omega (arith, length-set ds (m.front - 1) (value % m.each))) in
    (parts.0 ∙ sym first, parts.1 ∙ sym second)

-- all digits of a row below their moduli: those of the pairs, and those at the end
pub end_below : (m : Moduli) (rs : List ℕ) → m.front < length rs → IsBelow m.front m.each m.last rs → IsEndBelow m.front m.each m.last rs
end_below m rs long below = record {
  before = λ odd. before_below m.front m.each rs (omega arith) long below.front_below;
  at_end = below.last_below;
}

pub below_from_parts : (m : Moduli) (r : Round) (rs : List ℕ) → IsRound m r → m.front < length rs → All (λ x. x < m.each) (take (2 * r.pairs) rs) → IsEndBelow m.front m.each m.last rs → IsBelow m.front m.each m.last rs
below_from_parts m r rs s long pairs end = record {
  front_below = elim (parity m.front) [
    | inl even ↦
        let n : m.front ≡ 2 * r.pairs = omega (arith, s.pairs) in
        subst (λ k. All (λ x. x < m.each) (take k rs)) (sym n) pairs
    | inr odd ↦
        let n : m.front ≡ 2 * r.pairs + 1 = omega (arith, s.pairs) in
        let before : m.front - 1 ≡ 2 * r.pairs = omega arith in
        let one : get_or rs (2 * r.pairs) 0 < m.each = subst (λ k. get_or rs k 0 < m.each) before (end.before odd) in
        subst (λ k. All (λ x. x < m.each) (take k rs)) (sym n) (All-more (λ x. x < m.each) rs (2 * r.pairs) 0 (omega arith) pairs one)
  ];
  last_below = end.at_end;
}

-- the digits of a round taken apart
pub record ComesFrom (m : Moduli) (r : Round) (bytes left rs : List ℕ) : Type 0 where
  pub low : low_parts m.each r.each.bytes (take (2 * r.pairs) rs) ≡ take (r.each.bytes * r.pairs) bytes
  pub high : high_parts m.each r.each.bytes (take (2 * r.pairs) rs) ≡ take r.pairs left
  pub firsts : FirstsBelow m.each (take (2 * r.pairs) rs)
  pub end : (v : ℕ) → IsEnd m.front m.each rs v → (low_bytes r.last.bytes v ≡ drop (r.each.bytes * r.pairs) bytes) × (v / 256 ^ r.last.bytes ≡ get_or left r.pairs 0)
  pub unique : (ds : List ℕ) (v : ℕ) → IsEnd m.front m.each ds v → IsEndBelow m.front m.each m.last ds → low_bytes r.last.bytes v ≡ drop (r.each.bytes * r.pairs) bytes → v / 256 ^ r.last.bytes ≡ get_or left r.pairs 0 → (m.front % 2 ≡ 1 → get_or ds (m.front - 1) 0 ≡ get_or rs (m.front - 1) 0) × (get_or ds m.front 0 ≡ get_or rs m.front 0)

pub round_back_bytes : (m : Moduli) (r : Round) (bytes left rs : List ℕ) → IsRound m r → m.front < length rs → ComesFrom m r bytes left rs → round_bytes (digits_of m rs) ≡ bytes
round_back_bytes m r bytes left rs s long f =
    let some = end_exists m.front m.each rs in
    let is = round_is m r rs some.0 s long some.1 in
    is.bytes_are ∙ ap₂ (λ xs ys. xs ++ ys) f.low (f.end some.0 some.1).0 ∙ take-append-drop (r.each.bytes * r.pairs) bytes

pub round_back_left : (m : Moduli) (r : Round) (bytes left rs : List ℕ) → IsRound m r → m.front < length rs → ComesFrom m r bytes left rs → next_round (digits_of m rs) ≡ left_of r left
round_back_left m r bytes left rs s long f =
    let some = end_exists m.front m.each rs in
    let is = round_is m r rs some.0 s long some.1 in
    is.left_are ∙ ap₂ (λ xs w. digits r.each.modulus xs ++ digit w r.last.modulus ∷ []) f.high (f.end some.0 some.1).1

values-digits : (m : ℕ) (xs : List ℕ) → map (λ d. d.value) (digits m xs) ≡ xs
values-digits m [] = refl
values-digits m (x ∷ xs) = ap (λ ys. x ∷ ys) (values-digits m xs)

same_digits : (m : ℕ) (xs ys : List ℕ) → digits m xs ≡ digits m ys → xs ≡ ys
same_digits m xs ys e = sym (values-digits m xs) ∙ ap (λ ds. map (λ d. d.value) ds) e ∙ values-digits m ys

-- lists with the same pairs and the same end
same_row : (m : Moduli) (r : Round) (rs ds : List ℕ) → IsRound m r → length rs ≡ m.front + 1 → m.front < length ds → take (2 * r.pairs) rs ≡ take (2 * r.pairs) ds → (m.front % 2 ≡ 1 → get_or rs (m.front - 1) 0 ≡ get_or ds (m.front - 1) 0) → get_or rs m.front 0 ≡ get_or ds m.front 0 → rs ≡ take (m.front + 1) ds
same_row m r rs ds s len long pairs before last =
    let fronts : take m.front rs ≡ take m.front ds = elim (parity m.front) [
      | inl even ↦
          let n : m.front ≡ 2 * r.pairs = omega (arith, s.pairs) in
          subst (λ k. take k rs ≡ take k ds) (sym n) pairs
      | inr odd ↦
          let n : m.front ≡ 2 * r.pairs + 1 = omega (arith, s.pairs) in
          let back : m.front - 1 ≡ 2 * r.pairs = omega arith in
          let one : get_or rs (2 * r.pairs) 0 ≡ get_or ds (2 * r.pairs) 0 = subst (λ k. get_or rs k 0 ≡ get_or ds k 0) back (before odd) in
          subst (λ k. take k rs ≡ take k ds) (sym n)
          (take_more_same rs ds (2 * r.pairs) 0 (omega arith) (omega arith) pairs one)
    ] in
    sym (take_all (m.front + 1) rs (omega arith)) ∙ take_more_same rs ds m.front 0 (omega arith) long fronts last

pub round_unique : (m : Moduli) (r : Round) (bytes left ds : List ℕ) → IsRound m r → m.front < length ds → r.pairs < length left → r.each.bytes * r.pairs ≤ length bytes → ComesFrom m r bytes left ds → (rs : List ℕ) → length rs ≡ m.front + 1 → AreBelow m rs → round_bytes (digits_of m rs) ≡ bytes → next_round (digits_of m rs) ≡ left_of r left → rs ≡ take (m.front + 1) ds
round_unique m r bytes left ds s long room wide f rs len below low high =
    let k = r.each.bytes in
    let p = r.pairs in
    let some = end_exists m.front m.each rs in
    let v = some.0 in
    let is = round_is m r rs v s (omega arith) some.1 in
    let two : 2 * p ≤ m.front = omega (arith, s.pairs) in
    let len-r : length (take (2 * p) rs) ≡ 2 * p = length-take-le (2 * p) rs (omega arith) in
    let len-d : length (take (2 * p) ds) ≡ 2 * p = length-take-le (2 * p) ds (omega arith) in
    let half : length (take (2 * p) rs) / 2 ≡ p = omega arith in
    let sizes : length (low_parts m.each k (take (2 * p) rs)) ≡ length (take (k * p) bytes) =
    length-low_parts m.each k (take (2 * p) rs) ∙ ap (λ n. k * n) half ∙ sym (length-take-le (k * p) bytes wide) in
    let split = same_parts (low_parts m.each k (take (2 * p) rs)) (low_bytes r.last.bytes v) (take (k * p) bytes) (drop (k * p) bytes) sizes (sym is.bytes_are ∙ low ∙ sym (take-append-drop (k * p) bytes)) in
    let lefts = same_from_push (digits r.each.modulus (high_parts m.each k (take (2 * p) rs))) (digits r.each.modulus (take p left)) (digit (v / 256 ^ r.last.bytes) r.last.modulus) (digit (get_or left p 0) r.last.modulus) (sym is.left_are ∙ high) in
    let highs = same_digits r.each.modulus (high_parts m.each k (take (2 * p) rs)) (take p left) lefts.0 in
    let end-high : v / 256 ^ r.last.bytes ≡ get_or left p 0 = ap (λ d. d.value) lefts.1 in
    let ends = f.unique rs v some.1 (end_below m rs (omega arith) below) split.1 end-high in
    let firsts = FirstsBelow-from_all m.each (take (2 * p) rs) (pairs_below m.front m.each (2 * p) rs two below.front_below) in
    let pairs = same_pairs m.each k (take (2 * p) rs) (take (2 * p) ds) (omega arith) (len-r ∙ sym len-d) firsts f.firsts (highs ∙ sym f.high) (split.0 ∙ sym f.low) in
    same_row m r rs ds s len long pairs ends.0 ends.1

-- how many bytes a round gives off
pub length-round : (m : Moduli) (r : Round) (rs : List ℕ) → IsRound m r → m.front < length rs → length (round_bytes (digits_of m rs)) ≡ r.each.bytes * r.pairs + r.last.bytes
length-round m r rs s long =
    let some = end_exists m.front m.each rs in
    let is = round_is m r rs some.0 s long some.1 in
    let len : length (take (2 * r.pairs) rs) ≡ 2 * r.pairs = length-take-le (2 * r.pairs) rs (omega (arith, s.pairs)) in
    let half : length (take (2 * r.pairs) rs) / 2 ≡ r.pairs = omega arith in
    ap length is.bytes_are ∙ length-append (low_parts m.each r.each.bytes (take (2 * r.pairs) rs)) (low_bytes r.last.bytes some.0)
    ∙ ap₂ (λ a b. a + b) (length-low_parts m.each r.each.bytes (take (2 * r.pairs) rs) ∙ ap (λ n. r.each.bytes * n) half) (length-low_bytes r.last.bytes some.0)

-- the digits that a round leaves, as a row
pub next_values : (m : Moduli) (r : Round) (rs : List ℕ) → IsRound m r → m.front < length rs → IsBelow m.front m.each m.last rs → (ns : List ℕ) × (length ns ≡ r.pairs + 1) × (next_round (digits_of m rs) ≡ left_of r ns) × LeftBelow r ns
next_values m r rs s long below =
    let some = end_exists m.front m.each rs in
    let is = round_is m r rs some.0 s long some.1 in
    let len : length (take (2 * r.pairs) rs) ≡ 2 * r.pairs = length-take-le (2 * r.pairs) rs (omega (arith, s.pairs)) in
    let high = high_parts m.each r.each.bytes (take (2 * r.pairs) rs) in
    let last = some.0 / 256 ^ r.last.bytes in
    let size : length high ≡ r.pairs = length-high_parts m.each r.each.bytes (take (2 * r.pairs) rs) ∙ omega arith in
    let front : take r.pairs (high ++ last ∷ []) ≡ high = take_at high (last ∷ []) r.pairs size in
    let end : get_or (high ++ last ∷ []) r.pairs 0 ≡ last = get_or_at high last [] 0 r.pairs size in
    let pairs = pairs_below m.front m.each (2 * r.pairs) rs (omega (arith, s.pairs)) below.front_below in (
      high ++ last ∷ [],
      length-append high (last ∷ []) ∙ ap (λ n. n + 1) size,
      is.left_are ∙ ap₂ (λ xs w. digits r.each.modulus xs ++ digit w r.last.modulus ∷ []) (sym front) (sym end),
      record {
        front_below = subst (λ xs. All (λ x. x < r.each.modulus) xs) (sym front) (high_parts_below 16384 m.each r.each.bytes r.each.modulus s.each (take (2 * r.pairs) rs) pairs);
        last_below = subst (λ w. w < r.last.modulus) (sym end) (end_left_below m r rs some.0 s long below some.1);
      },
    )

-- the same, by what is known of the parts that the code took apart
pub comes_from : (m : Moduli) (r : Round) (bytes left front back old pairs rs : List ℕ) → front ≡ take (r.each.bytes * r.pairs) bytes → back ≡ drop (r.each.bytes * r.pairs) bytes → length pairs ≡ 2 * r.pairs → low_parts m.each r.each.bytes pairs ≡ front → high_parts m.each r.each.bytes pairs ≡ take r.pairs left → FirstsBelow m.each pairs → take (2 * r.pairs) rs ≡ take (2 * r.pairs) (pairs ++ drop (2 * r.pairs) old) → ((v : ℕ) → IsEnd m.front m.each rs v → (low_bytes r.last.bytes v ≡ back) × (v / 256 ^ r.last.bytes ≡ get_or left r.pairs 0)) → ((ds : List ℕ) (v : ℕ) → IsEnd m.front m.each ds v → IsEndBelow m.front m.each m.last ds → low_bytes r.last.bytes v ≡ back → v / 256 ^ r.last.bytes ≡ get_or left r.pairs 0 → (m.front % 2 ≡ 1 → get_or ds (m.front - 1) 0 ≡ get_or rs (m.front - 1) 0) × (get_or ds m.front 0 ≡ get_or rs m.front 0)) → ComesFrom m r bytes left rs
comes_from m r bytes left front back old pairs rs is-front is-back len low high firsts kept end unique =
    let same : take (2 * r.pairs) rs ≡ pairs = kept ∙ take_front_written pairs old (2 * r.pairs) len in
    record {
      low = ap (low_parts m.each r.each.bytes) same ∙ low ∙ is-front;
      high = ap (high_parts m.each r.each.bytes) same ∙ high;
      firsts = subst (FirstsBelow m.each) (sym same) firsts;
      end = λ v h. let both = end v h in (both.0 ∙ is-back, both.1);
      unique = λ ds v h b low-v high-v. unique ds v h b (low-v ∙ sym is-back) high-v;
    }

pub single_row : (m : Moduli) (rs : List ℕ) → m.front ≡ 0 → digits_of m rs ≡ digit (get_or rs 0 0) m.last ∷ []
single_row m rs none = ap (λ n. row n m.each m.last rs) none

pub length-row : (m : Moduli) (rs : List ℕ) → m.front < length rs → 0 < m.front → 2 ≤ length (digits_of m rs)
length-row m rs long some =
    omega (arith, length-append (digits m.each (take m.front rs)) (digit (get_or rs m.front 0) m.last ∷ []), length-map (take m.front rs) (λ r. digit r m.each), length-take-le m.front rs (omega arith))

pub round_whole : (m : Moduli) (r : Round) (old pairs rs : List ℕ) (a b : Bool) → IsRound m r → m.front < length rs → length pairs ≡ 2 * r.pairs → take (2 * r.pairs) rs ≡ take (2 * r.pairs) (pairs ++ drop (2 * r.pairs) old) → FirstsBelow m.each pairs → (IsTrue a ↔ SecondsBelow m.each pairs) → (IsTrue b ↔ IsEndBelow m.front m.each m.last rs) → IsTrue (a && b) ↔ IsBelow m.front m.each m.last rs
round_whole m r old pairs rs a b s long len kept firsts seconds end =
    let same : take (2 * r.pairs) rs ≡ pairs = kept ∙ take_front_written pairs old (2 * r.pairs) len in (
      λ w. let both = and_parts a b w in
          below_from_parts m r rs s long
          (subst (λ xs. All (λ x. x < m.each) xs) (sym same) (All-from_pairs m.each pairs (omega (arith, len)) firsts (seconds.0 both.0)))
          (end.0 both.1),
      λ w. and_from a b
          (seconds.1 (SecondsBelow-from_all m.each pairs (subst (λ xs. All (λ x. x < m.each) xs) same (pairs_below m.front m.each (2 * r.pairs) rs (omega (arith, s.pairs)) w.front_below))))
          (end.1 (end_below m rs long w)),
    )

-- the moduli of the round after, and its digits
pub after_digits : (a : Moduli) (r : Round) (rs : List ℕ) → a.front ≡ r.pairs → a.each ≡ r.each.modulus → a.last ≡ r.last.modulus → digits_of a rs ≡ left_of r rs
after_digits a r rs f e l = ap₂ (λ n m. row n m a.last rs) f e ∙ ap (λ m. row r.pairs r.each.modulus m rs) l

pub after_below : (a : Moduli) (r : Round) (rs : List ℕ) → a.front ≡ r.pairs → a.each ≡ r.each.modulus → a.last ≡ r.last.modulus → LeftBelow r rs → AreBelow a rs
after_below a r rs f e l h =
    subst (λ n. IsBelow n a.each a.last rs) (sym f) (subst (λ m. IsBelow r.pairs m a.last rs) (sym e) (subst (λ m. IsBelow r.pairs r.each.modulus m rs) (sym l) h))

pub below_after : (a : Moduli) (r : Round) (rs : List ℕ) → a.front ≡ r.pairs → a.each ≡ r.each.modulus → a.last ≡ r.last.modulus → AreBelow a rs → LeftBelow r rs
below_after a r rs f e l h =
    subst (λ m. IsBelow r.pairs r.each.modulus m rs) l (subst (λ m. IsBelow r.pairs m a.last rs) e (subst (λ n. IsBelow n a.each a.last rs) f h))

-- a row is its first digits
pub row_front : (f e l : ℕ) (rs : List ℕ) → row f e l (take (f + 1) rs) ≡ row f e l rs
row_front f e l rs =
    ap₂ (λ xs x. digits e xs ++ digit x l ∷ []) (take-take f (f + 1) rs (omega arith)) (get_or-take (f + 1) rs f 0 (omega arith))

pub below_front : (f e l : ℕ) (rs ds : List ℕ) → rs ≡ take (f + 1) ds → IsBelow f e l rs → IsBelow f e l ds
below_front f e l rs ds same h =
    let front : take f rs ≡ take f ds = ap (take f) same ∙ take-take f (f + 1) ds (omega arith) in
    let last : get_or rs f 0 ≡ get_or ds f 0 = ap (λ xs. get_or xs f 0) same ∙ get_or-take (f + 1) ds f 0 (omega arith) in
    record {
      front_below = subst (λ xs. All (λ r. r < e) xs) front h.front_below;
      last_below = subst (λ x. x < l) last h.last_below;
    }

-- a row of one digit
pub single_below : (m : Moduli) (rs : List ℕ) → m.front ≡ 0 → get_or rs 0 0 < m.last → AreBelow m rs
single_below m rs none h = record {
  front_below = subst (λ n. All (λ r. r < m.each) (take n rs)) (sym none) (All-nil (λ r. r < m.each));
  last_below = subst (λ n. get_or rs n 0 < m.last) (sym none) h;
}

pub single_last : (m : Moduli) (rs : List ℕ) → m.front ≡ 0 → AreBelow m rs → get_or rs 0 0 < m.last
single_last m rs none h = subst (λ n. get_or rs n 0 < m.last) none h.last_below

pub single_same : (m : Moduli) (rs ds : List ℕ) → m.front ≡ 0 → length rs ≡ m.front + 1 → m.front < length ds → get_or rs 0 0 ≡ get_or ds 0 0 → rs ≡ take (m.front + 1) ds
single_same m rs ds none len long h =
    let fronts : take m.front rs ≡ take m.front ds = subst (λ n. take n rs ≡ take n ds) (sym none) refl in
    sym (take_all (m.front + 1) rs (omega arith)) ∙ take_more_same rs ds m.front 0 (omega arith) long fronts (subst (λ n. get_or rs n 0 ≡ get_or ds n 0) (sym none) h)

-- what the row after spells, where the row spells these bytes
pub rest_spelled : (m : Moduli) (r : Round) (rs bytes : List ℕ) → IsRound m r → m.front < length rs → 0 < m.front → encoding (digits_of m rs) ≡ bytes → (round_bytes (digits_of m rs) ≡ take (r.each.bytes * r.pairs + r.last.bytes) bytes) × (encoding (next_round (digits_of m rs)) ≡ drop (r.each.bytes * r.pairs + r.last.bytes) bytes)
rest_spelled m r rs bytes s long some is =
    let whole = encoding-round (digits_of m rs) (length-row m rs long some) in
    let len = length-round m r rs s long in
    let now = round_bytes (digits_of m rs) in
    let rest = encoding (next_round (digits_of m rs)) in
    let both : now ++ rest ≡ bytes = sym whole ∙ is in
    let n = r.each.bytes * r.pairs + r.last.bytes in
    (sym (take_at now rest n len) ∙ ap (take n) both, sym (drop_at now rest n len) ∙ ap (drop n) both)

pub long_enough : (m : Moduli) (r : Round) (rs bytes : List ℕ) → IsRound m r → m.front < length rs → 0 < m.front → encoding (digits_of m rs) ≡ bytes → r.each.bytes * r.pairs + r.last.bytes ≤ length bytes
long_enough m r rs bytes s long some is =
    let whole = encoding-round (digits_of m rs) (length-row m rs long some) in
    let len = length-round m r rs s long in
    omega (arith, ap length (sym whole ∙ is), length-append (round_bytes (digits_of m rs)) (encoding (next_round (digits_of m rs))), len)

pub next_exists : (m : Moduli) (r : Round) (rs : List ℕ) → IsRound m r → m.front < length rs → (ns : List ℕ) × (length ns ≡ r.pairs + 1) × (next_round (digits_of m rs) ≡ left_of r ns)
next_exists m r rs s long =
    let some = end_exists m.front m.each rs in
    let is = round_is m r rs some.0 s long some.1 in
    let len : length (take (2 * r.pairs) rs) ≡ 2 * r.pairs = length-take-le (2 * r.pairs) rs (omega (arith, s.pairs)) in
    let high = high_parts m.each r.each.bytes (take (2 * r.pairs) rs) in
    let last = some.0 / 256 ^ r.last.bytes in
    let size : length high ≡ r.pairs = length-high_parts m.each r.each.bytes (take (2 * r.pairs) rs) ∙ omega arith in
    let front : take r.pairs (high ++ last ∷ []) ≡ high = take_at high (last ∷ []) r.pairs size in
    let end : get_or (high ++ last ∷ []) r.pairs 0 ≡ last = get_or_at high last [] 0 r.pairs size in (
      high ++ last ∷ [],
      length-append high (last ∷ []) ∙ ap (λ n. n + 1) size,
      is.left_are ∙ ap₂ (λ xs w. digits r.each.modulus xs ++ digit w r.last.modulus ∷ []) (sym front) (sym end),
    )

-- digits of one modulus as a row
pub row_equal : (m : Moduli) (n : ℕ) (rs : List ℕ) → m.front + 1 ≡ length rs → m.each ≡ n → m.last ≡ n → digits_of m rs ≡ digits n rs
row_equal m n rs len each last =
    ap₂ (λ a b. row m.front a b rs) each last
    ∙ sym (digits-append n (take m.front rs) (get_or rs m.front 0 ∷ []))
    ∙ ap (digits n) (sym (take_more rs m.front 0 (omega (arith, len))) ∙ take_all (m.front + 1) rs (omega (arith, len)))

pub equal_below : (m : Moduli) (n : ℕ) (rs : List ℕ) → m.front + 1 ≡ length rs → m.each ≡ n → m.last ≡ n → All (λ r. r < n) rs → AreBelow m rs
equal_below m n rs len each last h = record {
  front_below = All-take (λ r. r < m.each) m.front rs (subst (λ k. All (λ r. r < k) rs) (sym each) h);
  last_below = subst (λ k. get_or rs m.front 0 < k) (sym last) (h m.front 0 (omega (arith, len)));
}

pub below_equal : (m : Moduli) (n : ℕ) (rs : List ℕ) → m.front + 1 ≡ length rs → m.each ≡ n → m.last ≡ n → AreBelow m rs → All (λ r. r < n) rs
below_equal m n rs len each last h =
    let front : All (λ r. r < n) (take m.front rs) = subst (λ k. All (λ r. r < k) (take m.front rs)) each h.front_below in
    let end : get_or rs m.front 0 < n = subst (λ k. get_or rs m.front 0 < k) last h.last_below in
    subst (λ xs. All (λ r. r < n) xs) (take_all (m.front + 1) rs (omega (arith, len)))
    (All-more (λ r. r < n) rs m.front 0 (omega (arith, len)) front end)
