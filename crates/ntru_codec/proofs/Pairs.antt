-- Pairs of neighbours of a list: what they give off, and what stays of them.
use Rattle.std.proofs.Common.{◌≡◌, ℕ, suc, ◌+◌, ◌*◌, ◌/◌, ◌%◌, ◌^◌, ◌<◌, ◌≤◌, ◌↔◌, List, [], ◌∷◌, ◌++◌, length, take, get_or, set, Bool, true, refl, sym, ap, ◌∙◌, arith, append_assoc, append-nil, subst}
use Rattle.std.specs.List.{All}
use Rattle.std.specs.Bool.{IsTrue}
use Rattle.std.proofs.lemmas.Nat.{mod_below, div-add-mod'}
use Rattle.std.proofs.lemmas.List.{length-append, length-take-le, take_more, take_all}
use Rattle.std.proofs.lemmas.List.Elements.{All-tail, All-cons, All-nil}
use Rattle.std.proofs.lemmas.Nat.{same_from_place}
use Rattle.ntru_codec.specs.Rows.{low_bytes, low_parts, high_parts, FirstsBelow, SecondsBelow}
use Rattle.ntru_codec.proofs.Bytes.{length-low_bytes, same_value}
use Rattle.ntru_codec.proofs.Lists.{same_parts, take_two, take_two_set}

pub high_parts-append : (m k : ℕ) (xs ys : List ℕ) → length xs % 2 ≡ 0 → high_parts m k (xs ++ ys) ≡ high_parts m k xs ++ high_parts m k ys
unfolding high_parts
high_parts-append m k [] ys e = refl
high_parts-append m k (a ∷ []) ys e = absurd (omega arith)
high_parts-append m k (a ∷ b ∷ xs) ys e = ap (λ zs. (a + m * b) / 256 ^ k ∷ zs) (high_parts-append m k xs ys (omega arith))

pub low_parts-append : (m k : ℕ) (xs ys : List ℕ) → length xs % 2 ≡ 0 → low_parts m k (xs ++ ys) ≡ low_parts m k xs ++ low_parts m k ys
unfolding low_parts
low_parts-append m k [] ys e = refl
low_parts-append m k (a ∷ []) ys e = absurd (omega arith)
low_parts-append m k (a ∷ b ∷ xs) ys e =
    ap (λ zs. low_bytes k (a + m * b) ++ zs) (low_parts-append m k xs ys (omega arith))
    ∙ sym (append_assoc (low_bytes k (a + m * b)) (low_parts m k xs) (low_parts m k ys))

pub FirstsBelow-append : (m : ℕ) (xs ys : List ℕ) → length xs % 2 ≡ 0 → FirstsBelow m xs → FirstsBelow m ys → FirstsBelow m (xs ++ ys)
unfolding FirstsBelow
FirstsBelow-append m [] ys e f g = g
FirstsBelow-append m (a ∷ []) ys e f g = absurd (omega arith)
FirstsBelow-append m (a ∷ b ∷ xs) ys e f g = (f.0, FirstsBelow-append m xs ys (omega arith) f.1 g)

pub SecondsBelow-append : (m : ℕ) (xs ys : List ℕ) → length xs % 2 ≡ 0 → SecondsBelow m xs → SecondsBelow m ys → SecondsBelow m (xs ++ ys)
unfolding SecondsBelow
SecondsBelow-append m [] ys e f g = g
SecondsBelow-append m (a ∷ []) ys e f g = absurd (omega arith)
SecondsBelow-append m (a ∷ b ∷ xs) ys e f g = (f.0, SecondsBelow-append m xs ys (omega arith) f.1 g)

pub SecondsBelow-split : (m : ℕ) (xs ys : List ℕ) → length xs % 2 ≡ 0 → SecondsBelow m (xs ++ ys) → SecondsBelow m xs × SecondsBelow m ys
unfolding SecondsBelow
SecondsBelow-split m [] ys e f = (tt, f)
SecondsBelow-split m (a ∷ []) ys e f = absurd (omega arith)
SecondsBelow-split m (a ∷ b ∷ xs) ys e f =
    let parts = SecondsBelow-split m xs ys (omega arith) f.1 in
    ((f.0, parts.0), parts.1)

-- one pair
pub high_parts_one : (m k a b : ℕ) → high_parts m k (a ∷ b ∷ []) ≡ (a + m * b) / 256 ^ k ∷ []
unfolding high_parts
high_parts_one m k a b = refl

pub low_parts_one : (m k a b : ℕ) → low_parts m k (a ∷ b ∷ []) ≡ low_bytes k (a + m * b)
unfolding low_parts
low_parts_one m k a b = append-nil (low_bytes k (a + m * b))

pub FirstsBelow_one : (m a b : ℕ) → a < m → FirstsBelow m (a ∷ b ∷ [])
unfolding FirstsBelow
FirstsBelow_one m a b h = (h, tt)

pub SecondsBelow_one : (m a b : ℕ) → SecondsBelow m (a ∷ b ∷ []) ↔ (b < m)
unfolding SecondsBelow
SecondsBelow_one m a b = (λ h. h.0, λ h. (h, tt))

pub length-high_parts : (m k : ℕ) (xs : List ℕ) → length (high_parts m k xs) ≡ length xs / 2
unfolding high_parts
length-high_parts m k [] = refl
length-high_parts m k (a ∷ []) = refl
length-high_parts m k (a ∷ b ∷ xs) = omega (arith, length-high_parts m k xs)

pub length-low_parts : (m k : ℕ) (xs : List ℕ) → length (low_parts m k xs) ≡ k * (length xs / 2)
unfolding low_parts
length-low_parts m k [] = omega arith
length-low_parts m k (a ∷ []) = omega arith
length-low_parts m k (a ∷ b ∷ xs) =
    let one : (suc (suc (length xs))) / 2 ≡ length xs / 2 + 1 = omega arith in
    length-append (low_bytes k (a + m * b)) (low_parts m k xs) ∙ omega (arith, length-low_bytes k (a + m * b), length-low_parts m k xs, ap (λ n. k * n) one)

-- pairs are known by what they give off and what stays of them, if the first of each is below its modulus
pub same_pairs : (m k : ℕ) (xs ys : List ℕ) → length xs % 2 ≡ 0 → length xs ≡ length ys → FirstsBelow m xs → FirstsBelow m ys → high_parts m k xs ≡ high_parts m k ys → low_parts m k xs ≡ low_parts m k ys → xs ≡ ys
unfolding high_parts low_parts FirstsBelow
same_pairs m k [] [] e l f g high low = refl
same_pairs m k [] (c ∷ ys) e l f g high low = absurd (omega arith)
same_pairs m k (a ∷ []) ys e l f g high low = absurd (omega arith)
same_pairs m k (a ∷ b ∷ xs) [] e l f g high low = absurd (omega arith)
same_pairs m k (a ∷ b ∷ xs) (c ∷ []) e l f g high low = absurd (omega arith)
same_pairs m k (a ∷ b ∷ xs) (c ∷ d ∷ ys) e l f g high low =
    let left : (a + m * b) / 256 ^ k ≡ (c + m * d) / 256 ^ k = cc in
    let others : high_parts m k xs ≡ high_parts m k ys = cc in
    let parts = same_parts (low_bytes k (a + m * b)) (low_parts m k xs) (low_bytes k (c + m * d)) (low_parts m k ys) (length-low_bytes k (a + m * b) ∙ sym (length-low_bytes k (c + m * d))) low in
    let value = same_value k (a + m * b) (c + m * d) parts.0 left in
    let turned : b * m + a ≡ d * m + c = omega (arith, value) in
    let places = same_from_place b a d c m f.0 g.0 turned in
    let rest = same_pairs m k xs ys (omega arith) (omega arith) f.1 g.1 others parts.1 in
    cc

-- each digit below one modulus, pair by pair
pub FirstsBelow-from_all : (m : ℕ) (xs : List ℕ) → All (λ r. r < m) xs → FirstsBelow m xs
unfolding FirstsBelow
FirstsBelow-from_all m [] h = tt
FirstsBelow-from_all m (a ∷ []) h = tt
FirstsBelow-from_all m (a ∷ b ∷ xs) h =
    (h 0 0 (omega arith), FirstsBelow-from_all m xs (All-tail (λ r. r < m) b xs (All-tail (λ r. r < m) a (b ∷ xs) h)))

pub SecondsBelow-from_all : (m : ℕ) (xs : List ℕ) → All (λ r. r < m) xs → SecondsBelow m xs
unfolding SecondsBelow
SecondsBelow-from_all m [] h = tt
SecondsBelow-from_all m (a ∷ []) h = tt
SecondsBelow-from_all m (a ∷ b ∷ xs) h =
    (h 1 0 (omega arith), SecondsBelow-from_all m xs (All-tail (λ r. r < m) b xs (All-tail (λ r. r < m) a (b ∷ xs) h)))

pub All-from_pairs : (m : ℕ) (xs : List ℕ) → length xs % 2 ≡ 0 → FirstsBelow m xs → SecondsBelow m xs → All (λ r. r < m) xs
unfolding FirstsBelow SecondsBelow
All-from_pairs m [] e f s = All-nil (λ r. r < m)
All-from_pairs m (a ∷ []) e f s = absurd (omega arith)
All-from_pairs m (a ∷ b ∷ xs) e f s =
    All-cons (λ r. r < m) a (b ∷ xs) f.0 (All-cons (λ r. r < m) b xs s.0 (All-from_pairs m xs (omega arith) f.1 s.1))

even_front : (i : ℕ) (xs : List ℕ) → 2 * i ≤ length xs → length (take (2 * i) xs) % 2 ≡ 0
even_front i xs h = omega (arith, length-take-le (2 * i) xs h)

pub div-add-mod : (v n : ℕ) → v % n + n * (v / n) ≡ v
div-add-mod v n = omega (arith, div-add-mod' v n)

-- one pair more of a list
pub high_parts_more : (m k i : ℕ) (xs : List ℕ) → 2 * i + 1 < length xs → high_parts m k (take (2 * (i + 1)) xs) ≡ high_parts m k (take (2 * i) xs) ++ (get_or xs (2 * i) 0 + m * get_or xs (2 * i + 1) 0) / 256 ^ k ∷ []
high_parts_more m k i xs h =
    let up : 2 * (i + 1) ≡ 2 * i + 2 = omega arith in
    ap (λ n. high_parts m k (take n xs)) up ∙ ap (high_parts m k) (take_two xs (2 * i) h)
    ∙ high_parts-append m k (take (2 * i) xs) (get_or xs (2 * i) 0 ∷ get_or xs (2 * i + 1) 0 ∷ []) (even_front i xs (omega arith))
    ∙ ap (λ ys. high_parts m k (take (2 * i) xs) ++ ys) (high_parts_one m k (get_or xs (2 * i) 0) (get_or xs (2 * i + 1) 0))

pub low_parts_more : (m k i : ℕ) (xs : List ℕ) → 2 * i + 1 < length xs → low_parts m k (take (2 * (i + 1)) xs) ≡ low_parts m k (take (2 * i) xs) ++ low_bytes k (get_or xs (2 * i) 0 + m * get_or xs (2 * i + 1) 0)
low_parts_more m k i xs h =
    let up : 2 * (i + 1) ≡ 2 * i + 2 = omega arith in
    ap (λ n. low_parts m k (take n xs)) up ∙ ap (low_parts m k) (take_two xs (2 * i) h)
    ∙ low_parts-append m k (take (2 * i) xs) (get_or xs (2 * i) 0 ∷ get_or xs (2 * i + 1) 0 ∷ []) (even_front i xs (omega arith))
    ∙ ap (λ ys. low_parts m k (take (2 * i) xs) ++ ys) (low_parts_one m k (get_or xs (2 * i) 0) (get_or xs (2 * i + 1) 0))

pub none_high : (m k : ℕ) → high_parts m k [] ≡ []
unfolding high_parts
none_high m k = refl

pub none_low : (m k : ℕ) → low_parts m k [] ≡ []
unfolding low_parts
none_low m k = refl

-- pairs written so far, i of them: they give off the bytes and leave the digits that were read
pub record Apart (low high each i : ℕ) (bytes left digits : List ℕ) (whole : Bool) : Type 0 where
  pub leave : high_parts low each (take (2 * i) digits) ≡ take i left
  pub give : low_parts low each (take (2 * i) digits) ≡ take (each * i) bytes
  pub firsts : FirstsBelow low (take (2 * i) digits)
  pub seconds : IsTrue whole ↔ SecondsBelow high (take (2 * i) digits)

pub Apart-start : (low high each : ℕ) (bytes left digits : List ℕ) → Apart low high each 0 bytes left digits true
unfolding high_parts low_parts FirstsBelow SecondsBelow
Apart-start low high each bytes left digits =
    let none : each * 0 ≡ 0 = omega arith in
    record {
      leave = refl;
      give = ap (λ n. take n bytes) (sym none);
      firsts = tt;
      seconds = (λ _. tt, λ _. refl);
    }

pub Apart-step : (low high each i v : ℕ) (bytes left digits part : List ℕ) (was whole : Bool) → 2 * i + 1 < length digits → i < length left → 0 < low → take (each * (i + 1)) bytes ≡ take (each * i) bytes ++ part → low_bytes each v ≡ part → v / 256 ^ each ≡ get_or left i 0 → (IsTrue whole ↔ (IsTrue was × (v / low < high))) → Apart low high each i bytes left digits was → Apart low high each (i + 1) bytes left (set (set digits (2 * i) (v % low)) (2 * i + 1) (v / low)) whole
Apart-step low high each i v bytes left digits part was whole within there above cut low-v high-v answer s =
    let a = v % low in
    let b = v / low in
    let up : 2 * (i + 1) ≡ 2 * i + 2 = omega arith in
    let new = set (set digits (2 * i) a) (2 * i + 1) b in
    let fronts : take (2 * (i + 1)) new ≡ take (2 * i) digits ++ a ∷ b ∷ [] = ap (λ n. take n new) up ∙ take_two_set digits (2 * i) a b within in
    let even = even_front i digits (omega arith) in
    let is-v : a + low * b ≡ v = div-add-mod v low in
    let below : a < low = mod_below v low above in
    record {
      leave = ap (high_parts low each) fronts ∙ high_parts-append low each (take (2 * i) digits) (a ∷ b ∷ []) even ∙ ap (λ ys. high_parts low each (take (2 * i) digits) ++ ys) (high_parts_one low each a b ∙ ap (λ w. w / 256 ^ each ∷ []) is-v ∙ ap (λ w. w ∷ []) high-v) ∙ ap (λ xs. xs ++ get_or left i 0 ∷ []) s.leave ∙ sym (take_more left i 0 there);
      give = ap (low_parts low each) fronts ∙ low_parts-append low each (take (2 * i) digits) (a ∷ b ∷ []) even ∙ ap (λ ys. low_parts low each (take (2 * i) digits) ++ ys) (low_parts_one low each a b ∙ ap (low_bytes each) is-v ∙ low-v) ∙ ap (λ xs. xs ++ part) s.give ∙ sym cut;
      firsts = subst (FirstsBelow low) (sym fronts) (FirstsBelow-append low (take (2 * i) digits) (a ∷ b ∷ []) even s.firsts (FirstsBelow_one low a b below));
      seconds = (
        λ w. subst (SecondsBelow high) (sym fronts) (SecondsBelow-append high (take (2 * i) digits) (a ∷ b ∷ []) even (s.seconds.0 (answer.0 w).0) ((SecondsBelow_one high a b).1 (answer.0 w).1)),
        λ w. let parts = SecondsBelow-split high (take (2 * i) digits) (a ∷ b ∷ []) even (subst (SecondsBelow high) fronts w) in
            answer.1 (s.seconds.1 parts.0, (SecondsBelow_one high a b).0 parts.1),
      );
    }

-- all pairs
pub record AllApart (low high each : ℕ) (bytes left digits : List ℕ) (whole : Bool) : Type 0 where
  pub leave : high_parts low each digits ≡ left
  pub give : low_parts low each digits ≡ bytes
  pub firsts : FirstsBelow low digits
  pub seconds : IsTrue whole ↔ SecondsBelow high digits

pub Apart-end : (low high each n : ℕ) (bytes left digits : List ℕ) (whole : Bool) → length left ≡ n → length digits ≡ 2 * n → length bytes ≡ each * n → Apart low high each n bytes left digits whole → AllApart low high each bytes left digits whole
Apart-end low high each n bytes left digits whole ll ld lb s =
    let all = take_all (2 * n) digits (omega arith) in
    let whole-left = take_all n left (omega arith) in
    let whole-bytes = take_all (each * n) bytes (omega arith) in
    record {
      leave = ap (high_parts low each) (sym all) ∙ s.leave ∙ whole-left;
      give = ap (low_parts low each) (sym all) ∙ s.give ∙ whole-bytes;
      firsts = subst (FirstsBelow low) all s.firsts;
      seconds = (λ w. subst (SecondsBelow high) all (s.seconds.0 w), λ w. s.seconds.1 (subst (SecondsBelow high) (sym all) w));
    }
