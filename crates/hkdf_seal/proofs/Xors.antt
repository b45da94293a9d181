-- Lists of bytes, xor others.
use Rattle.std.proofs.Common.{◌≡◌, ℕ, zero, suc, ◌+◌, ◌*◌, ◌-◌, ◌/◌, ◌<◌, ◌≤◌, min, List, [], ◌∷◌, ◌++◌, length, get_or, set, take, drop, refl, sym, ap, ◌∙◌, arith, length-append, length-drop, length-take, add-one, add-zero, ap₂, inl, inr, ◌%◌, take-append-drop, take-add, codes, ◌^◌}
use Rattle.rand_chacha.specs.ChaCha.{ChaCha, key_of, next_word}
use Rattle.std.proofs.lemmas.List.{append_assoc, append-nil, take_all, drop_all, take_at, drop_at, drop_more, take_more, drop-drop, set_at, get_or_at, length-take-le, get_or-drop}
use Rattle.std.proofs.lemmas.Bool.{cases_lt}
use Rattle.std.specs.Prelude.{bit_xor}
use Rattle.std.specs.Int.Bits.{xor_self, xor_zero_r}
use lib.Bits.{xor_assoc}
use Rattle.hkdf_seal.specs.Sealing.{sealed, stream, stream_word, xor_bytes, xor_stream}
use Rattle.hkdf_seal.specs.Keys.{kdf}
use Rattle.byteorder.specs.Endian.{little_bytes}

pub xor_back : (x k : ℕ) → bit_xor (bit_xor x k) k ≡ x
xor_back x k = xor_assoc x k k ∙ (ap (bit_xor x) (xor_self k) ∙ xor_zero_r x)

pub xor_bytes-append : (a b c d : List ℕ) → length a ≡ length c → xor_bytes (a ++ b) (c ++ d) ≡ xor_bytes a c ++ xor_bytes b d
unfolding xor_bytes
xor_bytes-append [] b [] d h = refl
xor_bytes-append [] b (y ∷ c) d h = absurd (omega arith)
xor_bytes-append (x ∷ a) b [] d h = absurd (omega arith)
xor_bytes-append (x ∷ a) b (y ∷ c) d h = ap (λ r. bit_xor x y ∷ r) (xor_bytes-append a b c d (omega arith))

pub length-xor_bytes : (xs ks : List ℕ) → length xs ≤ length ks → length (xor_bytes xs ks) ≡ length xs
unfolding xor_bytes
length-xor_bytes [] ks h = refl
length-xor_bytes (x ∷ xs) [] h = absurd (omega arith)
length-xor_bytes (x ∷ xs) (k ∷ ks) h = ap suc (length-xor_bytes xs ks (omega arith))

pub xor_bytes-nil : (ks : List ℕ) → xor_bytes [] ks ≡ []
unfolding xor_bytes
xor_bytes-nil ks = refl

pub xor_bytes_none : (xs : List ℕ) → xor_bytes xs [] ≡ []
unfolding xor_bytes
xor_bytes_none [] = refl
xor_bytes_none (x ∷ xs) = refl

pub xor_bytes_one : (x k : ℕ) → xor_bytes (x ∷ []) (k ∷ []) ≡ bit_xor x k ∷ []
unfolding xor_bytes
xor_bytes_one x k = refl

-- what lies past the shorter list counts for nothing
pub xor_bytes-take : (xs ks : List ℕ) → xor_bytes (take (length ks) xs) ks ≡ xor_bytes xs ks
unfolding xor_bytes
xor_bytes-take [] [] = refl
xor_bytes-take [] (k ∷ ks) = refl
xor_bytes-take (x ∷ xs) [] = refl
xor_bytes-take (x ∷ xs) (k ∷ ks) = ap (λ r. bit_xor x k ∷ r) (xor_bytes-take xs ks)

pub xor_twice : (xs ks : List ℕ) → length xs ≤ length ks → xor_bytes (xor_bytes xs ks) ks ≡ xs
unfolding xor_bytes
xor_twice [] ks h = refl
xor_twice (x ∷ xs) [] h = absurd (omega arith)
xor_twice (x ∷ xs) (k ∷ ks) h = rw (xor_back x k) (ap (λ r. x ∷ r) (xor_twice xs ks (omega arith)))

-- a text whose part from `at` on is xor the first i bytes of ks
abbrev pub xored : List ℕ → List ℕ → ℕ → ℕ → List ℕ
xored old ks at i = take at old ++ (xor_bytes (take i (drop at old)) (take i ks) ++ drop (at + i) old)

pub xor_bytes_more : (xs ks : List ℕ) (i : ℕ) → i < length xs → i < length ks
    → xor_bytes (take (i + 1) xs) (take (i + 1) ks) ≡ xor_bytes (take i xs) (take i ks) ++ bit_xor (get_or xs i 0) (get_or ks i 0) ∷ []
xor_bytes_more xs ks i a b =
    rw (take_more xs i 0 a, take_more ks i 0 b)
    (xor_bytes-append (take i xs) (get_or xs i 0 ∷ []) (take i ks) (get_or ks i 0 ∷ []) (omega (arith, length-take i xs, length-take i ks))
    ∙ ap (λ r. xor_bytes (take i xs) (take i ks) ++ r) (xor_bytes_one (get_or xs i 0) (get_or ks i 0)))

pub xored_more : (old ks text : List ℕ) (at i : ℕ) → at + i < length old → i < length ks → text ≡ xored old ks at i
    → set text (at + i) (bit_xor (get_or text (at + i) 0) (get_or ks i 0)) ≡ xored old ks at (i + 1)
xored_more old ks text at i a b e =
    let x : ℕ = get_or old (at + i) 0 in
    let done : List ℕ = xor_bytes (take i (drop at old)) (take i ks) in
    let front : List ℕ = take at old ++ done in
    let rest : List ℕ = drop (at + i + 1) old in
    let done_long : length done ≡ i =
    length-xor_bytes (take i (drop at old)) (take i ks) (omega (arith, length-take i (drop at old), length-take i ks, length-drop at old))
    ∙ omega (arith, length-take i (drop at old), length-drop at old) in
    let long : length front ≡ at + i = omega (arith, length-append (take at old) done, length-take at old) in
    let split : text ≡ front ++ x ∷ rest =
    e ∙ (ap (λ r. take at old ++ (done ++ r)) (drop_more old (at + i) 0 a) ∙ sym (append_assoc (take at old) done (x ∷ rest))) in
    let here : get_or text (at + i) 0 ≡ x = ap (λ t. get_or t (at + i) 0) split ∙ get_or_at front x rest 0 (at + i) long in
    let next : xor_bytes (take (i + 1) (drop at old)) (take (i + 1) ks) ≡ done ++ bit_xor x (get_or ks i 0) ∷ [] =
    xor_bytes_more (drop at old) ks i (omega (arith, length-drop at old)) b
    ∙ ap (λ v. done ++ bit_xor v (get_or ks i 0) ∷ []) (get_or-drop at old i 0) in
    let after : at + (i + 1) ≡ at + i + 1 = omega arith in
    ap (λ v. set text (at + i) (bit_xor v (get_or ks i 0))) here
    ∙ (ap (λ t. set t (at + i) (bit_xor x (get_or ks i 0))) split
    ∙ (set_at front x rest (bit_xor x (get_or ks i 0)) (at + i) long
    ∙ (append_assoc (take at old) done (bit_xor x (get_or ks i 0) ∷ rest)
    ∙ (ap (λ r. take at old ++ r) (sym (append_assoc done (bit_xor x (get_or ks i 0) ∷ []) rest))
    ∙ ap₂ (λ m r. take at old ++ (m ++ r)) (sym next) (ap (λ n. drop n old) (sym after))))))

pub xor_bytes-take_keys : (xs ks : List ℕ) → xor_bytes xs (take (length xs) ks) ≡ xor_bytes xs ks
unfolding xor_bytes
xor_bytes-take_keys [] ks = refl
xor_bytes-take_keys (x ∷ xs) [] = refl
xor_bytes-take_keys (x ∷ xs) (k ∷ ks) = ap (λ r. bit_xor x k ∷ r) (xor_bytes-take_keys xs ks)

-- the whole of ks, as far as the text goes
pub xored_all : (old ks : List ℕ) (at i : ℕ) → at ≤ length old → length ks ≡ 4 → i ≡ min 4 (length old - at)
    → xored old ks at i ≡ take at old ++ (xor_bytes (drop at old) ks ++ drop (at + 4) old)
xored_all old ks at i a four e =
    elim (cases_lt (length old - at) 4) [
      | inl short ↦
          let left : i ≡ length (drop at old) = omega (arith, length-drop at old) in
          let text : take i (drop at old) ≡ drop at old = take_all i (drop at old) (omega arith) in
          let keys : xor_bytes (drop at old) (take i ks) ≡ xor_bytes (drop at old) ks =
          ap (λ n. xor_bytes (drop at old) (take n ks)) left ∙ xor_bytes-take_keys (drop at old) ks in
          ap₂ (λ m r. take at old ++ (m ++ r)) (ap (λ t. xor_bytes t (take i ks)) text ∙ keys)
          (drop_all (at + i) old (omega (arith, length-drop at old)) ∙ sym (drop_all (at + 4) old (omega (arith, length-drop at old))))
      | inr long ↦
          let all : i ≡ 4 = omega arith in
          let keys : take i ks ≡ ks = take_all i ks (omega arith) in
          let same : length ks ≡ i = omega arith in
          let texts : xor_bytes (take i (drop at old)) ks ≡ xor_bytes (drop at old) ks =
          ap (λ n. xor_bytes (take n (drop at old)) ks) (sym same) ∙ xor_bytes-take (drop at old) ks in
          ap₂ (λ m r. take at old ++ (m ++ r)) (ap (λ k. xor_bytes (take i (drop at old)) k) keys ∙ texts) (ap (λ n. drop (at + n) old) all)
    ]

pub xored_none : (old ks : List ℕ) (at : ℕ) → old ≡ xored old ks at 0
unfolding xor_bytes
xored_none old ks at = sym (ap (λ n. take at old ++ drop n old) (add-zero at) ∙ take-append-drop at old)

-- a text whose first i words are xor the first i words of the stream
abbrev pub streamed : List ℕ → List ℕ → ℕ → List ℕ
streamed key old i = xor_bytes (take (4 * i) old) (stream key i) ++ drop (4 * i) old

pub stream_next : (key : List ℕ) (n : ℕ) → stream key (n + 1) ≡ stream key n ++ little_bytes 4 (stream_word key n)
unfolding stream
stream_next key n = rw add-one refl

pub length-stream : (key : List ℕ) (n : ℕ) → length (stream key n) ≡ 4 * n
unfolding stream
length-stream key zero = refl
length-stream key (suc n) =
    length-append (stream key n) (little_bytes 4 (stream_word key n)) ∙ omega (arith, length-stream key n)

pub streamed_none : (key old : List ℕ) → old ≡ streamed key old 0
unfolding xor_bytes
streamed_none key old = refl

pub streamed_more : (key old text new bytes : List ℕ) (i : ℕ) → 4 * i < length old → text ≡ streamed key old i
    → bytes ≡ little_bytes 4 (stream_word key i)
    → new ≡ take (4 * i) text ++ (xor_bytes (drop (4 * i) text) bytes ++ drop (4 * i + 4) text)
    → new ≡ streamed key old (i + 1)
streamed_more key old text new bytes i room e b put =
    let front : List ℕ = take (4 * i) old in
    let rest : List ℕ = drop (4 * i) old in
    let done : List ℕ = xor_bytes front (stream key i) in
    let front_long : length front ≡ 4 * i = length-take-le (4 * i) old (omega arith) in
    let done_long : length done ≡ 4 * i = length-xor_bytes front (stream key i) (omega (arith, length-stream key i)) ∙ front_long in
    let four : length bytes ≡ 4 = ap length b in
    let ends : 4 * (i + 1) ≡ 4 * i + 4 = omega arith in
    let part : take (4 * i) text ≡ done = ap (take (4 * i)) e ∙ take_at done rest (4 * i) done_long in
    let left : drop (4 * i) text ≡ rest = ap (drop (4 * i)) e ∙ drop_at done rest (4 * i) done_long in
    let far : drop (4 * i + 4) text ≡ drop (4 * i + 4) old =
    sym (drop-drop 4 (4 * i) text) ∙ (ap (drop 4) left ∙ drop-drop 4 (4 * i) old) in
    let here : xor_bytes rest bytes ≡ xor_bytes (take 4 rest) bytes =
    sym (xor_bytes-take rest bytes) ∙ ap (λ n. xor_bytes (take n rest) bytes) four in
    let joined : xor_bytes (take (4 * i + 4) old) (stream key i ++ bytes) ≡ done ++ xor_bytes (take 4 rest) bytes =
    ap (λ t. xor_bytes t (stream key i ++ bytes)) (take-add (4 * i) 4 old)
    ∙ xor_bytes-append front (take 4 rest) (stream key i) bytes (omega (arith, length-stream key i)) in
    let next : stream key i ++ bytes ≡ stream key (i + 1) = ap (λ w. stream key i ++ w) b ∙ sym (stream_next key i) in
    put ∙ (ap₂ (λ a r. a ++ (xor_bytes r bytes ++ drop (4 * i + 4) text)) part left
    ∙ (ap₂ (λ m r. done ++ (m ++ r)) here far
    ∙ (sym (append_assoc done (xor_bytes (take 4 rest) bytes) (drop (4 * i + 4) old))
    ∙ (ap (λ t. t ++ drop (4 * i + 4) old) (sym joined)
    ∙ ap₂ (λ n s. xor_bytes (take n old) s ++ drop n old) (sym ends) next))))

pub streamed_all : (key old : List ℕ) (i : ℕ) → i ≡ length old / 4 + min 1 (length old % 4) → streamed key old i ≡ xor_stream key old
unfolding xor_stream
streamed_all key old i e =
    let rounded : i ≡ (length old + 3) / 4 = omega arith in
    let past : length old ≤ 4 * i = omega arith in
    ap₂ (λ a b. xor_bytes a (stream key i) ++ b) (take_all (4 * i) old past) (drop_all (4 * i) old past)
    ∙ (append-nil (xor_bytes old (stream key i)) ∙ ap (λ n. xor_bytes old (stream key n)) rounded)

-- opening undoes sealing
pub sealed-sealed : (key plain : List ℕ) → sealed key (sealed key plain) ≡ plain
unfolding sealed xor_stream
sealed-sealed key plain =
    let k : List ℕ = kdf key (codes "stream") [] in
    let n : ℕ = (length plain + 3) / 4 in
    let fits : length plain ≤ length (stream k n) = omega (arith, length-stream k n) in
    let same : length (xor_bytes plain (stream k n)) ≡ length plain = length-xor_bytes plain (stream k n) fits in
    ap (λ l. xor_bytes (xor_bytes plain (stream k n)) (stream k ((l + 3) / 4))) same ∙ xor_twice plain (stream k n) fits

-- one word of the stream
pub word_step : (key : List ℕ) (i word : ℕ) (was now : ChaCha) → i < 2 ^ 64 → was ≡ record { key = key_of key; stream = 0; word_pos = i }
    → (word, now) ≡ next_word 10 was
    → (word ≡ stream_word key i) × (now ≡ record { key = key_of key; stream = 0; word_pos = i + 1 })
unfolding stream_word
word_step key i word was now fits e step =
    let at : (word, now) ≡ next_word 10 (record { key = key_of key; stream = 0; word_pos = i }) = step ∙ ap (next_word 10) e in
    let small : (i + 1) % 2 ^ 68 ≡ i + 1 = omega arith in
    let place : ℕ → ChaCha = λ n. record { key = key_of key; stream = 0; word_pos = n } in
    (ap (λ (p : ℕ × ChaCha). p.0) at, ap (λ (p : ℕ × ChaCha). p.1) at ∙ ap place small)
