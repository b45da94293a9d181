-- Buffers that are filled part by part.
use Rattle.std.proofs.Common.{◌≡◌, ℕ, ◌+◌, ◌≤◌, List, [], ◌∷◌, ◌++◌, length, set, take, drop, refl, sym, ap, ap₂, ◌∙◌, arith, length-append, length-drop, length-set, append_assoc, append-nil, take-take}
use Rattle.std.proofs.lemmas.List.{drop_all, take_at, drop_at, drop-drop, length-take-le, set_split, take-set-le, take-append-le}

-- a part written behind what is there already
pub put_next : (front rest part buffer new : List ℕ) (at : ℕ) → buffer ≡ front ++ rest → length front ≡ at
    → new ≡ take at buffer ++ (part ++ drop (at + length part) buffer) → new ≡ front ++ part ++ drop (length part) rest
put_next front rest part buffer new at is long put =
    let before : take at buffer ≡ front = ap (take at) is ∙ take_at front rest at long in
    let after : drop (at + length part) buffer ≡ drop (length part) rest =
    sym (drop-drop (length part) at buffer) ∙ ap (drop (length part)) (ap (drop at) is ∙ drop_at front rest at long) in
    put ∙ (ap₂ (λ a b. a ++ (part ++ b)) before after ∙ sym (append_assoc front part (drop (length part) rest)))

-- three parts that fill a buffer
pub three_parts : (a b c zeros first second third : List ℕ) (at then : ℕ) → length a + length b + length c ≡ length zeros
    → at ≡ length a → then ≡ length a + length b
    → first ≡ take 0 zeros ++ (a ++ drop (0 + length a) zeros)
    → second ≡ take at first ++ (b ++ drop (at + length b) first)
    → third ≡ take then second ++ (c ++ drop (then + length c) second)
    → third ≡ a ++ b ++ c
three_parts a b c zeros first second third at then fill is_at is_then one two three =
    let rest : List ℕ = drop (length c) (drop (length b) (drop (length a) zeros)) in
    let is_first : first ≡ a ++ drop (length a) zeros = put_next [] zeros a zeros first 0 refl refl one in
    let is_second : second ≡ a ++ b ++ drop (length b) (drop (length a) zeros) =
    put_next a (drop (length a) zeros) b first second at is_first (sym is_at) two in
    let is_third : third ≡ a ++ b ++ c ++ rest =
    put_next (a ++ b) (drop (length b) (drop (length a) zeros)) c second third then is_second (length-append a b ∙ sym is_then) three in
    let none : rest ≡ [] =
    drop_all (length c) (drop (length b) (drop (length a) zeros))
    (omega (arith, length-drop (length b) (drop (length a) zeros), length-drop (length a) zeros)) in
    is_third ∙ (ap (λ r. a ++ b ++ c ++ r) none ∙ append-nil (a ++ b ++ c))

-- the input of a step, from the buffer before it
pub hashed_step : (start value input : List ℕ) (step : ℕ) → length input ≡ 55 → take 22 input ≡ start → drop 23 input ≡ value
    → set input 22 step ≡ start ++ step ∷ value
hashed_step start value input step long front back =
    set_split input 22 step (omega arith) ∙ ap₂ (λ a b. a ++ step ∷ b) front back

-- the buffer after a step
pub input_step : (start input value new : List ℕ) (step : ℕ) → length input ≡ 55 → length value ≡ 32 → take 22 input ≡ start
    → new ≡ take 23 (set input 22 step) ++ (value ++ drop (23 + length value) (set input 22 step))
    → (length new ≡ 55) × (take 22 new ≡ start) × (drop 23 new ≡ value)
input_step start input value new step long wide front put =
    let written : List ℕ = set input 22 step in
    let written_long : length written ≡ 55 = length-set input 22 step ∙ long in
    let none : drop (23 + length value) written ≡ [] = drop_all (23 + length value) written (omega arith) in
    let head_long : length (take 23 written) ≡ 23 = length-take-le 23 written (omega arith) in
    let is : new ≡ take 23 written ++ value = put ∙ ap (λ r. take 23 written ++ r) (ap (λ r. value ++ r) none ∙ append-nil value) in (
      ap length is ∙ (length-append (take 23 written) value ∙ omega arith),
      ap (take 22) is ∙ (take-append-le 22 (take 23 written) value (omega arith) ∙ (take-take 22 23 written (omega arith) ∙ (take-set-le 22 input 22 step (omega arith) ∙ front))),
      ap (drop 23) is ∙ drop_at (take 23 written) value 23 head_long,
    )

-- one more part of 32 bytes behind what is there already
pub front_more : (front part old new : List ℕ) (at : ℕ) → length part ≡ 32 → at + 32 ≤ length old → take at old ≡ front
    → new ≡ take at old ++ (part ++ drop (at + length part) old) → take (at + 32) new ≡ front ++ part
front_more front part old new at wide fits is put =
    let rest : List ℕ = drop (at + length part) old in
    let split : new ≡ (take at old ++ part) ++ rest = put ∙ sym (append_assoc (take at old) part rest) in
    ap (take (at + 32)) split
    ∙ (take_at (take at old ++ part) rest (at + 32) (length-append (take at old) part ∙ omega (arith, length-take-le at old (omega arith)))
    ∙ ap (λ a. a ++ part) is)

-- two parts that fill a buffer
pub two_parts : (a b zeros first second : List ℕ) (at : ℕ) → length a + length b ≡ length zeros → at ≡ length a
    → first ≡ take 0 zeros ++ (a ++ drop (0 + length a) zeros)
    → second ≡ take at first ++ (b ++ drop (at + length b) first)
    → second ≡ a ++ b
two_parts a b zeros first second at fill is_at one two =
    let rest : List ℕ = drop (length b) (drop (length a) zeros) in
    let is_first : first ≡ a ++ drop (length a) zeros = put_next [] zeros a zeros first 0 refl refl one in
    let is_second : second ≡ a ++ b ++ rest = put_next a (drop (length a) zeros) b first second at is_first (sym is_at) two in
    let none : rest ≡ [] = drop_all (length b) (drop (length a) zeros) (omega (arith, length-drop (length a) zeros)) in
    is_second ∙ (ap (λ r. a ++ b ++ r) none ∙ append-nil (a ++ b))

-- the buffer before the first step
pub input_begun : (start value input : List ℕ) (step : ℕ) → length start ≡ 22 → length value ≡ 32 → input ≡ start ++ step ∷ value
    → (length input ≡ 55) × (take 22 input ≡ start) × (drop 23 input ≡ value)
input_begun start value input step long wide is =
    let split : input ≡ (start ++ step ∷ []) ++ value = is ∙ sym (append_assoc start (step ∷ []) value) in (
      ap length is ∙ (length-append start (step ∷ value) ∙ omega arith),
      ap (take 22) is ∙ take_at start (step ∷ value) 22 long,
      ap (drop 23) split ∙ drop_at (start ++ step ∷ []) value 23 (length-append start (step ∷ []) ∙ omega arith),
    )

-- the type and the randomizer of a signature
pub head_filled : (type c into first second : List ℕ) → length type ≡ 4 → length c ≡ 32
    → first ≡ take 0 into ++ (type ++ drop (0 + length type) into)
    → second ≡ take 4 first ++ (c ++ drop (4 + length c) first)
    → take 36 second ≡ type ++ c
head_filled type c into first second four wide one two =
    let is_first : first ≡ type ++ drop (length type) into = put_next [] into type into first 0 refl refl one in
    let is_second : second ≡ type ++ c ++ drop (length c) (drop (length type) into) =
    put_next type (drop (length type) into) c first second 4 is_first four two in
    ap (take 36) is_second ∙ take_at (type ++ c) (drop (length c) (drop (length type) into)) 36 (length-append type c ∙ omega arith)
