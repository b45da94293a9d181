-- The blocks of HKDF-Expand.
use Rattle.std.proofs.Common.{◌≡◌, ℕ, zero, suc, ◌+◌, ◌*◌, ◌-◌, ◌/◌, ◌<◌, ◌≤◌, List, [], ◌∷◌, ◌++◌, length, take, drop, refl, sym, ap, ◌∙◌, arith, length-append, length-take, add-one, ap₂, min, ◌%◌, inl, inr, codes}
use Rattle.std.proofs.Common.{take-add}
use Rattle.std.proofs.lemmas.List.{append-nil, take_all, drop_all, take_at, drop_at, length-take-le}
use Rattle.std.proofs.lemmas.Bool.{cases_lt}
use Rattle.sha2.proofs.Facts256.{length-sha256}
use Rattle.hkdf_seal.specs.Keys.{block, blocks, expand, extract, hmac, kdf}

pub length-hmac : (key text : List ℕ) → length (hmac key text) ≡ 32
unfolding hmac
length-hmac key text = length-sha256 _

pub block_next : (prk info : List ℕ) (i : ℕ) → block prk info (i + 1) ≡ hmac prk (block prk info i ++ info ++ (i + 1) ∷ [])
unfolding block
block_next prk info i = rw add-one refl

pub blocks_next : (prk info : List ℕ) (n : ℕ) → blocks prk info (n + 1) ≡ blocks prk info n ++ block prk info (n + 1)
unfolding blocks
blocks_next prk info n = rw add-one refl

pub length-blocks : (prk info : List ℕ) (n : ℕ) → length (blocks prk info n) ≡ 32 * n
unfolding blocks block
length-blocks prk info zero = refl
length-blocks prk info (suc n) =
    let last : length (hmac prk (block prk info n ++ info ++ suc n ∷ [])) ≡ 32 = length-hmac prk (block prk info n ++ info ++ suc n ∷ []) in
    length-append (blocks prk info n) (block prk info (suc n)) ∙ omega (arith, length-blocks prk info n, last)

pub take_past : (xs ys : List ℕ) (n m : ℕ) → length xs ≡ n → take (n + m) (xs ++ ys) ≡ xs ++ take m ys
take_past xs ys n m h = take-add n m (xs ++ ys) ∙ ap₂ (λ a b. a ++ take m b) (take_at xs ys n h) (drop_at xs ys n h)

-- a block written at a place, as far as the buffer goes
pub put_front : (into block part : List ℕ) (at : ℕ) → at ≤ length into → length block ≡ 32
    → part ≡ take (min 32 (length into - at)) block
    → take (at + 32) (take at into ++ (part ++ drop (at + length part) into)) ≡ take (length into) (take at into ++ block)
put_front into block part at a whole e =
    let room : ℕ = length into - at in
    let front_long : length (take at into) ≡ at = length-take-le at into a in
    let all : length into ≡ at + room = omega arith in
    let left : take (at + 32) (take at into ++ (part ++ drop (at + length part) into)) ≡ take at into ++ take 32 (part ++ drop (at + length part) into) =
    take_past (take at into) (part ++ drop (at + length part) into) at 32 front_long in
    let right : take (length into) (take at into ++ block) ≡ take at into ++ take room block =
    ap (λ n. take n (take at into ++ block)) all ∙ take_past (take at into) block at room front_long in
    let part_long : length part ≡ min 32 room = ap length e ∙ omega (arith, length-take (min 32 room) block) in
    elim (cases_lt room 32) [
      | inl short ↦
          let none : drop (at + length part) into ≡ [] = drop_all (at + length part) into (omega arith) in
          let is_front : part ≡ take room block = e ∙ ap (λ n. take n block) (omega arith) in
          left ∙ (ap (λ r. take at into ++ take 32 (part ++ r)) none ∙ (ap (λ r. take at into ++ take 32 r) (append-nil part)
          ∙ (ap (λ r. take at into ++ r) (take_all 32 part (omega arith) ∙ is_front) ∙ sym right)))
      | inr fits ↦
          let is_whole : part ≡ block = e ∙ take_all (min 32 room) block (omega arith) in
          left ∙ (ap (λ r. take at into ++ r) (take_at part (drop (at + length part) into) 32 (omega arith) ∙ (is_whole ∙ sym (take_all room block (omega arith)))) ∙ sym right)
    ]

-- the next block, from the one before it
pub block_step : (prk info prev last : List ℕ) (i number : ℕ) → number ≡ i + 1 → (number ≡ 1 → prev ≡ []) → (1 < number → prev ≡ last)
    → (0 < i → last ≡ block prk info i) → hmac prk (prev ++ info ++ number ∷ []) ≡ block prk info (i + 1)
unfolding block
block_step prk info prev last zero number e first later known =
    let one : number ≡ 1 = omega arith in
    rw (one, first one) refl
block_step prk info prev last (suc i) number e first later known =
    let is_later : prev ≡ block prk info (suc i) = later (omega arith) ∙ known (omega arith) in
    let is_number : number ≡ suc i + 1 = omega arith in
    ap₂ (λ p n. hmac prk (p ++ info ++ n ∷ [])) is_later is_number ∙ sym (block_next prk info (suc i))

-- one more block in the buffer
pub blocks_step : (prk info into new last : List ℕ) (i len : ℕ) → 32 * i < len
    → take (32 * i) into ≡ take len (blocks prk info i) → last ≡ block prk info (i + 1)
    → take (32 * i + 32) new ≡ take len (take (32 * i) into ++ last)
    → take (32 * (i + 1)) new ≡ take len (blocks prk info (i + 1))
blocks_step prk info into new last i len room so_far next put =
    let all : take len (blocks prk info i) ≡ blocks prk info i = take_all len (blocks prk info i) (omega (arith, length-blocks prk info i)) in
    let ends : 32 * (i + 1) ≡ 32 * i + 32 = omega arith in
    ap (λ n. take n new) ends ∙ (put ∙ ap (take len) (ap₂ (λ a b. a ++ b) (so_far ∙ all) next ∙ sym (blocks_next prk info i)))

pub expand_all : (prk info into : List ℕ) (count len : ℕ) → length into ≡ len → count ≡ len / 32 + min 1 (len % 32)
    → take (32 * count) into ≡ take len (blocks prk info count) → into ≡ expand prk info len
unfolding expand
expand_all prk info into count len long is_count so_far =
    let rounded : count ≡ (len + 31) / 32 = omega arith in
    sym (take_all (32 * count) into (omega arith)) ∙ (so_far ∙ ap (λ n. take len (blocks prk info n)) rounded)

pub kdf_is : (key label id : List ℕ) → kdf key label id ≡ hmac (extract (codes "dcgka v1") key) (label ++ id ++ 1 ∷ [])
unfolding kdf expand blocks block
kdf_is key label id = take_all 32 (hmac (extract (codes "dcgka v1") key) (label ++ id ++ 1 ∷ [])) (omega (arith, length-hmac (extract (codes "dcgka v1") key) (label ++ id ++ 1 ∷ [])))

pub blocks_none : (prk info : List ℕ) (n : ℕ) → [] ≡ take n (blocks prk info 0)
unfolding blocks
blocks_none prk info n = sym (take_all n [] (omega arith))
