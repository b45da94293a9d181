-- Chains, lists of elements, and sums.
use Rattle.std.proofs.Common.{◌≡◌, ℕ, zero, suc, ◌+◌, ◌*◌, ◌-◌, ◌<◌, ◌≤◌, List, ◌∷◌, ◌++◌, length, take, drop, refl, sym, ap, ap₂, ◌∙◌, arith, length-append, length-drop, add-one, add-zero, add-suc, add_assoc, append_assoc, append-nil, inl, inr, subst}
use Rattle.std.proofs.lemmas.Bool.{cases_lt}
use Rattle.std.proofs.lemmas.List.{take_all, drop_at, take-append-le, drop-append-le}
use Rattle.sha2.specs.Sha256.{sha256}
use Rattle.sha2.proofs.Facts256.{length-sha256}
use Rattle.lms_ots.specs.OneTime.{chain, checksum, coef, completed_element, digit, element_at, joined, prefix, secret_element, signed_element, total}
use Rattle.sha2.specs.Hashers.{Holds256}
use Rattle.sha2.specs.declared.Sha256.{Sha256}
use Rattle.std.specs.Int.{w16, to_be_bytes}

pub chain_next : (start value : List ℕ) (first n : ℕ) → chain start first (n + 1) value ≡ sha256 (start ++ (first + n) ∷ chain start first n value)
unfolding chain
chain_next start value first n = rw add-one refl

pub chain_none : (start value : List ℕ) (first : ℕ) → chain start first 0 value ≡ value
unfolding chain
chain_none start value first = refl

-- a step of the loop
pub chain_step : (start value now : List ℕ) (first step : ℕ) → first ≤ step → now ≡ chain start first (step - first) value
    → sha256 (start ++ step ∷ now) ≡ chain start first (step + 1 - first) value
chain_step start value now first step above is =
    let n : ℕ = step - first in
    let at : step ≡ first + n = omega arith in
    let count : step + 1 - first ≡ n + 1 = omega arith in
    ap₂ (λ s v. sha256 (start ++ s ∷ v)) at is ∙ (sym (chain_next start value first n) ∙ ap (λ m. chain start first m value) (sym count))

-- a chain gone on with is a longer chain
pub chain_compose : (start value : List ℕ) (first a b : ℕ) → chain start (first + a) b (chain start first a value) ≡ chain start first (a + b) value
unfolding chain
chain_compose start value first a zero = rw add-zero refl
chain_compose start value first a (suc b) =
    rw (add-suc a b) (ap₂ (λ s v. sha256 (start ++ s ∷ v)) (add_assoc first a b) (chain_compose start value first a b))

pub length-chain : (start value : List ℕ) (first n : ℕ) → length value ≡ 32 → length (chain start first n value) ≡ 32
unfolding chain
length-chain start value first zero h = h
length-chain start value first (suc n) h = length-sha256 (start ++ (first + n) ∷ chain start first n value)

pub joined_next : (f : ℕ → List ℕ) (n : ℕ) → joined f (n + 1) ≡ joined f n ++ f n
unfolding joined
joined_next f n = rw add-one refl

pub joined_none : (f : ℕ → List ℕ) (front : List ℕ) → front ++ joined f 0 ≡ front
unfolding joined
joined_none f front = append-nil front

pub joined_more : (f : ℕ → List ℕ) (front part : List ℕ) (n : ℕ) → part ≡ f n → (front ++ joined f n) ++ part ≡ front ++ joined f (n + 1)
joined_more f front part n is =
    append_assoc front (joined f n) part ∙ ap (λ r. front ++ r) (ap (λ p. joined f n ++ p) is ∙ sym (joined_next f n))

pub joined-same : (f g : ℕ → List ℕ) (n : ℕ) → ((i : ℕ) → i < n → f i ≡ g i) → joined f n ≡ joined g n
unfolding joined
joined-same f g zero same = refl
joined-same f g (suc n) same = ap₂ (λ a b. a ++ b) (joined-same f g n (λ i h. same i (omega arith))) (same n (omega arith))

pub length-joined : (f : ℕ → List ℕ) (n : ℕ) → ((i : ℕ) → length (f i) ≡ 32) → length (joined f n) ≡ 32 * n
unfolding joined
length-joined f zero wide = refl
length-joined f (suc n) wide = length-append (joined f n) (f n) ∙ omega (arith, length-joined f n wide, wide n)

-- element i of a list of elements
pub joined-element : (f : ℕ → List ℕ) (n i : ℕ) → ((i : ℕ) → length (f i) ≡ 32) → i < n → take 32 (drop (32 * i) (joined f n)) ≡ f i
unfolding joined
joined-element f zero i wide h = absurd (omega arith)
joined-element f (suc n) i wide h =
    let long : length (joined f n) ≡ 32 * n = length-joined f n wide in
    elim (cases_lt i n) [
      | inl below ↦
          ap (take 32) (drop-append-le (32 * i) (joined f n) (f n) (omega arith))
          ∙ (take-append-le 32 (drop (32 * i) (joined f n)) (f n) (omega (arith, length-drop (32 * i) (joined f n))) ∙ joined-element f n i wide below)
      | inr above ↦
          let same : i ≡ n = omega arith in
          ap (λ k. take 32 (drop (32 * k) (joined f n ++ f n))) same
          ∙ (ap (take 32) (drop_at (joined f n) (f n) (32 * n) long) ∙ (take_all 32 (f n) (omega (arith, wide n)) ∙ ap f (sym same)))
    ]

pub total_next : (f : ℕ → ℕ) (n : ℕ) → total f (n + 1) ≡ total f n + f n
unfolding total
total_next f n = rw add-one refl

pub total_none : (f : ℕ → ℕ) → total f 0 ≡ 0
unfolding total
total_none f = refl

pub digit_small : (hash : List ℕ) (i : ℕ) → digit hash i ≤ 15
unfolding digit
digit_small hash i = omega arith

-- what a step of a signature or of a check adds
pub signed_is : (id : List ℕ) (q : ℕ) (seed hash digits : List ℕ) (i d : ℕ) → d ≡ coef digits i → digits ≡ hash ++ to_be_bytes w16 (checksum hash)
    → chain (prefix id q i) 0 d (secret_element id q seed i) ≡ signed_element id q seed hash i
unfolding signed_element digit
signed_is id q seed hash digits i d is are =
    ap (λ n. chain (prefix id q i) 0 n (secret_element id q seed i)) (is ∙ ap (λ b. coef b i) are)

pub completed_is : (id : List ℕ) (q : ℕ) (signature hash digits start element : List ℕ) (i d : ℕ)
    → start ≡ prefix id q i → element ≡ element_at signature (36 + 32 * i) → d ≡ coef digits i → digits ≡ hash ++ to_be_bytes w16 (checksum hash)
    → chain start d (15 - d) element ≡ completed_element id q signature hash i
unfolding completed_element digit
completed_is id q signature hash digits start element i d is_start is_element is are =
    ap₂ (λ s e. chain s d (15 - d) e) is_start is_element
    ∙ ap (λ n. chain (prefix id q i) n (15 - n) (element_at signature (36 + 32 * i))) (is ∙ ap (λ b. coef b i) are)

-- a hasher over a front and elements
pub held_begun : (h : Sha256) (front result : List ℕ) (f : ℕ → List ℕ) → Holds256 h result → result ≡ front → Holds256 h (front ++ joined f 0)
held_begun h front result f held is =
    let P : List ℕ → Type 0 = λ m. Holds256 h m in
    subst P (is ∙ sym (joined_none f front)) held

pub held_more : (h : Sha256) (front part : List ℕ) (f : ℕ → List ℕ) (n : ℕ) → Holds256 h ((front ++ joined f n) ++ part) → part ≡ f n
    → Holds256 h (front ++ joined f (n + 1))
held_more h front part f n held is =
    let P : List ℕ → Type 0 = λ m. Holds256 h m in
    subst P (joined_more f front part n is) held
