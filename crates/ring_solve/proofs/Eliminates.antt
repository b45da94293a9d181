-- What the steps of the elimination keep.
use Rattle.std.proofs.Common.{◌≡◌, ℕ, suc, ◌+◌, ◌-◌, ◌*◌, ◌/◌, ◌%◌, ◌<◌, ◌≤◌, ◌≢◌, List, [], ◌∷◌, length, slice_index, set, ⊎_elim, get_or-set_same, get_or-set_other, ℤ, pos, negsuc, ◌+ℤ◌, ◌*ℤ◌, neg_ℤ, refl, sym, ap, subst, ◌∙◌, arith}
use Rattle.std.proofs.lemmas.Int.{ints}
use native.Mathlib.Nat.{add-mul-mod_self_right, mod-eq_of_lt}
use Rattle.std.proofs.lemmas.Nat.{mul-add-lt, row_fits}
use Rattle.std.proofs.lemmas.Bool.{cases_lt, cases_eq}
use Rattle.std.proofs.lemmas.List.{length-set}
use Rattle.std.proofs.Math.IntN.{*ℤ-zero, zero-*ℤ, pos-*ℤ-pos, negsuc-*ℤ-pos}
use Rattle.ring_poly.specs.Ring.{IsCongruent, weighted}
use Rattle.ring_poly.proofs.Integers.{mul_swap, mul-add, add-mul}
use Rattle.ring_poly.proofs.Weighted.{weighted-same, weighted-add}
use Rattle.ring_poly.proofs.Congruences.{IsCongruent-same, IsCongruent-back, IsCongruent-then, IsCongruent-add, IsCongruent-mul, IsCongruent-onto, neg-mul}
use Rattle.ring_solve.specs.Elimination.{numbers_from, Vanishes, VanishesAtEach, IsBasis, IsKeptRow}
use Rattle.ring_solve.specs.Steps.{IsZeroAt, IsUnreduced, Replaces}
use Rattle.ring_solve.proofs.Residues.{congruent_by, rest_congruent, times_congruent}

pub weighted_congruent : (m : ℤ) (a : List ℤ) (g h : ℕ → ℤ) → ((j : ℕ) → j < length a → IsCongruent m (g j) (h j)) → IsCongruent m (weighted a g) (weighted a h)
weighted_congruent m [] g h e = IsCongruent-same m (pos 0) (pos 0) refl
weighted_congruent m (c ∷ a) g h e =
    IsCongruent-add m (c *ℤ g 0) (c *ℤ h 0) (weighted a (λ j. g (suc j))) (weighted a (λ j. h (suc j)))
    (IsCongruent-mul m c (g 0) (h 0) (e 0 (omega arith)))
    (weighted_congruent m a (λ j. g (suc j)) (λ j. h (suc j)) (λ j lt. e (suc j) (omega arith)))

pub weighted_times : (a : List ℤ) (f : ℤ) (g : ℕ → ℤ) → weighted a (λ j. f *ℤ g j) ≡ f *ℤ weighted a g
weighted_times [] f g = sym (*ℤ-zero f)
weighted_times (c ∷ a) f g = ap (λ x. x +ℤ weighted a (λ j. f *ℤ g (suc j))) (mul_swap c f (g 0)) ∙ ap (λ x. f *ℤ (c *ℤ g 0) +ℤ x) (weighted_times a f (λ j. g (suc j))) ∙ sym (mul-add f (c *ℤ g 0) (weighted a (λ j. g (suc j))))

pub times_zero : (m f x : ℤ) → IsCongruent m x (pos 0) → IsCongruent m (f *ℤ x) (pos 0)
times_zero m f x h = IsCongruent-onto m (f *ℤ x) (f *ℤ pos 0) (pos 0) (IsCongruent-mul m f x (pos 0) h) (*ℤ-zero f)

pub IsCongruent-drop : (m x z : ℤ) → IsCongruent m (x +ℤ z) (pos 0) → IsCongruent m z (pos 0) → IsCongruent m x (pos 0)
IsCongruent-drop m x z h k = record {
  factor = h.factor +ℤ neg_ℤ k.factor;
  is =
      let s : (h.factor +ℤ neg_ℤ k.factor) *ℤ m ≡ h.factor *ℤ m +ℤ neg_ℤ k.factor *ℤ m = add-mul h.factor (neg_ℤ k.factor) m in
      let n : neg_ℤ k.factor *ℤ m ≡ neg_ℤ (k.factor *ℤ m) = neg-mul k.factor m in
      let e : x +ℤ z ≡ pos 0 +ℤ h.factor *ℤ m = h.is in
      let f : z ≡ pos 0 +ℤ k.factor *ℤ m = k.is in
      omega (arith, ints);
}

-- a row of which each number is a multiple of m
pub vanishes_zero : (m : ℕ) (a : List ℤ) (xs : List ℕ) (i : ℕ) → ((j : ℕ) → j < length a → IsCongruent (pos m) (pos (slice_index xs (i + j))) (pos 0)) → Vanishes m a xs i
vanishes_zero m a xs i h = IsCongruent-onto (pos m) _ _ _ (weighted_congruent (pos m) a (numbers_from xs i) (λ j. pos 0 *ℤ pos 0) h) (weighted_times a (pos 0) (λ _. pos 0) ∙ zero-*ℤ (weighted a (λ _. pos 0)))

-- the same numbers elsewhere
pub vanishes_same : (m : ℕ) (a : List ℤ) (xs ys : List ℕ) (i k : ℕ) → ((j : ℕ) → j < length a → slice_index xs (i + j) ≡ slice_index ys (k + j)) → Vanishes m a ys k → Vanishes m a xs i
vanishes_same m a xs ys i k h v = IsCongruent-then (pos m) _ _ _ (IsCongruent-same (pos m) _ _ (weighted-same a (numbers_from xs i) (numbers_from ys k) (λ j lt. ap pos (h j lt)))) v

-- a row that is a multiple of another, modulo m
pub vanishes_multiple : (m f : ℕ) (a : List ℤ) (xs ys : List ℕ) (i k : ℕ) → ((j : ℕ) → j < length a → IsCongruent (pos m) (pos (slice_index xs (i + j))) (pos (f * slice_index ys (k + j)))) → Vanishes m a ys k → Vanishes m a xs i
vanishes_multiple m f a xs ys i k h v =
    IsCongruent-then (pos m) _ _ _ (weighted_congruent (pos m) a (numbers_from xs i) (λ j. pos f *ℤ numbers_from ys k j) (λ j lt. IsCongruent-onto (pos m) _ _ _ (h j lt) (sym (pos-*ℤ-pos f (slice_index ys (k + j))))))
    (IsCongruent-then (pos m) _ _ _ (IsCongruent-same (pos m) _ _ (weighted_times a (pos f) (numbers_from ys k))) (times_zero (pos m) (pos f) _ v))

-- a row that lacks a multiple of another
pub vanishes_before : (m f : ℕ) (a : List ℤ) (xs ys zs : List ℕ) (k : ℕ) → ((j : ℕ) → j < length a → IsCongruent (pos m) (pos (slice_index zs j)) (pos (slice_index xs j + f * slice_index ys (k + j)))) → Vanishes m a zs 0 → Vanishes m a ys k → Vanishes m a xs 0
vanishes_before m f a xs ys zs k h v w =
    let both : ℕ → ℤ = λ j. numbers_from xs 0 j +ℤ pos f *ℤ numbers_from ys k j in
    let sum : IsCongruent (pos m) (weighted a (numbers_from zs 0)) (weighted a both) =
    weighted_congruent (pos m) a (numbers_from zs 0) both (λ j lt.
    IsCongruent-then (pos m) _ _ _ (IsCongruent-same (pos m) _ _ (ap (λ n. pos (slice_index zs n)) (let e : 0 + j ≡ j = omega arith in e)))
    (IsCongruent-onto (pos m) _ _ _ (h j lt) (let p = pos-*ℤ-pos f (slice_index ys (k + j)) in let q = ap (λ n. pos (slice_index xs n)) (let e : j ≡ 0 + j = omega arith in e) in omega (arith, ints)))) in
    let apart : weighted a both ≡ weighted a (numbers_from xs 0) +ℤ pos f *ℤ weighted a (numbers_from ys k) =
    weighted-add a (numbers_from xs 0) (λ j. pos f *ℤ numbers_from ys k j) ∙ ap (λ x. weighted a (numbers_from xs 0) +ℤ x) (weighted_times a (pos f) (numbers_from ys k)) in
    IsCongruent-drop (pos m) (weighted a (numbers_from xs 0)) (pos f *ℤ weighted a (numbers_from ys k))
    (IsCongruent-then (pos m) _ _ _ (IsCongruent-same (pos m) _ _ (sym apart)) (IsCongruent-then (pos m) _ _ _ (IsCongruent-back (pos m) _ _ sum) v))
    (times_zero (pos m) (pos f) _ w)

-- the rest is the one number below m that is congruent
pub rest_is : (m x y : ℕ) → y < m → IsCongruent (pos m) (pos x) (pos y) → x % m ≡ y
rest_is m x y lt h = by_factor h.factor h.is
  where
    by_factor : (k : ℤ) → pos x ≡ pos y +ℤ k *ℤ pos m → x % m ≡ y
    by_factor (pos k) e =
        let p = pos-*ℤ-pos k m in
        let q : x ≡ y + k * m = omega (arith, ints) in
        ap (λ z. z % m) q ∙ add-mul-mod_self_right y k m ∙ mod-eq_of_lt lt
    by_factor (negsuc k) e =
        let p = negsuc-*ℤ-pos k m in
        absurd (omega (arith, ints))

pub plus_congruent : (m x y z : ℕ) → IsCongruent (pos m) (pos x) (pos y) → IsCongruent (pos m) (pos (x + z)) (pos (y + z))
plus_congruent m x y z h = IsCongruent-add (pos m) (pos x) (pos y) (pos z) (pos z) h (IsCongruent-same (pos m) (pos z) (pos z) refl)

pub congruent_same : (m x y : ℕ) → x ≡ y → IsCongruent (pos m) (pos x) (pos y)
congruent_same m x y e = IsCongruent-same (pos m) (pos x) (pos y) (ap pos e)

-- a row's places lie apart from another's
pub place_before : (w c d j : ℕ) → c < d → j < w → c * w + j < d * w
place_before w c d j lt below = omega (arith, mul-add-lt c w j d lt below)

pub place_after : (w c d j : ℕ) → d < c → d * w + w ≤ c * w + j
place_after w c d j lt = omega (arith, row_fits d w c w lt (omega arith))

-- scaled by the inverse of its lead, and back
pub scaled_back : (m lead s x : ℕ) → IsCongruent (pos m) (pos (s * lead)) (pos 1) → IsCongruent (pos m) (pos x) (pos (lead * (x % m * s % m)))
scaled_back m lead s x h =
    IsCongruent-back (pos m) _ _
    (IsCongruent-then (pos m) _ (pos (lead * (x % m * s))) _ (times_congruent m lead (x % m * s % m) (x % m * s) (rest_congruent m (x % m * s)))
    (IsCongruent-then (pos m) _ (pos (x % m * (s * lead))) _ (congruent_same m _ _ (omega arith))
    (IsCongruent-then (pos m) _ (pos (x % m * 1)) _ (times_congruent m (x % m) (s * lead) 1 h)
    (IsCongruent-then (pos m) _ (pos (x % m)) _ (congruent_same m _ _ (omega arith)) (rest_congruent m x)))))

-- a row's place in the basis that was written
row_other : (w k d j : ℕ) (old new : List ℕ) (f : ℕ → ℕ) → Replaces w (k * w) old new f → d ≢ k → j < w → slice_index new (d * w + j) ≡ slice_index old (d * w + j)
row_other w k d j old new f r ne lt = ⊎_elim
    (λ low. r.before (d * w + j) (place_before w d k j low lt))
    (λ high. r.after (d * w + j) (place_after w d k j (omega arith)))
    (cases_lt d k)

row_same : (w k d j : ℕ) (old new : List ℕ) (f : ℕ → ℕ) → Replaces w (k * w) old new f → d ≡ k → j < w → slice_index new (d * w + j) ≡ f j
row_same w k d j old new f r e lt = ap (λ i. slice_index new (i * w + j)) e ∙ r.written j lt

new_below : (m w k : ℕ) (old new : List ℕ) (f : ℕ → ℕ) → Replaces w (k * w) old new f → ((j : ℕ) → f j < m) → ((i : ℕ) → slice_index old i < m) → (i : ℕ) → slice_index new i < m
new_below m w k old new f r small h i =
    let P : ℕ → Type 0 = λ x. x < m in
    ⊎_elim (λ low. subst P (sym (r.before i low)) (h i))
    (λ high. ⊎_elim (λ inside. subst P (sym (ap (slice_index new) (let e : i ≡ k * w + (i - k * w) = omega arith in e) ∙ r.written (i - k * w) (omega arith))) (small (i - k * w)))
    (λ above. subst P (sym (r.after i above)) (h i)) (cases_lt i (k * w + w)))
    (cases_lt i (k * w))

pub placed_basis : (m w k : ℕ) (old new kept : List ℕ) (f : ℕ → ℕ) → IsBasis m w old kept → k < w → length new ≡ length old → Replaces w (k * w) old new f
    → ((j : ℕ) → f j < m) → ((j : ℕ) → j < k → f j ≡ 0) → f k ≡ 1 → IsBasis m w new (set kept k 1)
placed_basis m w k old new kept f b lt len r small none one =
    let kept_len = length-set kept k 1 in
    let b_len = b.len in
    let b_kept = b.kept_len in
    record {
      len = omega arith;
      kept_len = omega arith;
      below = new_below m w k old new f r small b.below;
      before = λ d j d_lt j_lt. ⊎_elim
          (λ same. row_same w k d j old new f r same (omega arith) ∙ none j (omega arith))
          (λ other. row_other w k d j old new f r other (omega arith) ∙ b.before d j d_lt j_lt)
          (cases_eq d k);
      pivot = λ d d_lt is. ⊎_elim
          (λ same. row_same w k d d old new f r same d_lt ∙ ap f same ∙ one)
          (λ other. row_other w k d d old new f r other d_lt ∙ b.pivot d d_lt (sym (get_or-set_other kept k d 1 0 other) ∙ is))
          (cases_eq d k);
      counts = λ d. let P : ℕ → Type 0 = λ x. x ≤ 1 in ⊎_elim
          (λ same. let in_range : k < length kept = omega arith in let e : slice_index (set kept k 1) d ≡ 1 = ap (slice_index (set kept k 1)) same ∙ get_or-set_same kept k 1 0 in_range in omega arith)
          (λ other. subst P (sym (get_or-set_other kept k d 1 0 other)) (b.counts d))
          (cases_eq d k);
    }

pub placed_keeps : (m w k : ℕ) (old new kept : List ℕ) (f : ℕ → ℕ) (a : List ℤ) → slice_index kept k ≡ 0 → Replaces w (k * w) old new f → length a ≡ w
    → VanishesAtEach m w new (set kept k 1) a → VanishesAtEach m w old kept a
placed_keeps m w k old new kept f a free r len h d lt one =
    let ne : d ≢ k = λ e. let o = ap (slice_index kept) e in absurd (omega arith) in
    vanishes_same m a old new (d * w) (d * w) (λ j below. sym (row_other w k d j old new f r ne (omega arith)))
    (h d lt (get_or-set_other kept k d 1 0 ne ∙ one))

pub placed_follows : (m w k lead : ℕ) (row new kept : List ℕ) (a : List ℤ) → k < w → length kept ≡ w → length a ≡ w
    → ((j : ℕ) → j < w → IsCongruent (pos m) (pos (slice_index row j)) (pos (lead * slice_index new (k * w + j))))
    → VanishesAtEach m w new (set kept k 1) a → Vanishes m a row 0
placed_follows m w k lead row new kept a lt kept_len len h v =
    let in_range : k < length kept = omega arith in
    vanishes_multiple m lead a row new 0 (k * w)
    (λ j below. IsCongruent-then (pos m) _ _ _ (congruent_same m _ _ (ap (slice_index row) (let e : 0 + j ≡ j = omega arith in e))) (h j (omega arith)))
    (v k lt (get_or-set_same kept k 1 0 in_range))

-- How far a row is cleared: its columns before c, by so many steps since it was last reduced
pub record IsCleared (m : ℕ) (basis kept start : List ℕ) (c : ℕ) (row : List ℕ) (steps : ℕ) : Type 0 where
  pub cleared : (j : ℕ) → j < c → IsZeroAt m row j
  pub follows : (a : List ℤ) → length a ≡ length start → VanishesAtEach m (length start) basis kept a → Vanishes m a row 0 → Vanishes m a start 0
  pub unreduced : IsUnreduced steps row

pub zero_rest : (m x : ℕ) → x % m ≡ 0 → IsCongruent (pos m) (pos x) (pos 0)
zero_rest m x e = congruent_by m x 0 (x / m) (omega arith)

-- a row that a basis keeps
pub kept_row : (m w c : ℕ) (basis kept : List ℕ) → IsBasis m w basis kept → c < w → slice_index kept c ≡ 1 → IsKeptRow m w c basis
kept_row m w c basis kept b lt one = record { len = b.len; below = b.below; before = λ j below. b.before c j lt below; pivot = b.pivot c lt one }

-- the same facts of equal things
pub moved_basis : (m w v : ℕ) (basis old kept was : List ℕ) → w ≡ v → basis ≡ old → kept ≡ was → IsBasis m v old was → IsBasis m w basis kept
moved_basis m w v basis old kept was e f g h =
    subst (λ (n : ℕ). IsBasis m n basis kept) (sym e) (subst (λ (xs : List ℕ). IsBasis m v xs kept) (sym f) (subst (λ (xs : List ℕ). IsBasis m v old xs) (sym g) h))

pub moved_each : (m w v : ℕ) (basis old kept was : List ℕ) (a : List ℤ) → w ≡ v → basis ≡ old → kept ≡ was → VanishesAtEach m w basis kept a → VanishesAtEach m v old was a
moved_each m w v basis old kept was a e f g h =
    let P : ℕ → Type 0 = λ n. VanishesAtEach m n old was a in
    let Q : List ℕ → Type 0 = λ xs. VanishesAtEach m w xs was a in
    let R : List ℕ → Type 0 = λ xs. VanishesAtEach m w basis xs a in
    subst P e (subst Q f (subst R g h))

pub moved_cleared : (m : ℕ) (basis kept start : List ℕ) (c : ℕ) (row new : List ℕ) (steps taken : ℕ) → row ≡ new → steps ≡ taken → IsCleared m basis kept start c new taken → IsCleared m basis kept start c row steps
moved_cleared m basis kept start c row new steps taken e f h =
    let P : List ℕ → Type 0 = λ xs. IsCleared m basis kept start c xs steps in
    let Q : ℕ → Type 0 = λ n. IsCleared m basis kept start c new n in
    subst P (sym e) (subst Q (sym f) h)
