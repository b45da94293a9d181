-- What holds at each place that a loop has written.
use Rattle.std.proofs.Common.{◌≡◌, ◌≢◌, ℕ, ◌+◌, ◌<◌, List, length, get_or, set, sym, subst, ◌∙◌, arith, get_or-set_other, get_or-set_same, below_more}

-- y is what the code writes, and w the same value without its casts
pub written : {A : Type 0} (P : ℕ → A → Type 0) (xs : List A) (i : ℕ) (y w d : A) → i < length xs → y ≡ w → ((k : ℕ) → k < i → P k (get_or xs k d)) → P i w
    → (k : ℕ) → k < i + 1 → P k (get_or (set xs i y) k d)
written P xs i y w d lt e h here = below_more (λ k. P k (get_or (set xs i y) k d)) i
    (λ k below.
    let ne : k ≢ i = omega arith in
    subst (P k) (sym (get_or-set_other xs i k y d ne)) (h k below))
    (subst (P i) (sym (get_or-set_same xs i y d lt ∙ e)) here)
