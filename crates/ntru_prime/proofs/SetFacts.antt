-- What holds of the lengths of both sets.
use Rattle.std.proofs.Common.{◌≡◌, refl, subst, sym, ℕ, ◌≤◌, ℤ, pos, arith, rules, ⊎_elim, Option, Some, None, is_some}
use Rattle.std.specs.Option.{option_map}
use Rattle.ntru_model.specs.Parameters.{public_len, core_len, cipher_len}
use Rattle.ntru_model.proofs.Counts.{large_public, large_core, little_public, little_core}
use Rattle.ntru_prime.specs.Sets.{IsSet, set_of}

pub public_few : (p : ℕ) (q : ℤ) (w : ℕ) → IsSet p q w → public_len (set_of p q w) ≤ 1158
public_few p q w set =
    ⊎_elim (λ e. subst (λ s. public_len s ≤ 1158) (sym e) (let k = large_public in omega arith))
    (λ e. subst (λ s. public_len s ≤ 1158) (sym e) (let k = little_public in omega arith)) set.known

pub core_few : (p : ℕ) (q : ℤ) (w : ℕ) → IsSet p q w → core_len (set_of p q w) ≤ 1007
core_few p q w set =
    ⊎_elim (λ e. subst (λ s. core_len s ≤ 1007) (sym e) (let k = large_core in omega arith))
    (λ e. subst (λ s. core_len s ≤ 1007) (sym e) (let k = little_core in omega arith)) set.known

pub public_few_by : {p : ℕ} {q : ℤ} {w : ℕ} → IsSet p q w → (n : ℕ) → n ≡ public_len (set_of p q w) → n ≤ 1158
public_few_by {p} {q} {w} set n e = subst (λ k. k ≤ 1158) (sym e) (public_few p q w set)

pub cipher_few : {p : ℕ} {q : ℤ} {w : ℕ} → IsSet p q w → (n : ℕ) → n ≡ cipher_len (set_of p q w) → n ≤ 1039
cipher_few {p} {q} {w} set n e = subst (λ k. k ≤ 1039) (sym e) (let few = core_few p q w set in omega arith)

pub large_set : IsSet 761 (pos 4591) 286
large_set = search rules

pub little_set : IsSet 37 (pos 127) 7
little_set = search rules

-- a function keeps whether a value is there
pub is_some-map : {A B : Type 0} (f : A → B) (o : Option A) → is_some o ≡ is_some (option_map f o)
is_some-map f (Some a) = refl
is_some-map f None = refl
