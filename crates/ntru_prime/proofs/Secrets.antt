-- Whether bytes are a secret key, by what the code tests.
use Rattle.std.proofs.Math.Bool.{and-false}
use Rattle.std.proofs.Common.{◌≡◌, refl, ap, ap₂, sym, ◌∙◌, ℕ, true, false, ◌&&◌, cond, Option, Some, None, is_some, List, ℤ, nat_eq}
use Rattle.std.specs.Option.{option_and_then}
use Rattle.std.specs.Cmp.Lexicographic.{pointwise, bytes_decides}
use Rattle.ntru_model.specs.Parameters.{Parameters}
use Rattle.ntru_model.specs.Pairs.{KeyPair, fields_read, is_tested, secret_key, secret_read}
use Rattle.ntru_prime.specs.Keys.{is_secret}
use Rattle.ntru_prime.specs.Sets.{pair_with}

abbrev when_tested : Parameters → List ℕ → KeyPair → Option KeyPair
when_tested s bytes pair = cond (is_tested s pair && pointwise nat_eq (secret_key s pair) bytes) (Some pair) None

abbrev IsOff : Parameters → List ℕ → Type 0
IsOff s bytes = (false ≡ true → is_secret s bytes ≡ true) × (is_secret s bytes ≡ true → false ≡ true)

off_by : (s : Parameters) (bytes : List ℕ) → secret_read s bytes ≡ None → IsOff s bytes
unfolding is_secret
off_by s bytes e = ((λ clash. ap is_some e ∙ clash), (λ there. sym (ap is_some e) ∙ there))

pub off_fields : (s : Parameters) (bytes : List ℕ) → None ≡ fields_read s bytes → IsOff s bytes
unfolding secret_read
off_fields s bytes e = off_by s bytes (ap (option_and_then (when_tested s bytes)) (sym e))

pub off_test : (s : Parameters) (bytes : List ℕ) (pair : KeyPair) → Some pair ≡ fields_read s bytes → false ≡ is_tested s pair → IsOff s bytes
unfolding secret_read
off_test s bytes pair e t =
    off_by s bytes (ap (option_and_then (when_tested s bytes)) (sym e) ∙ ap (λ b. cond (b && pointwise nat_eq (secret_key s pair) bytes) (Some pair) None) (sym t))

pub off_same : (s : Parameters) (bytes again : List ℕ) (pair : KeyPair) → Some pair ≡ fields_read s bytes → again ≡ secret_key s pair → pointwise nat_eq again bytes ≡ false → IsOff s bytes
unfolding secret_read
off_same s bytes again pair e ea t =
    off_by s bytes (ap (option_and_then (when_tested s bytes)) (sym e)
    ∙ ap (λ b. cond (is_tested s pair && b) (Some pair) None) (ap (λ a. pointwise nat_eq a bytes) (sym ea) ∙ t)
    ∙ ap (λ b. cond b (Some pair) None) (and-false (is_tested s pair)))

pub on_read : (s : Parameters) (bytes again : List ℕ) (pair : KeyPair) → Some pair ≡ fields_read s bytes → true ≡ is_tested s pair → again ≡ secret_key s pair → pointwise nat_eq again bytes ≡ true → secret_read s bytes ≡ Some pair
unfolding secret_read
on_read s bytes again pair e t ea same =
    ap (option_and_then (when_tested s bytes)) (sym e)
    ∙ ap₂ (λ a b. cond (a && b) (Some pair) None) (sym t) (ap (λ a. pointwise nat_eq a bytes) (sym ea) ∙ same)

-- bytes that are read are a secret key
pub on_secret : (s : Parameters) (bytes : List ℕ) (pair : KeyPair) → secret_read s bytes ≡ Some pair
    → (true ≡ true → is_secret s bytes ≡ true) × (is_secret s bytes ≡ true → true ≡ true)
unfolding is_secret
on_secret s bytes pair e = ((λ _. ap is_some e), (λ _. refl))

pub same_bytes : (xs ys : List ℕ) → pointwise nat_eq xs ys ≡ true → xs ≡ ys
same_bytes xs ys h = (bytes_decides xs ys).0 h

-- equal polynomials are tested alike, and have the same secret key
pub tested_same : (s : Parameters) (f f' g g' h h' : List ℤ) (rho : List ℕ) → f ≡ f' → g ≡ g' → h ≡ h'
    → is_tested s (record { f = f; g_inverse = g; h = h; rho = rho }) ≡ is_tested s (record { f = f'; g_inverse = g'; h = h'; rho = rho })
tested_same s f f' g g' h h' rho ef eg eh =
    ap (λ x. is_tested s (record { f = x; g_inverse = g; h = h; rho = rho })) ef
    ∙ ap (λ x. is_tested s (record { f = f'; g_inverse = x; h = h; rho = rho })) eg
    ∙ ap (λ x. is_tested s (record { f = f'; g_inverse = g'; h = x; rho = rho })) eh

pub key_same : (s : Parameters) (f f' g g' h h' : List ℤ) (rho rho' : List ℕ) → f ≡ f' → g ≡ g' → h ≡ h' → rho ≡ rho'
    → secret_key s (record { f = f; g_inverse = g; h = h; rho = rho }) ≡ secret_key s (record { f = f'; g_inverse = g'; h = h'; rho = rho' })
key_same s f f' g g' h h' rho rho' ef eg eh er =
    ap (λ x. secret_key s (record { f = x; g_inverse = g; h = h; rho = rho })) ef
    ∙ ap (λ x. secret_key s (record { f = f'; g_inverse = x; h = h; rho = rho })) eg
    ∙ ap₂ (λ x y. secret_key s (record { f = f'; g_inverse = g'; h = x; rho = y })) eh er

-- a pair that was read, by the names of its parts
pub read_as : (s s' : Parameters) (secret again : List ℕ) (f f' g g' h h' : List ℤ) → s' ≡ s → again ≡ secret → f' ≡ f → g' ≡ g → h' ≡ h
    → secret_read s secret ≡ Some (pair_with s f g h secret) → secret_read s' again ≡ Some (pair_with s' f' g' h' again)
read_as s s' secret again f f' g g' h h' es ea ef eg eh read =
    ap₂ (λ x b. secret_read x b) es ea ∙ read
    ∙ ap₂ (λ x b. Some (pair_with x f g h b)) (sym es) (sym ea)
    ∙ ap (λ a. Some (pair_with s' a g h again)) (sym ef)
    ∙ ap₂ (λ a b. Some (pair_with s' f' a b again)) (sym eg) (sym eh)
