-- What a tested pair holds, and what decapsulation by it gives.
use Rattle.std.proofs.Common.{◌≡◌, refl, ap, ap₂, sym, subst, ◌∙◌, ℕ, ◌+◌, ◌-◌, Bool, true, false, cond, Some, None, List, ◌++◌, length, map, take, drop, replicate, All, ℤ, pos, nat_eq, unsigned_abs, inl, inr}
use Rattle.std.specs.List.{count_by}
use Rattle.std.specs.Option.{option_map, option_and_then}
use Rattle.std.specs.Cmp.Lexicographic.{pointwise}
use Rattle.std.proofs.lemmas.List.Elements.{All-same, All-append, All-replicate}
use Rattle.ring_poly.specs.Ring.{IsCentred}
use Rattle.ring_laws.specs.Laws.{is_nonzero, multiple_of}
use Rattle.ntru_codec.specs.Small.{IsSmall, small_encoding}
use Rattle.ntru_model.specs.Parameters.{core_len, secret_len, small_len, public_len}
use Rattle.ntru_model.specs.Residues.{centred, nearest_triple, product_mod}
use Rattle.ntru_model.specs.Encodings.{rounded_encoding, rounded_read}
use Rattle.ntru_model.specs.Pairs.{hash, public_key, secret_read}
use Rattle.ntru_model.specs.Encapsulation.{answer, cipher_of, decapsulated, decapsulated_by, r_found, r_of}
use Rattle.ntru_model.proofs.Sets.{is_set}
use Rattle.ntru_model.proofs.Bytes.{from_rounded_read}
use Rattle.ntru_model.proofs.Small.{all_centred_within, all_within_small, all_within_centred}
use Rattle.ntru_model.proofs.Tested.{IsTested, HasParts, tested_from_read, parts_from_read, rho_from_read, length-secret}
use Rattle.ntru_prime.specs.Sets.{IsSet, parameters, set_of, pair_with}
use Rattle.ntru_prime.proofs.Sums.{from_natural}

module _ {p : ℕ} {q : ℤ} {w : ℕ} (set : IsSet p q w) (f g h : List ℤ) (secret : List ℕ) (e : secret_read (parameters p) secret ≡ Some (pair_with (parameters p) f g h secret)) where
  pub pair_read : secret_read (set_of p q w) secret ≡ Some (pair_with (set_of p q w) f g h secret)
  pair_read = subst (λ s. secret_read s secret ≡ Some (pair_with s f g h secret)) set.named e

  pub pair_tested : IsTested (set_of p q w) (pair_with (set_of p q w) f g h secret)
  pair_tested = (tested_from_read (set_of p q w) secret (pair_with (set_of p q w) f g h secret) (is_set (set_of p q w) set.known) pair_read).0

  pub pair_parts : HasParts (set_of p q w) (pair_with (set_of p q w) f g h secret) secret
  pair_parts = parts_from_read (set_of p q w) secret (pair_with (set_of p q w) f g h secret) (is_set (set_of p q w) set.known) pair_read

  pub pair_len : length secret ≡ secret_len (set_of p q w)
  pair_len =
      let s = is_set (set_of p q w) set.known in
      let t = tested_from_read (set_of p q w) secret (pair_with (set_of p q w) f g h secret) s pair_read in
      ap length (sym t.1) ∙ length-secret (set_of p q w) (pair_with (set_of p q w) f g h secret) s t.0 (rho_from_read (set_of p q w) secret (pair_with (set_of p q w) f g h secret) s pair_read)

  pub f_small : (a : List ℤ) → a ≡ f → All IsSmall a
  f_small a is = All-same IsSmall a f is (all_within_small f pair_tested.f_short.small)

  pub g_centred : (a : List ℤ) → a ≡ g → All (IsCentred (pos 3)) a
  g_centred a is = All-same (IsCentred (pos 3)) a g is (all_within_centred g pair_tested.inverse_small)

  pub h_centred : (a : List ℤ) → a ≡ h → All (IsCentred q) a
  h_centred a is = All-same (IsCentred q) a h is (from_natural set h pair_tested.h_centred)

  -- the key of r, by the code's test
  pub key_there : (r : List ℤ) (cipher digest confirm cache again key : List ℕ) (hs : List ℤ) (t : Bool)
      → hs ≡ h → digest ≡ hash 3 (small_encoding r) → cache ≡ hash 4 (public_key (set_of p q w) (pair_with (set_of p q w) f g h secret)) → confirm ≡ hash 2 (digest ++ cache)
      → again ≡ rounded_encoding (set_of p q w) (map nearest_triple (product_mod p (unsigned_abs q) hs r)) ++ confirm
      → t ≡ pointwise nat_eq again cipher → t ≡ true → key ≡ hash 1 (digest ++ cipher)
      → key ≡ answer (set_of p q w) (pair_with (set_of p q w) f g h secret) cipher r
  unfolding cipher_of
  key_there r cipher digest confirm cache again key hs t eh ed ec ef ea et holds ek =
      let whole : again ≡ cipher_of (set_of p q w) h (public_key (set_of p q w) (pair_with (set_of p q w) f g h secret)) r =
      ea ∙ ap₂ (λ a b. rounded_encoding (set_of p q w) (map nearest_triple (product_mod p (unsigned_abs q) a r)) ++ b) eh (ef ∙ ap₂ (λ a b. hash 2 (a ++ b)) ed ec) in
      let test : pointwise nat_eq (cipher_of (set_of p q w) h (public_key (set_of p q w) (pair_with (set_of p q w) f g h secret)) r) cipher ≡ true = ap (λ a. pointwise nat_eq a cipher) (sym whole) ∙ sym et ∙ holds in
      ek ∙ ap (λ a. hash 1 (a ++ cipher)) ed
      ∙ sym (ap (λ b. cond b (hash 1 (hash 3 (small_encoding r) ++ cipher)) (hash 0 (hash 3 (take (small_len (set_of p q w)) (drop (small_len (set_of p q w) + small_len (set_of p q w) + public_len (set_of p q w)) secret)) ++ cipher))) test)

  pub key_refused : (r : List ℤ) (cipher digest confirm cache again rho_hash rho key : List ℕ) (hs : List ℤ) (t : Bool)
      → hs ≡ h → digest ≡ hash 3 (small_encoding r) → cache ≡ hash 4 (public_key (set_of p q w) (pair_with (set_of p q w) f g h secret)) → confirm ≡ hash 2 (digest ++ cache)
      → again ≡ rounded_encoding (set_of p q w) (map nearest_triple (product_mod p (unsigned_abs q) hs r)) ++ confirm
      → t ≡ pointwise nat_eq again cipher → t ≡ false
      → rho ≡ take (small_len (set_of p q w)) (drop (small_len (set_of p q w) + small_len (set_of p q w) + public_len (set_of p q w)) secret) → rho_hash ≡ hash 3 rho → key ≡ hash 0 (rho_hash ++ cipher)
      → key ≡ answer (set_of p q w) (pair_with (set_of p q w) f g h secret) cipher r
  unfolding cipher_of
  key_refused r cipher digest confirm cache again rho_hash rho key hs t eh ed ec ef ea et fails er eq ek =
      let whole : again ≡ cipher_of (set_of p q w) h (public_key (set_of p q w) (pair_with (set_of p q w) f g h secret)) r =
      ea ∙ ap₂ (λ a b. rounded_encoding (set_of p q w) (map nearest_triple (product_mod p (unsigned_abs q) a r)) ++ b) eh (ef ∙ ap₂ (λ a b. hash 2 (a ++ b)) ed ec) in
      let test : pointwise nat_eq (cipher_of (set_of p q w) h (public_key (set_of p q w) (pair_with (set_of p q w) f g h secret)) r) cipher ≡ false = ap (λ a. pointwise nat_eq a cipher) (sym whole) ∙ sym et ∙ fails in
      ek ∙ ap (λ a. hash 0 (a ++ cipher)) (eq ∙ ap (hash 3) er)
      ∙ sym (ap (λ b. cond b (hash 1 (hash 3 (small_encoding r) ++ cipher)) (hash 0 (hash 3 (take (small_len (set_of p q w)) (drop (small_len (set_of p q w) + small_len (set_of p q w) + public_len (set_of p q w)) secret)) ++ cipher))) test)

  -- what decapsulation answers
  pub decap_none : (n : ℕ) (cipher : List ℕ) → n ≡ core_len (set_of p q w) → None ≡ rounded_read (set_of p q w) (take n cipher) → None ≡ decapsulated_by (set_of p q w) secret cipher
  unfolding decapsulated_by decapsulated
  decap_none n cipher en none =
      let s = set_of p q w in
      let read : None ≡ rounded_read (set_of p q w) (take (core_len (set_of p q w)) cipher) = none ∙ ap (λ k. rounded_read (set_of p q w) (take k cipher)) en in
      sym (ap (option_and_then (λ pair. decapsulated (set_of p q w) pair cipher)) pair_read
      ∙ ap (option_map (λ core. answer (set_of p q w) (pair_with (set_of p q w) f g h secret) cipher (r_of (set_of p q w) (r_found (set_of p q w) (pair_with (set_of p q w) f g h secret) core)))) (sym read))

  pub decap_some : (n : ℕ) (cipher : List ℕ) (core r : List ℤ) (key : List ℕ) → n ≡ core_len (set_of p q w) → Some core ≡ rounded_read (set_of p q w) (take n cipher)
      → r ≡ r_of (set_of p q w) (r_found (set_of p q w) (pair_with (set_of p q w) f g h secret) core)
      → key ≡ answer (set_of p q w) (pair_with (set_of p q w) f g h secret) cipher r → Some key ≡ decapsulated_by (set_of p q w) secret cipher
  unfolding decapsulated_by decapsulated
  decap_some n cipher core r key en some found is =
      let read : Some core ≡ rounded_read (set_of p q w) (take (core_len (set_of p q w)) cipher) = some ∙ ap (λ k. rounded_read (set_of p q w) (take k cipher)) en in
      ap Some (is ∙ ap (answer (set_of p q w) (pair_with (set_of p q w) f g h secret) cipher) found)
      ∙ sym (ap (option_and_then (λ pair. decapsulated (set_of p q w) pair cipher)) pair_read
      ∙ ap (option_map (λ x. answer (set_of p q w) (pair_with (set_of p q w) f g h secret) cipher (r_of (set_of p q w) (r_found (set_of p q w) (pair_with (set_of p q w) f g h secret) x)))) (sym read))

-- r by the products
pub r_by : {p : ℕ} {q : ℤ} {w : ℕ} → IsSet p q w → (f g h : List ℤ) (secret : List ℕ) (core product rest out as_f as_g result : List ℤ)
    → as_f ≡ f → as_g ≡ g → product ≡ product_mod p (unsigned_abs q) (multiple_of (pos 3) as_f) core → rest ≡ map (centred 3) product → out ≡ product_mod p 3 rest as_g → length out ≡ p
    → result ≡ cond (nat_eq (count_by is_nonzero out) w) out (replicate w (pos 1) ++ replicate (length out - w) (pos 0))
    → result ≡ r_of (set_of p q w) (r_found (set_of p q w) (pair_with (set_of p q w) f g h secret) core)
r_by {p} {q} {w} set f g h secret core product rest out as_f as_g result ef eg ep er eo len is =
    is ∙ ap (λ n. cond (nat_eq (count_by is_nonzero out) w) out (replicate w (pos 1) ++ replicate (n - w) (pos 0))) len
    ∙ ap (r_of (set_of p q w)) (eo ∙ ap₂ (λ a b. product_mod p 3 a b) (er ∙ ap (map (centred 3)) (ep ∙ ap (λ t. product_mod p (unsigned_abs q) (multiple_of (pos 3) t) core) ef)) eg)

-- it is small
pub r_small : (w n : ℕ) (t : Bool) (out result : List ℤ) → All (IsCentred (pos 3)) out → result ≡ cond t out (replicate w (pos 1) ++ replicate n (pos 0)) → All IsSmall result
r_small w n t out result centred is =
    All-same IsSmall result (cond t out (replicate w (pos 1) ++ replicate n (pos 0))) is
    (elim t as (λ b. All IsSmall (cond b out (replicate w (pos 1) ++ replicate n (pos 0)))) [
      | true ↦ all_within_small out (all_centred_within out centred)
      | false ↦ All-append IsSmall (replicate w (pos 1)) (replicate n (pos 0)) (All-replicate IsSmall w (pos 1) (inr (inr refl))) (All-replicate IsSmall n (pos 0) (inr (inl refl)))
    ])

-- the polynomial of a ciphertext is centred
pub core_centred : {p : ℕ} {q : ℤ} {w : ℕ} → IsSet p q w → (bytes : List ℕ) (core : List ℤ) → Some core ≡ rounded_read (set_of p q w) bytes → All (IsCentred q) core
core_centred {p} {q} {w} set bytes core e = from_natural set core (from_rounded_read (set_of p q w) bytes core (is_set (set_of p q w) set.known) (sym e)).1
