-- Encapsulation and decapsulation by the values that the code computes.
use Rattle.std.proofs.Common.{◌≡◌, ap, ap₂, sym, ◌∙◌, ℕ, Bool, true, false, not, Option, Some, None, is_some, List, ◌++◌, map, All, ℤ, unsigned_abs}
use Rattle.std.specs.Option.{option_map}
use Rattle.ring_poly.specs.Ring.{AreCongruent, AreRounded, IsCentred, product}
use Rattle.ntru_codec.specs.Small.{small_encoding}
use Rattle.ntru_model.specs.Parameters.{Parameters}
use Rattle.kem_trait.specs.Streams.{Stream}
use Rattle.ntru_model.specs.Draws.{short_draw}
use Rattle.ntru_model.specs.Residues.{nearest_triple, product_mod}
use Rattle.ntru_model.specs.Encodings.{public_read, rounded_encoding}
use Rattle.ntru_model.specs.Pairs.{hash}
use Rattle.ntru_model.specs.Encapsulation.{cipher_of, key_of, encapsulated, encapsulation}
use Rattle.ntru_model.proofs.Residues.{nearest_list}
use Rattle.ntru_model.proofs.Sets.{is_set}
use Rattle.ntru_model.proofs.Bytes.{from_public_read}
use Rattle.ntru_prime.specs.Sets.{IsSet, set_of}
use Rattle.ntru_prime.specs.Keys.{is_public}
use Rattle.ntru_prime.proofs.Sums.{from_natural, product_by}

-- the ciphertext of r
pub cipher_by : {p : ℕ} {q : ℤ} {w : ℕ} → IsSet p q w → (h r out rounded : List ℤ) (core rest confirm : List ℕ)
    → All (IsCentred q) out → AreCongruent q out (product p h r) → AreRounded out rounded
    → core ≡ rounded_encoding (set_of p q w) rounded → rest ≡ confirm
    → core ++ rest ≡ rounded_encoding (set_of p q w) (map nearest_triple (product_mod p (unsigned_abs q) h r)) ++ confirm
cipher_by {p} {q} {w} set h r out rounded core rest confirm centred congruent near is same =
    ap₂ (λ a b. a ++ b) (is ∙ ap (rounded_encoding (set_of p q w)) (sym (nearest_list out rounded near) ∙ ap (map nearest_triple) (product_by set h r out centred congruent))) same

-- a reader that answered
pub read_some : {A : Type 0} (o : Option (Unit {0})) (a : A) (b : Bool) (x : Option A) → is_some o ≡ not b → b ≡ false → option_map (λ _. a) o ≡ x → Some a ≡ x
read_some (Some u) a b x e h is = is
read_some None a b x e h is = let clash : false ≡ true = e ∙ ap not h in cc

pub read_none : {A : Type 0} (o : Option (Unit {0})) (a : A) (b : Bool) (x : Option A) → is_some o ≡ not b → b ≡ true → option_map (λ _. a) o ≡ x → None ≡ x
read_none (Some u) a b x e h is = let clash : true ≡ false = e ∙ ap not h in cc
read_none None a b x e h is = is

-- a public key is read
pub public_is_read : (s : Parameters) (public : List ℕ) → is_public s public ≡ true → None ≡ public_read s public → ⊥
unfolding is_public
public_is_read s public h none = let clash : false ≡ true = ap is_some none ∙ h in cc

pub public_centred : {p : ℕ} {q : ℤ} {w : ℕ} → IsSet p q w → (public : List ℕ) (h : List ℤ) → Some h ≡ public_read (set_of p q w) public → All (IsCentred q) h
public_centred {p} {q} {w} set public h e = from_natural set h (from_public_read (set_of p q w) public h (is_set (set_of p q w) set.known) (sym e)).1

-- what is encapsulated
pub encapsulated_by : {p : ℕ} {q : ℤ} {w : ℕ} → IsSet p q w → (public : List ℕ) (words : Stream) (h r : List ℤ) (digest confirm cipher key : List ℕ)
    → Some h ≡ public_read (set_of p q w) public → r ≡ short_draw p w words → digest ≡ hash 3 (small_encoding r) → confirm ≡ hash 2 (digest ++ hash 4 public)
    → cipher ≡ rounded_encoding (set_of p q w) (map nearest_triple (product_mod p (unsigned_abs q) h r)) ++ confirm → key ≡ hash 1 (digest ++ cipher)
    → encapsulated (set_of p q w) public words ≡ Some (record { cipher = cipher; key = key })
unfolding encapsulated cipher_of
encapsulated_by {p} {q} {w} set public words h r digest confirm cipher key read drawn digested confirmed ciphered keyed =
    let whole : cipher ≡ cipher_of (set_of p q w) h public r = ciphered ∙ ap (λ c. rounded_encoding (set_of p q w) (map nearest_triple (product_mod p (unsigned_abs q) h r)) ++ c) (confirmed ∙ ap (λ d. hash 2 (d ++ hash 4 public)) digested) in
    let its_key : key ≡ key_of r cipher = keyed ∙ ap (λ d. hash 1 (d ++ cipher)) digested in
    ap (option_map (λ a. encapsulation (set_of p q w) a public (short_draw p w words))) (sym read)
    ∙ ap (λ a. Some (record { cipher = cipher_of (set_of p q w) h public a; key = key_of a (cipher_of (set_of p q w) h public a) })) (sym drawn)
    ∙ ap₂ (λ a b. Some (record { cipher = a; key = b })) (sym whole) (sym (its_key ∙ ap (key_of r) whole))
