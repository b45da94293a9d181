-- What is written of a content is read back, and what is read was written so.
use Rattle.std.proofs.Common.{◌≡◌, ℕ, ◌+◌, ◌^◌, ◌<◌, inl, inr, List, get_or, IsSome, length-drop, take-append-drop, Bool, true, false, ◌&&◌, cond, ◌++◌, length, take, drop, Some, None, refl, sym, ◌∙◌, ap, ap₂, nat_eq, nat_lt, arith, length-append}
use Rattle.std.specs.Int.{w32, to_be_bytes, from_be_bytes}
use Rattle.std.proofs.lemmas.Nat.{from_be_bytes-to_be_bytes_4, be_bytes_4}
use Rattle.std.proofs.lemmas.Bool.{and_from, and_parts, cases_lt}
use Rattle.std.proofs.lemmas.Bool.Decides.{nat_tests}
use Rattle.std.proofs.lemmas.List.{take_at, drop_at, drop-drop, length-take-le, get_or_past}
use Rattle.std.proofs.lemmas.List.Elements.{All-get_or, All-take, All-drop}
use Rattle.kem_trait.specs.declared.kem.Kem.{Ghosts}
use Rattle.group_model.specs.Sets.{Bytes}
use Rattle.group_model.specs.Primitives.{Content}
use Rattle.group_parts.specs.Parts.{AreBytes}
use Rattle.group_parts.specs.Contents.{content_len, is_content, content_bytes, content_in, content_written, content_read}

-- what a test let through
pub let_through : {A : Type 0} (b : Bool) (x y : A) → cond b (Some x) None ≡ Some y → (b ≡ true) × (x ≡ y)
let_through true x y e = (refl, cc)
let_through false x y e = cc

pub length-four : (n : ℕ) → length (to_be_bytes w32 n) ≡ 4
length-four n = refl

pub byte-at : (bs : List ℕ) → AreBytes bs → (i : ℕ) → get_or bs i 0 < 256
byte-at bs h i = elim (cases_lt i (length bs)) [
  | inl k ↦ All-get_or (λ (b : ℕ). b < 256) bs i 0 k h
  | inr k ↦ rw (get_or_past bs i 0 k) (omega arith)
]

module _ {K P : Type 0} (kem : Ghosts K P) where
  -- what the test of a content says
  pub record IsContent (c : Content) : Type 0 where
    pub payload : length c.payload ≡ 32
    pub secret : kem.is_secret c.secret ≡ true
    pub positive : 0 < c.number
    pub fits : c.number < 2 ^ 32
    pub public : kem.is_public c.public ≡ true

  pub content-is : (c : Content) → is_content kem c ≡ true → IsContent c
  content-is c h =
      let a = and_parts (nat_eq (length c.payload) 32) (kem.is_secret c.secret && ((nat_lt 0 c.number && nat_lt c.number (2 ^ 32)) && kem.is_public c.public)) h in
      let b = and_parts (kem.is_secret c.secret) ((nat_lt 0 c.number && nat_lt c.number (2 ^ 32)) && kem.is_public c.public) a.1 in
      let d = and_parts (nat_lt 0 c.number && nat_lt c.number (2 ^ 32)) (kem.is_public c.public) b.1 in
      let f = and_parts (nat_lt 0 c.number) (nat_lt c.number (2 ^ 32)) d.0 in
      record {
        payload = let e : nat_eq (length c.payload) 32 ≡ true = a.0 in grind (arith, nat_tests);
        secret = b.0;
        positive = let e : nat_lt 0 c.number ≡ true = f.0 in grind (arith, nat_tests);
        fits = let e : nat_lt c.number (2 ^ 32) ≡ true = f.1 in grind (arith, nat_tests);
        public = d.1;
      }

  -- the fields of the bytes
  pub content-back : (c : Content) → IsContent c → content_in kem (content_bytes kem c) ≡ c
  content-back c h =
      let S = kem.secrets_have_length c.secret h.secret in
      let four : Bytes = to_be_bytes w32 c.number in
      let n4 : length four ≡ 4 = length-four c.number in
      let rest1 : Bytes = c.secret ++ (four ++ c.public) in
      let d1 : drop 32 (c.payload ++ rest1) ≡ rest1 = drop_at c.payload rest1 32 h.payload in
      let d2 : drop (32 + kem.SECRET_LEN) (c.payload ++ rest1) ≡ four ++ c.public =
      sym (drop-drop kem.SECRET_LEN 32 (c.payload ++ rest1)) ∙ ap (drop kem.SECRET_LEN) d1 ∙ drop_at c.secret (four ++ c.public) kem.SECRET_LEN S in
      let d3 : drop (32 + kem.SECRET_LEN + 4) (c.payload ++ rest1) ≡ c.public =
      sym (drop-drop 4 (32 + kem.SECRET_LEN) (c.payload ++ rest1)) ∙ ap (drop 4) d2 ∙ drop_at four c.public 4 n4 in
      let payload : take 32 (c.payload ++ rest1) ≡ c.payload = take_at c.payload rest1 32 h.payload in
      let secret : take kem.SECRET_LEN (drop 32 (c.payload ++ rest1)) ≡ c.secret =
      ap (take kem.SECRET_LEN) d1 ∙ take_at c.secret (four ++ c.public) kem.SECRET_LEN S in
      let number : from_be_bytes w32 (take 4 (drop (32 + kem.SECRET_LEN) (c.payload ++ rest1))) ≡ c.number =
      ap (λ (z : Bytes). from_be_bytes w32 (take 4 z)) d2 ∙ ap (from_be_bytes w32) (take_at four c.public 4 n4)
      ∙ from_be_bytes-to_be_bytes_4 c.number h.fits in
      rw (payload, secret, number, d3) refl

  pub length-content : (c : Content) → IsContent c → length (content_bytes kem c) ≡ content_len kem
  length-content c h =
      let S = kem.secrets_have_length c.secret h.secret in
      let U = kem.publics_have_length c.public h.public in
      let four : Bytes = to_be_bytes w32 c.number in
      let n4 : length four ≡ 4 = length-four c.number in
      length-append c.payload (c.secret ++ (four ++ c.public))
      ∙ ap₂ (λ (a b : ℕ). a + b) h.payload (length-append c.secret (four ++ c.public)
      ∙ ap₂ (λ (a b : ℕ). a + b) S (length-append four c.public ∙ ap₂ (λ (a b : ℕ). a + b) n4 U))

  pub content_read-written : (c : Content) (bytes : Bytes) → content_written kem c ≡ Some bytes → content_read kem bytes ≡ Some c
  unfolding content_written content_read
  content_read-written c bytes e =
      let t = let_through (is_content kem c) (content_bytes kem c) bytes e in
      let h = content-is c t.0 in
      let back : content_in kem (content_bytes kem c) ≡ c = content-back c h in
      let long : nat_eq (length (content_bytes kem c)) (content_len kem) ≡ true = (let l : length (content_bytes kem c) ≡ content_len kem = length-content c h in rw l (grind (arith, nat_tests))) in
      let bytes_of : Bytes = content_bytes kem c in
      let test : (nat_eq (length bytes_of) (content_len kem) && is_content kem (content_in kem bytes_of)) ≡ true =
      and_from (nat_eq (length bytes_of) (content_len kem)) (is_content kem (content_in kem bytes_of)) long (ap (is_content kem) back ∙ t.0) in
      ap (content_read kem) (sym t.1)
      ∙ (ap (λ (b : Bool). cond b (Some (content_in kem bytes_of)) None) test ∙ ap Some back)

  pub length-written : (c : Content) (bytes : Bytes) → content_written kem c ≡ Some bytes → length bytes ≡ content_len kem
  unfolding content_written
  length-written c bytes e =
      let t = let_through (is_content kem c) (content_bytes kem c) bytes e in
      ap length (sym t.1) ∙ length-content c (content-is c t.0)

  -- whatever passes the tests is written
  pub content-from : (c : Content) → IsContent c → is_content kem c ≡ true
  content-from c h =
      let payload : nat_eq (length c.payload) 32 ≡ true = let e : length c.payload ≡ 32 = h.payload in grind (arith, nat_tests) in
      let positive : nat_lt 0 c.number ≡ true = let e : 0 < c.number = h.positive in grind (arith, nat_tests) in
      let fits : nat_lt c.number (2 ^ 32) ≡ true = let e : c.number < 2 ^ 32 = h.fits in grind (arith, nat_tests) in
      and_from (nat_eq (length c.payload) 32) (kem.is_secret c.secret && ((nat_lt 0 c.number && nat_lt c.number (2 ^ 32)) && kem.is_public c.public)) payload
      (and_from (kem.is_secret c.secret) ((nat_lt 0 c.number && nat_lt c.number (2 ^ 32)) && kem.is_public c.public) h.secret
      (and_from (nat_lt 0 c.number && nat_lt c.number (2 ^ 32)) (kem.is_public c.public)
      (and_from (nat_lt 0 c.number) (nat_lt c.number (2 ^ 32)) positive fits) h.public))

  some_if : (b : Bool) (x : Bytes) → b ≡ true → IsSome (cond b (Some x) None)
  some_if true x e = refl
  some_if false x e = cc

  pub written-from : (c : Content) → IsContent c → IsSome (content_written kem c)
  unfolding content_written
  written-from c h = some_if (is_content kem c) (content_bytes kem c) (content-from c h)

  -- bytes of the right length are the bytes of their fields
  content_bytes-content_in : (bytes : Bytes) → AreBytes bytes → length bytes ≡ content_len kem → content_bytes kem (content_in kem bytes) ≡ bytes
  content_bytes-content_in bytes h n =
      let S : ℕ = kem.SECRET_LEN in
      let rest : Bytes = drop 32 bytes in
      let behind_secret : Bytes = drop (32 + S) bytes in
      let split : drop S rest ≡ behind_secret = drop-drop S 32 bytes in
      let four_long : length (take 4 behind_secret) ≡ 4 = length-take-le 4 behind_secret (omega (arith, length-drop (32 + S) bytes)) in
      let four_bytes : AreBytes (take 4 behind_secret) = All-take (λ (b : ℕ). b < 256) 4 behind_secret (All-drop (λ (b : ℕ). b < 256) (32 + S) bytes h) in
      let number : to_be_bytes w32 (from_be_bytes w32 (take 4 behind_secret)) ≡ take 4 behind_secret =
      be_bytes_4 (take 4 behind_secret) (from_be_bytes w32 (take 4 behind_secret)) four_long (byte-at (take 4 behind_secret) four_bytes) refl in
      let public : drop (32 + S + 4) bytes ≡ drop 4 behind_secret = sym (drop-drop 4 (32 + S) bytes) in
      let last : to_be_bytes w32 (from_be_bytes w32 (take 4 behind_secret)) ++ drop (32 + S + 4) bytes ≡ behind_secret =
      ap₂ (λ (a b : Bytes). a ++ b) number public ∙ take-append-drop 4 behind_secret in
      ap (λ (z : Bytes). take 32 bytes ++ (take S rest ++ z)) (last ∙ sym split)
      ∙ ap (λ (z : Bytes). take 32 bytes ++ z) (take-append-drop S rest) ∙ take-append-drop 32 bytes

  pub content_written-read : (c : Content) (bytes : Bytes) → AreBytes bytes → content_read kem bytes ≡ Some c → content_written kem c ≡ Some bytes
  unfolding content_written content_read
  content_written-read c bytes h e =
      let t = let_through (nat_eq (length bytes) (content_len kem) && is_content kem (content_in kem bytes)) (content_in kem bytes) c e in
      let a = and_parts (nat_eq (length bytes) (content_len kem)) (is_content kem (content_in kem bytes)) t.0 in
      let n : length bytes ≡ content_len kem = (let b : nat_eq (length bytes) (content_len kem) ≡ true = a.0 in grind (arith, nat_tests)) in
      let is : is_content kem c ≡ true = ap (is_content kem) (sym t.1) ∙ a.1 in
      ap (λ (b : Bool). cond b (Some (content_bytes kem c)) None) is
      ∙ ap (λ (z : Content). Some (content_bytes kem z)) (sym t.1) ∙ ap Some (content_bytes-content_in bytes h n)
