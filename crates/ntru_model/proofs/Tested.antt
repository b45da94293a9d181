-- Tested pairs, and their secret keys.
use Rattle.std.proofs.Common.{◌≡◌, ◌⊎◌, inl, inr, ℕ, ◌+◌, ◌-◌, ◌<◌, min, true, cond, ◌&&◌, ◌||◌, Decides, Some, None, List, ◌∷◌, ◌++◌, length, take, drop, All, nat_eq, count_by, ℤ, pos, negsuc, refl, sym, ap, subst, ◌∙◌, arith, append_assoc}
use Rattle.std.specs.List.{list_all}
use Rattle.std.specs.Ordering.{int_eq}
use Rattle.std.specs.Cmp.Lexicographic.{pointwise}
use Rattle.std.proofs.lemmas.Option.{cond_some}
use Rattle.std.proofs.lemmas.Bool.{and_from, and_parts}
use Rattle.std.proofs.lemmas.Int.{ints}
use Rattle.std.proofs.lemmas.Bool.Decides.{Decides-eqb, Decides-int_eq, Decides-or, Decides-like, Decides-by_and}
use Rattle.std.proofs.lemmas.Slice.Eq.{bytes_eq-Decides}
use Rattle.std.proofs.lemmas.List.{take_at, drop_at, drop-drop, length-append, length-take-le, length-take, length-drop}
use Rattle.sha2.proofs.Facts512.{length-sha512}
use Rattle.ring_poly.specs.Ring.{IsCentred, IsWithin}
use Rattle.ring_solve.specs.Fields.{one}
use Rattle.ring_laws.specs.Laws.{AreSmall, IsShort, is_nonzero}
use Rattle.ntru_codec.specs.Small.{IsSmall, small_encoding}
use Rattle.ntru_model.specs.Parameters.{Parameters, small_len, public_len, secret_len}
use Rattle.ntru_model.specs.Residues.{product_mod}
use Rattle.ntru_model.specs.Encodings.{public_read, small_read}
use Rattle.ntru_model.specs.Pairs.{hash, KeyPair, public_key, secret_key, g_of, is_small_number, is_tested, fields_read, secret_read}
use Rattle.ntru_model.proofs.Options.{and_then_parts, map_parts}
use Rattle.ntru_model.proofs.Small.{within_small, all_small_within, all_within_small}
use Rattle.ntru_model.proofs.Inverses.{same_numbers}
use Rattle.ntru_model.proofs.Readers.{small_read-encoding, from_small_read}
use Rattle.ntru_model.proofs.Sets.{IsSet}
use Rattle.ntru_model.proofs.Steps.{with_h, with_inverse, with_f, fields_are, secret_read_is}
use Rattle.ntru_model.proofs.Bytes.{public_back, from_public_read, length-small, length-public}

pub record IsTested (s : Parameters) (pair : KeyPair) : Type 0 where
  pub f_len : length pair.f ≡ s.p
  pub f_short : IsShort s.w pair.f
  pub inverse_len : length pair.g_inverse ≡ s.p
  pub inverse_small : AreSmall pair.g_inverse
  pub h_len : length pair.h ≡ s.p
  pub h_centred : All (IsCentred (pos s.q)) pair.h
  pub g_small : AreSmall (g_of s pair)
  pub g_one : product_mod s.p 3 (g_of s pair) pair.g_inverse ≡ one s.p

-- the test
within_cases : (c : ℤ) → ((c ≡ pos 0) ⊎ (c ≡ pos 1)) ⊎ (c ≡ negsuc 0) → IsWithin 1 c
within_cases c h =
    elim h [
      | inl r ↦ elim r [ inl e ↦ (omega (arith, ints), omega (arith, ints)) | inr e ↦ (omega (arith, ints), omega (arith, ints)) ]
      | inr e ↦ (omega (arith, ints), omega (arith, ints))
    ]

cases_within : (c : ℤ) → IsWithin 1 c → ((c ≡ pos 0) ⊎ (c ≡ pos 1)) ⊎ (c ≡ negsuc 0)
cases_within c w = elim (within_small c w) [ inl e ↦ inr e | inr r ↦ elim r [ inl e ↦ inl (inl e) | inr e ↦ inl (inr e) ] ]

small_number-Decides : (c : ℤ) → Decides (is_small_number c) (IsWithin 1 c)
small_number-Decides c =
    Decides-like (is_small_number c) (within_cases c) (cases_within c)
    (Decides-or (int_eq c (pos 0) || int_eq c (pos 1)) (int_eq c (negsuc 0))
    (Decides-or (int_eq c (pos 0)) (int_eq c (pos 1)) (Decides-int_eq c (pos 0)) (Decides-int_eq c (pos 1))) (Decides-int_eq c (negsuc 0)))

small_numbers-Decides : (xs : List ℤ) → Decides (list_all is_small_number xs) (AreSmall xs)
small_numbers-Decides xs = Decides-by_and is_small_number (IsWithin 1) (list_all is_small_number) small_number-Decides refl (λ _ _. refl) xs

pub test_holds : (s : Parameters) (pair : KeyPair) → count_by is_nonzero pair.f ≡ s.w → AreSmall (g_of s pair) → product_mod s.p 3 (g_of s pair) pair.g_inverse ≡ one s.p → is_tested s pair ≡ true
unfolding is_tested
test_holds s pair weight small is_one =
    and_from (nat_eq (count_by is_nonzero pair.f) s.w && list_all is_small_number (g_of s pair)) (pointwise int_eq (product_mod s.p 3 (g_of s pair) pair.g_inverse) (one s.p))
    (and_from (nat_eq (count_by is_nonzero pair.f) s.w) (list_all is_small_number (g_of s pair)) ((Decides-eqb (count_by is_nonzero pair.f) s.w).1 weight) ((small_numbers-Decides (g_of s pair)).1 small))
    ((same_numbers (product_mod s.p 3 (g_of s pair) pair.g_inverse) (one s.p)).1 is_one)

pub from_test : (s : Parameters) (pair : KeyPair) → is_tested s pair ≡ true → (count_by is_nonzero pair.f ≡ s.w) × AreSmall (g_of s pair) × (product_mod s.p 3 (g_of s pair) pair.g_inverse ≡ one s.p)
unfolding is_tested
from_test s pair h =
    let outer = and_parts (nat_eq (count_by is_nonzero pair.f) s.w && list_all is_small_number (g_of s pair)) (pointwise int_eq (product_mod s.p 3 (g_of s pair) pair.g_inverse) (one s.p)) h in
    let inner = and_parts (nat_eq (count_by is_nonzero pair.f) s.w) (list_all is_small_number (g_of s pair)) outer.0 in (
      (Decides-eqb (count_by is_nonzero pair.f) s.w).0 inner.0,
      (small_numbers-Decides (g_of s pair)).0 inner.1,
      (same_numbers (product_mod s.p 3 (g_of s pair) pair.g_inverse) (one s.p)).0 outer.1,
    )

-- the fields of a secret key
record HasFields (s : Parameters) (bytes : List ℕ) (pair : KeyPair) : Type 0 where
  f_len : length pair.f ≡ s.p
  f_small : All IsSmall pair.f
  inverse_len : length pair.g_inverse ≡ s.p
  inverse_small : All IsSmall pair.g_inverse
  h_len : length pair.h ≡ s.p
  h_centred : All (IsCentred (pos s.q)) pair.h
  rho_is : pair.rho ≡ take (small_len s) (drop (small_len s + small_len s + public_len s) bytes)

from_fields : (s : Parameters) (bytes : List ℕ) (pair : KeyPair) → IsSet s → fields_read s bytes ≡ Some pair → HasFields s bytes pair
unfolding fields_read
from_fields s bytes pair set e =
    let a = and_then_parts (with_f s bytes) (small_read s.p (take (small_len s) bytes)) pair e in
    let b = and_then_parts (with_inverse s bytes a.0) (small_read s.p (take (small_len s) (drop (small_len s) bytes))) pair a.2 in
    let c = map_parts (with_h s bytes a.0 b.0) (public_read s (take (public_len s) (drop (small_len s + small_len s) bytes))) pair b.2 in
    let f = from_small_read s.p (take (small_len s) bytes) a.0 a.1 in
    let g = from_small_read s.p (take (small_len s) (drop (small_len s) bytes)) b.0 b.1 in
    let h = from_public_read s (take (public_len s) (drop (small_len s + small_len s) bytes)) c.0 set c.1 in
    subst (HasFields s bytes) c.2 (record { f_len = f.0; f_small = f.1.small; inverse_len = g.0; inverse_small = g.1.small; h_len = h.0; h_centred = h.1; rho_is = refl })

-- a pair that is read is tested, and has these bytes
pub tested_from_read : (s : Parameters) (secret : List ℕ) (pair : KeyPair) → IsSet s → secret_read s secret ≡ Some pair → IsTested s pair × (secret_key s pair ≡ secret)
unfolding secret_read
tested_from_read s secret pair set e =
    let a = and_then_parts (λ x. cond (is_tested s x && pointwise nat_eq (secret_key s x) secret) (Some x) None) (fields_read s secret) pair e in
    let k = cond_some (is_tested s a.0 && pointwise nat_eq (secret_key s a.0) secret) a.0 pair a.2 in
    let both = and_parts (is_tested s a.0) (pointwise nat_eq (secret_key s a.0) secret) k.0 in
    let t = from_test s a.0 both.0 in
    let fields = from_fields s secret a.0 set a.1 in
    subst (λ x. IsTested s x × (secret_key s x ≡ secret)) k.1 (
      record {
        f_len = fields.f_len;
        f_short = record { small = all_small_within a.0.f fields.f_small; weight = t.0 };
        inverse_len = fields.inverse_len;
        inverse_small = all_small_within a.0.g_inverse fields.inverse_small;
        h_len = fields.h_len;
        h_centred = fields.h_centred;
        g_small = t.1;
        g_one = t.2;
      },
      (bytes_eq-Decides (secret_key s a.0) secret).0 both.1,
    )

-- five joined lists, taken apart
five_parts : (A B C D E : List ℕ) (a c : ℕ) → length A ≡ a → length B ≡ a → length C ≡ c → length D ≡ a
    → (take a (A ++ B ++ C ++ D ++ E) ≡ A) × (take a (drop a (A ++ B ++ C ++ D ++ E)) ≡ B) × (take c (drop (a + a) (A ++ B ++ C ++ D ++ E)) ≡ C) × (take a (drop (a + a + c) (A ++ B ++ C ++ D ++ E)) ≡ D)
five_parts A B C D E a c la lb lc ld =
    let w : A ++ B ++ C ++ D ++ E ≡ A ++ (B ++ (C ++ (D ++ E))) = simp append_assoc in
    let one : drop a (A ++ B ++ C ++ D ++ E) ≡ B ++ (C ++ (D ++ E)) = ap (drop a) w ∙ drop_at A (B ++ (C ++ (D ++ E))) a la in
    let two : drop (a + a) (A ++ B ++ C ++ D ++ E) ≡ C ++ (D ++ E) = sym (drop-drop a a (A ++ B ++ C ++ D ++ E)) ∙ ap (drop a) one ∙ drop_at B (C ++ (D ++ E)) a lb in
    let three : drop (a + a + c) (A ++ B ++ C ++ D ++ E) ≡ D ++ E = sym (drop-drop c (a + a) (A ++ B ++ C ++ D ++ E)) ∙ ap (drop c) two ∙ drop_at C (D ++ E) c lc in (
      ap (take a) w ∙ take_at A (B ++ (C ++ (D ++ E))) a la,
      ap (take a) one ∙ take_at B (C ++ (D ++ E)) a lb,
      ap (take c) two ∙ take_at C (D ++ E) c lc,
      ap (take a) three ∙ take_at D E a ld,
    )

-- the pair of its secret key
pub read_back : (s : Parameters) (pair : KeyPair) → IsSet s → IsTested s pair → length pair.rho ≡ small_len s → secret_read s (secret_key s pair) ≡ Some pair
unfolding secret_key
read_back s pair set t len =
    let bytes = secret_key s pair in
    let parts = five_parts (small_encoding pair.f) (small_encoding pair.g_inverse) (public_key s pair) pair.rho (hash 4 (public_key s pair)) (small_len s) (public_len s)
    (length-small s pair.f set t.f_len) (length-small s pair.g_inverse set t.inverse_len) (length-public s pair.h t.h_len) len in
    let f : small_read s.p (take (small_len s) (secret_key s pair)) ≡ Some pair.f =
    ap (small_read s.p) parts.0 ∙ small_read-encoding s.p pair.f set.p_form t.f_len (all_within_small pair.f t.f_short.small) in
    let g : small_read s.p (take (small_len s) (drop (small_len s) (secret_key s pair))) ≡ Some pair.g_inverse =
    ap (small_read s.p) parts.1 ∙ small_read-encoding s.p pair.g_inverse set.p_form t.inverse_len (all_within_small pair.g_inverse t.inverse_small) in
    let h : public_read s (take (public_len s) (drop (small_len s + small_len s) (secret_key s pair))) ≡ Some pair.h =
    ap (public_read s) parts.2 ∙ public_back s pair.h set t.h_len t.h_centred in
    let fields : fields_read s (secret_key s pair) ≡ Some pair =
    fields_are s (secret_key s pair) pair.f pair.g_inverse pair.h f g h
    ∙ ap (λ rho. Some (record { f = pair.f; g_inverse = pair.g_inverse; h = pair.h; rho = rho })) parts.3 in
    secret_read_is s (secret_key s pair) pair fields (test_holds s pair t.f_short.weight t.g_small t.g_one) refl

-- lengths
pub length-hash : (b : ℕ) (bytes : List ℕ) → length (hash b bytes) ≡ 32
unfolding hash
length-hash b bytes = let l = length-sha512 (b ∷ bytes) in length-take-le 32 _ (omega arith)

length-parts : (s : Parameters) (pair : KeyPair) → IsSet s → IsTested s pair → length (secret_key s pair) ≡ small_len s + small_len s + public_len s + length pair.rho + 32
unfolding secret_key
length-parts s pair set t =
    let a = length-small s pair.f set t.f_len in
    let b = length-small s pair.g_inverse set t.inverse_len in
    let c = length-public s pair.h t.h_len in
    let e = length-hash 4 (public_key s pair) in
    length-append (small_encoding pair.f ++ small_encoding pair.g_inverse ++ public_key s pair ++ pair.rho) (hash 4 (public_key s pair))
    ∙ omega (
      arith,
      length-append (small_encoding pair.f ++ small_encoding pair.g_inverse ++ public_key s pair) pair.rho,
      length-append (small_encoding pair.f ++ small_encoding pair.g_inverse) (public_key s pair),
      length-append (small_encoding pair.f) (small_encoding pair.g_inverse),
    )

pub length-secret : (s : Parameters) (pair : KeyPair) → IsSet s → IsTested s pair → length pair.rho ≡ small_len s → length (secret_key s pair) ≡ secret_len s
length-secret s pair set t len = length-parts s pair set t ∙ ap (λ n. small_len s + small_len s + public_len s + n + 32) len

-- the parts of a secret key
pub record HasParts (s : Parameters) (pair : KeyPair) (secret : List ℕ) : Type 0 where
  pub f : take (small_len s) secret ≡ small_encoding pair.f
  pub g_inverse : take (small_len s) (drop (small_len s) secret) ≡ small_encoding pair.g_inverse
  pub h : take (public_len s) (drop (small_len s + small_len s) secret) ≡ public_key s pair
  pub rho : take (small_len s) (drop (small_len s + small_len s + public_len s) secret) ≡ pair.rho
  pub cache : drop (small_len s + small_len s + public_len s + small_len s) secret ≡ hash 4 (public_key s pair)

pub secret_parts : (s : Parameters) (pair : KeyPair) → IsSet s → IsTested s pair → length pair.rho ≡ small_len s → HasParts s pair (secret_key s pair)
unfolding secret_key
secret_parts s pair set t len =
    let a = length-small s pair.f set t.f_len in
    let b = length-small s pair.g_inverse set t.inverse_len in
    let c = length-public s pair.h t.h_len in
    let parts = five_parts (small_encoding pair.f) (small_encoding pair.g_inverse) (public_key s pair) pair.rho (hash 4 (public_key s pair)) (small_len s) (public_len s) a b c len in
    let front : length (small_encoding pair.f ++ small_encoding pair.g_inverse ++ public_key s pair ++ pair.rho) ≡ small_len s + small_len s + public_len s + small_len s =
    omega (
      arith,
      length-append (small_encoding pair.f ++ small_encoding pair.g_inverse ++ public_key s pair) pair.rho,
      length-append (small_encoding pair.f ++ small_encoding pair.g_inverse) (public_key s pair),
      length-append (small_encoding pair.f) (small_encoding pair.g_inverse),
    ) in
    record {
      f = parts.0;
      g_inverse = parts.1;
      h = parts.2;
      rho = parts.3;
      cache = drop_at (small_encoding pair.f ++ small_encoding pair.g_inverse ++ public_key s pair ++ pair.rho) (hash 4 (public_key s pair)) (small_len s + small_len s + public_len s + small_len s) front;
    }

-- a pair that is read has a rho of its length
rest_length : (front n w h : ℕ) → w ≡ min n (front + w + h - front) → 0 < h → w ≡ n
rest_length front n w h e some = omega arith

pub rho_from_read : (s : Parameters) (secret : List ℕ) (pair : KeyPair) → IsSet s → secret_read s secret ≡ Some pair → length pair.rho ≡ small_len s
unfolding secret_read secret_key
rho_from_read s secret pair set e =
    let tested = tested_from_read s secret pair set e in
    let t = tested.0 in
    let a = and_then_parts (λ x. cond (is_tested s x && pointwise nat_eq (secret_key s x) secret) (Some x) None) (fields_read s secret) pair e in
    let k = cond_some (is_tested s a.0 && pointwise nat_eq (secret_key s a.0) secret) a.0 pair a.2 in
    let fields : HasFields s secret pair = subst (HasFields s secret) k.1 (from_fields s secret a.0 set a.1) in
    let front = small_len s + small_len s + public_len s in
    let rest = drop (small_len s + small_len s + public_len s) secret in
    let size : length secret ≡ small_len s + small_len s + public_len s + length pair.rho + 32 =
    ap length (sym tested.1) ∙ length-parts s pair set t in
    let taken : length pair.rho ≡ min (small_len s) (small_len s + small_len s + public_len s + length pair.rho + 32 - (small_len s + small_len s + public_len s)) =
    ap length fields.rho_is ∙ length-take (small_len s) (drop (small_len s + small_len s + public_len s) secret)
    ∙ ap (min (small_len s)) (length-drop (small_len s + small_len s + public_len s) secret ∙ ap (λ n. n - (small_len s + small_len s + public_len s)) size) in
    rest_length (small_len s + small_len s + public_len s) (small_len s) (length pair.rho) 32 taken (omega arith)

pub parts_from_read : (s : Parameters) (secret : List ℕ) (pair : KeyPair) → IsSet s → secret_read s secret ≡ Some pair → HasParts s pair secret
parts_from_read s secret pair set e =
    let t = tested_from_read s secret pair set e in
    subst (HasParts s pair) t.1 (secret_parts s pair set t.0 (rho_from_read s secret pair set e))
