-- What a part opens to, from what the code has.
use Rattle.std.specs.Int.{w32, from_be_bytes}
use Rattle.std.proofs.Math.Bool.{and-true}
use Rattle.std.proofs.lemmas.List.{length-take-le, take_at, drop_at}
use Rattle.std.proofs.lemmas.Bool.Decides.{nat_tests}
use Rattle.std.proofs.Common.{rules, ◌≡◌, ℕ, ◌+◌, ◌^◌, ◌-◌, ◌<◌, ◌&&◌, length-append, take, drop, nat_eq, nat_lt, arith, Bool, true, false, cond, ◌++◌, length, Option, Some, None, refl, sym, ◌∙◌, ap, ap₂}
use Rattle.std.specs.Str.{bytes_eq}
use Rattle.std.specs.Option.{option_and_then, IsSome, OnSome}
use Rattle.std.proofs.lemmas.Grind.{common_steps}
use Rattle.std.proofs.lemmas.Slice.Eq.{bytes_eq-Decides}
use Rattle.kem_trait.specs.declared.kem.Kem.{Ghosts}
use Rattle.hkdf_seal.specs.Sealing.{opened, opened_by_tag, sealed, tag_of}
use Rattle.group_model.specs.Sets.{Bytes}
use Rattle.group_model.specs.Primitives.{Content}
use Rattle.group_model.specs.Pairing.{opened_by}
use Rattle.group_model.proofs.ListFacts.{yes_is, no_is, test}
use Rattle.group_parts.specs.Contents.{content_len, content_in, is_content, content_read}
use Rattle.group_keys.specs.Primitives.{primitives_of}

pub on-some : {A : Type 0} (o : Option A) (Q : Type 0) → IsSome o → OnSome o Q → Q
on-some (Some a) Q s h = h
on-some None Q s h = absurd (first_of (search rules, grind (arith, common_steps)))

-- a body and a tag of 32 bytes behind it
opened-append : (key body tag : Bytes) → length tag ≡ 32 → opened key (body ++ tag) ≡ opened_by_tag key body tag
unfolding opened
opened-append key body tag h =
    let n : length body ≡ length (body ++ tag) - 32 = omega (arith, length-append body tag) in
    ap₂ (opened_by_tag key) (take_at body tag (length (body ++ tag) - 32) n) (drop_at body tag (length (body ++ tag) - 32) n)

good-tag : (key body tag : Bytes) → length tag ≡ 32 → tag ≡ tag_of key body → opened key (body ++ tag) ≡ Some (sealed key body)
good-tag key body tag n h =
    opened-append key body tag n
    ∙ ap (λ (b : Bool). cond b (Some (sealed key body)) None) ((bytes_eq-Decides tag (tag_of key body)).1 h)

bad-tag : (key body tag : Bytes) → length tag ≡ 32 → (tag ≡ tag_of key body → ⊥) → opened key (body ++ tag) ≡ None
bad-tag key body tag n h =
    opened-append key body tag n
    ∙ elim (test (bytes_eq tag (tag_of key body))) [
      | yes_is e ↦ absurd (h ((bytes_eq-Decides tag (tag_of key body)).0 e))
      | no_is e ↦ ap (λ (b : Bool). cond b (Some (sealed key body)) None) e
    ]

module _ {K P : Type 0} (kem : Ghosts K P) where
  opened-key : (secret key cipher bytes : Bytes) (b : Bool) (n : ℕ) → kem.decapsulated secret cipher ≡ Some key
      → opened_by (primitives_of kem) (Some secret) (record { made_by_sender = b; number = n; ciphertext = cipher; sealed = bytes })
      ≡ option_and_then (content_read kem) (opened key bytes)
  unfolding primitives_of
  opened-key secret key cipher bytes b n h =
      ap (λ (o : Option Bytes). option_and_then (content_read kem) (option_and_then (λ k. opened k bytes) o)) h

  pub opened-text : (secret key cipher bytes body tag text : Bytes) (answer : Option Content) (b : Bool) (n : ℕ)
      → kem.decapsulated secret cipher ≡ Some key → bytes ≡ body ++ tag → length tag ≡ 32 → tag ≡ tag_of key body
      → text ≡ sealed key body → answer ≡ content_read kem text
      → answer ≡ opened_by (primitives_of kem) (Some secret) (record { made_by_sender = b; number = n; ciphertext = cipher; sealed = bytes })
  opened-text secret key cipher bytes body tag text answer b n h s t g x a =
      a ∙ ap (content_read kem) x
      ∙ ap (option_and_then (content_read kem)) (sym (ap (opened key) s ∙ good-tag key body tag t g))
      ∙ sym (opened-key secret key cipher bytes b n h)

  pub opened-none : (secret key cipher bytes body tag : Bytes) (b : Bool) (n : ℕ)
      → kem.decapsulated secret cipher ≡ Some key → bytes ≡ body ++ tag → length tag ≡ 32 → (tag ≡ tag_of key body → ⊥)
      → None ≡ opened_by (primitives_of kem) (Some secret) (record { made_by_sender = b; number = n; ciphertext = cipher; sealed = bytes })
  opened-none secret key cipher bytes body tag b n h s t g =
      ap (option_and_then (content_read kem)) (sym (ap (opened key) s ∙ bad-tag key body tag t g))
      ∙ sym (opened-key secret key cipher bytes b n h)

  pub read-is : (text payload secret public : Bytes) (number : ℕ) (usable : Bool)
      → nat_eq (length text) (content_len kem) ≡ true → payload ≡ take 32 text → secret ≡ take kem.SECRET_LEN (drop 32 text)
      → number ≡ from_be_bytes w32 (take 4 (drop (32 + kem.SECRET_LEN) text)) → public ≡ drop (32 + kem.SECRET_LEN + 4) text
      → kem.is_secret secret ≡ true → number < 2 ^ 32 → usable ≡ (nat_lt 0 number && kem.is_public public)
      → content_read kem text ≡ cond usable (Some (record { payload = payload; secret = secret; number = number; public = public })) None
  unfolding content_read
  read-is text payload secret public number usable n pe se ne ue tested low u =
      let l : length text ≡ content_len kem = grind (arith, nat_tests) in
      let p32 : length payload ≡ 32 = ap length pe ∙ length-take-le 32 text (omega arith) in
      let a : nat_eq (length payload) 32 ≡ true = grind (arith, nat_tests) in
      let c : nat_lt number (2 ^ 32) ≡ true = grind (arith, nat_tests) in
      let content : Content = record { payload = payload; secret = secret; number = number; public = public } in
      let same : content_in kem text ≡ content = rw (← pe, ← se, ← ne, ← ue) refl in
      let holds : is_content kem content ≡ usable =
      ap₂ (λ (x y : Bool). x && (y && ((nat_lt 0 number && nat_lt number (2 ^ 32)) && kem.is_public public))) a tested
      ∙ ap (λ (x : Bool). (nat_lt 0 number && x) && kem.is_public public) c
      ∙ ap (λ (x : Bool). x && kem.is_public public) (and-true (nat_lt 0 number)) ∙ sym u in
      ap₂ (λ (x : Bool) (z : Content). cond (x && is_content kem z) (Some z) None) n same
      ∙ ap (λ (x : Bool). cond x (Some content) None) holds

  pub read-none : (text payload secret public : Bytes) (number : ℕ) (usable : Bool)
      → content_read kem text ≡ cond usable (Some (record { payload = payload; secret = secret; number = number; public = public })) None
      → usable ≡ false → None ≡ content_read kem text
  read-none text payload secret public number usable e f =
      sym (e ∙ ap (λ (b : Bool). cond b (Some (record { payload = payload; secret = secret; number = number; public = public })) None) f)

  pub read-some : (text payload secret public : Bytes) (number : ℕ) (usable : Bool) (kept : Bytes)
      → content_read kem text ≡ cond usable (Some (record { payload = payload; secret = secret; number = number; public = public })) None
      → usable ≡ true → kept ≡ public → Some (record { payload = payload; secret = secret; number = number; public = kept }) ≡ content_read kem text
  read-some text payload secret public number usable kept e f k =
      sym (e ∙ ap₂ (λ (b : Bool) (z : Bytes). cond b (Some (record { payload = payload; secret = secret; number = number; public = z })) None) f (sym k))
