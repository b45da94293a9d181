-- Opening undoes sealing, and how many bytes each thing has.
use Rattle.std.proofs.Common.{◌≡◌, ℕ, ◌+◌, ◌-◌, ◌/◌, Bool, cond, List, [], ◌++◌, length, take, drop, codes, Some, None, refl, sym, ◌∙◌, ap, ap₂, arith, length-append, take-append-drop}
use Rattle.std.specs.Prelude.{bytes_eq}
use Rattle.std.proofs.lemmas.Option.{cond_some}
use Rattle.std.proofs.lemmas.Slice.Eq.{bytes_eq-Decides}
use Rattle.std.proofs.lemmas.List.{take_at, drop_at, length-take-le}
use Rattle.hkdf_seal.specs.Keys.{blocks, expand, kdf}
use Rattle.hkdf_seal.specs.Sealing.{opened, opened_by_tag, sealed, sealed_with_tag, stream, tag_of, xor_stream}
use Rattle.hkdf_seal.proofs.Blocks.{kdf_is, length-blocks, length-hmac}
use Rattle.hkdf_seal.proofs.Xors.{length-stream, length-xor_bytes, sealed-sealed}

pub length-sealed : (key text : List ℕ) → length (sealed key text) ≡ length text
unfolding sealed xor_stream
length-sealed key text =
    let k : List ℕ = kdf key (codes "stream") [] in
    let n : ℕ = (length text + 3) / 4 in
    length-xor_bytes text (stream k n) (omega (arith, length-stream k n))

pub length-tag_of : (key body : List ℕ) → length (tag_of key body) ≡ 32
unfolding tag_of
length-tag_of key body = length-hmac _ _

pub length-sealed_with_tag : (key text : List ℕ) → length (sealed_with_tag key text) ≡ length text + 32
unfolding sealed_with_tag
length-sealed_with_tag key text =
    length-append (sealed key text) (tag_of key (sealed key text))
    ∙ ap₂ (λ (a b : ℕ). a + b) (length-sealed key text) (length-tag_of key (sealed key text))

pub length-kdf : (key label id : List ℕ) → length (kdf key label id) ≡ 32
length-kdf key label id = ap length (kdf_is key label id) ∙ length-hmac _ _

pub length-expand : (prk info : List ℕ) (len : ℕ) → length (expand prk info len) ≡ len
unfolding expand
length-expand prk info len =
    length-take-le len (blocks prk info ((len + 31) / 32)) (omega (arith, length-blocks prk info ((len + 31) / 32)))

-- a body and a tag of 32 bytes behind it
opened-append : (key body tag : List ℕ) → length tag ≡ 32 → opened key (body ++ tag) ≡ opened_by_tag key body tag
unfolding opened
opened-append key body tag h =
    let n : length body ≡ length (body ++ tag) - 32 = omega (arith, length-append body tag) in
    ap₂ (opened_by_tag key) (take_at body tag (length (body ++ tag) - 32) n) (drop_at body tag (length (body ++ tag) - 32) n)

pub opened-sealed_with_tag : (key text : List ℕ) → opened key (sealed_with_tag key text) ≡ Some text
unfolding sealed_with_tag
opened-sealed_with_tag key text =
    let tag : List ℕ = tag_of key (sealed key text) in
    opened-append key (sealed key text) tag (length-tag_of key (sealed key text))
    ∙ ap (λ (b : Bool). cond b (Some (sealed key (sealed key text))) None) ((bytes_eq-Decides tag tag).1 refl)
    ∙ ap Some (sealed-sealed key text)

-- a tag that lets a body open is the body's
opened_by_tag-only : (key body tag text : List ℕ) → opened_by_tag key body tag ≡ Some text → sealed_with_tag key text ≡ body ++ tag
unfolding sealed_with_tag
opened_by_tag-only key body tag text e =
    let through = cond_some (bytes_eq tag (tag_of key body)) (sealed key body) text e in
    let of_body : tag ≡ tag_of key body = (bytes_eq-Decides tag (tag_of key body)).0 through.0 in
    let again : sealed key text ≡ body = ap (sealed key) (sym through.1) ∙ sealed-sealed key body in
    ap₂ (λ (a b : List ℕ). a ++ b) again (ap (tag_of key) again ∙ sym of_body)

pub opened-only : (key bytes text : List ℕ) → opened key bytes ≡ Some text → sealed_with_tag key text ≡ bytes
unfolding opened
opened-only key bytes text e =
    opened_by_tag-only key (take (length bytes - 32) bytes) (drop (length bytes - 32) bytes) text e
    ∙ take-append-drop (length bytes - 32) bytes
