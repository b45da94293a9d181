-- The bytes of a text's body, and that they are its spelling.
use Rattle.std.proofs.Common.{◌≡◌, ◌≤◌, ◌∙◌, ℕ, List, [], ◌++◌, length, Option, Some, None, option_map, nat_le, refl, ap, sym, subst, arith, append_assoc}
use Rattle.std.specs.Prelude.{IfSome}
use Rattle.std.specs.Option.{option_and_then}
use Rattle.std.specs.Int.{to_be_bytes, w16}
use Rattle.std.proofs.lemmas.Bool.{and_from, eq-eqb, le-leb}
use Rattle.kem_trait.specs.declared.kem.Kem.{Ghosts}
use Rattle.group_fields.specs.Layouts.{Spells, bytes_of, counted}
use Rattle.group_fields.proofs.WriteSteps.{bytes_spelled, u16_spelled}
use Rattle.hkdf_seal.specs.Sealing.{opened, sealed, sealed_with_tag, tag_of}
use Rattle.hkdf_seal.proofs.Opening.{length-sealed, length-tag_of}
use Rattle.group_model.specs.Sets.{Bytes}
use Rattle.group_model.specs.KeyTerms.{message_key}
use Rattle.group_model.specs.Knowledge.{text_opened, text_sealed}
use Rattle.group_keys.specs.Primitives.{primitives_of}
use Rattle.secret_book.specs.HeldBooks.{text_key_of}
use Rattle.wire_codec.specs.Packets as packets
use Rattle.wire_codec.specs.Packets.{Sealed, text_body}
use Rattle.app_messages.specs.Texts.{IsTextBody, body_bytes}

spelled_parts : (body tag : List ℕ) → length body ≤ 4096 → length tag ≡ 32
    → Spells packets.text (to_be_bytes w16 (length body) ++ (body ++ tag)) (record { body = body; tag = tag })
unfolding packets.text counted
spelled_parts body tag short long =
    let between = and_from (nat_le 0 (length body)) (nat_le (length body) 4096) (le-leb 0 (length body) (omega arith)) (le-leb (length body) 4096 short) in (
      (body, tag),
      (
        to_be_bytes w16 (length body) ++ body,
        tag,
        sym (append_assoc (to_be_bytes w16 (length body)) body tag),
        (
          (length body, body),
          (
            to_be_bytes w16 (length body),
            body,
            refl,
            u16_spelled 0 4096 (length body) (omega (arith, short)) between,
            bytes_spelled body,
          ),
          eq-eqb (length body) (length body) refl,
          refl,
        ),
        subst (λ (n : ℕ). Spells (bytes_of n) tag tag) long (bytes_spelled tag),
      ),
      refl,
      refl,
    )

spelled_under : (key text : List ℕ) → length text ≤ 4096 → Spells text_body (body_bytes (length text) (sealed_with_tag key text)) (record {
  cards = [];
  parts = [];
  history = None;
  text = Some (record { body = sealed key text; tag = tag_of key (sealed key text) });
})
unfolding text_body sealed_with_tag
spelled_under key text short =
    let body = sealed key text in
    let tag = tag_of key body in
    let same : length body ≡ length text = length-sealed key text in (
      record { body = body; tag = tag },
      subst (λ (n : ℕ). Spells packets.text (to_be_bytes w16 n ++ (body ++ tag)) (record { body = body; tag = tag })) same
          (spelled_parts body tag (omega (arith, same, short)) (length-tag_of key body)),
      refl,
      refl,
    )

module _ {K P : Type 0} (kem : Ghosts K P) where
  -- the body by the key of the next text
  pub made_by : (chain : Option Bytes) (text : Bytes)
      → option_map (λ key. body_bytes (length text) (sealed_with_tag key text)) (text_key_of (primitives_of kem) chain)
      ≡ option_map (body_bytes (length text)) (text_sealed (primitives_of kem) chain text)
  unfolding primitives_of
  made_by None text = refl
  made_by (Some c) text = refl

  -- the text by the key of the next text
  pub read_by : (chain : Option Bytes) (bytes : Bytes)
      → option_and_then (λ key. opened key bytes) (text_key_of (primitives_of kem) chain)
      ≡ text_opened (primitives_of kem) chain bytes
  unfolding primitives_of
  read_by None bytes = refl
  read_by (Some c) bytes = refl

  spelled_of : (chain : Option Bytes) (text : Bytes) → length text ≤ 4096
      → IfSome (option_map (λ key. body_bytes (length text) (sealed_with_tag key text)) (text_key_of (primitives_of kem) chain))
      (IsTextBody (primitives_of kem) chain text)
  unfolding primitives_of sealed_with_tag
  spelled_of None text short = tt
  spelled_of (Some c) text short =
      let key = message_key (primitives_of kem) c in
      record {
        carried = record { body = sealed key text; tag = tag_of key (sealed key text) };
        sealed = refl;
        spelled = spelled_under key text short;
      }

  pub spelled_by : (chain : Option Bytes) (text : Bytes) (body : Option Bytes) → length text ≤ 4096
      → body ≡ option_map (λ key. body_bytes (length text) (sealed_with_tag key text)) (text_key_of (primitives_of kem) chain)
      → IfSome body (IsTextBody (primitives_of kem) chain text)
  spelled_by chain text body short e =
      subst (λ (b : Option Bytes). IfSome b (IsTextBody (primitives_of kem) chain text)) (sym e) (spelled_of chain text short)
