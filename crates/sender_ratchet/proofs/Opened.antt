-- What a text opens to, by the tag beside it.
use Rattle.std.proofs.Common.{◌≡◌, ◌-◌, Bool, true, false, cond, Some, None, ◌++◌, length, refl, sym, ap, ap₂, ◌∙◌, arith, length-append}
use Rattle.std.specs.Prelude.{bytes_eq}
use Rattle.std.proofs.lemmas.Slice.Eq.{bytes_eq-Decides}
use Rattle.std.proofs.lemmas.List.{take_at, drop_at}
use Rattle.group_model.specs.Sets.{Bytes}
use Rattle.hkdf_seal.specs.Sealing.{opened, opened_by_tag, sealed, sealed_with_tag, tag_of}
use Rattle.hkdf_seal.proofs.Opening.{opened-sealed_with_tag}

-- a test that does not hold gives nothing
refusing : (b : Bool) (x : Bytes) → (b ≡ true → ⊥) → cond b (Some x) None ≡ None
refusing true x h = absurd (h refl)
refusing false x h = refl

-- a test that gives something holds
let_through : (b : Bool) (x y : Bytes) → cond b (Some x) None ≡ Some y → (b ≡ true) × (x ≡ y)
let_through true x y e = (refl, cc)
let_through false x y e = cc

module _ (key body tag : Bytes) (long : length tag ≡ 32) where
  opened-append : opened key (body ++ tag) ≡ opened_by_tag key body tag
  unfolding opened
  opened-append =
      let n : length body ≡ length (body ++ tag) - 32 = omega (arith, length-append body tag) in
      ap₂ (opened_by_tag key) (take_at body tag (length (body ++ tag) - 32) n) (drop_at body tag (length (body ++ tag) - 32) n)

  -- with its own tag
  pub own_tag_opens : tag ≡ tag_of key body → opened key (body ++ tag) ≡ Some (sealed key body)
  own_tag_opens own =
      opened-append ∙ ap (λ b. cond b (Some (sealed key body)) None) ((bytes_eq-Decides tag (tag_of key body)).1 own)

  -- with another tag
  pub other_tag_opens : (tag ≡ tag_of key body → ⊥) → opened key (body ++ tag) ≡ None
  other_tag_opens other =
      opened-append
      ∙ refusing (bytes_eq tag (tag_of key body)) (sealed key body) (λ is. other ((bytes_eq-Decides tag (tag_of key body)).0 is))

-- bytes and a tag that sealing a text made: the tag is theirs, and the text is what they open to
sealed_tag_and_text : (key body tag plain : Bytes) → length tag ≡ 32 → body ++ tag ≡ sealed_with_tag key plain
    → (tag ≡ tag_of key body) × (sealed key body ≡ plain)
sealed_tag_and_text key body tag plain long e =
    let found : opened_by_tag key body tag ≡ Some plain =
    sym (opened-append key body tag long) ∙ ap (opened key) e ∙ opened-sealed_with_tag key plain in
    let through = let_through (bytes_eq tag (tag_of key body)) (sealed key body) plain found in
    ((bytes_eq-Decides tag (tag_of key body)).0 through.0, through.1)

pub sealed_tag_is : (key body tag plain : Bytes) → length tag ≡ 32 → body ++ tag ≡ sealed_with_tag key plain
    → tag ≡ tag_of key body
sealed_tag_is key body tag plain long e = (sealed_tag_and_text key body tag plain long e).0

pub sealed_text_is : (key body tag plain : Bytes) → length tag ≡ 32 → body ++ tag ≡ sealed_with_tag key plain
    → sealed key body ≡ plain
sealed_text_is key body tag plain long e = (sealed_tag_and_text key body tag plain long e).1
