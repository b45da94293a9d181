-- Which words are left behind draws.
use Rattle.std.proofs.Common.{◌≡◌, ℕ, suc, ◌+◌, Option, Some, None, List, ℤ, refl, sym, ap, ◌∙◌}
use Rattle.kem_trait.specs.Streams.{Stream, behind}
use Rattle.kem_trait.proofs.StreamFacts.{behind-behind, behind-none}
use Rattle.ntru_model.specs.Draws.{words_tried}

abbrev words_from : ℕ → Option (List ℤ) → ℕ → ℕ
words_from p (Some inverse) others = p
words_from p None others = p + others

tried : (p n : ℕ) (draw : Stream → List ℤ) (invert : List ℤ → Option (List ℤ)) (words : Stream)
    → words_tried p (suc n) draw invert words ≡ words_from p (invert (draw words)) (words_tried p n draw invert (behind p words))
unfolding words_tried
tried p n draw invert words =
    elim (invert (draw words)) as (λ o. elim o as (λ _. ℕ) [
      | Some inverse ↦ p
      | None ↦ p + words_tried p n draw invert (behind p words)
    ] ≡ words_from p o (words_tried p n draw invert (behind p words))) [ Some inverse ↦ refl | None ↦ refl ]

-- behind no draw, behind a draw that has an inverse, and behind one that has none
pub left_over : (p : ℕ) (draw : Stream → List ℤ) (invert : List ℤ → Option (List ℤ)) (words : Stream) → behind (words_tried p 0 draw invert words) words ≡ words
unfolding words_tried
left_over p draw invert words = behind-none words

pub left_here : (p n : ℕ) (draw : Stream → List ℤ) (invert : List ℤ → Option (List ℤ)) (words : Stream) (b : List ℤ) → invert (draw words) ≡ Some b
    → behind (words_tried p (suc n) draw invert words) words ≡ behind p words
left_here p n draw invert words b e =
    ap (λ k. behind k words) (tried p n draw invert words ∙ ap (λ o. words_from p o (words_tried p n draw invert (behind p words))) e)

pub left_later : (p n : ℕ) (draw : Stream → List ℤ) (invert : List ℤ → Option (List ℤ)) (words : Stream) → invert (draw words) ≡ None
    → behind (words_tried p (suc n) draw invert words) words ≡ behind (words_tried p n draw invert (behind p words)) (behind p words)
left_later p n draw invert words e =
    ap (λ k. behind k words) (tried p n draw invert words ∙ ap (λ o. words_from p o (words_tried p n draw invert (behind p words))) e)
    ∙ sym (behind-behind p (words_tried p n draw invert (behind p words)) words)
