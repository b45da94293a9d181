use Rattle.std.proofs.Common.{◌≡◌, ℕ, ◌<◌, ◌^◌, List, ◌++◌, map, sym, ap, subst, ◌∙◌, arith}
use Rattle.std.proofs.lemmas.List.{take_all}
use Rattle.ntru_codec.specs.Mixed.{encoding}
use Rattle.ntru_codec.specs.Digits.{digits_at, AreDigits}
use Rattle.ntru_codec.proofs.Giving.{digits_at-equal, AreDigits-equal}
use Rattle.ntru_codec.proofs.plain.plain_mixed.Goals as goal

pub plain_row-requires-clause-digits : goal.plain_row-requires-clause-digits
plain_row-requires-clause-digits c =
    let m = c.args.modulus in
    let fit : m < 2 ^ 16 = omega arith in
    let whole : c.as_slice.result.now ≡ map (λ r. (r, m)) c.args.digits.now =
    c.as_slice.ensures.value ∙ c.loop-value.invariant ∙ ap (λ xs. map (λ r. (r, m)) xs) (take_all c.loop-value.value-index c.args.digits.now (omega arith)) in
    let P : List (ℕ × ℕ) → Type 0 = λ xs. AreDigits xs in
    subst P (sym whole) (AreDigits-equal m c.args.digits.now fit c.requires.below)

pub returns : goal.returns
returns c =
    let m = c.args.modulus in
    let whole : c.as_slice.result.now ≡ map (λ r. (r, m)) c.args.digits.now =
    c.as_slice.ensures.value ∙ c.loop-value.invariant ∙ ap (λ xs. map (λ r. (r, m)) xs) (take_all c.loop-value.value-index c.args.digits.now (omega arith)) in
    c.in_ok-plain_row.ensures ∙ ap (λ xs. xs ++ encoding (digits_at c.as_slice.result.now)) c.new-bytes.ensures.items
    ∙ ap (λ xs. encoding (digits_at xs)) whole ∙ ap encoding (digits_at-equal m c.args.digits.now)
