use Rattle.std.proofs.Common.{◌≡◌, ◌/◌, ◌^◌, ◌≤◌, ◌<◌, length, sym, ap, subst, ◌∙◌, arith, refl, ℕ}
use Rattle.std.proofs.Math.Nat.{div-eq_of_lt, mul-le-mul_right}
use Rattle.std.proofs.lemmas.List.{get_or-set_same}
use Rattle.ntru_codec.specs.Rows.{low_bytes, Shrinks}
use Rattle.ntru_codec.proofs.Bytes.{length-low_bytes, same_value}
use Rattle.ntru_codec.proofs.rows.decode_one.Goals as goal

-- a digit below a modulus that shrinks to 1 leaves nothing
nothing_left : (m k left r : ℕ) → Shrinks 2 m k left → r < m → r / 256 ^ k ≡ 0
nothing_left m k left r s h =
    let one : left ≤ 1 = omega (arith, s.below) in
    div-eq_of_lt (omega (arith, s.covers, mul-le-mul_right (256 ^ k) one))

pub returns-then-bytes-shrink-clause-only : goal.returns-then-bytes-shrink-clause-only
returns-then-bytes-shrink-clause-only c = λ r below is.
    let len : length c.args.bytes.now ≡ c.shrink.result.bytes = ap length (sym is ∙ c.shrink.ensures.gives_off r) ∙ length-low_bytes c.shrink.result.bytes r in
    absurd (omega (arith, len, c.if-bytes-shrink.true))

pub returns-then-value-modulus-clause-only : goal.returns-then-value-modulus-clause-only
returns-then-value-modulus-clause-only c = λ r below is.
    let k = c.shrink.result.bytes in
    let v = c.take_back-value.result in
    let len : length c.args.bytes.now ≡ k = omega (arith, c.if-bytes-shrink.false) in
    let low = subst (λ n. low_bytes n v ≡ c.args.bytes.now) len c.take_back-value.ensures.bytes in
    let high = subst (λ n. v / 256 ^ n ≡ 0) len c.take_back-value.ensures.left in
    let same = same_value k r v (sym (c.shrink.ensures.gives_off r) ∙ is ∙ sym low) (nothing_left c.args.modulus k c.shrink.result.modulus r c.shrink.ensures below ∙ sym high) in
    absurd (omega (arith, same, below, c.if-value-modulus.true))

pub returns-clause-only : goal.returns-clause-only
returns-clause-only c = λ r below is.
    let k = c.shrink.result.bytes in
    let v = c.take_back-value.result in
    let len : length c.args.bytes.now ≡ k = omega (arith, c.if-bytes-shrink.false) in
    let low = subst (λ n. low_bytes n v ≡ c.args.bytes.now) len c.take_back-value.ensures.bytes in
    let high = subst (λ n. v / 256 ^ n ≡ 0) len c.take_back-value.ensures.left in
    let same = same_value k r v (sym (c.shrink.ensures.gives_off r) ∙ is ∙ sym low) (nothing_left c.args.modulus k c.shrink.result.modulus r c.shrink.ensures below ∙ sym high) in
    (refl, same ∙ sym (get_or-set_same c.args.digits.now 0 v 0 c.requires.some))
