use Rattle.std.proofs.Common.{◌≡◌, ◌+◌, ◌*◌, ◌<◌, ◌-◌, ◌/◌, ◌^◌, ◌++◌, ◌∷◌, [], length, take, get_or, sym, ap, ◌∙◌, arith}
use Rattle.std.proofs.lemmas.List.{take_more_set}
use Rattle.std.proofs.lemmas.Slice.{take-put_mid}
use Rattle.ntru_codec.specs.Rows.{low_bytes, low_parts, high_parts}
use Rattle.ntru_codec.proofs.Bytes.{length-low_bytes}
use Rattle.ntru_codec.proofs.Lists.{part_end, length_part}
use Rattle.ntru_codec.proofs.Pairs.{high_parts_more, low_parts_more, none_high, none_low}
use Rattle.ntru_codec.proofs.rows.encode_pairs.Goals as goal

pub loop-i-init : goal.loop-i-init
loop-i-init c =
    let none : c.args.bytes * 0 ≡ 0 = omega arith in
    (sym (none_high c.args.modulus c.args.bytes), ap (λ n. take n c.args.into.now) none ∙ sym (none_low c.args.modulus c.args.bytes))

pub loop-i-preserved : goal.loop-i-preserved
loop-i-preserved c =
    let i = c.loop-i.i in
    let m = c.args.modulus in
    let k = c.args.bytes in
    let ds = c.args.digits.now in
    let into = c.loop-i.into in
    let v = get_or ds (2 * i) 0 + m * get_or ds (2 * i + 1) 0 in
    let there : i < length c.loop-i.left = omega arith in
    let two : 2 * i + 1 < length ds = omega (arith, c.requires.two) in
    let size : length into ≡ k * length c.loop-i.left = c.loop-i.auto.into ∙ c.requires.room ∙ ap (λ n. k * n) (sym c.loop-i.auto.left) in
    let ends = part_end k i (length c.loop-i.left) (length into) there size in
    let part = length_part k i (length c.loop-i.left) into there size in
    let written : c.give_off.new.into ≡ low_bytes k v = c.give_off.ensures.bytes ∙ ap (λ n. low_bytes n v) part in
    let stays : c.give_off.result ≡ v / 256 ^ k = c.give_off.ensures.left ∙ ap (λ n. v / 256 ^ n) part in (
      take_more_set c.loop-i.left i c.give_off.result there
          ∙ ap (λ xs. xs ++ c.give_off.result ∷ []) c.loop-i.invariant.0
          ∙ ap (λ w. high_parts m k (take (2 * i) ds) ++ w ∷ []) stays
          ∙ sym (high_parts_more m k i ds two),
      take-put_mid (k * i) (k * (i + 1) - k * i) into c.give_off.new.into (k * (i + 1)) (omega (arith, ends.1, ap length written, length-low_bytes k v)) (omega (arith, ends.0))
          ∙ ap (λ xs. xs ++ c.give_off.new.into) c.loop-i.invariant.1
          ∙ ap (λ xs. low_parts m k (take (2 * i) ds) ++ xs) written
          ∙ sym (low_parts_more m k i ds two),
    )
