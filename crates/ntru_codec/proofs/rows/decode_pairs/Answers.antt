use Rattle.std.proofs.Common.{◌≡◌, ◌+◌, ◌*◌, ◌<◌, ◌-◌, ◌/◌, ◌^◌, ◌↔◌, IsTrue, length, take, drop, get_or, ap, subst, ◌∙◌, arith}
use Rattle.std.proofs.lemmas.Bool.Decides.{nat_tests}
use Rattle.ntru_codec.specs.Rows.{low_bytes}
use Rattle.ntru_codec.proofs.Lists.{length_part, take_part}
use Rattle.ntru_codec.proofs.Pairs.{Apart-start, Apart-step, Apart-end}
use Rattle.ntru_codec.proofs.rows.decode_pairs.Goals as goal
use Rattle.ntru_codec.proofs.rows.decode_pairs.Goals.{then-whole, else-whole}

pub loop-i-init : goal.loop-i-init
loop-i-init c = Apart-start c.args.low c.args.high c.args.each c.args.bytes.now c.args.left.now c.args.digits.now

pub loop-i-preserved : goal.loop-i-preserved
loop-i-preserved c =
    let i = c.loop-i.i in
    let k = c.args.each in
    let bytes = c.args.bytes.now in
    let left = c.args.left.now in
    let v = c.take_back-value.result in
    let part = take (k * (i + 1) - k * i) (drop (k * i) bytes) in
    let there : i < length left = omega arith in
    let two : 2 * i + 1 < length c.loop-i.digits = omega (arith, c.requires.two) in
    let size : length bytes ≡ k * length left = c.requires.size in
    let len : length part ≡ k = length_part k i (length left) bytes there size in
    let low : low_bytes k v ≡ part = subst (λ n. low_bytes n v ≡ part) len c.take_back-value.ensures.bytes in
    let high : v / 256 ^ k ≡ get_or left i 0 = subst (λ n. v / 256 ^ n ≡ get_or left i 0) len c.take_back-value.ensures.left in
    let answer : IsTrue c.if-whole.whole ↔ (IsTrue c.loop-i.whole × (v / c.args.low < c.args.high)) = elim c.if-whole.branch [ then-whole w ↦ grind (arith, nat_tests) | else-whole w ↦ grind (arith, nat_tests) ] in
    Apart-step c.args.low c.args.high k i v bytes left c.loop-i.digits part c.loop-i.whole c.if-whole.whole two there c.requires.above (take_part k i bytes) low high answer c.loop-i.invariant

pub returns : goal.returns
returns c =
    let e = Apart-end c.args.low c.args.high c.args.each c.loop-i.i c.args.bytes.now c.args.left.now c.loop-i.digits c.loop-i.whole (omega arith) (omega (arith, c.requires.two)) (c.requires.size ∙ ap (λ n. c.args.each * n) (omega arith)) c.loop-i.invariant in
    record { left = e.leave; bytes = e.give; firsts = e.firsts; seconds = e.seconds }
