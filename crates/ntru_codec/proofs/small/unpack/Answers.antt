use Rattle.std.proofs.Common.{◌≡◌, ◌+◌, ◌-◌, ◌*◌, ◌/◌, ◌%◌, ◌++◌, ◌∷◌, [], length, take, get_or, set, to_z, of_z, SFits, w16, sym, ap, ap₂, ◌∙◌, arith, rules}
use Rattle.std.proofs.lemmas.Int.{to_z-of_z}
use Rattle.std.proofs.lemmas.List.{take_more, take_more_set, take_all, length-set}
use Rattle.ntru_codec.specs.Small.{coefficient_of}
use Rattle.ntru_codec.proofs.Codes.{take_four_set, fields, fields_none, fields_push, coefficients_split}
use Rattle.ntru_codec.proofs.small.unpack.Goals as goal

pub loop-i-init : goal.loop-i-init
loop-i-init c = sym fields_none

pub loop-i-preserved : goal.loop-i-preserved
loop-i-preserved c =
    let i = c.loop-i.i in
    let bytes = c.args.bytes.now in
    let b = get_or bytes i 0 in
    let up : 4 * (i + 1) ≡ 4 * i + 4 = omega arith in
    let x = to_z w16 (of_z w16 c.coefficient.result) in
    let y = to_z w16 (of_z w16 c.coefficient-in-loop-i.result) in
    let z = to_z w16 (of_z w16 c.coefficient-in-loop-i-2.result) in
    let w = to_z w16 (of_z w16 c.coefficient-in-loop-i-3.result) in
    let fx : SFits w16 c.coefficient.result = search rules in
    let fy : SFits w16 c.coefficient-in-loop-i.result = search rules in
    let fz : SFits w16 c.coefficient-in-loop-i-2.result = search rules in
    let fw : SFits w16 c.coefficient-in-loop-i-3.result = search rules in
    let ex : x ≡ coefficient_of (b % 4) = to_z-of_z w16 c.coefficient.result fx ∙ c.coefficient.ensures in
    let ey : y ≡ coefficient_of (b / 4 % 4) = to_z-of_z w16 c.coefficient-in-loop-i.result fy ∙ c.coefficient-in-loop-i.ensures in
    let ez : z ≡ coefficient_of (b / 16 % 4) = to_z-of_z w16 c.coefficient-in-loop-i-2.result fz ∙ c.coefficient-in-loop-i-2.ensures in
    let ew : w ≡ coefficient_of (b / 64) = to_z-of_z w16 c.coefficient-in-loop-i-3.result fw ∙ c.coefficient-in-loop-i-3.ensures in
    ap (λ n. take n (set (set (set (set c.loop-i.into (4 * i) x) (4 * i + 1) y) (4 * i + 2) z) (4 * i + 3) w)) up
    ∙ take_four_set c.loop-i.into (4 * i) x y z w (omega (arith, c.requires.size, c.loop-i.auto.into))
    ∙ ap₂ (λ xs ys. xs ++ ys) c.loop-i.invariant (ap₂ (λ p ps. p ∷ ps) ex (ap₂ (λ p ps. p ∷ ps) ey (ap₂ (λ p ps. p ∷ ps) ez (ap (λ p. p ∷ []) ew))))
    ∙ sym (fields_push (take i bytes) b)
    ∙ ap fields (sym (take_more bytes i 0 (omega arith)))

pub returns : goal.returns
returns c =
    let i = c.loop-i.i in
    let bytes = c.args.bytes.now in
    let at : length bytes - 1 ≡ i = omega arith in
    let x = to_z w16 (of_z w16 c.coefficient-2.result) in
    let fx : SFits w16 c.coefficient-2.result = search rules in
    let len : length c.loop-i.into ≡ 4 * i + 1 = omega (arith, c.loop-i.auto.into, c.requires.size) in
    let last : x ≡ coefficient_of (get_or bytes i 0) = to_z-of_z w16 c.coefficient-2.result fx ∙ c.coefficient-2.ensures ∙ ap (λ n. coefficient_of (get_or bytes n 0)) at in
    ap (λ n. set c.loop-i.into (4 * n) x) at
    ∙ sym (take_all (4 * i + 1) (set c.loop-i.into (4 * i) x) (omega (arith, length-set c.loop-i.into (4 * i) x)))
    ∙ take_more_set c.loop-i.into (4 * i) x (omega (arith, len))
    ∙ ap₂ (λ xs p. xs ++ p ∷ []) c.loop-i.invariant last
    ∙ sym (coefficients_split bytes i (omega (arith, at, c.requires.some)))
