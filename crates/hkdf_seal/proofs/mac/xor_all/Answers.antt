use Rattle.std.proofs.Common.{◌≡◌, ◌++◌, ℕ, ◌<◌, map, take, drop, bit_xor, get_or, length, arith, ap, ap₂, List, ◌+◌, length-append, length-take, length-drop, ◌∙◌, append-nil}
use Rattle.std.proofs.lemmas.List.{take_all, drop_all, get_or_default, length-map}
use Rattle.std.proofs.lemmas.List.Edits.{map_over_more}
use Rattle.hkdf_seal.specs.Keys.{xor_all}
use Rattle.hkdf_seal.proofs.mac.xor_all.Goals as goal

pub bytes-preserved : goal.bytes-preserved
bytes-preserved c =
    let old : List ℕ = c.args.block in
    let i : ℕ = c.bytes.i in
    let flip : ℕ → ℕ = λ byte. bit_xor byte c.args.pad in
    let e : c.bytes.block ≡ map flip (take i old) ++ drop i old = c.bytes.invariant in
    let long : length c.bytes.block ≡ length (map flip (take i old)) + length (drop i old) = ap length e ∙ length-append (map flip (take i old)) (drop i old) in
    let within : i < length old = omega arith in
    let inside : i < length c.bytes.block = omega (arith, long, length-map (take i old) flip, length-take i old, length-drop i old) in
    map_over_more flip old c.bytes.block i (get_or c.bytes.block i 0) within e (get_or_default c.bytes.block i 0 _ inside)

pub returns : goal.returns
unfolding xor_all
returns c =
    let e : c.bytes.block ≡ map (λ byte. bit_xor byte c.args.pad) (take c.bytes.i c.args.block) ++ drop c.bytes.i c.args.block = c.bytes.invariant in
    e ∙ (ap₂ (λ a b. map (λ byte. bit_xor byte c.args.pad) a ++ b) (take_all c.bytes.i c.args.block (omega arith)) (drop_all c.bytes.i c.args.block (omega arith))
    ∙ append-nil (map (λ byte. bit_xor byte c.args.pad) c.args.block))
