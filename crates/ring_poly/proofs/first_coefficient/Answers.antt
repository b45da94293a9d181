use Rattle.std.proofs.Common.{arith, ◌≡◌, ◌-◌, take, drop, length, ap, ◌∙◌, pos, to_z, of_z}
use Rattle.std.specs.Int.{w16}
use Rattle.std.proofs.lemmas.Int.{ints}
use Rattle.std.proofs.lemmas.List.{get_or-take, length-drop, take_all}
use Rattle.ring_poly.specs.Ring.{weighted, coefficient}
use Rattle.ring_poly.proofs.Casts.{multiplied_long, summed}
use Rattle.ring_poly.proofs.Integers.{Within-mul}
use Rattle.ring_poly.proofs.Weighted.{weighted-same}
use Rattle.ring_poly.proofs.Congruences.{IsCongruent-onto, IsCongruent-then, IsCongruent-same}
use Rattle.ring_poly.proofs.first_coefficient.Goals as goal

pub overflow_add-b : goal.overflow_add-b
overflow_add-b g c =
    let x = c.requires.b_within 0 in
    let y = c.requires.a_within 0 in
    let term = multiplied_long _ _ x y in
    let size = Within-mul 2295 2295 _ _ x y in
    let low = size.0 in
    let high = size.1 in
    let rest = c.dot-rest.ensures.within in
    omega (arith, ints)

pub returns-clause-congruent : goal.returns-clause-congruent
returns-clause-congruent g c =
    let b = c.args.b.now in
    let x = c.requires.b_within 0 in
    let y = c.requires.a_within 0 in
    let term = multiplied_long _ _ x y in
    let size = Within-mul 2295 2295 _ _ x y in
    let n = length b - 1 in
    let len = length-drop 1 b in
    let same = weighted-same (drop 1 b) (coefficient (take n c.args.numbers.now)) (coefficient c.args.numbers.now) (λ j lt. get_or-take n c.args.numbers.now j (pos 0) (omega arith)) in
    let whole_rest = take_all n (drop 1 b) (omega arith) in
    let whole = summed _ _ _ _ term (c.dot-rest.ensures.sum ∙ ap (λ xs. weighted xs (coefficient (take n c.args.numbers.now))) whole_rest ∙ same) size c.dot-rest.ensures.within in
    let value = c.reduce.ensures.centred in
    IsCongruent-onto _ _ _ _ (IsCongruent-then _ _ _ _ (IsCongruent-same _ _ _ (let e : to_z w16 (of_z w16 c.reduce.result) ≡ c.reduce.result = omega (arith, ints) in e)) c.reduce.ensures.congruent) whole
