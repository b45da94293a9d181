use Rattle.std.proofs.Common.{arith, ◌≡◌, ◌≢◌, ◌+◌, ◌-◌, ◌*◌, ◌<◌, take, drop, ◌∙◌, pos, to_z, of_z, w32, w64, refl, get_or-set_other}
use Rattle.std.specs.Int.{w16}
use Rattle.std.proofs.lemmas.Int.{ints}
use Rattle.std.proofs.lemmas.List.{get_or-take, get_or-drop}
use Rattle.ring_poly.specs.Ring.{weighted, coefficient, IsCongruent, IsCentred}
use Rattle.ring_poly.proofs.Writes.{written}
use Rattle.ring_poly.proofs.Weighted.{weighted-same}
use Rattle.ring_poly.proofs.Congruences.{IsCongruent-onto}
use Rattle.ring_poly.proofs.further_coefficients.Goals as goal

pub loop-k-init : goal.loop-k-init
loop-k-init g c = record { congruent = λ k below low. absurd (omega arith); centred = λ k below low. absurd (omega arith); first = refl }

pub loop-k-preserved : goal.loop-k-preserved
loop-k-preserved g c =
    let k = c.loop-k.k in
    let p = g.row.P in
    let b = c.args.b.now in
    let numbers = c.args.numbers.now in
    let n = 2 * p - 1 - k - (p - 1 - k) in
    let same = weighted-same b (coefficient (take n (drop (p - 1 - k) numbers))) (λ j. coefficient numbers (p - 1 - k + j)) (λ j lt.
    get_or-take n (drop (p - 1 - k) numbers) j (pos 0) (omega arith) ∙ get_or-drop (p - 1 - k) numbers j (pos 0)) in
    let sum = c.dot.ensures.sum in
    let within = c.dot.ensures.within in
    let size = c.reduce.ensures.centred in
    let cast : to_z w16 (of_z w16 c.reduce.result) ≡ c.reduce.result = omega (arith, ints) in
    let ne : 0 ≢ k = omega arith in
    record {
      congruent = written (λ i x. 0 < i → IsCongruent (to_z w32 g.row.Q) x (weighted b (λ j. coefficient numbers (p - 1 - i + j)))) c.loop-k.out k _ c.reduce.result (pos 0) (omega arith) cast c.loop-k.invariant.congruent
          (λ _. IsCongruent-onto _ _ _ _ c.reduce.ensures.congruent (let e : to_z w64 (of_z w64 c.dot.result) ≡ c.dot.result = omega (arith, ints) in e ∙ sum ∙ same));
      centred = written (λ i x. 0 < i → IsCentred (to_z w32 g.row.Q) x) c.loop-k.out k _ c.reduce.result (pos 0) (omega arith) cast c.loop-k.invariant.centred (λ _. size);
      first = get_or-set_other c.loop-k.out k 0 _ (pos 0) ne ∙ c.loop-k.invariant.first;
    }

pub returns-clause-congruent : goal.returns-clause-congruent
returns-clause-congruent g c = λ k low high. c.loop-k.invariant.congruent k (omega arith) low

pub returns-clause-centred : goal.returns-clause-centred
returns-clause-centred g c = λ k low high. c.loop-k.invariant.centred k (omega arith) low

pub returns-clause-first : goal.returns-clause-first
returns-clause-first g c = c.loop-k.invariant.first
