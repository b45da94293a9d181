use Rattle.std.proofs.Common.{ℕ, ℤ, List, arith, sym, subst, All, to_z, w32, ◌∙◌}
use Rattle.std.proofs.lemmas.List.{take_at}
use Rattle.ring_poly.specs.Ring.{IsCentred}
use Rattle.ring_solve.specs.Steps.{SolvesRows}
use Rattle.ring_solve.proofs.Primes.{field_prime}
use Rattle.ring_solve.proofs.inverse.Goals as goal

pub found-requires-clause-modulus : goal.found-requires-clause-modulus
found-requires-clause-modulus g c = record {
  prime = field_prime c.modulus-m.result _ c.modulus-m.ensures.value c.requires.modulus;
  some = let least = c.modulus-m.ensures.least in omega arith;
  small = c.modulus-m.ensures.most;
}

pub decide-is_inverse-requires-clause-prime : goal.decide-is_inverse-requires-clause-prime
decide-is_inverse-requires-clause-prime g c = record {
  prime = field_prime c.modulus-m.result _ c.modulus-m.ensures.value c.requires.modulus;
  some = let least = c.modulus-m.ensures.least in omega arith;
  small = c.modulus-m.ensures.most;
}

pub decide-is_inverse-requires-clause-solved : goal.decide-is_inverse-requires-clause-solved
decide-is_inverse-requires-clause-solved g c =
    let Q : List ℕ → Type 0 = λ xs. SolvesRows c.modulus-m.result g.row.P c.args.a.now xs in
    subst Q (sym c.as_slice.ensures.value) c.in_ok-x.ensures

pub returns-then-is_inverse-clause-centred : goal.returns-then-is_inverse-clause-centred
returns-then-is_inverse-clause-centred g c =
    let same = c.decide-is_inverse.auto.answer in
    let len = c.as_mut_slice.ensures.len in
    let whole = c.from_vec-answer.ensures ∙ take_at c.decide-is_inverse.new.answer _ c.in_ok-answer.answer.len (omega arith) in
    let Q : List ℤ → Type 0 = λ xs. All (IsCentred (to_z w32 g.row.M)) xs in
    subst Q (sym whole) c.decide-is_inverse.ensures.centred

pub returns-clause-centred : goal.returns-clause-centred
returns-clause-centred g c =
    let same = c.decide-is_inverse.auto.answer in
    let len = c.as_mut_slice.ensures.len in
    let whole = c.from_vec-answer.ensures ∙ take_at c.decide-is_inverse.new.answer _ c.in_ok-answer.answer.len (omega arith) in
    let Q : List ℤ → Type 0 = λ xs. All (IsCentred (to_z w32 g.row.M)) xs in
    subst Q (sym whole) c.decide-is_inverse.ensures.centred
