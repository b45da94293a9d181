use Rattle.std.proofs.Common.{◌≡◌, ℕ, ◌+◌, ◌-◌, ◌*◌, ◌%◌, ◌<◌, ◌≤◌, length, slice_index, arith, ⊎_elim, pos, ap, ◌∙◌}
use Rattle.std.proofs.lemmas.Nat.{mul-le, row_fits}
use Rattle.std.proofs.lemmas.Bool.{cases_lt}
use Rattle.std.proofs.lemmas.List.{get_or_past}
use Rattle.ring_poly.proofs.Congruences.{IsCongruent-then, IsCongruent-back}
use Rattle.ring_solve.proofs.Residues.{congruent_by, product_small, rest_congruent}
use Rattle.ring_solve.proofs.Eliminates.{congruent_same, plus_congruent, vanishes_before}
use Rattle.ring_solve.proofs.clear.Goals as goal

pub overflow_mul-at : goal.overflow_mul-at
overflow_mul-at c = let column = c.requires.lead.column in let width = c.requires.width in omega (arith, mul-le c.args.c (length c.args.row.now) 761 761 (omega arith) (omega arith))

-- what is added to a number of the row
added : (m lead x : ℕ) → m ≤ 4591 → 0 < lead → x < m → (m - lead) * x ≤ 21068100
added m lead x small some lt = product_small (m - lead) x (omega arith) (omega arith)

pub add_kept-requires-clause-room : goal.add_kept-requires-clause-room
add_kept-requires-clause-room c =
    let k = c.requires.kept in
    let lead = c.requires.lead in
    let w = length c.args.row.now in
    let len = k.len in
    let width = c.requires.width in
    record {
      place = omega (arith, row_fits c.args.c w w w lead.column (omega arith));
      size = omega (arith, mul-le w w 761 761 (omega arith) (omega arith));
      before = k.before;
      fits = λ j lt.
          let s = c.settle-taken.ensures.row.sums j in
          let few = c.settle-taken.ensures.room in
          let t = added c.args.m c.args.lead (slice_index c.args.basis.now (c.args.c * w + j)) c.requires.small lead.some (k.below (c.args.c * w + j)) in
          omega arith;
    }

pub returns-clause-row : goal.returns-clause-row
returns-clause-row c =
    let few = c.settle-taken.ensures.room in
    record {
      few = omega arith;
      sums = λ j.
          let s = c.settle-taken.ensures.row.sums j in
          let at = c.args.c * length c.args.row.now + j in
          let t = added c.args.m c.args.lead (slice_index c.args.basis.now at) c.requires.small c.requires.lead.some (c.requires.kept.below at) in
          ⊎_elim (λ lt. let e = c.add_kept.ensures j (omega arith) in omega arith)
          (λ ge. let e = get_or_past c.add_kept.new.row j 0 (omega arith) in omega arith)
          (cases_lt j (length c.args.row.now));
    }

pub returns-clause-clears : goal.returns-clause-clears
returns-clause-clears c =
    let m = c.args.m in
    let k = c.args.c in
    let w = length c.args.row.now in
    let old = slice_index c.args.row.now k in
    let f = m - c.args.lead in
    let basis = c.args.basis.now in
    let l = c.requires.lead.rest in
    let column = c.requires.lead.column in
    let one : f * slice_index basis (k * w + k) ≡ f = ap (λ x. f * x) c.requires.kept.pivot ∙ omega arith in
    record {
      column =
          let e = c.add_kept.ensures k (omega arith) in
          IsCongruent-then (pos m) _ (pos (slice_index c.settle-taken.new.row k + f)) _ (congruent_same m _ _ (omega arith))
          (IsCongruent-then (pos m) _ (pos (old + f)) _ (plus_congruent m _ _ f (c.settle-taken.ensures.same k))
          (IsCongruent-then (pos m) _ (pos (old % m + f)) _ (IsCongruent-back (pos m) _ _ (plus_congruent m _ _ f (rest_congruent m old)))
          (congruent_by m (old % m + f) 0 1 (omega arith))));
      before = λ j lt h.
          let e = c.add_kept.ensures j (omega arith) in
          let none : f * slice_index basis (k * w + j) ≡ 0 = ap (λ x. f * x) (c.requires.kept.before j lt) ∙ omega arith in
          IsCongruent-then (pos m) _ (pos (slice_index c.settle-taken.new.row j)) _ (congruent_same m _ _ (omega arith))
          (IsCongruent-then (pos m) _ _ _ (c.settle-taken.ensures.same j) h);
      vanishes = λ a len by_basis by_row.
          vanishes_before m f a c.args.row.now basis c.add_kept.new.row (k * w)
          (λ j lt. IsCongruent-then (pos m) _ _ _ (congruent_same m _ _ (c.add_kept.ensures j (omega arith))) (plus_congruent m _ _ _ (c.settle-taken.ensures.same j)))
          by_row by_basis;
    }
