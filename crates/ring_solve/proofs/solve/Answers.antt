use Rattle.std.proofs.Common.{◌≡◌, ◌≢◌, ℕ, ◌-◌, ◌*◌, ◌<◌, slice_index, set, length, map, pos, arith, sym, subst, ◌∙◌, ⊎_elim, get_or-set_same, get_or-set_other}
use Rattle.std.proofs.lemmas.Nat.{mul-le, row_fits}
use Rattle.std.proofs.lemmas.Bool.{cases_eq}
use Rattle.std.proofs.lemmas.List.{length-set}
use Rattle.ring_solve.specs.Elimination.{Vanishes}
use Rattle.ring_solve.proofs.Solving.{solved_same, solved_here, set_below}
use Rattle.ring_solve.proofs.solve.Goals as goal

pub overflow_mul-c : goal.overflow_mul-c
overflow_mul-c c = omega (arith, mul-le (c.args.free - 1 - c.loop-step.step) (length c.args.x.now) 761 761 (omega arith) (omega arith))

pub row_sum-sum-requires-clause-place : goal.row_sum-sum-requires-clause-place
row_sum-sum-requires-clause-place c = let r = c.requires.rows (c.args.free - 1 - c.loop-step.step) (omega arith) in let len = r.len in omega (arith, length-set c.args.x.now c.args.free 1, row_fits (c.args.free - 1 - c.loop-step.step) (length c.args.x.now) (length c.args.x.now) (length c.args.x.now) (omega arith) (omega arith))

pub row_sum-sum-requires-clause-room : goal.row_sum-sum-requires-clause-room
row_sum-sum-requires-clause-room c = let r = c.requires.rows (c.args.free - 1 - c.loop-step.step) (omega arith) in let len = r.len in omega (arith, mul-le (length c.args.x.now) (length c.args.x.now) 761 761 (omega arith) (omega arith))

pub row_sum-sum-requires-clause-basis_below : goal.row_sum-sum-requires-clause-basis_below
row_sum-sum-requires-clause-basis_below c = λ k. let r = c.requires.rows (c.args.free - 1 - c.loop-step.step) (omega arith) in let b = r.below k in omega arith

pub row_sum-sum-requires-clause-below : goal.row_sum-sum-requires-clause-below
row_sum-sum-requires-clause-below c = λ j. let b = c.loop-step.invariant.below j in omega arith

pub loop-step-init : goal.loop-step-init
loop-step-init c =
    let x = c.args.x.now in
    record {
      below = set_below c.args.m x c.args.free 1 (omega arith) (λ j. let b = c.requires.blank j in omega arith);
      one = let lt = c.requires.column in get_or-set_same x c.args.free 1 0 lt;
      beyond = λ j lt. let ne : j ≢ c.args.free = omega arith in get_or-set_other x c.args.free j 1 0 ne ∙ c.requires.blank j;
      unset = λ j lt. let ne : j ≢ c.args.free = omega arith in get_or-set_other x c.args.free j 1 0 ne ∙ c.requires.blank j;
      vanishes = λ d le lt. absurd (omega arith);
    }

pub loop-step-preserved : goal.loop-step-preserved
loop-step-preserved c =
    let x = c.loop-step.x in
    let w = length c.args.x.now in
    let free = c.args.free in
    let k = free - 1 - c.loop-step.step in
    let v = c.negated.result in
    let i = c.loop-step.invariant in
    let in_x : k < length x = omega (arith, length-set c.args.x.now c.args.free 1) in
    let none : slice_index x k ≡ 0 = i.unset k (omega arith) in
    record {
      below = set_below c.args.m x k v c.negated.ensures.below i.below;
      one = let ne : free ≢ k = omega arith in get_or-set_other x k free v 0 ne ∙ i.one;
      beyond = λ j lt. let ne : j ≢ k = omega arith in get_or-set_other x k j v 0 ne ∙ i.beyond j lt;
      unset = λ j lt. let ne : j ≢ k = omega arith in get_or-set_other x k j v 0 ne ∙ i.unset j (omega arith);
      vanishes = λ d le lt. ⊎_elim
          (λ same. subst (λ (n : ℕ). Vanishes c.args.m (map pos (set x k v)) c.args.basis.now (n * w)) (sym same)
          (solved_here c.args.m k v c.row_sum-sum.result x c.args.basis.now (k * w) in_x none (let r = c.requires.rows k (omega arith) in r.pivot) c.row_sum-sum.ensures c.negated.ensures.opposite))
          (λ other. solved_same c.args.m k v x c.args.basis.now (d * w) in_x none (let r = c.requires.rows d (omega arith) in r.before k (omega arith)) (i.vanishes d (omega arith) lt))
          (cases_eq d k);
    }
