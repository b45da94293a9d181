use Rattle.std.proofs.Common.{◌≡◌, ◌+◌, List, ℤ, length, slice_index, arith, refl, pos, sym, ap, ◌∙◌, sum, below_more}
use Rattle.ring_poly.specs.Ring.{IsCongruent}
use Rattle.ring_solve.specs.Elimination.{VanishesAtEach}
use Rattle.ring_solve.proofs.Eliminates.{kept_row, zero_rest, vanishes_zero, moved_basis, moved_each, moved_cleared}
use Rattle.ring_solve.proofs.insert.Goals as goal
use Rattle.ring_solve.proofs.insert.Goals.{then-lead-ne0+else-kept-c-eq0, else-lead-ne0}

pub loop-c-init : goal.loop-c-init
loop-c-init c = record {
  basis = refl;
  kept = refl;
  row = record {
    cleared = λ j lt. absurd (omega arith);
    follows = λ a len each v. v;
    unreduced = record { few = omega arith; sums = λ j. let b = c.requires.row j in omega arith };
  };
}

pub place-requires-clause-cleared : goal.place-requires-clause-cleared
place-requires-clause-cleared c = c.loop-c.invariant.row.cleared

pub place-requires-clause-basis : goal.place-requires-clause-basis
place-requires-clause-basis c = moved_basis c.args.m _ _ _ _ _ _ c.loop-c.auto.row c.loop-c.invariant.basis c.loop-c.invariant.kept c.requires.basis

pub clear-steps-requires-clause-row : goal.clear-steps-requires-clause-row
clear-steps-requires-clause-row c = c.loop-c.invariant.row.unreduced

pub clear-steps-requires-clause-kept : goal.clear-steps-requires-clause-kept
clear-steps-requires-clause-kept c =
    let b = moved_basis c.args.m (length c.loop-c.row) (length c.args.row.now) c.loop-c.basis c.args.basis.now c.loop-c.kept c.args.kept.now c.loop-c.auto.row c.loop-c.invariant.basis c.loop-c.invariant.kept c.requires.basis in
    kept_row c.args.m (length c.loop-c.row) c.loop-c.c c.loop-c.basis c.loop-c.kept b (omega arith) (let at_most = b.counts c.loop-c.c in omega arith)

pub loop-c-preserved : goal.loop-c-preserved
loop-c-preserved c =
    let m = c.args.m in
    let k = c.loop-c.c in
    let old = c.loop-c.row in
    let i = c.loop-c.invariant in
    let same_len = c.loop-c.auto.row in
    record {
      basis = i.basis;
      kept = i.kept;
      row = elim c.if-lead-ne0.branch [
        | then-lead-ne0+else-kept-c-eq0 w ↦
            (let s = w.clear-steps.ensures in
            moved_cleared m c.args.basis.now c.args.kept.now c.args.row.now (k + 1) _ w.clear-steps.new.row _ w.clear-steps.result w.row-is w.steps-is
            (record {
              cleared = below_more (λ j. IsCongruent (pos m) (pos (slice_index w.clear-steps.new.row j)) (pos 0)) k (λ j lt. s.clears.before j lt (i.row.cleared j lt)) s.clears.column;
              follows = λ a len each v. i.row.follows a len each (s.clears.vanishes a (len ∙ sym same_len)
                  (let b = moved_each m (length c.args.row.now) (length old) c.args.basis.now c.loop-c.basis c.args.kept.now c.loop-c.kept a (sym same_len) (sym i.basis) (sym i.kept) each in
                  b k (omega arith) (let q = moved_basis m (length old) (length c.args.row.now) c.loop-c.basis c.args.basis.now c.loop-c.kept c.args.kept.now same_len i.basis i.kept c.requires.basis in
                  let at_most = q.counts k in let free = w.if-kept-c-eq0.false in omega arith)) v);
              unreduced = s.row;
            }))
        | else-lead-ne0 w ↦
            moved_cleared m c.args.basis.now c.args.kept.now c.args.row.now (k + 1) _ old _ c.loop-c.steps w.row-is w.steps-is
            (record {
              cleared = below_more (λ j. IsCongruent (pos m) (pos (slice_index old j)) (pos 0)) k i.row.cleared (zero_rest m (slice_index old k) (let z = w.if-lead-ne0.false in omega arith));
              follows = i.row.follows;
              unreduced = i.row.unreduced;
            })
      ];
    }

pub returns-then-kept-c-eq0 : goal.returns-then-kept-c-eq0
returns-then-kept-c-eq0 c =
    let m = c.args.m in
    let start = length c.args.row.now in
    let old = c.loop-c.row in
    let same_len = c.loop-c.auto.row in
    let i = c.loop-c.invariant in
    let p = c.place.ensures in
    let basis = c.place.new.basis in
    let kept = c.place.new.kept in
    let at_old = λ (a : List ℤ) (each : VanishesAtEach m start basis kept a). moved_each m start (length old) basis basis kept kept a (sym same_len) refl refl each in
    let keeps : (a : List ℤ) → length a ≡ start → VanishesAtEach m start basis kept a → VanishesAtEach m start c.args.basis.now c.args.kept.now a =
    λ a len each. moved_each m (length old) start c.loop-c.basis c.args.basis.now c.loop-c.kept c.args.kept.now a same_len i.basis i.kept (p.keeps a (len ∙ sym same_len) (at_old a each)) in
    record {
      basis = moved_basis m _ _ _ _ _ _ (sym same_len) refl refl p.basis;
      follows = λ a len each. i.row.follows a len (keeps a len each) (p.follows a (len ∙ sym same_len) (at_old a each));
      keeps = keeps;
      count = let e = ap sum i.kept in let s = p.count in omega arith;
    }

pub returns : goal.returns
returns c =
    let m = c.args.m in
    let start = length c.args.row.now in
    let i = c.loop-c.invariant in
    let keeps : (a : List ℤ) → length a ≡ start → VanishesAtEach m start c.loop-c.basis c.loop-c.kept a → VanishesAtEach m start c.args.basis.now c.args.kept.now a =
    λ a len each. moved_each m start start c.loop-c.basis c.args.basis.now c.loop-c.kept c.args.kept.now a refl i.basis i.kept each in
    record {
      basis = moved_basis m _ _ _ _ _ _ refl i.basis i.kept c.requires.basis;
      follows = λ a len each. i.row.follows a len (keeps a len each) (vanishes_zero m a c.loop-c.row 0 (λ j lt. i.row.cleared (0 + j) (omega arith)));
      keeps = keeps;
      count = let e = ap sum i.kept in omega arith;
    }
