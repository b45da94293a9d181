use Rattle.std.proofs.Common.{◌≡◌, ℕ, ◌*◌, ◌<◌, ◌%◌, length, slice_index, arith, pos, sym, ap, ◌∙◌}
use Rattle.std.proofs.lemmas.Grind.{common_steps}
use Rattle.std.proofs.lemmas.Nat.{mod_below}
use Rattle.ring_poly.proofs.Congruences.{IsCongruent-then}
use Rattle.ring_solve.proofs.Eliminates.{congruent_same, placed_basis, placed_keeps, placed_follows, scaled_back, rest_is}
use Rattle.ring_solve.proofs.place.Goals as goal

pub returns : goal.returns
returns c =
    let m = c.args.m in
    let row = c.args.row.now in
    let k = c.args.c in
    let lead = c.args.lead in
    let s = c.invert.result in
    let new = c.keep.new.basis in
    let kept = c.args.kept.now in
    let one_less = c.requires.modulus.some in
    let column = c.requires.lead.column in
    let kept_len = c.requires.basis.kept_len in
    let f : ℕ → ℕ = λ j. slice_index row j % m * s % m in
    let none : (j : ℕ) → j < k → f j ≡ 0 = λ j lt. ap (λ x. x * s % m) (rest_is m (slice_index row j) 0 (omega arith) (c.requires.cleared j lt)) ∙ rest_is m (0 * s) 0 (omega arith) (congruent_same m (0 * s) 0 (omega arith)) in
    let one : f k ≡ 1 =
    rest_is m (slice_index row k % m * s) 1 c.requires.modulus.some
    (IsCongruent-then (pos m) _ _ _ (congruent_same m _ (s * lead) (ap (λ x. x * s) (sym c.requires.lead.rest) ∙ omega arith)) c.invert.ensures.inverse) in
    record {
      basis = placed_basis m (length row) k c.args.basis.now new kept f c.requires.basis column (omega arith) c.keep.ensures
          (λ j. mod_below (slice_index row j % m * s) m (omega arith)) none one;
      follows = λ a len v. placed_follows m (length row) k lead row new kept a column kept_len len
          (λ j lt. IsCongruent-then (pos m) _ _ _ (scaled_back m lead s (slice_index row j) c.invert.ensures.inverse) (congruent_same m _ _ (ap (λ x. lead * x) (sym (c.keep.ensures.written j lt)))))
          v;
      keeps = λ a len v. placed_keeps m (length row) k c.args.basis.now new kept f a c.requires.free c.keep.ensures len v;
      count = grind (arith, common_steps);
    }
