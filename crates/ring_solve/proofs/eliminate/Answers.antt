use Rattle.std.proofs.Common.{◌≡◌, ℕ, ◌+◌, ◌-◌, slice_index, drop, length, arith, refl, sym, ap, ◌∙◌, ⊎_elim, subst}
use Rattle.std.proofs.lemmas.Bool.{cases_lt}
use Rattle.std.proofs.lemmas.List.{get_or-take, get_or-drop}
use Rattle.ring_solve.specs.Elimination.{Vanishes}
use Rattle.ring_solve.proofs.Eliminates.{moved_basis, moved_each, vanishes_same}
use Rattle.ring_solve.proofs.eliminate.Goals as goal

pub loop-r-init : goal.loop-r-init
loop-r-init c = record {
  is_basis = c.requires.basis;
  count = let e = c.requires.empty in omega arith;
  rows = λ a len each r some lt. absurd (omega arith);
}

pub loop-r-preserved : goal.loop-r-preserved
loop-r-preserved c =
    let m = c.args.m in
    let w = length c.args.row.now in
    let row = c.copy_from_slice.new.self in
    let same : length row ≡ w = omega arith in
    let start = w - 1 - c.loop-r.r in
    let i = c.loop-r.invariant in
    record {
      is_basis = moved_basis m w (length row) c.insert.new.basis c.insert.new.basis c.insert.new.kept c.insert.new.kept (sym same) refl refl c.insert.ensures.basis;
      count = let n = c.insert.ensures.count in let b = i.count in omega arith;
      rows = λ a len each r some lt.
          let now = moved_each m w (length row) c.insert.new.basis c.insert.new.basis c.insert.new.kept c.insert.new.kept a (sym same) refl refl each in
          ⊎_elim
          (λ earlier. i.rows a len (moved_each m (length row) w c.loop-r.basis c.loop-r.basis c.loop-r.kept c.loop-r.kept a same refl refl (c.insert.ensures.keeps a (len ∙ sym same) now)) r some earlier)
          (λ newest.
          let n = start + w - start in
          let at : c.loop-r.r ≡ r = omega arith in
          let here = vanishes_same m a c.args.residues.now row start 0 (λ j below.
          sym (ap (λ xs. slice_index xs (0 + j)) c.copy_from_slice.ensures.after ∙ get_or-take n (drop start c.args.residues.now) (0 + j) 0 (omega arith) ∙ get_or-drop start c.args.residues.now (0 + j) 0 ∙ ap (slice_index c.args.residues.now) (omega arith)))
          (c.insert.ensures.follows a (len ∙ sym same) now) in
          subst (λ (k : ℕ). Vanishes m a c.args.residues.now (w - 1 - k)) at here)
          (cases_lt r c.loop-r.r);
    }
