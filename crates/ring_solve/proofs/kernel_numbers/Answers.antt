use Rattle.std.proofs.Common.{◌≡◌, ℕ, ℤ, ◌+◌, ◌-◌, ◌*◌, length, map, pos, arith, refl, sym, ap, subst, ◌∙◌}
use Rattle.std.proofs.lemmas.List.{length-map, length-take}
use Rattle.ring_solve.specs.Elimination.{Vanishes}
use Rattle.ring_solve.proofs.Eliminates.{kept_row, moved_basis, moved_each}
use Rattle.ring_solve.proofs.Solving.{each_vanishes}
use Rattle.ring_solve.proofs.Deciding.{blank_basis, sum-blank, row_coefficient}
use Rattle.ring_solve.proofs.kernel_numbers.Goals as goal

pub eliminate-requires-clause-basis : goal.eliminate-requires-clause-basis
eliminate-requires-clause-basis g c =
    let room = c.requires.memory in
    let some = c.requires.modulus.some in
    blank_basis c.args.m (length c.args.row.now) c.args.basis.now c.args.kept.now (omega arith)
    (room.basis_len ∙ sym (ap (λ n. n * n) room.row_len)) (room.kept_len ∙ sym room.row_len) room.basis_blank room.kept_blank

pub eliminate-requires-clause-empty : goal.eliminate-requires-clause-empty
eliminate-requires-clause-empty g c = sum-blank c.args.kept.now c.requires.memory.kept_blank

pub free_column-free-requires : goal.free_column-free-requires
free_column-free-requires g c =
    let n = c.eliminate.ensures.count in
    let k = c.eliminate.ensures.is_basis.kept_len in
    omega arith

pub solve-requires-clause-column : goal.solve-requires-clause-column
solve-requires-clause-column g c =
    let i = c.free_column-free.ensures.in_range in
    let k = c.eliminate.ensures.is_basis.kept_len in
    let r = c.requires.memory.row_len in
    let x = c.requires.memory.x_len in
    omega arith

pub solve-requires-clause-rows : goal.solve-requires-clause-rows
solve-requires-clause-rows g c = λ d lt.
    let room = c.requires.memory in
    let basis = c.eliminate.new.basis in
    let kept = c.eliminate.new.kept in
    let b = moved_basis c.args.m (length c.args.x.now) (length c.args.row.now) basis basis kept kept (room.x_len ∙ sym room.row_len) refl refl c.eliminate.ensures.is_basis in
    let i = c.free_column-free.ensures.in_range in
    let k = b.kept_len in
    kept_row c.args.m (length c.args.x.now) d basis kept b (omega arith)
    (let at_most = b.counts d in let at_least = c.free_column-free.ensures.before d lt in omega arith)

pub returns : goal.returns
returns g c =
    let m = c.args.m in
    let x = c.solve.new.x in
    let w = length c.args.x.now in
    let v = length c.args.row.now in
    let room = c.requires.memory in
    let row_len = room.row_len in
    let basis = c.eliminate.new.basis in
    let kept = c.eliminate.new.kept in
    let same : w ≡ v = room.x_len ∙ sym room.row_len in
    let b = moved_basis m w v basis basis kept kept same refl refl c.eliminate.ensures.is_basis in
    let kept_len = b.kept_len in
    let x_len : length x ≡ w = c.solve.auto.x in
    let in_range = c.free_column-free.ensures.in_range in
    record {
      len = x_len ∙ room.x_len;
      below = c.solve.ensures.below;
      one = (c.free_column-free.result, omega arith, c.solve.ensures.one);
      rows = λ k some lt.
          let mapped = length-map x pos in
          let each = moved_each m w v basis basis kept kept (map pos x) same refl refl
          (each_vanishes m w c.free_column-free.result x basis kept b x_len c.free_column-free.ensures.free c.solve.ensures) in
          let numbers_len : length c.windows.new.numbers + 1 ≡ 2 * g.row.P = omega (arith, length-take {A = ℤ}) in
          let row = c.eliminate.ensures.rows (map pos x) (omega arith) each k some (omega arith) in
          row_coefficient m g.row.P c.args.a.now c.windows.new.numbers x c.reduce_numbers.new.residues k (omega arith) c.windows.ensures.rows
          (λ j below. c.reduce_numbers.ensures.congruent j (omega arith)) some lt
          (subst (λ (n : ℕ). Vanishes m (map pos x) c.reduce_numbers.new.residues (n - 1 - k)) room.row_len row);
    }
