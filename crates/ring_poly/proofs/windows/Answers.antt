use Rattle.std.proofs.Common.{arith, ◌≡◌, ◌-◌, pos, length, ⊎_elim}
use Rattle.std.proofs.lemmas.Int.{ints}
use Rattle.std.proofs.lemmas.Bool.{cases_lt}
use Rattle.std.proofs.lemmas.List.{get_or_past}
use Rattle.ring_poly.specs.Ring.{IsWithin}
use Rattle.ring_poly.proofs.Rows.{number_is, number_within, rows_are, first_is}
use Rattle.ring_poly.proofs.Writes.{written}
use Rattle.ring_poly.proofs.Weighted.{entry}
use Rattle.ring_poly.proofs.Casts.{widened_16}
use Rattle.ring_poly.proofs.windows.Goals as goal

pub loop-place-init : goal.loop-place-init
loop-place-init g c = record { are = λ k lt. absurd (omega arith); within = λ k lt. absurd (omega arith) }

pub loop-place-preserved : goal.loop-place-preserved
loop-place-preserved g c =
    let p = g.row.P in
    let a = c.args.a.now in
    let number = c.window_number.ensures in
    let is = number_is p c.loop-place.place a c.window_number.result c.requires.len (omega arith) (omega arith) number.low number.mid number.high in
    let within = number_within p c.loop-place.place a c.window_number.result c.requires.within number.low number.mid number.high in
    let cast = widened_16 c.window_number.result within in
    record {
      are = written (λ k x. x ≡ entry p a (p - 1) k) c.loop-place.numbers c.loop-place.place _ _ (pos 0) (omega arith) cast c.loop-place.invariant.are is;
      within = written (λ k x. IsWithin 4590 x) c.loop-place.numbers c.loop-place.place _ _ (pos 0) (omega arith) cast c.loop-place.invariant.within within;
    }

pub returns-clause-rows : goal.returns-clause-rows
returns-clause-rows g c = rows_are g.row.P c.args.a.now c.loop-place.numbers (λ m lt. c.loop-place.invariant.are m (omega arith))

pub returns-clause-first : goal.returns-clause-first
returns-clause-first g c = first_is g.row.P c.args.a.now c.loop-place.numbers c.requires.len (λ m lt. c.loop-place.invariant.are m (omega arith))

pub returns-clause-within : goal.returns-clause-within
returns-clause-within g c = λ j.
    ⊎_elim (λ below. c.loop-place.invariant.within j (omega arith))
    (λ above. let e = get_or_past c.loop-place.numbers j (pos 0) (omega arith) in (omega (arith, ints), omega (arith, ints)))
    (cases_lt j (length c.loop-place.numbers))
