use Rattle.std.proofs.Common.{arith, ◌≡◌, ◌<◌, ℤ, length, drop, ◌+ℤ◌, ◌*ℤ◌, subst, sym, ap, ◌∙◌, pos, to_z, of_z, w32, get_or-set_same, ⊎_elim}
use Rattle.std.specs.Int.{w16}
use Rattle.std.proofs.lemmas.Int.{ints}
use Rattle.std.proofs.lemmas.Bool.{cases_lt}
use Rattle.std.proofs.lemmas.List.{length-set}
use Rattle.std.proofs.lemmas.List.Elements.{All-from_get_or}
use Rattle.ring_poly.specs.Ring.{coefficient, weighted, IsCentred, IsCongruent}
use Rattle.ring_poly.proofs.Centred.{within_from_centred}
use Rattle.ring_poly.proofs.Rows.{product_congruent}
use Rattle.ring_poly.proofs.mul_q.Goals as goal

pub windows-requires-clause-within : goal.windows-requires-clause-within
windows-requires-clause-within g c = within_from_centred _ c.args.a.now c.requires.modulus c.requires.a_centred

pub first_coefficient-requires-clause-a_within : goal.first_coefficient-requires-clause-a_within
first_coefficient-requires-clause-a_within g c = within_from_centred _ c.args.a.now c.requires.modulus c.requires.a_centred

pub first_coefficient-requires-clause-b_within : goal.first_coefficient-requires-clause-b_within
first_coefficient-requires-clause-b_within g c = within_from_centred _ c.args.b.now c.requires.modulus c.requires.b_centred

pub further_coefficients-requires-clause-b_within : goal.further_coefficients-requires-clause-b_within
further_coefficients-requires-clause-b_within g c = within_from_centred _ c.args.b.now c.requires.modulus c.requires.b_centred

pub returns-clause-congruent : goal.returns-clause-congruent
returns-clause-congruent g c =
    let out = c.further_coefficients.new.out in
    let value = c.first_coefficient.result in
    let size = c.first_coefficient.ensures.centred in
    let cast : to_z w16 (of_z w16 value) ≡ value = omega (arith, ints) in
    let some : 0 < length c.args.out.now = omega arith in
    let first : coefficient out 0 ≡ value = c.further_coefficients.ensures.first ∙ get_or-set_same c.args.out.now 0 _ (pos 0) some ∙ cast in
    let same = length-set c.args.out.now 0 (to_z w16 (of_z w16 value)) in
    product_congruent _ g.row.P c.args.a.now c.args.b.now out c.windows.new.numbers (omega arith) c.requires.b_len (omega arith) c.windows.ensures.rows c.windows.ensures.first
    (let Q : ℤ → Type 0 = λ x. IsCongruent (to_z w32 g.row.Q) x (coefficient c.args.b.now 0 *ℤ coefficient c.args.a.now 0 +ℤ weighted (drop 1 c.args.b.now) (coefficient c.windows.new.numbers)) in subst Q (sym first) c.first_coefficient.ensures.congruent)
    c.further_coefficients.ensures.congruent

pub returns-clause-centred : goal.returns-clause-centred
returns-clause-centred g c =
    let out = c.further_coefficients.new.out in
    let value = c.first_coefficient.result in
    let size = c.first_coefficient.ensures.centred in
    let cast : to_z w16 (of_z w16 value) ≡ value = omega (arith, ints) in
    let some : 0 < length c.args.out.now = omega arith in
    let first : coefficient out 0 ≡ value = c.further_coefficients.ensures.first ∙ get_or-set_same c.args.out.now 0 _ (pos 0) some ∙ cast in
    let same = length-set c.args.out.now 0 (to_z w16 (of_z w16 value)) in
    All-from_get_or (IsCentred (to_z w32 g.row.Q)) out (pos 0) (λ k lt. ⊎_elim
    (λ below. let at : k ≡ 0 = omega arith in
    let Q : ℤ → Type 0 = λ x. IsCentred (to_z w32 g.row.Q) x in subst Q (sym (ap (coefficient out) at ∙ first)) size)
    (λ above. c.further_coefficients.ensures.centred k (omega arith) (omega arith))
    (cases_lt k 1))
