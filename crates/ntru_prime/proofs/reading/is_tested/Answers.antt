use Rattle.std.proofs.Common.{◌≡◌, eq-eqb, nat_eq, true, false, arith, rules, to_z, w32}
use Rattle.std.proofs.lemmas.Grind.{common_steps}
use Rattle.std.specs.List.{count_by}
use Rattle.ring_laws.specs.Laws.{is_nonzero}
use Rattle.ntru_prime.specs.Sets.{set_of}
use Rattle.ntru_prime.proofs.Sums.{product_3_by}
use Rattle.ntru_prime.proofs.Tested.{fails_weight, fails_small, tests_product}
use Rattle.ntru_prime.proofs.reading.is_tested.Goals as goal

pub returns-then-weight : goal.returns-then-weight
returns-then-weight g c = λ rho. let e : nat_eq (count_by is_nonzero c.args.f.now) g.row.W ≡ false = first_of (search rules, grind (arith, common_steps)) in fails_weight (set_of g.row.P (to_z w32 g.row.Q) g.row.W) _ e

pub returns-then-not-is_small : goal.returns-then-not-is_small
returns-then-not-is_small g c = λ rho. let e : nat_eq (count_by is_nonzero c.args.f.now) g.row.W ≡ true = eq-eqb (count_by is_nonzero c.args.f.now) g.row.W (omega (arith, c.weight.ensures)) in
    fails_small (set_of g.row.P (to_z w32 g.row.Q) g.row.W) _ c.triple_product.new.into e c.triple_product.ensures (first_of (search rules, grind (arith, common_steps)))

pub returns : goal.returns
returns g c = λ rho. let e : nat_eq (count_by is_nonzero c.args.f.now) g.row.W ≡ true = eq-eqb (count_by is_nonzero c.args.f.now) g.row.W (omega (arith, c.weight.ensures)) in
    tests_product (set_of g.row.P (to_z w32 g.row.Q) g.row.W) _ c.triple_product.new.into c.mul_3.new.out c.is_one.result e c.triple_product.ensures (first_of (search rules, grind (arith, common_steps)))
    (product_3_by g.row.P c.triple_product.new.into c.args.g_inverse.now c.mul_3.new.out c.mul_3.ensures.centred c.mul_3.ensures.congruent) c.is_one.ensures
