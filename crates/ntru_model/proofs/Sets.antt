-- What the proofs need of a set of parameters.
use Rattle.std.proofs.Common.{◌≡◌, inl, inr, ◌*◌, ◌%◌, ◌<◌, ◌≤◌, refl, sym, subst, arith}
use Rattle.ntru_model.specs.Parameters.{Parameters, IsKnown}

pub record IsSet (s : Parameters) : Type 0 where
  pub p_form : s.p % 4 ≡ 1
  pub p_some : 1 < s.p
  pub q_form : s.q % 6 ≡ 1
  pub q_some : 6 < s.q
  pub q_few : s.q < 65536
  pub w_room : 16 * s.w < s.q
  pub w_few : s.w ≤ s.p

pub is_set : (s : Parameters) → IsKnown s → IsSet s
is_set s h =
    elim h [
      | inl e ↦ subst IsSet (sym e) (record { p_form = refl; p_some = omega arith; q_form = refl; q_some = omega arith; q_few = omega arith; w_room = omega arith; w_few = omega arith })
      | inr e ↦ subst IsSet (sym e) (record { p_form = refl; p_some = omega arith; q_form = refl; q_some = omega arith; q_few = omega arith; w_room = omega arith; w_few = omega arith })
    ]
