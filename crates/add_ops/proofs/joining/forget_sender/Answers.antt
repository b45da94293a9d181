use Rattle.std.proofs.Common.{arith}
use Rattle.causal_history.specs.Rows.{history_of}
use Rattle.group_model.specs.Membership.{ids_named}
use Rattle.add_ops.proofs.Forgotten.{one-forgotten}
use Rattle.add_ops.proofs.joining.forget_sender.Goals as goal

pub step-requires : goal.step-requires
step-requires g c = omega (arith, c.row_place.ensures.within, c.requires.met)

pub returns : goal.returns
returns g c = λ m n. one-forgotten g.K.Kem (ids_named (history_of c.args.history.now)) m c.row_place.result (c.row_place.ensures.place m n)
    _ _ c.step.ensures.book (λ O others q x state s l. c.calls_stand.ensures O others q x state s l)
