use Rattle.std.proofs.Common.{◌≡◌, true, false, sym, subst}
use Rattle.group_model.specs.Messages.{Stands}
use Rattle.group_messages.specs.Messages.{ids_of}
use Rattle.causal_history.specs.Rows.{history_of}
use Rattle.causal_history.proofs.HeadMarks.{not_missing}
use Rattle.causal_history.proofs.Numbers.{number-stands}
use Rattle.causal_history.proofs.TableFacts.{some-is}
use Rattle.causal_history.proofs.history.History.may_push.Goals as goal

pub returns-then-is_some : goal.returns-then-is_some
returns-then-is_some c = (
  λ t. absurd (let e : false ≡ true = t in cc),
  λ m. absurd (not_missing (history_of c.args.self.now) (ids_of c.args.header.now.predecessors) c.missing.result (sym c.if-is_some.ensures)
      c.missing.ensures m.predecessors),
)

pub returns-then-is_some-2 : goal.returns-then-is_some-2
returns-then-is_some-2 c = (
  λ t. absurd (let e : false ≡ true = t in cc),
  λ m.
      let s = some-is _ _ c.find-known.result (sym c.if-is_some-2.ensures) c.find-known.ensures.number in
      absurd (m.fresh (subst (λ z. Stands (history_of c.args.self.now) z) c.id.ensures
      (number-stands (history_of c.args.self.now) c.id.result.0.0 s.0 s.2))),
)
