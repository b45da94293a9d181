use Rattle.std.proofs.Common.{◌≡◌, [], get_or, sym, subst, arith}
use Rattle.std.proofs.lemmas.List.{take_all}
use Rattle.group_model.specs.Messages.{Stands}
use Rattle.group_messages.specs.Messages.{ids_of}
use Rattle.causal_history.specs.Bits.{mark}
use Rattle.causal_history.specs.Numbered.{IsNumberOf, MarksMore}
use Rattle.causal_history.specs.Rows.{history_of}
use Rattle.causal_history.proofs.ListMore.{get-below}
use Rattle.causal_history.proofs.Numbers.{more-start, more-put, more-none}
use Rattle.causal_history.proofs.TableFacts.{id-at, length-ids_of}
use Rattle.causal_history.proofs.history.History.mark.Goals as goal
use Rattle.causal_history.proofs.history.History.mark.Goals.{in-Some, in_default}

pub loop-at-init : goal.loop-at-init
loop-at-init c = more-start (history_of c.args.self.now) (mark c.args.into.now)

pub put-requires : goal.put-requires
put-requires c = omega (arith, c.in-Some.ensures.within, c.in-Some.ensures.kept.few)

pub loop-at-preserved : goal.loop-at-preserved
loop-at-preserved c =
    let is : get_or (ids_of c.args.ids.now) c.loop-at.at [] ≡ c.id.result.0 = id-at c.args.ids.now c.loop-at.at c.id.result c.id.ensures in
    let below = get-below c.args.ids.now c.loop-at.at c.id.result c.id.ensures in
    elim c.match-find.branch [
      | in-Some w ↦ rw w.into-is (more-put (history_of c.args.self.now) w.in-Some.ensures.kept.history (ids_of c.args.ids.now) c.loop-at.at []
          (omega (arith, below, length-ids_of c.args.ids.now)) (mark c.args.into.now) (mark c.loop-at.into) (mark w.put.new.self) w.in-Some.index
          (subst (λ z. IsNumberOf (history_of c.args.self.now) z w.in-Some.index) (sym is) w.in-Some.ensures.number) c.loop-at.invariant
          w.put.ensures.set w.put.ensures.others)
      | in_default w ↦ rw w.into-is (more-none (history_of c.args.self.now) (ids_of c.args.ids.now) c.loop-at.at []
          (omega (arith, below, length-ids_of c.args.ids.now)) (mark c.args.into.now) (mark c.loop-at.into)
          (subst (λ z. Stands (history_of c.args.self.now) z → ⊥) (sym is) w.in_default.ensures.number) c.loop-at.invariant)
    ]

pub returns : goal.returns
returns c = subst (λ z. MarksMore (history_of c.args.self.now) z (mark c.args.into.now) (mark c.loop-at.into))
    (take_all c.loop-at.at (ids_of c.args.ids.now) (omega (arith, length-ids_of c.args.ids.now, c.count-at-end.ensures, c.loop-at-test.false)))
    c.loop-at.invariant
