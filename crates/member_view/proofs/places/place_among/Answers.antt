use Rattle.std.proofs.Common.{subst}
use Rattle.causal_history.specs.Rows.{history_of}
use Rattle.group_messages.specs.Messages.{ids_of}
use Rattle.group_model.specs.Marks.{IsPlace}
use Rattle.group_model.specs.Membership.{ids_named}
use Rattle.group_model.proofs.Places.{place-in}
use Rattle.member_view.proofs.Crowds.{id-at, sought-new, sought-old, sought-found}
use Rattle.member_view.proofs.places.place_among.Goals as goal
use Rattle.member_view.proofs.places.place_among.Goals.{in-None, in-Some}

pub loop-index-preserved : goal.loop-index-preserved
loop-index-preserved c = elim c.match-place.branch [
  | in-None w ↦ rw w.next-is (sought-new (ids_named (history_of c.args.history.now)) (ids_of c.args.more.now) c.loop-index.index c.loop-index.next
      c.args.id.now.0.0 c.id.result.0 c.requires.distinct (id-at c.args.more.now c.loop-index.index c.id.result c.id.ensures)
      w.in-None.ensures.place (λ e. let t = c.is_same.ensures.1 e in let f = c.if-is_same.false in cc) c.loop-index.invariant)
  | in-Some w ↦ rw w.next-is (sought-old (ids_named (history_of c.args.history.now)) (ids_of c.args.more.now) c.loop-index.index c.loop-index.next
      c.args.id.now.0.0 c.id.result.0 (id-at c.args.more.now c.loop-index.index c.id.result c.id.ensures)
      (place-in (ids_named (history_of c.args.history.now)) _ _ w.in-Some.ensures.place) c.loop-index.invariant)
]

pub returns-then-is_same-clause-place : goal.returns-then-is_same-clause-place
returns-then-is_same-clause-place c = sought-found (ids_named (history_of c.args.history.now)) (ids_of c.args.more.now) c.loop-index.index
    c.loop-index.next c.args.id.now.0.0
    (subst (λ z. IsPlace (ids_of c.args.more.now) c.loop-index.index z) (c.is_same.ensures.0 c.if-is_same.true)
    (id-at c.args.more.now c.loop-index.index c.id.result c.id.ensures)) c.loop-index.invariant
