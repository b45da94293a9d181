use Rattle.std.proofs.Common.{◌≡◌, true, false, refl}
use Rattle.causal_history.specs.Bits.{mark}
use Rattle.causal_history.specs.Rows.{history_of}
use Rattle.group_model.specs.Marks.{marked}
use Rattle.member_view.proofs.Oldest.{number-marked}
use Rattle.member_view.proofs.KindLaws.{both-ways, suits-inner, ack-missing, ack-unmarked, ack-row}
use Rattle.member_view.proofs.conditions.may_ack.Goals as goal

pub returns-in-None : goal.returns-in-None
returns-in-None g c = (
  λ t. ack-missing g.G.Membership.rule (history_of c.args.history.now) (mark c.args.of.now) c.args.author.now.id.0.0 c.args.operation.now.0.0
      c.args.took c.in-None.ensures.number,
  λ k. refl,
)

pub returns-then-not-has : goal.returns-then-not-has
returns-then-not-has g c = let n = c.in-Some.ensures.number in let t = c.if-not-has.true in let e = c.has.ensures in (
  λ y. ack-unmarked g.G.Membership.rule (history_of c.args.history.now) c.find.ensures.kept.history (mark c.args.of.now) c.args.author.now.id.0.0
      c.args.operation.now.0.0 c.args.took c.in-Some.index n.by n.number n.has_id (let f : mark c.args.of.now c.in-Some.index ≡ false = cc in f),
  λ k. rw t refl,
)

pub returns-else-not-has : goal.returns-else-not-has
returns-else-not-has g c = let n = c.in-Some.ensures.number in let t = c.if-not-has.false in let e = c.has.ensures in
    let f : mark c.args.of.now c.in-Some.index ≡ true = cc in
    both-ways (both-ways (c.suits_ack.ensures n.by n.number)
    (suits-inner g.G.Membership.rule (history_of c.args.history.now) c.find.ensures.kept.history (marked (mark c.args.of.now) (history_of c.args.history.now))
    c.requires.ids c.requires.is c.args.author.now.id.0.0 c.args.took n.by
    (number-marked (history_of c.args.history.now) (mark c.args.of.now) c.in-Some.index n.by n.number f)))
    (ack-row g.G.Membership.rule (history_of c.args.history.now) c.find.ensures.kept.history (mark c.args.of.now) c.args.author.now.id.0.0
    c.args.operation.now.0.0 c.args.took c.in-Some.index n.by n.number n.has_id f)
