use Rattle.std.proofs.Common.{◌≡◌, true, false}
use Rattle.causal_history.specs.Bits.{mark}
use Rattle.causal_history.specs.Rows.{history_of}
use Rattle.member_view.proofs.Waits.{wait-is}
use Rattle.member_view.proofs.Orders.{alone-one, missing-one}
use Rattle.member_view.proofs.waiting.answers_one.Goals as goal

pub returns-in-None : goal.returns-in-None
returns-in-None c = (
  λ y. absurd (let e : false ≡ true = y in cc),
  λ one. absurd (missing-one (history_of c.args.history.now) (mark c.args.of.now) c.args.author.now.id.0.0 c.args.operation.now.0.0 c.in-None.ensures.number one),
)

pub returns-then-waits : goal.returns-then-waits
returns-then-waits c =
    let n = c.in-Some.ensures.number in
    let one = alone-one (history_of c.args.history.now) c.find.ensures.kept.history (mark c.args.of.now) c.args.author.now.id.0.0
    c.args.operation.now.0.0 c.in-Some.index n.by n.number n.has_id in
    let w = wait-is (history_of c.args.history.now) c.find.ensures.kept.history (mark c.args.of.now) (mark c.args.met.now) c.requires.history
    c.args.author.now.id.0.0 c.in-Some.index n.by n.number c.requires.met in (
      λ y. one.0 (w.0 ((c.waits.ensures n.by n.number).0 c.if-waits.true), c.waits_alone.ensures.0 y),
      λ k. c.waits_alone.ensures.1 (one.1 k).1,
    )

pub returns-else-waits : goal.returns-else-waits
returns-else-waits c =
    let n = c.in-Some.ensures.number in
    let one = alone-one (history_of c.args.history.now) c.find.ensures.kept.history (mark c.args.of.now) c.args.author.now.id.0.0
    c.args.operation.now.0.0 c.in-Some.index n.by n.number n.has_id in
    let w = wait-is (history_of c.args.history.now) c.find.ensures.kept.history (mark c.args.of.now) (mark c.args.met.now) c.requires.history
    c.args.author.now.id.0.0 c.in-Some.index n.by n.number c.requires.met in (
      λ y. absurd (let n = c.if-waits.false in cc),
      λ k. absurd (let y = (c.waits.ensures n.by n.number).1 (w.1 (one.1 k).0) in let f = c.if-waits.false in cc),
    )
