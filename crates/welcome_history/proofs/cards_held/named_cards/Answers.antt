use Rattle.std.proofs.Common.{map, sym, ◌∙◌, subst, arith}
use Rattle.group_fields.specs.Cards.{card_id}
use Rattle.group_model.specs.Sets.{In, Within}
use Rattle.group_model.specs.Membership.{named_by}
use Rattle.group_messages.specs.Messages.{kind_of}
use Rattle.causal_history.specs.Bits.{bit}
use Rattle.member_view.specs.Crowds.{MorePlaces}
use Rattle.welcome_history.proofs.CardsFor.{first-left, others-left, some-left}
use Rattle.welcome_history.proofs.CardsHeld.{marked-first, marked-next, missing-here}
use Rattle.welcome_history.proofs.cards_held.named_cards.Goals as goal
use Rattle.welcome_history.proofs.cards_held.named_cards.Goals.{in-Some+in_ok-seen, in_default}

pub loop-index-init : goal.loop-index-init
loop-index-init c = record {
  marked = marked-first (map card_id c.args.welcome.now.cards) c.args.welcome.now.cards (bit c.new-seen.result.0)
      c.new-seen.ensures;
  rows = c.all_rows-rows.ensures;
}

pub returns-in_err-seen-clause-missing : goal.returns-in_err-seen-clause-missing
returns-in_err-seen-clause-missing c =
    let welcome = c.args.welcome.now in
    let at = c.loop-index.index in
    let header = c.in-Some.header in
    let left = sym c.loop-index.invariant.rows ∙ c.in-Some.ensures.some in
    rw c.from_residual.ensures (missing-here welcome.cards welcome.rows at header
    (first-left welcome.rows at header c.next.new.self left) (map card_id welcome.cards)
    (subst (λ z. Within (named_by (kind_of header)) z → ⊥) c.requires.ids c.in_err-seen.ensures.missing))

pub loop-index-preserved : goal.loop-index-preserved
loop-index-preserved c =
    let welcome = c.args.welcome.now in
    let at = c.loop-index.index in
    elim c.match-next.branch [
      | in-Some+in_ok-seen w ↦
          (let header = w.in-Some.header in
          let left = sym c.loop-index.invariant.rows ∙ w.in-Some.ensures.some in
          record {
            marked = rw w.seen-is (marked-next welcome.cards welcome.rows at header
                (first-left welcome.rows at header c.next.new.self left) (map card_id welcome.cards)
                (bit c.loop-index.seen.0) (bit w.in_ok-seen.seen.0) c.loop-index.invariant.marked
                (subst (λ z. Within (named_by (kind_of header)) z) c.requires.ids w.in_ok-seen.ensures.there)
                (subst (λ z. MorePlaces z (bit c.loop-index.seen.0) (bit w.in_ok-seen.seen.0)
                (λ x. In x (named_by (kind_of header)))) c.requires.ids w.in_ok-seen.ensures.marked));
            rows = others-left welcome.rows at header c.next.new.self left;
          })
      | in_default w ↦
          absurd (some-left welcome.rows at (omega (arith, c.loop-index-test.true, c.rows-index-end.ensures))
          (sym c.loop-index.invariant.rows ∙ w.in_default.ensures.none))
    ]
