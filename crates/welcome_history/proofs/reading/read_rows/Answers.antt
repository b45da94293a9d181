use Rattle.std.proofs.Common.{◌∷◌, ◌++◌, [], sym, ◌∙◌, ap, subst, arith}
use Rattle.causal_history.specs.Rows.{MayBePushed}
use Rattle.welcome_history.specs.Welcomes.{row_of}
use Rattle.welcome_history.proofs.CardsFor.{first-left, others-left, some-left}
use Rattle.welcome_history.proofs.Readable.{may-push-read, rows-more}
use Rattle.welcome_history.proofs.reading.read_rows.Goals as goal
use Rattle.welcome_history.proofs.reading.read_rows.Goals.{in-Some+in_ok-push_row, in_default}

pub push_row-requires-clause-may : goal.push_row-requires-clause-may
push_row-requires-clause-may c =
    let welcome = c.args.welcome.now in
    let at = c.loop-index.index in
    let left = sym c.loop-index.invariant.rows ∙ c.in-Some.ensures.some in
    subst (λ z. MayBePushed z (row_of welcome.cards c.in-Some.header)) (sym c.loop-index.invariant.history)
    (may-push-read welcome c.requires.ordered.0 c.requires.ordered.1 c.requires.readable.cards at c.in-Some.header
    (first-left welcome.rows at c.in-Some.header c.next.new.self left) c.requires.readable.history)

pub loop-index-preserved : goal.loop-index-preserved
loop-index-preserved c =
    let welcome = c.args.welcome.now in
    let at = c.loop-index.index in
    elim c.match-next.branch [
      | in-Some+in_ok-push_row w ↦
          (let header = w.in-Some.header in
          let left = sym c.loop-index.invariant.rows ∙ w.in-Some.ensures.some in
          record {
            history = w.history-is ∙ w.in_ok-push_row.ensures
                ∙ ap (λ z. z ++ row_of welcome.cards header ∷ []) c.loop-index.invariant.history
                ∙ sym (rows-more welcome c.requires.ordered.0 c.requires.ordered.1 c.requires.readable.cards at header
                (first-left welcome.rows at header c.next.new.self left));
            rows = others-left welcome.rows at header c.next.new.self left;
          })
      | in_default w ↦
          absurd (some-left welcome.rows at (omega (arith, c.loop-index-test.true, c.rows-index-end.ensures))
          (sym c.loop-index.invariant.rows ∙ w.in_default.ensures.none))
    ]
