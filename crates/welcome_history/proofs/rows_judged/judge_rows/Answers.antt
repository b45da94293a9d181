use Rattle.std.proofs.Common.{◌≡◌, ℕ, suc, ◌+◌, ◌≤◌, ◌∷◌, ◌++◌, List, [], false, true, drop, length, sym, ◌∙◌, ap, subst, arith}
use Rattle.std.proofs.lemmas.List.{drop_all}
use Rattle.group_fields.specs.declared.header.Header.{Header}
use Rattle.group_messages.specs.Messages.{message_of}
use Rattle.group_model.specs.Sets.{Id, In}
use Rattle.group_model.specs.Messages.{Stands}
use Rattle.causal_history.specs.Rows.{Row, MayBePushed, history_of}
use Rattle.member_view.specs.Causes.{IsFirst}
use Rattle.causal_cast.specs.declared.verdict.Verdict.TheVariants.{BadWelcome}
use Rattle.welcome_history.specs.Joining.{EndHolds, RowHolds, on_rows}
use Rattle.welcome_history.specs.Welcomes.{row_of}
use Rattle.welcome_history.proofs.CardsFor.{first-left, others-left, some-left}
use Rattle.welcome_history.proofs.Leading.{Leads, breaks-end, breaks-row, holds-row}
use Rattle.welcome_history.proofs.Readable.{may-push, rows-more}
use Rattle.welcome_history.proofs.rows_judged.judge_rows.Goals as goal
use Rattle.welcome_history.proofs.rows_judged.judge_rows.Goals.{in-Some+in_ok-take_row+else-not-branch, in_default}

pub take_row-requires-clause-may : goal.take_row-requires-clause-may
take_row-requires-clause-may g c =
    let welcome = c.args.welcome.now in
    let at = c.loop-index.index in
    let row = c.in-Some.row in
    let left = sym c.loop-index.invariant.rows ∙ c.in-Some.ensures.some in
    subst (λ (z : List Row). ((i : Id) → In i (message_of row).predecessors → Stands (history_of z) i)
    → (Stands (history_of z) (message_of row).id → ⊥) → MayBePushed z (row_of welcome.cards row))
    (sym c.loop-index.invariant.history)
    (may-push welcome g.K.Kem.SET c.requires.ordered c.requires.named at row
    (first-left welcome.rows at row c.next.new.self left))

pub returns-then-not-branch-clause-causes : goal.returns-then-not-branch-clause-causes
returns-then-not-branch-clause-causes g c = λ F by_rule of_set by_public.
    let packet = c.args.packet.now in
    let welcome = c.args.welcome.now in
    let at = c.loop-index.index in
    let row = c.in-Some.row in
    let all = on_rows F packet welcome.cards 1 [] welcome.rows in
    let leads = subst (λ z. Leads all (on_rows F packet welcome.cards (at + 1) c.loop-index.history z))
    c.in-Some.ensures.some (c.loop-index.invariant.leads F by_rule of_set by_public) in
    let group : c.group-group.result.0.0 ≡ packet.header.group.0.0 = cc in
    subst (λ n. IsFirst all (BadWelcome (n + 1))) (sym c.from.ensures)
    (breaks-row F packet welcome.cards all (at + 1) c.loop-index.history row c.next.new.self leads
    (λ h. let found : false ≡ true = sym c.if-not-branch.true
    ∙ (c.in_ok-take_row.ensures.holds F by_rule of_set by_public).1
    (subst (λ (z : Id). RowHolds F z welcome.cards c.loop-index.history row) (sym group) h) in absurd cc))

pub loop-index-preserved : goal.loop-index-preserved
loop-index-preserved g c =
    let packet = c.args.packet.now in
    let welcome = c.args.welcome.now in
    let at = c.loop-index.index in
    let named = c.requires.named in
    elim c.match-next.branch [
      | in-Some+in_ok-take_row+else-not-branch w ↦
          (let row = w.in-Some.row in
          let left = sym c.loop-index.invariant.rows ∙ w.in-Some.ensures.some in
          let pushed : c.match-next.history ≡ c.loop-index.history ++ row_of welcome.cards row ∷ [] =
          w.history-is ∙ w.in_ok-take_row.ensures.pushed w.if-not-branch.false in
          record {
            history = pushed ∙ ap (λ z. z ++ row_of welcome.cards row ∷ []) c.loop-index.invariant.history
                ∙ sym (rows-more welcome g.K.Kem.SET c.requires.ordered named at row
                (first-left welcome.rows at row c.next.new.self left));
            rows = others-left welcome.rows at row c.next.new.self left;
            leads = λ F by_rule of_set by_public.
                let all = on_rows F packet welcome.cards 1 [] welcome.rows in
                let leads = subst (λ z. Leads all (on_rows F packet welcome.cards (at + 1) c.loop-index.history z))
                w.in-Some.ensures.some (c.loop-index.invariant.leads F by_rule of_set by_public) in
                let group : c.group-group.result.0.0 ≡ packet.header.group.0.0 = cc in
                let held = subst (λ (z : Id). RowHolds F z welcome.cards c.loop-index.history row) group
                ((w.in_ok-take_row.ensures.holds F by_rule of_set by_public).0 w.if-not-branch.false) in
                let next : suc (at + 1) ≡ at + 1 + 1 = omega (arith) in
                subst (λ n. Leads all (on_rows F packet welcome.cards n c.match-next.history c.next.new.self)) next
                (subst (λ z. Leads all (on_rows F packet welcome.cards (suc (at + 1)) z c.next.new.self)) (sym pushed)
                (holds-row F packet welcome.cards all (at + 1) c.loop-index.history row c.next.new.self leads held));
          })
      | in_default w ↦
          absurd (some-left welcome.rows at (omega (arith, c.loop-index-test.true, c.rows-index-end.ensures))
          (sym c.loop-index.invariant.rows ∙ w.in_default.ensures.none))
    ]

-- no row is left
none-left : (rows left : List Header) (at n : ℕ) → left ≡ drop at rows → n ≡ length rows → n ≤ at → left ≡ []
none-left rows left at n e l m = e ∙ drop_all at rows (omega (arith, l, m))

pub returns-then-not-end_holds-clause-causes : goal.returns-then-not-end_holds-clause-causes
returns-then-not-end_holds-clause-causes g c = λ F by_rule of_set by_public.
    let packet = c.args.packet.now in
    let welcome = c.args.welcome.now in
    let at = c.loop-index.index in
    let all = on_rows F packet welcome.cards 1 [] welcome.rows in
    let ended : c.rows-index-end.result ≤ at = omega (arith, c.loop-index-test.false) in
    let end : at ≡ c.from-then-not-end_holds.result = omega (
      arith,
      c.from-then-not-end_holds.ensures,
      c.rows.ensures,
      c.rows-index-end.ensures,
      c.loop-index.auto.index-end,
      c.loop-index-test.false,
    ) in
    let leads = subst (λ z. Leads all (on_rows F packet welcome.cards (at + 1) c.loop-index.history z))
    (none-left welcome.rows c.loop-index.rows at c.rows-index-end.result c.loop-index.invariant.rows
    c.rows-index-end.ensures ended) (c.loop-index.invariant.leads F by_rule of_set by_public) in
    subst (λ n. IsFirst all (BadWelcome (n + 1))) end
    (breaks-end F packet welcome.cards all (at + 1) c.loop-index.history leads
    (λ h. let found : false ≡ true = sym c.if-not-end_holds.true
    ∙ c.end_holds.ensures.1 (subst (λ (z : Header). EndHolds c.loop-index.history (message_of z))
    (sym c.header-header.ensures) h) in absurd cc))
