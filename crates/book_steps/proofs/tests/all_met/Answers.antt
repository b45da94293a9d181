use Rattle.std.proofs.Common.{◌∙◌, ℕ, ◌+◌, ap, arith, sym}
use Rattle.std.proofs.lemmas.Bool.{eqb-true}
use Rattle.causal_history.specs.Rows.{history_of}
use Rattle.group_messages.specs.Messages.{message_of}
use Rattle.member_view.proofs.Crowds.{ids-length}
use Rattle.book_steps.proofs.TestFacts.{added-count, created-count, no-rows, where-none}
use Rattle.book_steps.proofs.tests.all_met.Goals as goal

pub returns-then-count-eq0 : goal.returns-then-count-eq0
returns-then-count-eq0 c = λ t.
    let h = history_of c.args.history.now in let m = message_of c.args.header.now in
    let first = no-rows h (c.rows_are_messages.ensures.size c.args.history.now ∙ sym c.count.ensures.count
    ∙ omega (arith, c.if-count-eq0.true)) in
    created-count h m c.in-Create.ids first (sym c.in-Create.ensures)
    (c.named_ids_are_few.ensures.distinct c.args.header.now c.bytes-bytes.ensures.has)
    ∙ ids-length c.in-Create.ids ∙ sym c.count-then-count-eq0.ensures
    ∙ eqb-true c.count-then-count-eq0.result c.met.result t ∙ c.met.ensures.count

pub returns-then-is_none : goal.returns-then-is_none
returns-then-is_none c = λ t.
    let h = history_of c.args.history.now in let m = message_of c.args.header.now in
    added-count h m c.in-Add.target.0.0 (sym c.in-Add.ensures) (where-none _ _ c.place.result (c.if-is_none.ensures {u = tt}) c.place.ensures.place)
    ∙ ap (λ (n : ℕ). n + 1) (sym c.places.ensures.places)
    ∙ eqb-true (c.places.result + 1) c.met-then-is_none.result t ∙ c.met-then-is_none.ensures.count
