use Rattle.std.proofs.Common.{◌∙◌, sym}
use Rattle.std.proofs.lemmas.Bool.{eqb-true}
use Rattle.std.proofs.Common.{◌+◌, ap}
use Rattle.causal_history.specs.Rows.{history_of}
use Rattle.group_messages.specs.Messages.{message_of}
use Rattle.add_ops.proofs.TestFacts.{more-by-add}
use Rattle.add_ops.proofs.tests.taking.all_met.Goals as goal

pub returns-in-None : goal.returns-in-None
returns-in-None c = λ t.
    more-by-add (history_of c.args.history.now) (message_of c.args.header.now) c.in-Add.target.0.0 c.in-Add.ensures c.in-None.ensures.place
    ∙ ap (λ n. n + 1) (sym c.places.ensures.places)
    ∙ eqb-true (c.places.result + 1) c.met.result t ∙ c.met.ensures.count
