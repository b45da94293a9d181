use Rattle.std.proofs.Common.{sym, subst, ◌∙◌, ap}
use Rattle.group_fields.specs.Headers.{Spells}
use Rattle.causal_history.specs.Spelled.{header_in}
use Rattle.causal_history.proofs.SpelledFacts.{header_in-is}
use Rattle.causal_history.proofs.kept.KeptHeader.of.Goals as goal

pub invariant_of-result : goal.invariant_of-result
invariant_of-result c =
    subst (λ z. Spells (header_in z) z) (sym c.in_ok-bytes.ensures)
    (subst (λ z. Spells z c.bytes.result.now) (sym (header_in-is c.bytes.result.now c.args.header.now c.bytes.ensures.spells))
    c.bytes.ensures.spells)

pub returns : goal.returns
returns c = ap header_in c.in_ok-bytes.ensures ∙ header_in-is c.bytes.result.now c.args.header.now c.bytes.ensures.spells
