use Rattle.causal_history.proofs.IndexFacts.{place-found}
use Rattle.causal_history.proofs.index.number_of.Goals as goal

pub returns : goal.returns
returns c = place-found c.args.index.now.keys c.args.id.now c.get_index_of.result c.get_index_of.ensures.index
    c.get_index_of.ensures.found
