use Rattle.std.proofs.Common.{◌∙◌}
use Rattle.causal_history.proofs.IndexFacts.{put-keys}
use Rattle.causal_history.proofs.index.put.Goals as goal

pub returns-clause-keys : goal.returns-clause-keys
returns-clause-keys c = rw c.unwrap.ensures at c.insert_full.ensures.keys ∙ put-keys c.args.index.now.keys c.args.id.now
