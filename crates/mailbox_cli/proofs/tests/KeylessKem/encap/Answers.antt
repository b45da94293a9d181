use Rattle.std.proofs.Common.{sym}
use Rattle.kem_trait.proofs.StreamFacts.{behind-none}
use Rattle.mailbox_cli.proofs.tests.KeylessKem.encap.Goals as goal

pub returns-clause-left : goal.returns-clause-left
returns-clause-left g c = sym (behind-none (g.W.Words.upcoming c.args._words.now))
