use Rattle.std.proofs.Common.{sym}
use Rattle.kem_trait.proofs.StreamFacts.{behind-none}
use Rattle.mailbox_cli.proofs.tests.KeylessKem.make.Goals as goal

pub returns-clause-unusable_left : goal.returns-clause-unusable_left
returns-clause-unusable_left g c = λ _. sym (behind-none (g.W.Words.upcoming c.args._words.now))
