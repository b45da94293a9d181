use Rattle.secret_book.proofs.AnswerTables.{updates-kept}
use Rattle.secret_book.proofs.kept_secrets.KeptSecrets.keep.Goals as goal

pub returns-clause-kept : goal.returns-clause-kept
returns-clause-kept c = updates-kept c.self.inside.secrets c.insert.new.self _ c.self.view_is _ _ c.in_ok-insert.ensures.updates
