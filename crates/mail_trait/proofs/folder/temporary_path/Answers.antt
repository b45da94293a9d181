use Rattle.mail_trait.proofs.FolderLemmas.{temporary_path}
use Rattle.mail_trait.proofs.folder.temporary_path.Goals as goal

pub returns : goal.returns
returns c = temporary_path _ _ _ _ c.in_ok-path.ensures c.in_ok-push_str.ensures.bytes
