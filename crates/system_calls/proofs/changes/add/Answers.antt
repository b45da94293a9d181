use Rattle.std.proofs.Common.{◌∙◌, ap, None}
use Rattle.system_calls.specs.MemFiles.{all_changed}
use Rattle.system_calls.proofs.ChangeLemmas.{all_changed-push}
use Rattle.system_calls.proofs.changes.add.Goals as goal

pub returns-clause-ok : goal.returns-clause-ok
returns-clause-ok c = λ path. ap (all_changed path None) c.in_ok-push.ensures.items ∙ all_changed-push path None c.args.changes.now.items c.args.change
