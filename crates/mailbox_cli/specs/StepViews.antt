-- What the fields of a record that was read stand for.
use Rattle.mailbox_cli.specs.Steps.{Step}
use Rattle.mailbox_cli.specs.declared.step.InitRecord.{InitRecord}

abbrev pub step_of : InitRecord → Step
step_of init = record { inviter = init.inviter.0.0; random = init.random.now }
