use Rattle.std.proofs.Common.{◌++◌, sym, arith, length-append}
use Rattle.mailbox_cli.proofs.Reading.{without_some}
use Rattle.mailbox_cli.proofs.command.without_values.Goals as goal

pub returns-in-len1-up : goal.returns-in-len1-up
returns-in-len1-up c =
    sym (without_some c.args.command (c.args.before.now ++ c.args.after.now) (omega (arith, c.in-len1-up.len_at_least, length-append c.args.before.now c.args.after.now)))
