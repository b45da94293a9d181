use Rattle.std.proofs.Common.{◌++◌, sym, arith, length-append}
use Rattle.mailbox_cli.proofs.Reading.{init_many}
use Rattle.mailbox_cli.proofs.command.read_init.Goals as goal

pub returns-in-len2-up : goal.returns-in-len2-up
returns-in-len2-up c = sym (init_many (c.args.before.now ++ c.args.after.now) (omega (arith, c.in-len2-up.len_at_least, length-append c.args.before.now c.args.after.now)))
