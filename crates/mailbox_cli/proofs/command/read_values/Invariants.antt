use Rattle.std.proofs.Common.{◌≡◌, take, drop}
use Rattle.mailbox_cli.specs.Words.{values_of}
use Rattle.mailbox_cli.proofs.Reading.{in_front}
use Rattle.mailbox_cli.proofs.command.read_values.Given as goal

-- the words so far are values
abbrev pub invariant-loop-index : goal.invariant-loop-index
invariant-loop-index l = values_of l.words ≡ in_front (take l.index l.words) (values_of (drop l.index l.words))
