use Rattle.std.proofs.Common.{◌≡◌, ◌*◌, length, take, drop}
use Rattle.mailbox_cli.specs.Words.{bytes_of_digits}
use Rattle.mailbox_cli.proofs.Reading.{in_front}
use Rattle.mailbox_cli.proofs.command.read_id.Given as goal

-- the digits so far spell the bytes so far
abbrev pub invariant-loop-index : goal.invariant-loop-index
invariant-loop-index l = record {
  size : length l.id ≡ 32;
  spelled : bytes_of_digits l.word ≡ in_front (take l.index l.id) (bytes_of_digits (drop (2 * l.index) l.word));
}
