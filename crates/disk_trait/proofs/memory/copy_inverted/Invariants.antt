use Rattle.std.proofs.Common.{◌≡◌, ◌++◌, take, drop}
use Rattle.disk_trait.specs.Replay.{inverted}
use Rattle.disk_trait.proofs.memory.copy_inverted.Given as goal

-- the bytes so far are inverted
abbrev pub invariant-loop-byte : goal.invariant-loop-byte
invariant-loop-byte l = l.part ≡ inverted (take l.byte-index l.initial.part) ++ drop l.byte-index l.initial.part
