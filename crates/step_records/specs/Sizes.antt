-- How many bytes a record has at most.
use Rattle.std.specs.Prelude.{ℕ, ◌≤◌, length}
use Rattle.reference_member.specs.Steps.{Add, Create, Init, Input, Remove, Send, Take, Update}

-- the most bytes of a packet
abbrev pub longest_packet : ℕ
longest_packet = 8388608

-- the most bytes of a record of a journal: a kind, 32 random bytes and a packet
abbrev pub longest_record : ℕ
longest_record = 8388641

-- the text or the packet isn't longer than a packet may be
abbrev pub HasShortTail : Input → Type 0
HasShortTail (Init inviter height) = Unit {0}
HasShortTail (Create cards) = Unit {0}
HasShortTail (Add card) = Unit {0}
HasShortTail (Remove target) = Unit {0}
HasShortTail Update = Unit {0}
HasShortTail (Send text) = length text ≤ longest_packet
HasShortTail (Take packet) = length packet ≤ longest_packet
