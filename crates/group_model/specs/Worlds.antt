-- Worlds of several members: whose entries came when. docs/GROUP.md, "Worlds and shared secrets".
use Rattle.std.specs.Prelude.{cond, List, [], ◌∷◌, bytes_eq}
use Rattle.group_model.specs.Sets.{Id}
use Rattle.group_model.specs.Logs.{LogEntry, Log}

-- a member's entry
pub record Turn : Type 0 where
  pub who : Id
  pub entry : LogEntry

-- the entries of all members in the order in which they were accepted, newest first
abbrev pub Turns : Type 0
Turns = List Turn

-- the entries of one member
unfoldable pub log_of : Turns → Id → Log
log_of [] x = []
log_of (u ∷ w) x = cond (bytes_eq u.who x) (u.entry ∷ log_of w x) (log_of w x)

-- x has this entry, which came after the world v
pub data Moment : Turns → Id → LogEntry → Turns → Type 0 where
  now : {x : Id} {w : Turns} {e : LogEntry} → Moment (record { who = x; entry = e } ∷ w) x e w
  once : {x : Id} {e : LogEntry} {w v : Turns} {u : Turn} → Moment w x e v → Moment (u ∷ w) x e v
