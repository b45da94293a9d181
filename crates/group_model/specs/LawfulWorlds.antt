-- Lawful worlds: each entry is one that its member may leave, whatever outsiders send, and the
-- premises hold, each under its name. docs/GROUP.md, "Lawful worlds".
use Rattle.std.specs.Prelude.{◌≡◌, [], ◌∷◌}
use Rattle.group_model.specs.Sets.{Id, In}
use Rattle.group_model.specs.Messages.{Message}
use Rattle.group_model.specs.Settings.{Setting, owner_in}
use Rattle.group_model.specs.Packets.{Packet, Given}
use Rattle.group_model.specs.Logs.{LogEntry, Joined, Took, Made, hist}
use Rattle.group_model.specs.LawfulLogs.{MakesPacket, TakesPacket, JoinsByPacket}
use Rattle.group_model.specs.Worlds.{Turns, log_of, Moment}

-- the packet was made by its sender
pub record WasMade (w : Turns) (p : Packet) : Type 0 where
  pub given : Given
  pub before : Turns
  pub moment : Moment w p.header.sender (Made p given) before

-- Distinct hashes: distinct headers have distinct ids. That distinct cards do too stands in the form of a setting,
-- where what a card says is a function of its id.
pub record AreHashesDistinct (w : Turns) : Type 0 where
  pub same : (x y : Id) (a b : Message) → In a (hist (log_of w x)) → In b (hist (log_of w y))
      → a.id ≡ b.id → a ≡ b

module _ (G : Setting) where
  -- Authentic packets: what is taken as a member's was made by that member
  pub record IsAuthentic (w : Turns) (p : Packet) : Type 0 where
    pub made : In p.header.sender G.members → WasMade w p

  -- x may leave the entry after the world
  abbrev pub MayLeave : Turns → Id → LogEntry → Type 0
  MayLeave w x (Made p t) = MakesPacket (owner_in G x) (log_of w x) p t
  MayLeave w x (Took p) = TakesPacket (owner_in G x) (log_of w x) p × IsAuthentic w p
  MayLeave w x (Joined p) = JoinsByPacket (owner_in G x) (log_of w x) p × IsAuthentic w p

  -- Each entry is of a member and one that it may leave, and the premises hold. The third premise, distinct
  -- identities, is that a member is its id, and so stands in the form of a world.
  abbrev pub IsLawful : Turns → Type 0
  IsLawful [] = Unit {0}
  IsLawful (u ∷ w) = MayLeave w u.who u.entry × AreHashesDistinct (u ∷ w) × IsLawful w × In u.who G.members
