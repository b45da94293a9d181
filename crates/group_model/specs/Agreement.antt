-- Agreement: equal secrets, and authentic texts, as statements on worlds.
-- The DCGKA paper's correctness of key agreement, for every history with an honest past;
-- docs/PROMISES.md, "Agreement".
use Rattle.std.specs.Prelude.{◌≡◌, ◌∷◌, Option, Some, option_map}
use Rattle.group_model.specs.Sets.{Bytes, Id, In}
use Rattle.group_model.specs.Messages.{Text, Message, History, with_past}
use Rattle.group_model.specs.Membership.{InView}
use Rattle.group_model.specs.KeyTerms.{Term, bytes, secret}
use Rattle.group_model.specs.Settings.{Setting, card_of, Owner}
use Rattle.group_model.specs.Packets.{Packet, Given}
use Rattle.group_model.specs.Logs.{Made, Log, hist}
use Rattle.group_model.specs.Knowledge.{known_of, learnt_of, text_of}
use Rattle.group_model.specs.LawfulLogs.{IsLawfulLog}
use Rattle.group_model.specs.Worlds.{Turns, log_of, Moment}
use Rattle.group_model.specs.SharedSecrets.{motion_of, ratchet, answer_term}
use Rattle.group_model.specs.LawfulWorlds.{IsLawful}
use Rattle.group_model.specs.Primitives.{Primitives}

-- a member of the world made the message
pub record MadeBy (w : Turns) (a : Message) : Type 0 where
  pub packet : Packet
  pub given : Given
  pub before : Turns
  pub moment : Moment w a.sender (Made packet given) before
  pub is : packet.header ≡ a

-- the message has an honest past: it, and each message of its past, was made by a member
pub record HasHonestPast (w : Turns) (h : History) (m : Message) : Type 0 where
  pub made : (a : Message) → In a (with_past h m) → MadeBy w a

-- the ratchet after a made message, and its update secret
abbrev pub ratchet_after : (K : Primitives) {w : Turns} {m : Message} → MadeBy w m → Term
ratchet_after K {m = m} k = ratchet K (record { who = m.sender; entry = Made k.packet k.given } ∷ k.before) m.sender

abbrev pub secret_made : (K : Primitives) {w : Turns} {m : Message} → MadeBy w m → Option Term
secret_made K {m = m} k =
    secret (motion_of K m.kind m.sender k.given (λ i. answer_term K k.before i m.sender)) (ratchet K k.before m.sender)

-- x is entitled to m: m has an honest past, and x sees it
pub record IsEntitled (G : Setting) (w : Turns) (x : Id) (m : Message) : Type 0 where
  pub there_is : In m (hist (log_of w x))
  pub honest : HasHonestPast w (hist (log_of w x)) m
  pub in_view : InView G.rule (hist (log_of w x)) m x

-- Equal secrets: in every lawful world a member knows, of each message that it is entitled to, the ratchet
-- and the update secret that the terms of its maker say. So any two such members know the same.
abbrev pub EqualSecrets : Type 0
EqualSecrets = (G : Setting) (w : Turns) → IsLawful G w → (x : Id) (m : Message) → IsEntitled G w x m → (k : MadeBy w m)
    → (known_of G.primitives (card_of G x) x (log_of w x) m ≡ Some (bytes G.primitives (ratchet_after G.primitives k)))
    × (learnt_of G.primitives (card_of G x) x (log_of w x) m
    ≡ option_map (bytes G.primitives) (secret_made G.primitives k))

-- Authentic texts: in every lawful world a member has, of each text that it is entitled to, the bytes that
-- the sender sent
abbrev pub AuthenticTexts : Type 0
AuthenticTexts = (G : Setting) (w : Turns) → IsLawful G w → (x : Id) (m : Message) → IsEntitled G w x m → m.kind ≡ Text
    → (k : MadeBy w m) → text_of G.primitives (card_of G x) x (log_of w x) m ≡ Some k.given.text

-- with every lawful log a member has a text of those messages alone that are texts
abbrev pub TextsAlone : Type 0
TextsAlone = (O : Owner) (l : Log) (m : Message) (text : Bytes) → IsLawfulLog O l → In m (hist l)
    → text_of O.primitives O.card O.id l m ≡ Some text → m.kind ≡ Text
