-- A history of three members, and what an example of a lawful world over it has to show: that the conditions of the
-- theorems can be met, by members that learn secrets and read texts. docs/GROUP.md, "Lawful
-- worlds that there are".
use Rattle.std.specs.Prelude.{◌≡◌, ◌≢◌, ℕ, true, false, List, [], ◌∷◌, Some, None, map, codes}
use Rattle.group_model.specs.Sets.{Bytes, Id, In}
use Rattle.group_model.specs.Messages.{Kind, Create, Update, Add, Ack, AddAck, Text, Message, History}
use Rattle.group_model.specs.Membership.{remove_wins}
use Rattle.group_model.specs.Validity.{SendsParts}
use Rattle.group_model.specs.Settings.{Setting, card_of}
use Rattle.group_model.specs.Packets.{Addressed, Packet}
use Rattle.group_model.specs.Logs.{Joined, Took, hist}
use Rattle.group_model.specs.Knowledge.{payload, known, learnt_of, text_of}
use Rattle.group_model.specs.Worlds.{Turns, log_of, Moment}
use Rattle.group_model.specs.LawfulWorlds.{IsLawful}
use Rattle.group_model.specs.Conduct.{AnswersAtOnce}
use Rattle.group_model.specs.Agreement.{MadeBy, IsEntitled}

-- three members: ada invited bob, and bob invited cyd
abbrev pub ada : Id
ada = 1 ∷ []

abbrev pub bob : Id
bob = 2 ∷ []

abbrev pub cyd : Id
cyd = 3 ∷ []

-- ids of messages, and digests of their bodies
abbrev pub numbered : ℕ → Id
numbered n = n ∷ []

abbrev pub message : (number : ℕ) → (sender : Id) → (seq : ℕ) → Kind → (predecessors : List Id) → Message
message n s q k ps = record {
  id = numbered n;
  set = 2;
  group = numbered 9;
  sender = s;
  seq = q;
  kind = k;
  predecessors = ps;
  body = numbered n;
}

-- ada creates a group with bob
abbrev pub creation : Message
creation = message 10 ada 1 (Create (ada ∷ bob ∷ [])) []

abbrev pub creation_acked : Message
creation_acked = message 11 bob 1 (Ack (numbered 10) true) (numbered 10 ∷ [])

-- then ada updates while bob adds cyd
abbrev pub update : Message
update = message 12 ada 2 Update (numbered 11 ∷ [])

abbrev pub addition : Message
addition = message 13 bob 2 (Add cyd) (numbered 11 ∷ [])

-- cyd joins; ada hands cyd her ratchet; bob forwards to cyd the secret that he took from the update
abbrev pub addition_acked : Message
addition_acked = message 14 cyd 1 (Ack (numbered 13) true) (numbered 13 ∷ [])

abbrev pub handed : Message
handed = message 15 ada 3 (AddAck (numbered 13)) (numbered 12 ∷ numbered 13 ∷ [])

abbrev pub forwarded : Message
forwarded = message 16 bob 3 (Ack (numbered 12) true) (numbered 12 ∷ numbered 13 ∷ [])

-- cyd was no recipient of the update, and has no part of it
abbrev pub update_acked : Message
update_acked = message 17 cyd 2 (Ack (numbered 12) false) (numbered 12 ∷ numbered 14 ∷ [])

-- cyd and ada write texts
abbrev pub question : Message
question = message 18 cyd 3 Text (numbered 15 ∷ numbered 16 ∷ numbered 17 ∷ [])

abbrev pub answer : Message
answer = message 19 ada 4 Text (numbered 18 ∷ [])

-- each member's history, in the order in which it took and made the messages, the newest first
abbrev pub history_of_ada : History
history_of_ada =
    answer ∷ question ∷ update_acked ∷ forwarded ∷ addition_acked ∷ handed ∷ addition ∷ update ∷ creation_acked
    ∷ creation ∷ []

abbrev pub history_of_bob : History
history_of_bob =
    answer ∷ question ∷ update_acked ∷ handed ∷ addition_acked ∷ forwarded ∷ update ∷ addition ∷ creation_acked
    ∷ creation ∷ []

abbrev pub history_of_cyd : History
history_of_cyd =
    answer ∷ question ∷ handed ∷ forwarded ∷ update_acked ∷ update ∷ addition_acked ∷ addition ∷ creation_acked
    ∷ creation ∷ []

-- A lawful world with these histories. Each of the three is entitled to bob's ack that forwards, and learnt its
-- update secret, which is not that of ada's add-ack: cyd too, who was added beside the update and had no part of it.
-- What ada and bob read as the question is what cyd sent.
pub record ThreeMembers : Type 0 where
  pub setting : Setting
  pub removes_win : setting.rule ≡ remove_wins
  pub all_honest : setting.members ≡ ada ∷ bob ∷ cyd ∷ []
  pub world : Turns
  pub lawful : IsLawful setting world
  pub of_ada : hist (log_of world ada) ≡ history_of_ada
  pub of_bob : hist (log_of world bob) ≡ history_of_bob
  pub of_cyd : hist (log_of world cyd) ≡ history_of_cyd
  pub ada_at_once : AnswersAtOnce (log_of world ada)
  pub bob_at_once : AnswersAtOnce (log_of world bob)
  pub cyd_at_once : AnswersAtOnce (log_of world cyd)
  pub ada_entitled : IsEntitled setting world ada forwarded
  pub bob_entitled : IsEntitled setting world bob forwarded
  pub cyd_entitled : IsEntitled setting world cyd forwarded
  pub secret : Bytes
  pub ada_learnt : learnt_of setting.primitives (card_of setting ada) ada (log_of world ada) forwarded ≡ Some secret
  pub bob_learnt : learnt_of setting.primitives (card_of setting bob) bob (log_of world bob) forwarded ≡ Some secret
  pub cyd_learnt : learnt_of setting.primitives (card_of setting cyd) cyd (log_of world cyd) forwarded ≡ Some secret
  pub cyd_was_handed : IsEntitled setting world cyd handed
  pub other_secret : Bytes
  pub ada_handed : learnt_of setting.primitives (card_of setting ada) ada (log_of world ada) handed ≡ Some other_secret
  pub cyd_handed : learnt_of setting.primitives (card_of setting cyd) cyd (log_of world cyd) handed ≡ Some other_secret
  pub secrets_differ : secret ≢ other_secret
  pub ada_entitled_to_text : IsEntitled setting world ada question
  pub ada_read : text_of setting.primitives (card_of setting ada) ada (log_of world ada) question ≡ Some (codes "hello")
  pub bob_read : text_of setting.primitives (card_of setting bob) bob (log_of world bob) question ≡ Some (codes "hello")
  pub sent : (k : MadeBy world question) → k.given.text ≡ codes "hello"

-- A second history: ada created a group with bob and eve, who is none of the honest members. eve sends an ack, and an
-- update whose parts don't open. bob and ada answer it, and bob adds cyd, who joins by rows among which are eve's.
abbrev pub eve : Id
eve = 4 ∷ []

abbrev pub opening : Message
opening = message 20 ada 1 (Create (ada ∷ bob ∷ eve ∷ [])) []

abbrev pub opening_acked : Message
opening_acked = message 21 bob 1 (Ack (numbered 20) true) (numbered 20 ∷ [])

abbrev pub eves_ack : Message
eves_ack = message 22 eve 1 (Ack (numbered 20) true) (numbered 20 ∷ [])

abbrev pub eves_update : Message
eves_update = message 23 eve 2 Update (numbered 21 ∷ numbered 22 ∷ [])

abbrev pub answer_of_bob : Message
answer_of_bob = message 24 bob 2 (Ack (numbered 23) false) (numbered 23 ∷ [])

abbrev pub answer_of_ada : Message
answer_of_ada = message 25 ada 2 (Ack (numbered 23) false) (numbered 23 ∷ [])

abbrev pub invitation : Message
invitation = message 26 bob 3 (Add cyd) (numbered 24 ∷ [])

abbrev pub invitation_acked : Message
invitation_acked = message 27 cyd 1 (Ack (numbered 26) true) (numbered 26 ∷ [])

abbrev pub ratchet_of_ada : Message
ratchet_of_ada = message 28 ada 3 (AddAck (numbered 26)) (numbered 25 ∷ numbered 26 ∷ [])

abbrev pub later_history_of_ada : History
later_history_of_ada =
    invitation_acked ∷ ratchet_of_ada ∷ invitation ∷ answer_of_bob ∷ answer_of_ada ∷ eves_update ∷ eves_ack
    ∷ opening_acked ∷ opening ∷ []

abbrev pub later_history_of_bob : History
later_history_of_bob =
    ratchet_of_ada ∷ answer_of_ada ∷ invitation_acked ∷ invitation ∷ answer_of_bob ∷ eves_update ∷ eves_ack
    ∷ opening_acked ∷ opening ∷ []

abbrev pub later_history_of_cyd : History
later_history_of_cyd =
    ratchet_of_ada ∷ answer_of_ada ∷ invitation_acked ∷ invitation ∷ answer_of_bob ∷ eves_update ∷ eves_ack
    ∷ opening_acked ∷ opening ∷ []

-- x took eve's update. It has parts for exactly the addressees, and that for x doesn't open
pub record UpdateTaken (G : Setting) (w : Turns) (x : Id) : Type 0 where
  pub packet : Packet
  pub before : Turns
  pub moment : Moment w x (Took packet) before
  pub is : packet.header ≡ eves_update
  pub to_addressees : SendsParts G.rule (hist (log_of before x)) packet.header
      (map (λ (a : Addressed). a.to) packet.parts)
  pub unopened : payload G.primitives (card_of G x) x (log_of before x) packet ≡ None

-- A lawful world with these histories. cyd joined by a welcome with eve's rows, and knows its own ratchet still. ada
-- and bob are entitled to what bob made before he took anything of eve, and learnt one secret of it.
pub record RowsOfAnOutsider : Type 0 where
  pub setting : Setting
  pub removes_win : setting.rule ≡ remove_wins
  pub all_honest : setting.members ≡ ada ∷ bob ∷ cyd ∷ []
  pub world : Turns
  pub lawful : IsLawful setting world
  pub of_ada : hist (log_of world ada) ≡ later_history_of_ada
  pub of_bob : hist (log_of world bob) ≡ later_history_of_bob
  pub of_cyd : hist (log_of world cyd) ≡ later_history_of_cyd
  pub outside : In eve setting.members → ⊥
  pub ada_took : UpdateTaken setting world ada
  pub bob_took : UpdateTaken setting world bob
  pub welcome : Packet
  pub before : Turns
  pub joined : Moment world cyd (Joined welcome) before
  pub rows : welcome.rows ≡ answer_of_bob ∷ eves_update ∷ eves_ack ∷ opening_acked ∷ opening ∷ []
  pub cyd_ratchet : (r : Bytes) × (known setting.primitives (card_of setting cyd) cyd (log_of world cyd) cyd ≡ Some r)
  pub ada_entitled : IsEntitled setting world ada opening_acked
  pub bob_entitled : IsEntitled setting world bob opening_acked
  pub secret : Bytes
  pub ada_learnt : learnt_of setting.primitives (card_of setting ada) ada (log_of world ada) opening_acked ≡ Some secret
  pub bob_learnt : learnt_of setting.primitives (card_of setting bob) bob (log_of world bob) opening_acked ≡ Some secret
