-- What the laws say of the two examples: there their premises are met. docs/GROUP.md, "Lawful worlds that there are".
use Rattle.std.specs.Prelude.{◌≡◌, ◌↔◌, ℕ, Bool, nat_lt, List, [], ◌∷◌, ◌++◌, Option, Some, None, option_map, reverse}
use Rattle.group_model.specs.Sets.{Bytes, Id, In, IsDistinct}
use Rattle.group_model.specs.Messages.{Message, History, past, IsHead, AreHeads}
use Rattle.group_model.specs.Membership.{Named, NamedOnce, InView, AreAddressees, ids_named, remove_wins}
use Rattle.group_model.specs.Validity.{Answers, GoesOn, IsUnforked, AreUnforked}
use Rattle.group_model.specs.Marks.{HasNumber, marked, MarksPast, IsPlace, IsCrowd}
use Rattle.group_model.specs.KeyTerms.{empty_ratchet, next_chain}
use Rattle.group_model.specs.Settings.{Setting, card_of, owner_in}
use Rattle.group_model.specs.Packets.{Packet, part_for}
use Rattle.group_model.specs.Logs.{Joined, Took, Made, hist}
use Rattle.group_model.specs.Knowledge.{events, heard, known, answer_known, chain_known, text_of}
use Rattle.group_model.specs.LawfulLogs.{IsLawfulLog}
use Rattle.group_model.specs.Worlds.{Turns, log_of, Moment}
use Rattle.group_model.specs.Conduct.{MayMake}
use Rattle.group_model.specs.Agreement.{MadeBy}
use Rattle.group_model.specs.Examples.{ada, bob, cyd, numbered, creation, creation_acked, update, addition}
use Rattle.group_model.specs.Examples.{addition_acked, handed, forwarded, update_acked, question, answer}
use Rattle.group_model.specs.Examples.{history_of_ada, ThreeMembers, RowsOfAnOutsider}

-- ada's history before her last message
abbrev pub before_answer : History
before_answer =
    question ∷ update_acked ∷ forwarded ∷ addition_acked ∷ handed ∷ addition ∷ update ∷ creation_acked ∷ creation ∷ []

-- the creation, before it has a body and an id
abbrev pub draft : Message
draft = record creation { id = []; body = [] }

-- The forms of ada's history. The handed ratchet is its message number 4, and has the messages of some marks in its
-- past; inside the past of another message, a past and a view are those of the whole. Its one head is the answer
pub record FormsOfAda : Type 0 where
  pub marks : ℕ → Bool
  pub marks_past : MarksPast history_of_ada handed.predecessors marks
  pub one_set : (others : ℕ → Bool) (i : ℕ) → MarksPast history_of_ada handed.predecessors others → others i ≡ marks i
  pub marked_past : marked marks history_of_ada ≡ past history_of_ada handed.predecessors
  pub number : HasNumber history_of_ada 4 handed
  pub one_number : (i : ℕ) → HasNumber history_of_ada i handed → i ≡ 4
  pub one_message : (m : Message) → HasNumber history_of_ada 4 m → m ≡ handed
  pub inside : In update (past history_of_ada forwarded.predecessors)
  pub past_inside : past (past history_of_ada forwarded.predecessors) update.predecessors
      ≡ past history_of_ada update.predecessors
  pub view_inside : (x : Id) → InView remove_wins (past history_of_ada forwarded.predecessors) update x
      ↔ InView remove_wins history_of_ada update x
  pub by_a_predecessor : In creation (past history_of_ada update.predecessors)
  pub heads : AreHeads history_of_ada (numbered 19 ∷ [])
  pub one_list : (ids : List Id) → AreHeads history_of_ada ids → ids ≡ numbered 19 ∷ []
  pub head : IsHead history_of_ada answer
  pub no_predecessor : (b : Message) → In b history_of_ada → In answer.id b.predecessors → ⊥
  pub pushed : reverse ((creation ∷ creation_acked ∷ []) ++ update ∷ []) ≡ update ∷ creation_acked ∷ creation ∷ []

-- The creation has a part for bob, already before it has a body; who is in the group doesn't read its digests, and
-- bob's ack moves nobody
pub record FormsOfTheCreation : Type 0 where
  pub addressees : AreAddressees remove_wins (creation ∷ []) creation (bob ∷ [])
  pub before_the_body : AreAddressees remove_wins (draft ∷ []) draft (bob ∷ [])
  pub one_list : (ids : List Id) → AreAddressees remove_wins (creation ∷ []) creation ids → ids ≡ bob ∷ []
  pub digests_unread : In bob (remove_wins (draft ∷ []))
  pub others_stay : (x : Id)
      → In x (remove_wins (creation_acked ∷ creation ∷ [])) ↔ In x (remove_wins (creation ∷ []))

-- The places of the three ids: cyd has place 2, bob keeps place 1, and ada and bob are the crowd of the first two
pub record PlacesOfAda : Type 0 where
  pub distinct : IsDistinct (ids_named history_of_ada)
  pub named : Named history_of_ada cyd
  pub place : IsPlace (ids_named history_of_ada) 2 cyd
  pub there_is : (p : ℕ) × IsPlace (ids_named history_of_ada) p cyd
  pub one_place : (p : ℕ) → IsPlace (ids_named history_of_ada) p cyd → p ≡ 2
  pub one_id : (x : Id) → IsPlace (ids_named history_of_ada) 2 x → x ≡ cyd
  pub stays : IsPlace (ids_named (addition ∷ creation_acked ∷ creation ∷ [])) 1 bob
  pub crowd : IsCrowd (ids_named history_of_ada) (λ p. nat_lt p 2) (λ x. In x (ada ∷ bob ∷ []))
  pub one_crowd : (bits : ℕ → Bool) (p : ℕ)
      → IsCrowd (ids_named history_of_ada) bits (λ x. In x (ada ∷ bob ∷ [])) → bits p ≡ nat_lt p 2

-- What cyd's question does, at its maker: cyd may make it and it is valid; it moves nothing but cyd's text chain, and
-- is a part for nobody
pub record QuestionMade (G : Setting) (w : Turns) (k : MadeBy w question) : Type 0 where
  pub may_make : MayMake (owner_in G cyd) (log_of k.before cyd) question
  pub goes_on : GoesOn G.rule G.inviter (past (hist (log_of k.before cyd)) question.predecessors) question
  pub ratchet_of_sender : known G.primitives (card_of G cyd) cyd (Made k.packet k.given ∷ log_of k.before cyd) cyd
      ≡ known G.primitives (card_of G cyd) cyd (log_of k.before cyd) cyd
  pub ratchet_of_others : known G.primitives (card_of G cyd) cyd (Made k.packet k.given ∷ log_of k.before cyd) ada
      ≡ known G.primitives (card_of G cyd) cyd (log_of k.before cyd) ada
  pub input_of_entry : (s : Id) (f : Option Bytes) → answer_known G.primitives (card_of G cyd) cyd
      (Made k.packet k.given ∷ log_of k.before cyd) question.id s f ≡ f
  pub input_of_others : (s : Id) (f : Option Bytes) → answer_known G.primitives (card_of G cyd) cyd
      (Made k.packet k.given ∷ log_of k.before cyd) update.id s f
      ≡ answer_known G.primitives (card_of G cyd) cyd (log_of k.before cyd) update.id s f
  pub chain_of_sender : chain_known G.primitives (card_of G cyd) cyd (Made k.packet k.given ∷ log_of k.before cyd) cyd
      ≡ option_map (next_chain G.primitives) (chain_known G.primitives (card_of G cyd) cyd (log_of k.before cyd) cyd)
  pub chain_of_others : chain_known G.primitives (card_of G cyd) cyd (Made k.packet k.given ∷ log_of k.before cyd) ada
      ≡ chain_known G.primitives (card_of G cyd) cyd (log_of k.before cyd) ada
  pub events_made : (y : Id) → events G.primitives (card_of G cyd) cyd y (Made k.packet k.given ∷ log_of k.before cyd)
      ≡ events G.primitives (card_of G cyd) cyd y (log_of k.before cyd)

-- And at ada, who took it: it forks nothing, and she hears nothing by a part of it
pub record QuestionTaken (G : Setting) (w : Turns) : Type 0 where
  pub packet : Packet
  pub before : Turns
  pub moment : Moment w ada (Took packet) before
  pub is : packet.header ≡ question
  pub unforked : IsUnforked (hist (log_of before ada)) question
  pub no_part : part_for packet.parts ada ≡ None
  pub events_took : (y : Id) → events G.primitives (card_of G ada) ada y (Took packet ∷ log_of before ada)
      ≡ events G.primitives (card_of G ada) ada y (log_of before ada)

-- The logs of three members are lawful, and nothing in ada's history is forked, so that the messages of each sender are
-- a chain: that of ada's before her answer is in its past, her message number 3 is the handed ratchet, bob's answer to
-- her update is the one that forwards
pub record LogsOfThreeMembers (e : ThreeMembers) : Type 0 where
  pub lawful : (x : Id) → IsLawfulLog (owner_in e.setting x) (log_of e.world x)
  pub unforked : AreUnforked history_of_ada
  pub older_in_past : (a : Message) → In a before_answer → a.sender ≡ ada
      → In a (past before_answer answer.predecessors)
  pub numbered_once : (a : Message) → In a history_of_ada → a.sender ≡ ada → a.seq ≡ 3 → a ≡ handed
  pub answered_once : (a : Message) → In a history_of_ada → a.sender ≡ bob → Answers a.kind update.id → a ≡ forwarded
  pub named_once : NamedOnce history_of_ada
  pub own_ratchet : (r : Bytes)
      × (known e.setting.primitives (card_of e.setting ada) ada (log_of e.world ada) ada ≡ Some r)
  pub no_text : (text : Bytes)
      → text_of e.setting.primitives (card_of e.setting ada) ada (log_of e.world ada) handed ≡ Some text → ⊥
  pub made : MadeBy e.world question
  pub at_maker : QuestionMade e.setting e.world made
  pub at_taker : QuestionTaken e.setting e.world

-- The logs in the world with an outsider are lawful; cyd joined with no log, by rows in which nothing is forked, and
-- heard by the welcome first
pub record LogsOfAnOutsider (e : RowsOfAnOutsider) : Type 0 where
  pub lawful : (x : Id) → IsLawfulLog (owner_in e.setting x) (log_of e.world x)
  pub fresh : log_of e.before cyd ≡ []
  pub start : (s : Id)
      → known e.setting.primitives (card_of e.setting cyd) cyd (log_of e.before cyd) s ≡ Some empty_ratchet
  pub unforked : IsUnforked e.welcome.rows e.welcome.header
  pub rows_unforked : AreUnforked e.welcome.rows
  pub events_joined : (y : Id) → events e.setting.primitives (card_of e.setting cyd) cyd y
      (Joined e.welcome ∷ log_of e.before cyd) ≡ heard e.setting.primitives (card_of e.setting cyd) cyd y e.welcome []
