-- What a book stands for: the knowledge by a log. docs/GROUP.md, "The book of a member".
use Rattle.std.specs.Prelude.{◌≡◌, ◌≢◌, Bool, true, List, ◌⊎◌, [], ◌∷◌, Some, None}
use Rattle.group_model.specs.Sets.{Bytes, Id, In}
use Rattle.group_model.specs.Messages.{Kind, Add, Ack, Message, History, IsHistory}
use Rattle.group_model.specs.Membership.{IsSeeded, InView}
use Rattle.group_model.specs.Validity.{Answers}
use Rattle.group_model.specs.Settings.{Owner}
use Rattle.group_model.specs.Logs.{LogEntry, Joined, header_of, Log, rows_of, hist}
use Rattle.group_model.specs.Packets.{Packet, Given}
use Rattle.group_model.specs.Knowledge.{known, answer_known, chain_known, events, learnt_at, text_at, text_sealed}
use Rattle.group_model.specs.Parts.{payload_sent, part_with}
use Rattle.member_book.specs.Books.{BookState, start}
use Rattle.member_book.specs.BooksAfter.{book_after, learned, text_in, payload_of, part_by}

-- s may still take the input of the operation i: it is one that s may ack with `took`, and s has not acked it
pub record MayStill (rule : History → List Id) (h : History) (i s : Id) : Type 0 where
  pub operation : Message
  pub there_is : In operation h
  pub has_id : operation.id ≡ i
  pub suits : (IsSeeded operation.kind × InView rule h operation s × (s ≢ operation.sender)) ⊎ (operation.kind ≡ Add s)
  pub unacked : (a : Message) (took : Bool) → In a h → a.sender ≡ s → a.kind ≡ Ack i took → ⊥

-- The book stands for the log: ratchets, chains and pairings are those that the log knows, and inputs are kept for
-- exactly those who may still take them, where they are known
pub record BookStands (O : Owner) (l : Log) (b : BookState) : Type 0 where
  pub ratchets : (s : Id) → b.ratchet s ≡ known O.primitives O.card O.id l s
  pub chains : (s : Id) → b.chain s ≡ chain_known O.primitives O.card O.id l s
  pub pairings : (y : Id) → b.events y ≡ events O.primitives O.card O.id y l
  pub whole : (i s : Id) → MayStill O.rule (hist l) i s
      → b.kept i s ≡ answer_known O.primitives O.card O.id l i s None
  pub only : (i s : Id) (v : Bytes) → b.kept i s ≡ Some v → MayStill O.rule (hist l) i s

-- What the law of a step asks of an entry: a welcome comes first, no older message answers it, and an ack with `took`
-- is one that its sender may still make
pub record Fits (O : Owner) (l : Log) (e : LogEntry) : Type 0 where
  pub history : IsHistory (header_of e ∷ rows_of e (hist l))
  pub fresh : (p : Packet) → e ≡ Joined p → l ≡ []
  pub new : (a : Message) → In a (rows_of e (hist l)) → Answers a.kind (header_of e).id → ⊥
  pub may : (i : Id) → (header_of e).kind ≡ Ack i true → MayStill O.rule (hist l) i (header_of e).sender

abbrev pub StartKeeps : Type 0
StartKeeps = (O : Owner) → BookStands O [] start

abbrev pub StepKeeps : Type 0
StepKeeps = (O : Owner) (l : Log) (e : LogEntry) (b : BookState) → BookStands O l b → Fits O l e
    → BookStands O (e ∷ l) (book_after O (hist l) e b)

abbrev pub LearnsSame : Type 0
LearnsSame = (O : Owner) (l : Log) (e : LogEntry) (b : BookState) → BookStands O l b → Fits O l e
    → learned O e b ≡ learnt_at O.primitives O.card O.id e l

abbrev pub OpensSame : Type 0
OpensSame = (O : Owner) (l : Log) (e : LogEntry) (b : BookState) → BookStands O l b
    → text_in O e b ≡ text_at O.primitives O.card O.id e l

abbrev pub SealsSame : Type 0
SealsSame = (O : Owner) (l : Log) (text : Bytes) (b : BookState) → BookStands O l b
    → text_sealed O.primitives (b.chain O.id) text
    ≡ text_sealed O.primitives (chain_known O.primitives O.card O.id l O.id) text

abbrev pub SendsSame : Type 0
SendsSame = (O : Owner) (l : Log) (t : Given) (k : Kind) (b : BookState) → BookStands O l b
    → ((i : Id) → k ≡ Ack i true → MayStill O.rule (hist l) i O.id)
    → payload_of O t k b ≡ payload_sent O.primitives O.card O.id l t k

abbrev pub PartsSame : Type 0
PartsSame = (O : Owner) (l : Log) (t : Given) (y : Id) (v : Bytes) (b : BookState) → BookStands O l b
    → part_by O t y v b ≡ part_with O.primitives O.card O.id (O.public_key y) l t y v
