-- The ratchets and update secrets that the members of a world share.
-- These terms use nobody's parts, books or knowledge: by recursion on a sender's own messages.
-- The DCGKA paper's correctness of key agreement speaks of them;
-- docs/GROUP.md, "Worlds and shared secrets".
use Rattle.std.specs.Prelude.{cond, [], ◌∷◌, bytes_eq}
use Rattle.group_model.specs.Sets.{Id}
use Rattle.group_model.specs.Messages.{Kind}
use Rattle.group_model.specs.Primitives.{Primitives}
use Rattle.group_model.specs.KeyTerms.{Term, Empty, Welcome, AddWord, Value, Member, Out, Motion, Stays, Once, Twice}
use Rattle.group_model.specs.KeyTerms.{turned, KeyUse, SendsSeed, AddsMember, TakesSecret, HandsRatchet, SpendsKey}
use Rattle.group_model.specs.KeyTerms.{LeavesKeys, key_use, seed_of}
use Rattle.group_model.specs.Packets.{Given}
use Rattle.group_model.specs.Logs.{LogEntry, Joined, Took, Made}
use Rattle.group_model.specs.Worlds.{Turns}

module _ (K : Primitives) where
  -- the input of the answer of s to an operation of this kind, of seed and ratchet
  abbrev pub answer_term_by_use : KeyUse → Given → (before : Term) → (s : Id) → Term
  answer_term_by_use SendsSeed t r s = Member (Value (seed_of K t.random)) s
  answer_term_by_use (AddsMember y) t r s = Out r Welcome
  answer_term_by_use (TakesSecret i) t r s = Empty
  answer_term_by_use HandsRatchet t r s = Empty
  answer_term_by_use SpendsKey t r s = Empty
  answer_term_by_use LeavesKeys t r s = Empty

  abbrev pub answer_term_by : Kind → Given → (before : Term) → (s : Id) → Term
  answer_term_by k t r s = answer_term_by_use (key_use k) t r s

  -- how a message of s moves its ratchet: the table of inputs
  abbrev pub motion_of_use : KeyUse → (s : Id) → Given → (answer : Id → Term) → Motion Term
  motion_of_use SendsSeed s t answer = Once (Member (Value (seed_of K t.random)) s)
  motion_of_use (AddsMember y) s t answer = Twice
  motion_of_use (TakesSecret i) s t answer = Once (answer i)
  motion_of_use HandsRatchet s t answer = Once AddWord
  motion_of_use SpendsKey s t answer = Stays
  motion_of_use LeavesKeys s t answer = Stays

  abbrev pub motion_of : Kind → (s : Id) → Given → (answer : Id → Term) → Motion Term
  motion_of k s t answer = motion_of_use (key_use k) s t answer

  abbrev pub ratchet_by : Id → LogEntry → (answer : Id → Term) → Term → Term
  ratchet_by s (Joined p) answer r = r
  ratchet_by s (Took p) answer r = r
  ratchet_by s (Made p t) answer r = turned (motion_of p.header.kind s t answer) r

  abbrev pub answer_entry : LogEntry → (i : Id) → (r : Term) → (s : Id) → (older : Term) → Term
  answer_entry (Joined p) i r s older = older
  answer_entry (Took p) i r s older = older
  answer_entry (Made p t) i r s older =
      cond (bytes_eq p.header.id i) (answer_term_by p.header.kind t r s) older

  unfoldable mutual
    -- the ratchet of s after its last message
    pub ratchet : Turns → Id → Term
    ratchet [] s = Empty
    ratchet (u ∷ w) s =
        cond (bytes_eq u.who s) (ratchet_by s u.entry (λ i. answer_term w i s) (ratchet w s)) (ratchet w s)

    -- the input of the answer of s to the operation i
    pub answer_term : Turns → (i s : Id) → Term
    answer_term [] i s = Empty
    answer_term (u ∷ w) i s = answer_entry u.entry i (ratchet w u.who) s (answer_term w i s)
