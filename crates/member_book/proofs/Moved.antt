-- What a message does to a book: its sender's ratchet and chain move as knowledge does, and nothing else does.
use Rattle.std.proofs.Common.{◌≡◌, true, false, [], ◌∷◌, Option, Some, None, refl, bytes_eq}
use Rattle.std.specs.Option.{option_map}
use Rattle.group_model.specs.Sets.{Bytes, Id}
use Rattle.group_model.specs.Messages.{Kind, Create, Update, Remove, Add, Ack, AddAck, Text, Message, History}
use Rattle.group_model.specs.KeyTerms.{Once, Twice, Stays, turned_known, secret_known, member_secret, chain_after, welcome_word, add_word}
use Rattle.group_model.specs.Settings.{Owner}
use Rattle.group_model.specs.Knowledge.{or_else, motion_known, known_rows}
use Rattle.group_model.proofs.ListFacts.{yes_is, no_is, test}
use Rattle.group_model.proofs.ListFacts.{same_id-true}
use Rattle.member_book.specs.Books.{BookState, put, welcomed}
use Rattle.member_book.specs.BooksAfter.{member_of, moved, gained}

pub put-own : {A : Type 0} (f : Id → A) (s : Id) (v : A) → put f s v s ≡ v
put-own f s v = rw (same_id-true s) refl

pub put-apart : {A : Type 0} (f : Id → A) (s : Id) (v : A) (t : Id) → bytes_eq s t ≡ false → put f s v t ≡ f t
put-apart f s v t e = rw e refl

module _ (O : Owner) where
  by_seed : (s : Id) (seed r : Option Bytes)
      → turned_known O.primitives (option_map (λ k. Once k) (member_of O seed s)) r
      ≡ turned_known O.primitives (option_map (λ k. Once (member_secret O.primitives k s)) seed) r
  by_seed s None r = refl
  by_seed s (Some k) r = refl

  gives_by_seed : (s : Id) (seed r : Option Bytes)
      → secret_known O.primitives (option_map (λ k. Once k) (member_of O seed s)) r
      ≡ secret_known O.primitives (option_map (λ k. Once (member_secret O.primitives k s)) seed) r
  gives_by_seed s None r = refl
  gives_by_seed s (Some k) r = refl

  twice : (r : Option Bytes)
      → turned_known O.primitives (Some (Once add_word)) (turned_known O.primitives (Some (Once welcome_word)) r)
      ≡ turned_known O.primitives (Some Twice) r
  twice None = refl
  twice (Some r) = refl

  gives_twice : (r : Option Bytes)
      → secret_known O.primitives (Some (Once add_word)) (turned_known O.primitives (Some (Once welcome_word)) r)
      ≡ secret_known O.primitives (Some Twice) r
  gives_twice None = refl
  gives_twice (Some r) = refl

  stays : (r : Option Bytes) → r ≡ turned_known O.primitives (Some Stays) r
  stays None = refl
  stays (Some r) = refl

  gives_none : (r : Option Bytes) → None ≡ secret_known O.primitives (Some Stays) r
  gives_none None = refl
  gives_none (Some r) = refl

  pub moved-ratchet : (k : Kind) (h : History) (m : Message) (seed forward : Option Bytes) (b : BookState)
      → (moved O k h m seed forward b).ratchet m.sender
      ≡ turned_known O.primitives (motion_known O.primitives k m.sender seed (λ i. or_else (b.kept i m.sender) forward)) (b.ratchet m.sender)
  moved-ratchet (Create members) h m seed forward b = rw (same_id-true m.sender) (by_seed m.sender seed (b.ratchet m.sender))
  moved-ratchet Update h m seed forward b = rw (same_id-true m.sender) (by_seed m.sender seed (b.ratchet m.sender))
  moved-ratchet (Remove y) h m seed forward b = rw (same_id-true m.sender) (by_seed m.sender seed (b.ratchet m.sender))
  moved-ratchet (Add y) h m seed forward b = rw (same_id-true m.sender) (twice (b.ratchet m.sender))
  moved-ratchet (Ack i true) h m seed forward b = rw (same_id-true m.sender) refl
  moved-ratchet (Ack i false) h m seed forward b = stays (b.ratchet m.sender)
  moved-ratchet (AddAck i) h m seed forward b = rw (same_id-true m.sender) refl
  moved-ratchet Text h m seed forward b = stays (b.ratchet m.sender)

  pub moved-chain : (k : Kind) (h : History) (m : Message) (seed forward : Option Bytes) (b : BookState)
      → (moved O k h m seed forward b).chain m.sender
      ≡ chain_after O.primitives k (gained O k m seed forward b) (b.chain m.sender)
  moved-chain (Create members) h m seed forward b = rw (same_id-true m.sender) refl
  moved-chain Update h m seed forward b = rw (same_id-true m.sender) refl
  moved-chain (Remove y) h m seed forward b = rw (same_id-true m.sender) refl
  moved-chain (Add y) h m seed forward b = rw (same_id-true m.sender) refl
  moved-chain (Ack i true) h m seed forward b = rw (same_id-true m.sender) refl
  moved-chain (Ack i false) h m seed forward b = refl
  moved-chain (AddAck i) h m seed forward b = rw (same_id-true m.sender) refl
  moved-chain Text h m seed forward b = rw (same_id-true m.sender) refl

  pub gained-secret : (k : Kind) (m : Message) (seed forward : Option Bytes) (b : BookState)
      → gained O k m seed forward b
      ≡ secret_known O.primitives (motion_known O.primitives k m.sender seed (λ i. or_else (b.kept i m.sender) forward)) (b.ratchet m.sender)
  gained-secret (Create members) m seed forward b = gives_by_seed m.sender seed (b.ratchet m.sender)
  gained-secret Update m seed forward b = gives_by_seed m.sender seed (b.ratchet m.sender)
  gained-secret (Remove y) m seed forward b = gives_by_seed m.sender seed (b.ratchet m.sender)
  gained-secret (Add y) m seed forward b = rw (same_id-true m.sender) (gives_twice (b.ratchet m.sender))
  gained-secret (Ack i true) m seed forward b = refl
  gained-secret (Ack i false) m seed forward b = gives_none (b.ratchet m.sender)
  gained-secret (AddAck i) m seed forward b = refl
  gained-secret Text m seed forward b = gives_none (b.ratchet m.sender)

  pub moved-apart : (k : Kind) (h : History) (m : Message) (seed forward : Option Bytes) (b : BookState) (t : Id)
      → bytes_eq m.sender t ≡ false
      → ((moved O k h m seed forward b).ratchet t ≡ b.ratchet t) × ((moved O k h m seed forward b).chain t ≡ b.chain t)
  moved-apart (Create members) h m seed forward b t e = (rw e refl, rw e refl)
  moved-apart Update h m seed forward b t e = (rw e refl, rw e refl)
  moved-apart (Remove y) h m seed forward b t e = (rw e refl, rw e refl)
  moved-apart (Add y) h m seed forward b t e = (rw e refl, rw e refl)
  moved-apart (Ack i true) h m seed forward b t e = (rw e refl, rw e refl)
  moved-apart (Ack i false) h m seed forward b t e = (refl, refl)
  moved-apart (AddAck i) h m seed forward b t e = (rw e refl, rw e refl)
  moved-apart Text h m seed forward b t e = (refl, rw e refl)

  pub moved-events : (k : Kind) (h : History) (m : Message) (seed forward : Option Bytes) (b : BookState) (y : Id)
      → (moved O k h m seed forward b).events y ≡ b.events y
  moved-events (Create members) h m seed forward b y = refl
  moved-events Update h m seed forward b y = refl
  moved-events (Remove z) h m seed forward b y = refl
  moved-events (Add z) h m seed forward b y = refl
  moved-events (Ack i true) h m seed forward b y = refl
  moved-events (Ack i false) h m seed forward b y = refl
  moved-events (AddAck i) h m seed forward b y = refl
  moved-events Text h m seed forward b y = refl

  -- a welcome's rows leave their senders unknown, and touch no pairing and no kept input
  pub welcomed-ratchet : (rows : History) (b : BookState) (t : Id) → b.ratchet t ≡ known_rows [] t
      → (welcomed O.primitives rows b).ratchet t ≡ known_rows rows t
  welcomed-ratchet [] b t e = e
  welcomed-ratchet (m ∷ rows) b t e = elim (test (bytes_eq m.sender t)) [
    | yes_is d ↦ rw d refl
    | no_is d ↦ rw d (welcomed-ratchet rows b t e)
  ]

  pub welcomed-chain : (rows : History) (b : BookState) (t : Id) → b.chain t ≡ None → (welcomed O.primitives rows b).chain t ≡ None
  welcomed-chain [] b t e = e
  welcomed-chain (m ∷ rows) b t e = elim (test (bytes_eq m.sender t)) [
    | yes_is d ↦ rw d refl
    | no_is d ↦ rw d (welcomed-chain rows b t e)
  ]

  pub welcomed-events : (rows : History) (b : BookState) (t : Id) → (welcomed O.primitives rows b).events t ≡ b.events t
  welcomed-events [] b t = refl
  welcomed-events (m ∷ rows) b t = welcomed-events rows b t

  pub welcomed-kept : (rows : History) (b : BookState) (i t : Id) → (welcomed O.primitives rows b).kept i t ≡ b.kept i t
  welcomed-kept [] b i t = refl
  welcomed-kept (m ∷ rows) b i t = welcomed-kept rows b i t
