-- What the calls of one message make of the book is what they make of the book of the model.
use Rattle.std.proofs.Common.{◌≡◌, ◌∙◌, ℕ, ◌<◌, ◌≤◌, Bool, true, false, cond, List, [], ◌∷◌, length, Option, Some, None, refl, ap, sym, subst}
use Rattle.std.specs.Prelude.{is_some}
use Rattle.std.proofs.lemmas.Option.{slice_get_within}
use Rattle.kem_trait.specs.declared.kem.Kem.{Ghosts}
use Rattle.group_model.specs.Sets.{Bytes, Id, In}
use Rattle.group_model.specs.Knowledge.{or_else, payload_in}
use Rattle.group_model.specs.Marks.{IsCrowd, IsPlace}
use Rattle.group_model.specs.Membership.{IsMembershipRule, IsRecipient, ids_named, without}
use Rattle.group_model.specs.Messages.{Ack, Kind, Message, History, IsHistory, with_past}
use Rattle.group_model.specs.Pairing.{Part}
use Rattle.group_model.specs.Settings.{Owner}
use Rattle.group_model.specs.KeyTerms.{member_secret}
use Rattle.group_model.specs.Primitives.{Primitives}
use Rattle.group_keys.specs.Primitives.{primitives_of}
use Rattle.member_book.specs.Books.{BookState, keep, open_from, spent, step, step_gives}
use Rattle.member_book.specs.BooksAfter.{acked, gained, member_of, recipients, seeded}
use Rattle.member_book.specs.Calls as calls
use Rattle.member_book.specs.Calls.{opened, opens_to}
use Rattle.member_book.specs.Places.{KeepsEach, id_at}
use Rattle.secret_book.specs.HeldBooks.{HeldBook, secret_by, stepped, with_kept}
use Rattle.book_standing.specs.Standing.{CallsStand, HeldStands}
use Rattle.opened_parts.specs.Opening.{Opens}
use Rattle.group_ops.specs.Answers.{answers_kept}
use Rattle.group_ops.specs.Taking.{MovesSeeded, TakesAck, TakesSeeded}
use Rattle.group_ops.proofs.KeptAnswers.{answers-stand, crowd_ids, none-kept, same-kept}
use Rattle.group_ops.proofs.Crowds.{crowd-received, id-at-place, received-crowd}

module _ {K P : Type 0} (kem : Ghosts K P) (O : Owner) (m : Message) (ids : List Id) (p : ℕ) (place : IsPlace ids p m.sender) where
  at : id_at ids p ≡ m.sender
  at = id-at-place ids p m.sender place

  -- the part of the sender is opened
  pub opened-payload : (part : Option Part) (answer : Option Bytes) (state : BookState) (b : HeldBook)
      → Opens kem O ids p part answer state b → answer ≡ opens_to O m part state
  opened-payload part answer state b opens = opens.payload
      ∙ ap (λ (y : Id). payload_in O.primitives O.card (state.events y) part) at

  pub opened-stands : (part : Option Part) (answer : Option Bytes) (state : BookState) (b : HeldBook)
      → Opens kem O ids p part answer state b → HeldStands kem O ids b (opened O m part state)
  opened-stands part answer state b opens =
      subst (λ (y : Id). HeldStands kem O ids b (open_from O.primitives O.card y part state)) at opens.stands

  -- the sender steps by an input
  steps-stand : (input : Option Bytes) (b : HeldBook) (state : BookState) → CallsStand kem O ids p b state
      → HeldStands kem O ids (stepped (primitives_of kem) p input b) (step O.primitives m.sender input state)
  steps-stand input b state calls =
      subst (λ (y : Id). HeldStands kem O ids (stepped (primitives_of kem) p input b) (step O.primitives y input state)) at
      (calls.steps input)

  steps-give : (input : Option Bytes) (b : HeldBook) (state : BookState) → CallsStand kem O ids p b state
      → secret_by (primitives_of kem) input (b.ratchet p) ≡ step_gives O.primitives m.sender input state
  steps-give input b state calls = calls.gives input ∙ ap (λ (y : Id). step_gives O.primitives y input state) at

  -- an ack: its input is spent, and with `took` its sender steps
  module _ (i : Id) (part : Option Part) (state : BookState) (forwarded : Option Bytes) (b : HeldBook)
      (opens : Opens kem O ids p part forwarded state b) (within : p < length ids)
      (Calls : (x : HeldBook) (t : BookState) → HeldStands kem O ids x t → CallsStand kem O ids p x t) where
    abbrev seen : BookState
    seen = opened O m part state

    calls-then : CallsStand kem O ids p b seen
    calls-then = Calls b seen (opened-stands part forwarded state b opens)

    pub spent-stands : HeldStands kem O ids (with_kept i p None b) (spent i m.sender seen)
    spent-stands = subst (λ (y : Id). HeldStands kem O ids (with_kept i p None b) (spent i y seen)) at (calls-then.spends i)

    input-is : or_else (b.kept i p) forwarded ≡ or_else (seen.kept i m.sender) (opens_to O m part state)
    input-is = ap (λ (v : Option Bytes). or_else v forwarded) (calls-then.kept i ∙ ap (seen.kept i) at)
        ∙ ap (or_else (seen.kept i m.sender)) (opened-payload part forwarded state b opens)

    calls-spent : CallsStand kem O ids p (with_kept i p None b) (spent i m.sender seen)
    calls-spent = Calls (with_kept i p None b) (spent i m.sender seen) spent-stands

    pub acked-stands : HeldStands kem O ids (stepped (primitives_of kem) p (or_else (b.kept i p) forwarded) (with_kept i p None b))
        (acked O i m.sender (opens_to O m part state) seen)
    acked-stands = subst (λ (v : Option Bytes). HeldStands kem O ids
        (stepped (primitives_of kem) p (or_else (b.kept i p) forwarded) (with_kept i p None b))
        (step O.primitives m.sender v (spent i m.sender seen))) input-is
        (steps-stand (or_else (b.kept i p) forwarded) (with_kept i p None b) (spent i m.sender seen) calls-spent)

    pub acked-gives : secret_by (primitives_of kem) (or_else (b.kept i p) forwarded) (b.ratchet p)
        ≡ step_gives O.primitives m.sender (or_else (seen.kept i m.sender) (opens_to O m part state)) seen
    acked-gives = steps-give (or_else (b.kept i p) forwarded) (with_kept i p None b) (spent i m.sender seen) calls-spent
        ∙ ap (λ (v : Option Bytes). step_gives O.primitives m.sender v seen) input-is

module _ {K P : Type 0} (kem : Ghosts K P) (O : Owner) (h : History) (m : Message) (p : ℕ) where
  pub takes-ack : IsPlace (ids_named h) p m.sender → (i : Id) (took : Bool) → m.kind ≡ Ack i took → (part : Option Part)
      (state : BookState) (forwarded : Option Bytes) (b after : HeldBook) → Opens kem O (ids_named h) p part forwarded state b
      → p < length (ids_named h)
      → ((x : HeldBook) (t : BookState) → HeldStands kem O (ids_named h) x t → CallsStand kem O (ids_named h) p x t)
      → (learned : Option Bytes)
      → learned ≡ cond took (secret_by (primitives_of kem) (or_else (b.kept i p) forwarded) (b.ratchet p)) None
      → after ≡ cond took (stepped (primitives_of kem) p (or_else (b.kept i p) forwarded) (with_kept i p None b)) (with_kept i p None b)
      → TakesAck kem O h m i took part state learned after
  takes-ack place i true kind part state forwarded b after opens within Calls learned says is = record {
    learned = says ∙ acked-gives kem O m (ids_named h) p place i part state forwarded b opens within Calls
        ∙ ap (λ (k : Kind). gained O k m None (opens_to O m part state) (opened O m part state)) (sym kind);
    stands = subst (λ (x : HeldBook). HeldStands kem O (ids_named h) x (calls.take_ack O m i true part state)) (sym is)
        (acked-stands kem O m (ids_named h) p place i part state forwarded b opens within Calls);
  }
  takes-ack place i false kind part state forwarded b after opens within Calls learned says is = record {
    learned = says
        ∙ ap (λ (k : Kind). gained O k m None (opens_to O m part state) (opened O m part state)) (sym kind);
    stands = subst (λ (x : HeldBook). HeldStands kem O (ids_named h) x (calls.take_ack O m i false part state)) (sym is)
        (spent-stands kem O m (ids_named h) p place i part state forwarded b opens within Calls);
  }

  -- an operation, once what is kept of it is kept
  pub moves-seeded : IsPlace (ids_named (m ∷ h)) p m.sender → (seed input : Option Bytes) → input ≡ member_of O seed m.sender
      → (state : BookState) (b after : HeldBook)
      → CallsStand kem O (ids_named (m ∷ h)) p b (keep m.id (recipients O (m ∷ h) m) (λ y. member_of O seed y) state)
      → (learned : Option Bytes) → learned ≡ secret_by (primitives_of kem) input (b.ratchet p)
      → after ≡ stepped (primitives_of kem) p input b → MovesSeeded kem O h m seed state learned after
  moves-seeded place seed input is_input state b after stands learned says is =
      let kept : BookState = keep m.id (recipients O (m ∷ h) m) (λ y. member_of O seed y) state in record {
        learned = says ∙ steps-give kem O m (ids_named (m ∷ h)) p place input b kept stands
            ∙ ap (λ (v : Option Bytes). step_gives O.primitives m.sender v state) is_input;
        stands = subst (λ (x : HeldBook). HeldStands kem O (ids_named (m ∷ h)) x (seeded O (m ∷ h) m seed state)) (sym is)
            (subst (λ (v : Option Bytes). HeldStands kem O (ids_named (m ∷ h)) (stepped (primitives_of kem) p input b)
            (step O.primitives m.sender v kept)) is_input
            (steps-stand kem O m (ids_named (m ∷ h)) p place input b kept stands));
      }

  -- an operation whose seed isn't known
  pub moves-unseeded : IsPlace (ids_named (m ∷ h)) p m.sender → (state : BookState) (b after : HeldBook)
      → CallsStand kem O (ids_named (m ∷ h)) p b state → (learned : Option Bytes)
      → learned ≡ secret_by (primitives_of kem) None (b.ratchet p) → after ≡ stepped (primitives_of kem) p None b
      → MovesSeeded kem O h m None state learned after
  moves-unseeded place state b after stands learned says is =
      moves-seeded place None None refl state b after
      (subst (λ (t : BookState). CallsStand kem O (ids_named (m ∷ h)) p b t)
      (sym (none-kept m.id (recipients O (m ∷ h) m) state)) stands) learned says is

  pub takes-seeded : IsPlace (ids_named (m ∷ h)) p m.sender → (part : Option Part) (own opens_as : Option Bytes) (state : BookState)
      (b after : HeldBook) → Opens kem O (ids_named (m ∷ h)) p part opens_as state b → (took : Bool) (learned : Option Bytes)
      → took ≡ is_some opens_as
      → (seed : Option Bytes) → seed ≡ or_else own opens_as
      → MovesSeeded kem O h m seed (opened O m part state) learned after
      → TakesSeeded kem O h m part own state (record { took = took; learned = learned }) after
  takes-seeded place part own opens_as state b after opens took learned tells seed is_seed by_seed =
      let moves = subst (λ (z : Option Bytes). MovesSeeded kem O h m z (opened O m part state) learned after) is_seed by_seed in
      let payload = opened-payload kem O m (ids_named (m ∷ h)) p place part opens_as state b opens in record {
        took = tells ∙ ap is_some payload;
        learned = subst (λ (o : Option Bytes). learned ≡ step_gives O.primitives m.sender (member_of O (or_else own o) m.sender)
            (opened O m part state)) payload moves.learned;
        stands = subst (λ (o : Option Bytes). HeldStands kem O (ids_named (m ∷ h)) after
            (seeded O (m ∷ h) m (or_else own o) (opened O m part state))) payload moves.stands;
      }

ack-one : (o i : Id) (t u : Bool) → ◌≡◌ {A = Kind} (Ack o t) (Ack i u) → (o ≡ i) × (t ≡ u)
ack-one o i t u e = (cc, cc)

-- the same ack
pub ack-same : {K P : Type 0} (kem : Ghosts K P) (O : Owner) (h : History) (m : Message) (o i : Id) (t u : Bool) (part : Option Part)
    (state : BookState) (learned : Option Bytes) (b : HeldBook) → ◌≡◌ {A = Kind} (Ack o t) (Ack i u)
    → TakesAck kem O h m o t part state learned b → TakesAck kem O h m i u part state learned b
ack-same kem O h m o i t u part state learned b e takes =
    subst (λ (z : Id). TakesAck kem O h m z u part state learned b) (ack-one o i t u e).0
    (subst (λ (z : Bool). TakesAck kem O h m o z part state learned b) (ack-one o i t u e).1 takes)

-- an operation whose seed is known
module _ {K P : Type 0} (kem : Ghosts K P) (O : Owner) (rule : History → List Id) (is_rule : IsMembershipRule rule) (same_rule : O.rule ≡ rule)
    (h : History) (m : Message) (g : IsHistory (m ∷ h)) (few : length (ids_named (m ∷ h)) ≤ 64) (bits : ℕ → Bool)
    (crowd : IsCrowd (ids_named (m ∷ h)) bits (λ y. IsRecipient rule h m y))
    (Calls : (ids : List Id) (q : ℕ) (x : HeldBook) (t : BookState) → HeldStands kem O ids x t → q < length ids → CallsStand kem O ids q x t)
    (Each : KeepsEach) (seed : Bytes) where
  abbrev ids : List Id
  ids = ids_named (m ∷ h)

  abbrev secret_at : ℕ → Bytes
  secret_at q = member_secret (primitives_of kem) seed (id_at ids q)

  abbrev secret_for : Id → Option Bytes
  secret_for y = member_of O (Some seed) y

  kept-list : (state : BookState) → keep m.id (crowd_ids ids bits 64) secret_for state
      ≡ keep m.id (recipients O (m ∷ h) m) secret_for state
  kept-list state = same-kept m.id (crowd_ids ids bits 64)
      (recipients O (m ∷ h) m) secret_for state
      (λ t i. subst (λ (r : History → List Id). In t (without (r (with_past (m ∷ h) m)) (m.sender ∷ []))) (sym same_rule)
      (crowd-received rule is_rule h m g bits crowd 64 t i))
      (λ t i. received-crowd rule is_rule h m g bits crowd 64 t few
      (subst (λ (r : History → List Id). In t (without (r (with_past (m ∷ h) m)) (m.sender ∷ []))) same_rule i))

  pub moves-known : (p : ℕ) → IsPlace ids p m.sender → (state : BookState) (b kept after : HeldBook) → HeldStands kem O ids b state
      → kept ≡ answers_kept m.id secret_at bits 64 b → (input : Bytes) → input ≡ member_secret (primitives_of kem) seed m.sender
      → (learned : Option Bytes) → learned ≡ secret_by (primitives_of kem) (Some input) (kept.ratchet p)
      → after ≡ stepped (primitives_of kem) p (Some input) kept → MovesSeeded kem O h m (Some seed) state learned after
  moves-known p place state b kept after stands is_kept input is_input learned says is =
      let prims : (y : Id) → Some (member_secret O.primitives seed y) ≡ Some (member_secret (primitives_of kem) seed y) =
      λ y. ap (λ (k : Primitives). Some (member_secret k seed y)) stands.primitives in
      let all : HeldStands kem O ids (answers_kept m.id secret_at bits 64 b) (keep m.id (crowd_ids ids bits 64) secret_for state) =
      answers-stand kem O ids m.id secret_for secret_at (λ q. prims (id_at ids q)) bits crowd.within (Calls ids) Each 64 b state stands in
      let now : HeldStands kem O ids kept (keep m.id (recipients O (m ∷ h) m) secret_for state) =
      subst (λ (t : BookState). HeldStands kem O ids kept t) (kept-list state)
      (subst (λ (x : HeldBook). HeldStands kem O ids x (keep m.id (crowd_ids ids bits 64) secret_for state)) (sym is_kept) all) in
      moves-seeded kem O h m p place (Some seed) (Some input) (ap Some is_input ∙ sym (prims m.sender)) state kept after
      (Calls ids p kept (keep m.id (recipients O (m ∷ h) m) secret_for state) now (slice_get_within ids p m.sender place)) learned says is
