-- Knowledge of the owner of a log, one entry at a time.
use Rattle.std.proofs.Common.{◌≡◌, ◌≢◌, [], ◌∷◌, Option, Some, None, refl, sym, ◌∙◌, ap, true, false, inl, inr}
use Rattle.group_model.specs.Sets.{Bytes, Id}
use Rattle.group_model.specs.Messages.{Kind, Create, Update, Remove, Add, Ack, AddAck, Text}
use Rattle.group_model.specs.Primitives.{Primitives}
use Rattle.group_model.specs.KeyTerms.{empty_ratchet, turned_known, chain_after}
use Rattle.group_model.specs.Settings.{Owner}
use Rattle.group_model.specs.Packets.{Packet, Given, part_for}
use Rattle.group_model.specs.Logs.{LogEntry, Joined, Took, Made, header_of, Log}
use Rattle.group_model.specs.Knowledge.{or_else, prior_of, prior_chain, heard, sent_part, answer_by_use, answer_by, motion_known}
use Rattle.group_model.specs.KeyTerms.{key_use}
use Rattle.group_model.proofs.Views.{same_or_not}
use Rattle.group_model.proofs.Knowing.{known-none as none_known, known-own as own_known, known-apart as apart_known, answer-none as none_answer, answer-own as own_answer, answer-apart as apart_answer, chain-none as none_chain, chain-own as own_chain, chain-apart as apart_chain, events-none as none_events, events-joined as joined_events, events-took as took_events, events-made as made_events, learnt_of-own as own_learnt_of, text_of-own as own_text_of}
use Rattle.member_book.proofs.OfOwner.{events, seed_known, forwarded, ratchet_before, known, answer_known, chain_known, learnt_at, learnt_of, text_at, text_of}

pub or_else-none : (a : Option Bytes) → or_else a None ≡ a
or_else-none None = refl
or_else-none (Some v) = refl

or_else-twice : (a f : Option Bytes) → or_else a f ≡ or_else (or_else a None) f
or_else-twice None f = refl
or_else-twice (Some v) f = refl

-- a motion looks at the answer of an ack with `took` alone
pub motion-same : (K : Primitives) (k : Kind) (s : Id) (seed : Option Bytes) (f g : Id → Option Bytes)
    → ((i : Id) → k ≡ Ack i true → f i ≡ g i) → motion_known K k s seed f ≡ motion_known K k s seed g
motion-same K (Create members) s seed f g e = refl
motion-same K Update s seed f g e = refl
motion-same K (Remove y) s seed f g e = refl
motion-same K (Add y) s seed f g e = refl
motion-same K (Ack i true) s seed f g e = rw (e i refl) refl
motion-same K (Ack i false) s seed f g e = refl
motion-same K (AddAck i) s seed f g e = refl
motion-same K Text s seed f g e = refl

module _ (O : Owner) where
  pub known-none : (s : Id) → known O [] s ≡ Some empty_ratchet
  known-none s = none_known O.primitives O.card O.id s

  pub known-own : (e : LogEntry) (l : Log) (s : Id) → (header_of e).sender ≡ s → known O (e ∷ l) s
      ≡ turned_known O.primitives (motion_known O.primitives (header_of e).kind s (seed_known O e l)
      (λ i. answer_known O l i s (forwarded O e l))) (ratchet_before O e l (prior_of e (known O l s) s))
  known-own e l s n = own_known O.primitives O.card O.id e l s n

  pub known-apart : (e : LogEntry) (l : Log) (s : Id) → (header_of e).sender ≢ s → known O (e ∷ l) s ≡ prior_of e (known O l s) s
  known-apart e l s n = apart_known O.primitives O.card O.id e l s n

  pub answer-none : (i s : Id) (f : Option Bytes) → answer_known O [] i s f ≡ f
  answer-none i s f = none_answer O.primitives O.card O.id i s f

  pub answer-own : (e : LogEntry) (l : Log) (i s : Id) (f : Option Bytes) → (header_of e).id ≡ i
      → answer_known O (e ∷ l) i s f ≡ answer_by O.primitives (header_of e).kind s (seed_known O e l)
      (ratchet_before O e l (prior_of e (known O l (header_of e).sender) (header_of e).sender)) f
  answer-own e l i s f n = own_answer O.primitives O.card O.id e l i s f n

  pub answer-apart : (e : LogEntry) (l : Log) (i s : Id) (f : Option Bytes) → (header_of e).id ≢ i
      → answer_known O (e ∷ l) i s f ≡ answer_known O l i s f
  answer-apart e l i s f n = apart_answer O.primitives O.card O.id e l i s f n

  pub chain-none : (s : Id) → chain_known O [] s ≡ None
  chain-none s = none_chain O.primitives O.card O.id s

  pub chain-own : (e : LogEntry) (l : Log) (s : Id) → (header_of e).sender ≡ s → chain_known O (e ∷ l) s
      ≡ chain_after O.primitives (header_of e).kind (learnt_at O e l) (prior_chain e (chain_known O l s))
  chain-own e l s n = own_chain O.primitives O.card O.id e l s n

  pub chain-apart : (e : LogEntry) (l : Log) (s : Id) → (header_of e).sender ≢ s
      → chain_known O (e ∷ l) s ≡ prior_chain e (chain_known O l s)
  chain-apart e l s n = apart_chain O.primitives O.card O.id e l s n

  pub events-none : (y : Id) → events O y [] ≡ []
  events-none y = none_events O.primitives O.card O.id y

  pub events-joined : (y : Id) (p : Packet) (l : Log)
      → events O y (Joined p ∷ l) ≡ heard O.primitives O.card O.id y p (events O y l)
  events-joined y p l = joined_events O.primitives O.card O.id y p l

  pub events-took : (y : Id) (p : Packet) (l : Log) → events O y (Took p ∷ l) ≡ heard O.primitives O.card O.id y p (events O y l)
  events-took y p l = took_events O.primitives O.card O.id y p l

  pub events-made : (y : Id) (p : Packet) (t : Given) (l : Log)
      → events O y (Made p t ∷ l) ≡ sent_part O.primitives y t (part_for p.parts y) (events O y l)
  events-made y p t l = made_events O.primitives O.card O.id y p t l

  pub learnt_of-newest : (e : LogEntry) (l : Log) → learnt_of O (e ∷ l) (header_of e) ≡ learnt_at O e l
  learnt_of-newest e l = own_learnt_of O.primitives O.card O.id e l (header_of e) refl

  pub text_of-newest : (e : LogEntry) (l : Log) → text_of O (e ∷ l) (header_of e) ≡ text_at O e l
  text_of-newest e l = own_text_of O.primitives O.card O.id e l (header_of e) refl

  -- what is forwarded counts last
  pub answer-forward : (l : Log) (i s : Id) (f : Option Bytes) → answer_known O l i s f ≡ or_else (answer_known O l i s None) f
  answer-forward [] i s f = answer-none i s f ∙ ap (λ z. or_else z f) (sym (answer-none i s None))
  answer-forward (e ∷ l) i s f = elim (same_or_not (header_of e).id i) [
    | inl d ↦ answer-own e l i s f d
        ∙ or_else-twice (answer_by_use O.primitives (key_use (header_of e).kind) s (seed_known O e l)
        (ratchet_before O e l (prior_of e (known O l (header_of e).sender) (header_of e).sender))) f
        ∙ ap (λ z. or_else z f) (sym (answer-own e l i s None d))
    | inr d ↦ answer-apart e l i s f d ∙ answer-forward l i s f ∙ ap (λ z. or_else z f) (sym (answer-apart e l i s None d))
  ]
