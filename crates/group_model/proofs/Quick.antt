-- What a member knows, by a recursion that does each thing once: the same as the definitions, for examples to compute.
use Rattle.std.proofs.Common.{◌≡◌, true, false, List, [], ◌∷◌, Option, Some, None, refl, ◌∙◌, ap}
use Rattle.std.specs.Option.{option_and_then}
use mathlib.Core.Path.{fun_ext}
use Rattle.std.specs.Str.{bytes_eq}
use Rattle.group_model.specs.Sets.{Bytes, Id}
use Rattle.group_model.specs.Messages.{Kind, Create, Update, Remove, Add, Ack, AddAck, Text, Message}
use Rattle.group_model.specs.KeyTerms.{turned_known, secret_known, chain_after, empty_ratchet, seed_of}
use Rattle.group_model.specs.Settings.{Setting}
use Rattle.group_model.specs.Packets.{Addressed, Given}
use Rattle.group_model.specs.Logs.{LogEntry, Joined, Took, Made, header_of, Log}
use Rattle.group_model.specs.Knowledge.{prior_of, prior_chain, answer_by, motion_known, text_by, text_opened, known as known_by, answer_known as answer_known_by, learnt_of as learnt_of_by, chain_known as chain_known_by, text_of as text_of_by}
use Rattle.group_model.specs.Parts.{parts_of}
use Rattle.group_model.proofs.InSetting.{ratchet_before, seed_known, forwarded, known, answer_known, learnt_at, learnt_of, chain_known, text_at, text_of, payload_sent, part_with, part_sent}
use Rattle.group_model.proofs.ListFacts.{yes_is, no_is, test}

module _ (G : Setting) where
  unfoldable mutual
    pub quick : (self : Id) → Log → Id → Option Bytes
    quick self [] s = Some empty_ratchet
    quick self (e ∷ l) s = elim (bytes_eq (header_of e).sender s) [
      | true ↦ turned_known G.primitives
          (motion_known G.primitives (header_of e).kind s (seed_known G self e l) (λ i. quick_answer self l i s (forwarded G self e l)))
          (ratchet_before G self e l (prior_of e (quick self l s) s))
      | false ↦ prior_of e (quick self l s) s
    ]

    pub quick_answer : (self : Id) → Log → (i s : Id) → (forward : Option Bytes) → Option Bytes
    quick_answer self [] i s forward = forward
    quick_answer self (e ∷ l) i s forward = elim (bytes_eq (header_of e).id i) [
      | true ↦ answer_by G.primitives (header_of e).kind s (seed_known G self e l)
          (ratchet_before G self e l (prior_of e (quick self l (header_of e).sender) (header_of e).sender)) forward
      | false ↦ quick_answer self l i s forward
    ]

  mutual
    unfolding quick quick_answer known_by answer_known_by

    pub quick-known : (self : Id) (l : Log) (s : Id) → quick self l s ≡ known G self l s
    quick-known self [] s = refl
    quick-known self (e ∷ l) s = elim (test (bytes_eq (header_of e).sender s)) [
      | yes_is t ↦ rw (t, quick) (
          ap (λ z. turned_known G.primitives (motion_known G.primitives (header_of e).kind s (seed_known G self e l) z)
          (ratchet_before G self e l (prior_of e (quick self l s) s))) (fun_ext (λ i. quick_answer-known self l i s (forwarded G self e l)))
          ∙ ap (λ z. turned_known G.primitives
          (motion_known G.primitives (header_of e).kind s (seed_known G self e l) (λ i. answer_known G self l i s (forwarded G self e l)))
          (ratchet_before G self e l (prior_of e z s))) (quick-known self l s))
      | no_is t ↦ rw (t, quick) (ap (λ z. prior_of e z s) (quick-known self l s))
    ]

    pub quick_answer-known : (self : Id) (l : Log) (i s : Id) (forward : Option Bytes)
        → quick_answer self l i s forward ≡ answer_known G self l i s forward
    quick_answer-known self [] i s forward = refl
    quick_answer-known self (e ∷ l) i s forward = elim (test (bytes_eq (header_of e).id i)) [
      | yes_is t ↦ rw (t, quick_answer) (ap (λ z. answer_by G.primitives (header_of e).kind s (seed_known G self e l)
          (ratchet_before G self e l (prior_of e z (header_of e).sender)) forward) (quick-known self l (header_of e).sender))
      | no_is t ↦ rw (t, quick_answer) (quick_answer-known self l i s forward)
    ]

  unfoldable pub quick_learnt : (self : Id) → LogEntry → Log → Option Bytes
  quick_learnt self e l = secret_known G.primitives
      (motion_known G.primitives (header_of e).kind (header_of e).sender (seed_known G self e l)
      (λ i. quick_answer self l i (header_of e).sender (forwarded G self e l)))
      (ratchet_before G self e l (prior_of e (quick self l (header_of e).sender) (header_of e).sender))

  quick_learnt-at : (self : Id) (e : LogEntry) (l : Log) → quick_learnt self e l ≡ learnt_at G self e l
  unfolding quick_learnt
  quick_learnt-at self e l =
      ap (λ z. secret_known G.primitives (motion_known G.primitives (header_of e).kind (header_of e).sender (seed_known G self e l) z)
      (ratchet_before G self e l (prior_of e (quick self l (header_of e).sender) (header_of e).sender)))
      (fun_ext (λ i. quick_answer-known self l i (header_of e).sender (forwarded G self e l)))
      ∙ ap (λ z. secret_known G.primitives
      (motion_known G.primitives (header_of e).kind (header_of e).sender (seed_known G self e l)
      (λ i. answer_known G self l i (header_of e).sender (forwarded G self e l)))
      (ratchet_before G self e l (prior_of e z (header_of e).sender))) (quick-known self l (header_of e).sender)

  unfoldable pub quick_learnt_of : (self : Id) → Log → Message → Option Bytes
  quick_learnt_of self [] m = None
  quick_learnt_of self (e ∷ l) m = elim (bytes_eq (header_of e).id m.id) [
    | true ↦ quick_learnt self e l
    | false ↦ quick_learnt_of self l m
  ]

  pub quick_learnt_of-known : (self : Id) (l : Log) (m : Message) → quick_learnt_of self l m ≡ learnt_of G self l m
  unfolding quick_learnt_of learnt_of_by
  quick_learnt_of-known self [] m = refl
  quick_learnt_of-known self (e ∷ l) m = elim (test (bytes_eq (header_of e).id m.id)) [
    | yes_is t ↦ rw (t, quick_learnt_of) (quick_learnt-at self e l)
    | no_is t ↦ rw (t, quick_learnt_of) (quick_learnt_of-known self l m)
  ]

  unfoldable pub quick_chain : (self : Id) → Log → Id → Option Bytes
  quick_chain self [] s = None
  quick_chain self (e ∷ l) s = elim (bytes_eq (header_of e).sender s) [
    | true ↦ chain_after G.primitives (header_of e).kind (quick_learnt self e l) (prior_chain e (quick_chain self l s))
    | false ↦ prior_chain e (quick_chain self l s)
  ]

  pub quick_chain-known : (self : Id) (l : Log) (s : Id) → quick_chain self l s ≡ chain_known G self l s
  unfolding quick_chain chain_known_by
  quick_chain-known self [] s = refl
  quick_chain-known self (e ∷ l) s = elim (test (bytes_eq (header_of e).sender s)) [
    | yes_is t ↦ rw (t, quick_chain) (
        ap (λ z. chain_after G.primitives (header_of e).kind z (prior_chain e (quick_chain self l s))) (quick_learnt-at self e l)
        ∙ ap (λ z. chain_after G.primitives (header_of e).kind (learnt_at G self e l) (prior_chain e z)) (quick_chain-known self l s))
    | no_is t ↦ rw (t, quick_chain) (ap (λ z. prior_chain e z) (quick_chain-known self l s))
  ]

  abbrev pub quick_text : (self : Id) → LogEntry → Log → Option Bytes
  quick_text self (Joined p) l = None
  quick_text self (Took p) l =
      text_by p.header.kind (text_opened G.primitives (quick_chain self l p.header.sender) p.sealed)
  quick_text self (Made p t) l = text_by p.header.kind (Some t.text)

  quick_text-at : (self : Id) (e : LogEntry) (l : Log) → quick_text self e l ≡ text_at G self e l
  quick_text-at self (Joined p) l = refl
  quick_text-at self (Took p) l =
      ap (λ z. text_by p.header.kind (text_opened G.primitives z p.sealed)) (quick_chain-known self l p.header.sender)
  quick_text-at self (Made p t) l = refl

  unfoldable pub quick_text_of : (self : Id) → Log → Message → Option Bytes
  quick_text_of self [] m = None
  quick_text_of self (e ∷ l) m = elim (bytes_eq (header_of e).id m.id) [
    | true ↦ quick_text self e l
    | false ↦ quick_text_of self l m
  ]

  pub quick_text_of-known : (self : Id) (l : Log) (m : Message) → quick_text_of self l m ≡ text_of G self l m
  unfolding quick_text_of text_of_by
  quick_text_of-known self [] m = refl
  quick_text_of-known self (e ∷ l) m = elim (test (bytes_eq (header_of e).id m.id)) [
    | yes_is t ↦ rw (t, quick_text_of) (quick_text-at self e l)
    | no_is t ↦ rw (t, quick_text_of) (quick_text_of-known self l m)
  ]

  -- the payload of a message's parts, and the parts
  abbrev pub quick_payload : (self : Id) → Log → Given → Kind → Option Bytes
  quick_payload self l t (Create members) = Some (seed_of G.primitives t.random)
  quick_payload self l t Update = Some (seed_of G.primitives t.random)
  quick_payload self l t (Remove y) = Some (seed_of G.primitives t.random)
  quick_payload self l t (Add y) = quick self l self
  quick_payload self l t (Ack i true) = quick_answer self l i self None
  quick_payload self l t (Ack i false) = None
  quick_payload self l t (AddAck i) = quick self l self
  quick_payload self l t Text = None

  quick_payload-sent : (self : Id) (l : Log) (t : Given) (k : Kind) → quick_payload self l t k ≡ payload_sent G self l t k
  quick_payload-sent self l t (Create members) = refl
  quick_payload-sent self l t Update = refl
  quick_payload-sent self l t (Remove y) = refl
  quick_payload-sent self l t (Add y) = quick-known self l self
  quick_payload-sent self l t (Ack i true) = quick_answer-known self l i self None
  quick_payload-sent self l t (Ack i false) = refl
  quick_payload-sent self l t (AddAck i) = quick-known self l self
  quick_payload-sent self l t Text = refl

  abbrev pub quick_parts : (self : Id) → Log → Given → Option Bytes → List Id → Option (List Addressed)
  quick_parts self l t payload ids =
      parts_of (λ y. option_and_then (λ v. part_with G self l t y v) payload) ids

  pub quick_parts-sent : (self : Id) (l : Log) (t : Given) (k : Kind) (ids : List Id)
      → quick_parts self l t (quick_payload self l t k) ids ≡ parts_of (part_sent G self l t k) ids
  quick_parts-sent self l t k ids = ap (λ z. quick_parts self l t z ids) (quick_payload-sent self l t k)
