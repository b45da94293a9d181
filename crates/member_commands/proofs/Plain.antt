-- Messages that send a seed and carry no cards.
use Rattle.std.proofs.Common.{◌≡◌, ◌≢◌, List, [], ◌∷◌, ◌≤◌, length, refl, ap, subst, sym, arith}
use Rattle.std.specs.Prelude.{codes}
use Rattle.kem_trait.specs.declared.kem.Kem.{Ghosts}
use Rattle.hkdf_seal.specs.Keys.{kdf}
use Rattle.group_fields.specs.declared.header.Header.{Header}
use Rattle.group_fields.specs.declared.header.Kind.{Kind as HeaderKind}
use Rattle.group_fields.specs.declared.header.Kind.TheVariants as kinds
use Rattle.group_fields.specs.declared.header.Target.{Target}
use Rattle.group_model.specs.Sets.{Bytes, Id}
use Rattle.group_model.specs.KeyTerms.{seed_of}
use Rattle.group_model.specs.Membership.{IsSeeded, ids_named, joined, named_by}
use Rattle.group_model.specs.Messages.{Add, AreHeads, History, Message}
use Rattle.group_model.proofs.ListFacts.{In-nothing}
use Rattle.group_keys.specs.Primitives.{primitives_of}
use Rattle.group_messages.specs.Messages.{ids_of, kind_by, message_of}
use Rattle.causal_history.specs.Rows.{MayBePushed, Row, history_of}
use Rattle.member_view.specs.Crowds.{StandsWell}
use Rattle.secret_book.specs.HeldBooks.{BookTable, held}
use Rattle.book_steps.specs.Entries.{StepsAsMade}
use Rattle.next_messages.specs.Bodies.{SendsSeed}
use Rattle.next_messages.specs.Due.{IsNew}
use Rattle.next_messages.proofs.Addressed.{heads-stand}
use Rattle.member_commands.specs.Commands.{IsPlain}
use Rattle.member_commands.specs.Making.{plain_row}

-- it names nobody
pub names-nobody : (k : HeaderKind) (t : Target) → IsPlain k → named_by (kind_by k t) ≡ []
names-nobody kinds.Create t p = absurd p
names-nobody kinds.Update t p = refl
names-nobody kinds.Remove t p = refl
names-nobody kinds.Add t p = absurd p
names-nobody kinds.Ack t p = absurd p
names-nobody kinds.AddAck t p = absurd p
names-nobody kinds.Text t p = absurd p

pub names-same : (header : Header) (h : History) → IsPlain header.kind → ids_named (message_of header ∷ h) ≡ ids_named h
names-same header h p = ap (λ l. joined (ids_named h) l) (names-nobody header.kind header.target p)

pub sends-seed : (k : HeaderKind) (t : Target) → IsPlain k → SendsSeed k t []
sends-seed kinds.Create t p = absurd p
sends-seed kinds.Update t p = refl
sends-seed kinds.Remove t p = refl
sends-seed kinds.Add t p = absurd p
sends-seed kinds.Ack t p = absurd p
sends-seed kinds.AddAck t p = absurd p
sends-seed kinds.Text t p = absurd p

pub is-seeded : (k : HeaderKind) (t : Target) → IsPlain k → IsSeeded (kind_by k t)
is-seeded kinds.Create t p = absurd p
is-seeded kinds.Update t p = tt
is-seeded kinds.Remove t p = tt
is-seeded kinds.Add t p = absurd p
is-seeded kinds.Ack t p = absurd p
is-seeded kinds.AddAck t p = absurd p
is-seeded kinds.Text t p = absurd p

pub steps : (k : HeaderKind) (t : Target) → IsPlain k → StepsAsMade (kind_by k t)
steps kinds.Create t p = absurd p
steps kinds.Update t p = tt
steps kinds.Remove t p = tt
steps kinds.Add t p = absurd p
steps kinds.Ack t p = absurd p
steps kinds.AddAck t p = absurd p
steps kinds.Text t p = absurd p

pub well : (h : History) (m : Message) (k : HeaderKind) (t : Target) → IsPlain k → StandsWell h m (kind_by k t)
well h m kinds.Create t p = absurd p
well h m kinds.Update t p = tt
well h m kinds.Remove t p = tt
well h m kinds.Add t p = absurd p
well h m kinds.Ack t p = absurd p
well h m kinds.AddAck t p = absurd p
well h m kinds.Text t p = absurd p

pub no-add : (k : HeaderKind) (t : Target) → IsPlain k → (y : Id) → kind_by k t ≢ Add y
no-add kinds.Create t p y e = p
no-add kinds.Update t p y e = cc
no-add kinds.Remove t p y e = cc
no-add kinds.Add t p y e = p
no-add kinds.Ack t p y e = p
no-add kinds.AddAck t p y e = p
no-add kinds.Text t p y e = p

pub no-create : (k : HeaderKind) → IsPlain k → k ≡ kinds.Create → ⊥
no-create k p e = subst IsPlain e p

pub seed-is : {K P : Type 0} (kem : Ghosts K P) (random : Bytes) → kdf random (codes "seed") [] ≡ seed_of (primitives_of kem) random
unfolding seed_of primitives_of
seed-is kem random = refl

-- the row of a message that names nobody may be pushed, where it is new and goes on from the whole history
pub may-push-naming-none : (rows : List Row) (header : Header) → named_by (kind_by header.kind header.target) ≡ []
    → AreHeads (history_of rows) (ids_of header.predecessors) → IsNew rows (message_of header) → length rows ≤ 4095
    → length (ids_named (history_of rows)) ≤ 32 → MayBePushed rows (plain_row header)
may-push-naming-none rows header none heads new room few = record {
  predecessors = heads-stand (history_of rows) (ids_of header.predecessors) heads;
  fresh = new;
  room = omega (arith, room);
  members = subst (λ (l : List Id). length l ≤ 32) (sym (ap (λ l. joined (ids_named (history_of rows)) l) none)) few;
  cards = sym none;
  spelled = λ card i. absurd (In-nothing i);
}

-- the row of such a message
pub may-push : (rows : List Row) (header : Header) → IsPlain header.kind → AreHeads (history_of rows) (ids_of header.predecessors)
    → IsNew rows (message_of header) → length rows ≤ 4095 → length (ids_named (history_of rows)) ≤ 32 → MayBePushed rows (plain_row header)
may-push rows header plain = may-push-naming-none rows header (names-nobody header.kind header.target plain)

pub same_places : (a b : BookTable) → (held a).met ≡ (held b).met → length a.places ≡ length b.places
unfolding held
same_places a b e = e
