-- What the kinds of a first message are, and what follows from the end of the rows that are handed on.
use Rattle.std.proofs.Common.{◌≡◌, ◌≢◌, ℕ, ◌<◌, ◌⊎◌, inl, inr, Bool, List, [], ◌∷◌, length, refl, sym, ◌∙◌, ap, arith}
use Rattle.std.specs.Prelude.{Result, Ok, Err, IfOk}
use Rattle.group_fields.specs.declared.header.Kind.{Kind as HeaderKind}
use Rattle.group_fields.specs.declared.header.Kind.TheVariants as kinds
use Rattle.group_messages.specs.Messages.{header_kind}
use Rattle.group_model.specs.Sets.{Id, In}
use Rattle.group_model.specs.Messages.{Kind, Create, Update, Remove, Add, Ack, AddAck, Text, Message, History, Stands}
use Rattle.group_model.specs.Membership.{Names}
use Rattle.causal_history.specs.Rows.{Row, history_of}
use Rattle.welcome_history.specs.Joining.{EndHolds, Joining}

-- the member that judges, of what a function of it is given
abbrev pub joining : (rule : History → List Id) (set : ℕ) (is_public : List ℕ → Bool) (me inviter : Id) → Joining
joining rule set is_public me inviter =
    record { rule = rule; set = set; is_public = is_public; me = me; inviter = inviter }

-- who is named is named by a create or by an add
pub names-kind : (k : Kind) (x : Id) → Names k x → ((members : List Id) × (k ≡ Create members)) ⊎ ((y : Id) × (k ≡ Add y))
names-kind (Create members) x n = inl (members, refl)
names-kind Update x n = absurd n
names-kind (Remove y) x n = absurd n
names-kind (Add y) x n = inr (y, refl)
names-kind (Ack o took) x n = absurd n
names-kind (AddAck o) x n = absurd n
names-kind Text x n = absurd n

pub names-add : (k : Kind) (h : HeaderKind) (x : Id) → header_kind k ≡ h → h ≡ kinds.Add → Names k x
    → (y : Id) × (k ≡ Add y)
names-add k h x e a n = elim (names-kind k x n) [
  | inl c ↦ absurd (let f : kinds.Create ≡ kinds.Add = sym (ap header_kind c.1) ∙ e ∙ a in cc)
  | inr d ↦ d
]

pub names-create : (k : Kind) (h : HeaderKind) (x : Id) → header_kind k ≡ h → (h ≡ kinds.Add → ⊥) → Names k x
    → (members : List Id) × (k ≡ Create members)
names-create k h x e a n = elim (names-kind k x n) [
  | inl c ↦ c
  | inr d ↦ absurd (a (sym e ∙ ap header_kind d.1))
]

pub some-rows : (rows : List Row) → rows ≢ [] → 0 < length rows
some-rows [] n = absurd (n refl)
some-rows (row ∷ rows) n = omega (arith)

-- heads stand
pub heads-stand : (rows : List Row) (m : Message) → EndHolds rows m → (i : Id) → In i m.predecessors
    → Stands (history_of rows) i
heads-stand rows m e i k =
    let a = e.heads.only i k in
    record { by = a.0; there_is = a.1.there_is; has_id = a.2 }

pub ok-map : {T E : Type 0} {P Q : T → Type 0} (r : Result T E) → ((x : T) → P x → Q x) → IfOk r P → IfOk r Q
ok-map (Ok x) f h = f x h
ok-map (Err e) f h = h
