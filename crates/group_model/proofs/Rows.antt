-- Rows of the plain program, and the messages that they stand for.
use Rattle.std.proofs.Common.{Bool, IsTrue, Result, Ok, Err, IfOk, ◌≡◌, ◌≢◌, ℕ, zero, suc, ◌+◌, ◌<◌, ◌≤◌, false, ◌⊎◌, inl, inr, List, [], ◌∷◌, ◌++◌, refl, sym, ◌∙◌, subst, ap, take, drop, length, get_or, arith, append_assoc, add-one, drop-cons}
use Rattle.std.specs.declared.alloc.AllocError.{AllocError}
use Rattle.std.proofs.lemmas.List.{take_more, take_all}
use Rattle.group_model.specs.Sets.{Id, In, here, there, has}
use Rattle.group_model.specs.Messages.{Message, History, past, Stands, IsHistory}
use Rattle.group_model.specs.Membership.{Names, Removes, Named, Removed, with_id, joined}
use Rattle.group_model.specs.Validity.{IsOperation, IsUnanswered, AnswersOne}
use Rattle.group_model.specs.Plain.{kind_of, message_of, history_of, HasAnswered, IsOlderThanMembership}
use Rattle.group_model.specs.declared.plain.messages.PlainMessage.{PlainMessage}
use Rattle.group_model.proofs.ListFacts.{yes_is, no_is, test, has-In, In-has, In-cases, In-either, In-nothing}
use Rattle.group_model.proofs.Pasts.{past-within, same-message, with_past-history, past-taken, past-left, past-none}

pub history-append : (xs ys : List PlainMessage) → history_of (xs ++ ys) ≡ history_of xs ++ history_of ys
history-append [] ys = refl
history-append (x ∷ xs) ys = ap (λ z. message_of x ∷ z) (history-append xs ys)

-- a row is a message of the history
pub row-in : (rows : List PlainMessage) (i : ℕ) (r : PlainMessage) → i < length rows → r ≡ get_or rows i r → In (message_of r) (history_of rows)
row-in [] i r l e = absurd (omega arith)
row-in (x ∷ rows) zero r l e = subst (λ z. In (message_of z) (history_of (x ∷ rows))) (sym e) here
row-in (x ∷ rows) (suc i) r l e = there (row-in rows i r (omega arith) e)

-- one more row
pub row-more : (rows : List PlainMessage) (i : ℕ) (r : PlainMessage) → i < length rows → r ≡ get_or rows i r → (a : Message) → In a (history_of (take (i + 1) rows))
    → (a ≡ message_of r) ⊎ In a (history_of (take i rows))
row-more rows i r l e a j =
    let k : In a (history_of (take i rows ++ get_or rows i r ∷ [])) = subst (λ z. In a (history_of z)) (take_more rows i r l) j in
    elim (In-either (history_of (take i rows)) (subst (λ z. In a z) (history-append (take i rows) (get_or rows i r ∷ [])) k)) [
      | inl p ↦ inr p
      | inr q ↦ elim (In-cases q) [
        | inl d ↦ inl (d ∙ ap message_of (sym e))
        | inr n ↦ absurd (In-nothing n)
      ]
    ]

-- none of the rows so far
pub none-more : (P : Message → Type 0) (rows : List PlainMessage) (i : ℕ) (r : PlainMessage) → i < length rows → r ≡ get_or rows i r
    → ((a : Message) → In a (history_of (take i rows)) → P a → ⊥) → (P (message_of r) → ⊥)
    → (a : Message) → In a (history_of (take (i + 1) rows)) → P a → ⊥
none-more P rows i r l e before miss a j p = elim (row-more rows i r l e a j) [
  | inl d ↦ miss (subst P d p)
  | inr k ↦ before a k p
]

-- all of the rows so far
pub all-more : (P : Message → Type 0) (rows : List PlainMessage) (i : ℕ) (r : PlainMessage) → i < length rows → r ≡ get_or rows i r
    → ((a : Message) → In a (history_of (take i rows)) → P a) → P (message_of r)
    → (a : Message) → In a (history_of (take (i + 1) rows)) → P a
all-more P rows i r l e before hit a j = elim (row-more rows i r l e a j) [
  | inl d ↦ subst P (sym d) hit
  | inr k ↦ before a k
]

pub named-at : (rows : List PlainMessage) (i : ℕ) (r : PlainMessage) (x : Id) → i < length rows → r ≡ get_or rows i r → Names (kind_of r.kind) x
    → Named (history_of rows) x
named-at rows i r x l e n = record { by = message_of r; there_is = row-in rows i r l e; names = n }

pub named-none : (rows : List PlainMessage) (i : ℕ) (r : PlainMessage) (x : Id) → i < length rows → r ≡ get_or rows i r
    → (Named (history_of (take i rows)) x → ⊥) → (Names (kind_of r.kind) x → ⊥) → Named (history_of (take (i + 1) rows)) x → ⊥
named-none rows i r x l e before miss n = none-more (λ (a : Message). Names a.kind x) rows i r l e
    (λ a j p. before (record { by = a; there_is = j; names = p })) miss n.by n.there_is n.names

pub removed-at : (rows : List PlainMessage) (i : ℕ) (r : PlainMessage) (x : Id) → i < length rows → r ≡ get_or rows i r → Removes (kind_of r.kind) x
    → Removed (history_of rows) x
removed-at rows i r x l e n = record { by = message_of r; there_is = row-in rows i r l e; removes = n }

pub removed-none : (rows : List PlainMessage) (i : ℕ) (r : PlainMessage) (x : Id) → i < length rows → r ≡ get_or rows i r
    → (Removed (history_of (take i rows)) x → ⊥) → (Removes (kind_of r.kind) x → ⊥) → Removed (history_of (take (i + 1) rows)) x → ⊥
removed-none rows i r x l e before miss n = none-more (λ (a : Message). Removes a.kind x) rows i r l e
    (λ a j p. before (record { by = a; there_is = j; removes = p })) miss n.by n.there_is n.removes

not_has : (w : List Id) (i : Id) → (In i w → ⊥) → has w i ≡ false
not_has w i n = elim (test (has w i)) [
  | yes_is e ↦ absurd (n (has-In w i e))
  | no_is e ↦ e
]

append_nil : (h : History) → h ++ [] ≡ h
append_nil [] = refl
append_nil (m ∷ h) = ap (λ z. m ∷ z) (append_nil h)

drop-beyond : (rows : List PlainMessage) (i : ℕ) → length rows ≤ i → drop i rows ≡ []
drop-beyond [] zero l = refl
drop-beyond [] (suc i) l = refl
drop-beyond (x ∷ rows) zero l = absurd (omega arith)
drop-beyond (x ∷ rows) (suc i) l = drop-beyond rows i (omega arith)

-- the past of what is left, after a row that is wanted or not
drop-row : (rows : List PlainMessage) (i : ℕ) (r : PlainMessage) → i < length rows → r ≡ get_or rows i r → drop i rows ≡ r ∷ drop (i + 1) rows
drop-row rows i r l e = rw (add-one, drop-cons rows i r) (ap (λ z. z ∷ drop (suc i) rows) (sym e))

pub past-row_taken : (rows : List PlainMessage) (h h' : History) (w w' : List Id) (i : ℕ) (r : PlainMessage) (goal : History) → i < length rows → r ≡ get_or rows i r
    → h ++ past (history_of (drop i rows)) w ≡ goal → In r.id w → h' ≡ h ++ message_of r ∷ [] → w' ≡ r.predecessors.items ++ w
    → h' ++ past (history_of (drop (i + 1) rows)) w' ≡ goal
past-row_taken rows h h' w w' i r goal l e before taken same wide =
    let rest : History = past (history_of (drop (i + 1) rows)) (r.predecessors.items ++ w) in
    ap (λ z. h' ++ past (history_of (drop (i + 1) rows)) z) wide
    ∙ ap (λ z. z ++ rest) same
    ∙ append_assoc h (message_of r ∷ []) rest
    ∙ ap (λ z. h ++ z) (sym (past-taken (message_of r) (history_of (drop (i + 1) rows)) w (In-has w r.id taken)))
    ∙ ap (λ z. h ++ past (history_of z) w) (sym (drop-row rows i r l e))
    ∙ before

pub past-row_left : (rows : List PlainMessage) (h h' : History) (w w' : List Id) (i : ℕ) (r : PlainMessage) (goal : History) → i < length rows → r ≡ get_or rows i r
    → h ++ past (history_of (drop i rows)) w ≡ goal → (In r.id w → ⊥) → h' ≡ h → w' ≡ w
    → h' ++ past (history_of (drop (i + 1) rows)) w' ≡ goal
past-row_left rows h h' w w' i r goal l e before left same wide =
    ap (λ z. h' ++ past (history_of (drop (i + 1) rows)) z) wide
    ∙ ap (λ z. z ++ past (history_of (drop (i + 1) rows)) w) same
    ∙ ap (λ z. h ++ z) (sym (past-left (message_of r) (history_of (drop (i + 1) rows)) w (not_has w r.id left)))
    ∙ ap (λ z. h ++ past (history_of z) w) (sym (drop-row rows i r l e))
    ∙ before

-- at the end
pub past-row_end : (rows : List PlainMessage) (h : History) (w : List Id) (i : ℕ) (goal : History) → length rows ≤ i
    → h ++ past (history_of (drop i rows)) w ≡ goal → h ≡ goal
past-row_end rows h w i goal l e =
    sym (append_nil h ∙ refl) ∙ ap (λ z. h ++ z) (sym (ap (λ z. past (history_of z) w) (drop-beyond rows i l) ∙ past-none w)) ∙ e

-- at the end the rows so far are all
pub rows-end : (rows : List PlainMessage) (i : ℕ) → length rows ≤ i → {a : Message} → In a (history_of rows) → In a (history_of (take i rows))
rows-end rows i l {a} j = subst (λ z. In a (history_of z)) (sym (take_all i rows l)) j

-- an operation that an add of the member has in its past does not wait
pub older-no_wait : (h : History) → IsHistory h → (s : Id) (o : Message) → In o h → IsOlderThanMembership h s o.id → IsUnanswered h s o → ⊥
older-no_wait h g s o i k u =
    let older : Stands (past h k.by.predecessors) o.id = k.brings.older in
    let is : older.by ≡ o = same-message h g (past-within h k.by.predecessors older.there_is) i older.has_id in
    let j : In o (past h k.by.predecessors) = subst (λ z. In z (past h k.by.predecessors)) is older.there_is in
    elim (u.counts k.by k.there_is k.brings.adds) [
      | inl e ↦ (with_past-history h g i).1 (record {
        by = o;
        has_id = refl;
        there_is = subst (λ (z : Message). In o (past h z.predecessors)) (sym e) j;
      })
      | inr f ↦ f j
    ]

-- what waits
pub waits-where : (h : History) (s : Id) (o : Message) → In o h → IsOperation o.kind × (o.sender ≢ s) → (HasAnswered h s o.id → ⊥)
    → (IsOlderThanMembership h s o.id → ⊥) → IsUnanswered h s o
waits-where h s o i k none older = record {
  there_is = i;
  operation = k.0;
  others = k.1;
  unmet = λ a j e n. none (record { by = a; there_is = j; own = e; answers = n });
  counts = λ b j e. inr (λ z. older (record {
    by = b;
    there_is = j;
    brings = record { adds = e; older = record { by = o; there_is = z; has_id = refl } };
  }));
}

-- a verdict with a fact beside it
pub waits-and : (P Q : Type 0) (r : Result Bool AllocError) → IfOk r (λ b. (IsTrue b → P) × (P → IsTrue b)) → Q
    → IfOk r (λ b. (IsTrue b → P × Q) × (P × Q → IsTrue b))
waits-and P Q (Ok b) e q = (λ t. (e.0 t, q), λ k. e.1 k.0)
waits-and P Q (Err x) e q = tt

-- what waits alone
pub answers_one-where : (h : History) (s i : Id) (o : Message) → IsUnanswered h s o → o.id ≡ i → (r : Result Bool AllocError)
    → IfOk r (λ b. (IsTrue b → (a : Message) → IsUnanswered h s a → a.id ≡ i) × (((a : Message) → IsUnanswered h s a → a.id ≡ i) → IsTrue b))
    → IfOk r (λ b. (IsTrue b → AnswersOne h s i) × (AnswersOne h s i → IsTrue b))
answers_one-where h s i o u e (Ok b) k =
    (λ t. record { operation = o; waits = u; has_id = e; only = k.0 t }, λ one. k.1 (λ a w. one.only a w))
answers_one-where h s i o u e (Err x) k = tt

-- an id of the list
pub id-in : (ids : List Id) (n : ℕ) (d : Id) → n < length ids → In (get_or ids n d) ids
id-in [] n d l = absurd (omega arith)
id-in (j ∷ ids) zero d l = here
id-in (j ∷ ids) (suc n) d l = there (id-in ids n d (omega arith))

-- one more id
pub id-more : (ids : List Id) (n : ℕ) (d : Id) → n < length ids → (x : Id) → In x (take (n + 1) ids) → (x ≡ get_or ids n d) ⊎ In x (take n ids)
id-more ids n d l x j = elim (In-either (take n ids) (subst (λ z. In x z) (take_more ids n d l) j)) [
  | inl k ↦ inr k
  | inr k ↦ elim (In-cases k) [
    | inl e ↦ inl e
    | inr q ↦ absurd (In-nothing q)
  ]
]

-- those of the ids so far that are wanted, where the next is wanted and where it is not
pub kept-more : (P : Id → Type 0) (named : List Id) (n : ℕ) (d : Id) (ids wider : List Id) → n < length named
    → ((y : Id) → In y (take n named) → P y → In y ids)
    → ((x : Id) → (In x wider → (x ≡ get_or named n d) ⊎ In x ids) × ((x ≡ get_or named n d) ⊎ In x ids → In x wider))
    → (y : Id) → In y (take (n + 1) named) → P y → In y wider
kept-more P named n d ids wider l before same y j p = elim (id-more named n d l y j) [
  | inl e ↦ (same y).1 (inl e)
  | inr k ↦ (same y).1 (inr (before y k p))
]

pub kept-only : (P : Id → Type 0) (i : Id) (ids wider : List Id) → P i → ((y : Id) → In y ids → P y)
    → ((x : Id) → (In x wider → (x ≡ i) ⊎ In x ids) × ((x ≡ i) ⊎ In x ids → In x wider)) → (y : Id) → In y wider → P y
kept-only P i ids wider hit before same y j = elim ((same y).0 j) [
  | inl e ↦ subst P (sym e) hit
  | inr k ↦ before y k
]

pub kept-left : (P : Id → Type 0) (named : List Id) (n : ℕ) (d : Id) (ids : List Id) → n < length named
    → ((y : Id) → In y (take n named) → P y → In y ids) → (P (get_or named n d) → ⊥)
    → (y : Id) → In y (take (n + 1) named) → P y → In y ids
kept-left P named n d ids l before miss y j p = elim (id-more named n d l y j) [
  | inl e ↦ absurd (miss (subst P e p))
  | inr k ↦ before y k p
]

-- all of the ids so far
pub all-more_ids : (P : Id → Type 0) (ids : List Id) (n : ℕ) (d : Id) → n < length ids
    → ((x : Id) → In x (take n ids) → P x) → P (get_or ids n d) → (x : Id) → In x (take (n + 1) ids) → P x
all-more_ids P ids n d l before hit x j = elim (id-more ids n d l x j) [
  | inl e ↦ subst P (sym e) hit
  | inr k ↦ before x k
]

-- at the end the ids so far are all
pub ids-end : (ids : List Id) (n : ℕ) → length ids ≤ n → {x : Id} → In x ids → In x (take n ids)
ids-end ids n l {x} k = subst (λ z. In x z) (sym (take_all n ids l)) k

pub with_id-has : (ids : List Id) (i : Id) → In i ids → with_id ids i ≡ ids
with_id-has ids i k = rw (In-has ids i k) refl

pub with_id-new : (ids : List Id) (i : Id) → (In i ids → ⊥) → with_id ids i ≡ ids ++ i ∷ []
with_id-new ids i k = rw (not_has ids i k) refl

drop-one : (more : List Id) (i : ℕ) (d : Id) → i < length more → drop i more ≡ get_or more i d ∷ drop (i + 1) more
drop-one more i d l = rw (add-one, drop-cons more i d) refl

-- ids joined, one after another
pub joined-has : (more : List Id) (i : ℕ) (d : Id) (ids goal : List Id) → i < length more → joined ids (drop i more) ≡ goal
    → In (get_or more i d) ids → joined ids (drop (i + 1) more) ≡ goal
joined-has more i d ids goal l before k =
    let e : joined ids (get_or more i d ∷ drop (i + 1) more) ≡ goal = ap (λ z. joined ids z) (sym (drop-one more i d l)) ∙ before in
    subst (λ z. joined z (drop (i + 1) more) ≡ goal) (with_id-has ids (get_or more i d) k) e

pub joined-new : (more : List Id) (i : ℕ) (d : Id) (ids goal : List Id) → i < length more → joined ids (drop i more) ≡ goal
    → (In (get_or more i d) ids → ⊥) → joined (ids ++ get_or more i d ∷ []) (drop (i + 1) more) ≡ goal
joined-new more i d ids goal l before k =
    let e : joined ids (get_or more i d ∷ drop (i + 1) more) ≡ goal = ap (λ z. joined ids z) (sym (drop-one more i d l)) ∙ before in
    subst (λ z. joined z (drop (i + 1) more) ≡ goal) (with_id-new ids (get_or more i d) k) e
