-- Rows, oldest first, and the history that they are.
use Rattle.std.proofs.Common.{◌≡◌, ℕ, zero, suc, ◌<◌, ◌≤◌, inl, inr, List, [], ◌∷◌, ◌++◌, length, slice_get, map, reverse, take, drop, Some, option_map, refl, sym, ◌∙◌, ap, subst, arith, add-one}
use Rattle.std.proofs.lemmas.List.{length-map, length-reverse, length-take, take_all, reverse-append}
use Rattle.std.proofs.lemmas.Bool.Decides.{eqb_tells}
use Rattle.group_fields.specs.Headers.{message_id}
use Rattle.group_fields.specs.declared.header.Header.{Header}
use Rattle.group_model.specs.Sets.{Id, In}
use Rattle.group_model.specs.Messages.{Kind, Message, History, Stands}
use Rattle.group_model.specs.Membership.{ids_named}
use Rattle.group_model.specs.Validity.{Answers}
use Rattle.group_model.specs.Marks.{HasNumber, IsPlace}
use Rattle.group_model.proofs.Numbers.{number-below, number-one, number-of}
use Rattle.group_messages.specs.Messages.{message_of}
use Rattle.causal_history.specs.Numbered.{AreNumbersOf, IsNumberOf}
use Rattle.causal_history.specs.Rows.{Row, row_message, history_of, senders_of}
use Rattle.causal_history.specs.Keeping.{AnswersRow, AreCardsAt, IsCardAt, IsLink, IsTable}
use Rattle.causal_history.specs.declared.table.Link.{Link}
use Rattle.causal_history.specs.declared.table.CardPlace.{CardPlace}
use Rattle.causal_history.proofs.ListMore.{get-below, get-in, get-one, get-there, get-map, take-next}
use Rattle.causal_history.proofs.TableFacts.{length-with_id}

pub history-none : history_of [] ≡ []
unfolding history_of
history-none = refl

pub history-push : (rows : List Row) (row : Row) → history_of (rows ++ row ∷ []) ≡ row_message row ∷ history_of rows
unfolding history_of
history-push rows row = ap (map row_message) (reverse-append rows (row ∷ []))

pub history-length : (rows : List Row) → length (history_of rows) ≡ length rows
unfolding history_of
history-length rows = length-map (reverse rows) row_message ∙ length-reverse rows

-- the rows below a bound have their numbers
number-upto : (rows : List Row) (n i : ℕ) (row : Row) → n ≤ length rows → i < n → slice_get rows i ≡ Some row
    → HasNumber (history_of (take n rows)) i (row_message row)
number-upto rows zero i row l k e = absurd (omega arith)
number-upto rows (suc n) i row l k e =
    let t = get-there rows n (omega arith) in
    let f : history_of (take (suc n) rows) ≡ row_message t.0 ∷ history_of (take n rows) =
    ap history_of (rw add-one at (take-next rows n t.0 t.1)) ∙ history-push (take n rows) t.0 in
    let size : length (history_of (take n rows)) ≡ n = history-length (take n rows) ∙ short n rows (omega arith) in
    rw f (elim (eqb_tells i n) [
      | inl d ↦ inl (d.1 ∙ sym size, ap row_message (get-one rows i row t.0 e (ap (λ z. slice_get rows z) d.1 ∙ t.1)))
      | inr d ↦ inr (number-upto rows n i row (omega arith) (omega (arith, d.1)) e)
    ])
  where
    short : (n : ℕ) (rows : List Row) → n ≤ length rows → length (take n rows) ≡ n
    short n rows l = omega (arith, length-take n rows)

pub row-number : (rows : List Row) (i : ℕ) (row : Row) → slice_get rows i ≡ Some row → HasNumber (history_of rows) i (row_message row)
row-number rows i row e =
    subst (λ z. HasNumber (history_of z) i (row_message row)) (take_all (length rows) rows (omega arith))
    (number-upto rows (length rows) i row (omega arith) (get-below rows i row e) e)

-- the row that a message with a number is
pub record IsRowOf (rows : List Row) (i : ℕ) (m : Message) : Type 0 where
  pub row : Row
  pub at : slice_get rows i ≡ Some row
  pub is : m ≡ row_message row

pub number-row : (rows : List Row) (i : ℕ) (m : Message) → HasNumber (history_of rows) i m → IsRowOf rows i m
number-row rows i m n =
    let t = get-there rows i (omega (arith, number-below (history_of rows) i m n, history-length rows)) in
    record { row = t.0; at = t.1; is = number-one (history_of rows) i m (row_message t.0) n (row-number rows i t.0 t.1) }

-- ---- ids

pub id-number : (rows : List Row) (ids : List Id) → ids ≡ map (λ (row : Row). message_id row.header) rows → (at : ℕ) (id : Id)
    → IsPlace ids at id → IsNumberOf (history_of rows) id at
id-number rows ids e at id p =
    let q : slice_get (map (λ (row : Row). message_id row.header) rows) at ≡ Some id = ap (λ z. slice_get z at) (sym e) ∙ p in
    let l = get-below (map (λ (row : Row). message_id row.header) rows) at id q in
    let t = get-there rows at (omega (arith, l, length-map rows (λ (row : Row). message_id row.header))) in
    record {
      by = row_message t.0;
      number = row-number rows at t.0 t.1;
      has_id = get-one (map (λ (row : Row). message_id row.header) rows) at (message_id t.0.header) id
          (get-map (λ (row : Row). message_id row.header) rows at t.0 t.1) q;
    }

pub id-none : (rows : List Row) (ids : List Id) → ids ≡ map (λ (row : Row). message_id row.header) rows → (id : Id)
    → (In id ids → ⊥) → Stands (history_of rows) id → ⊥
id-none rows ids e id n s =
    let k = number-of (history_of rows) s.there_is in
    let r = number-row rows k.0 s.by k.1 in
    let j = get-in (map (λ (row : Row). message_id row.header) rows) k.0 (message_id r.row.header)
    (get-map (λ (row : Row). message_id row.header) rows k.0 r.row r.at) in
    n (subst (λ z. In z ids) (ap (λ (z : Message). z.id) (sym r.is) ∙ s.has_id)
    (subst (λ z. In (message_id r.row.header) z) (sym e) j))

-- an id that stands is in the index
pub stands-key : (rows : List Row) (ids : List Id) → ids ≡ map (λ (row : Row). message_id row.header) rows → (id : Id)
    → Stands (history_of rows) id → In id ids
stands-key rows ids e id s =
    let k = number-of (history_of rows) s.there_is in
    let r = number-row rows k.0 s.by k.1 in
    let j = get-in (map (λ (row : Row). message_id row.header) rows) k.0 (message_id r.row.header)
    (get-map (λ (row : Row). message_id row.header) rows k.0 r.row r.at) in
    subst (λ z. In z ids) (ap (λ (z : Message). z.id) (sym r.is) ∙ s.has_id)
    (subst (λ z. In (message_id r.row.header) z) (sym e) j)

-- ---- links

-- a header is the message, and has the link
pub record IsLinked (ids senders : List Id) (numbers : List ℕ) (linked : Link) (m : Message) : Type 0 where
  pub header : Header
  pub is : m ≡ message_of header
  pub link : IsLink ids senders numbers linked header

module _ (rows : List Row) (links : List Link) (numbers : List ℕ) (ids senders named : List Id) (places : List CardPlace)
    (table : IsTable rows links numbers ids senders named places) where
  pub linked-at : (i : ℕ) (link : Link) (m : Message) → slice_get links i ≡ Some link → HasNumber (history_of rows) i m
      → IsLinked ids senders numbers link m
  linked-at i link m e n =
      let r = number-row rows i m n in
      record { header = r.row.header; is = r.is; link = table.each i link r.row e r.at }

  -- the predecessors of a row, as numbers of rows
  pub predecessor-numbers : (i : ℕ) (link : Link) (m : Message) → slice_get links i ≡ Some link → HasNumber (history_of rows) i m
      → AreNumbersOf (history_of rows) m.predecessors (take link.count (drop link.first numbers))
  predecessor-numbers i link m e n =
      let k = linked-at i link m e n in
      subst (λ (z : Message). AreNumbersOf (history_of rows) z.predecessors (take link.count (drop link.first numbers))) (sym k.is)
      (record {
        size = k.link.predecessors.size;
        each = λ j l. id-number rows ids table.ids_are _ _ (k.link.predecessors.each j l);
      })

pub ids-length : (rows : List Row) (ids : List Id) → ids ≡ map (λ (row : Row). message_id row.header) rows → length ids ≡ length rows
ids-length rows ids e = ap length e ∙ length-map rows (λ (row : Row). message_id row.header)

-- ---- answers of calls

option-map : {A B : Type 0} (f : A → B) (xs : List A) (i : ℕ) → option_map f (slice_get xs i) ≡ slice_get (map f xs) i
option-map f [] i = refl
option-map f (x ∷ xs) zero = refl
option-map f (x ∷ xs) (suc i) = option-map f xs i

module _ (rows now : List Row) (view : rows ≡ now) (ids : List Id) (are : ids ≡ map (λ (row : Row). message_id row.header) rows) where
  pub id-row : (at : ℕ) (id : Id) → IsPlace ids at id → option_map (λ (row : Row). message_id row.header) (slice_get now at) ≡ Some id
  id-row at id p =
      ap (λ (z : List Row). option_map (λ (row : Row). message_id row.header) (slice_get z at)) (sym view)
      ∙ option-map (λ (row : Row). message_id row.header) rows at ∙ ap (λ z. slice_get z at) (sym are) ∙ p

  pub id-message : (at : ℕ) (id : Id) → IsPlace ids at id → (m : Message) → HasNumber (history_of now) at m → id ≡ m.id
  id-message at id p m n =
      let k = id-number rows ids are at id p in
      sym k.has_id ∙ ap (λ (z : Message). z.id) (number-one (history_of now) at k.by m
      (subst (λ (z : List Row). HasNumber (history_of z) at k.by) view k.number) n)

  pub id-now : (at : ℕ) (id : Id) → IsPlace ids at id → IsNumberOf (history_of now) id at
  id-now at id p = subst (λ (z : List Row). IsNumberOf (history_of z) id at) view (id-number rows ids are at id p)

  pub id-below : (at : ℕ) (id : Id) → IsPlace ids at id → at < length now
  id-below at id p = omega (arith, get-below ids at id p, ids-length rows ids are, ap length view)

  pub id-missing : (id : Id) → (In id ids → ⊥) → Stands (history_of now) id → ⊥
  id-missing id n = subst (λ (z : List Row). Stands (history_of z) id → ⊥) view (id-none rows ids are id n)

-- ---- the table of no rows

pub no-table : IsTable [] [] [] [] [] [] []
no-table = record {
  kept = record {
    history = rw history-none tt;
    few = omega arith;
    members = rw history-none (omega arith);
    whole = λ row i. absurd (elim i [ ]);
  };
  ids_are = refl;
  senders_are = rw history-none refl;
  named_are = rw history-none refl;
  linked = refl;
  each = λ i link row e d. absurd cc;
  few = omega arith;
  cards = record { size = refl; each = λ p x place e d. absurd cc };
}

-- ---- senders and answers

pub length-senders : (h : History) → length (senders_of h) ≤ length h
length-senders [] = omega arith
length-senders (m ∷ older) = omega (arith, length-with_id (senders_of older) m.sender, length-senders older)

pub answered-row : (rows now : List Row) → rows ≡ now → (ids : List Id) → ids ≡ map (λ (row : Row). message_id row.header) rows
    → (kind : Kind) (at : ℕ) → AnswersRow ids kind at → (o : Message) × HasNumber (history_of now) at o × Answers kind o.id
answered-row rows now view ids are kind at a =
    let k = id-now rows now view ids are at a.operation a.number in
    (k.by, k.number, subst (λ z. Answers kind z) (sym k.has_id) a.answers)

-- ---- cards

pub card-at : (rows now : List Row) → rows ≡ now → (named : List Id) → named ≡ ids_named (history_of rows) → (places : List CardPlace)
    → AreCardsAt rows named places → (p : ℕ) (place : CardPlace) → slice_get places p ≡ Some place → p < length (ids_named (history_of now))
    → (x : Id) × IsPlace (ids_named (history_of now)) p x × IsCardAt rows x place
card-at rows now view named are places k p place e l =
    let same : named ≡ ids_named (history_of now) = are ∙ ap (λ (z : List Row). ids_named (history_of z)) view in
    let t = get-there named p (omega (arith, l, ap length same)) in
    (t.0, subst (λ z. IsPlace z p t.0) same t.1, k.each p t.0 place t.1 e)

pub card-below : (rows now : List Row) → rows ≡ now → (named : List Id) → named ≡ ids_named (history_of rows) → (places : List CardPlace)
    → AreCardsAt rows named places → (p : ℕ) → p < length (ids_named (history_of now)) → p < length places
card-below rows now view named are places k p l =
    omega (arith, l, ap length (are ∙ ap (λ (z : List Row). ids_named (history_of z)) view), k.size)
