-- What the calls of an add and its answer make of the book is what they make of the book of the model.
use Rattle.std.proofs.Common.{◌≡◌, ◌∙◌, ℕ, ◌<◌, Bool, true, false, cond, List, [], ◌∷◌, length, Option, Some, None, refl, ap, sym, subst, nat_eq, option_map}
use Rattle.std.specs.Prelude.{bytes_eq, is_some}
use Rattle.std.proofs.lemmas.Bool.{eqb-false, eqb-true}
use Rattle.std.proofs.lemmas.Option.{slice_get_within}
use Rattle.std.proofs.lemmas.Slice.Eq.{bytes_eq-Decides}
use Rattle.kem_trait.specs.declared.kem.Kem.{Ghosts}
use Rattle.group_model.specs.KeyTerms.{Once, add_word, secret_known, welcome_word}
use Rattle.group_model.specs.Knowledge.{payload_in}
use Rattle.group_model.specs.Marks.{IsPlace}
use Rattle.group_model.specs.Membership.{ids_named, named_by}
use Rattle.group_model.specs.Membership.{joined as joined_ids}
use Rattle.group_model.specs.Messages.{AddAck, History, Kind, Message}
use Rattle.group_model.specs.Pairing.{Part}
use Rattle.group_model.specs.Primitives.{Primitives}
use Rattle.group_model.specs.Sets.{Bytes, Id, has}
use Rattle.group_model.specs.Settings.{Owner}
use Rattle.group_model.proofs.ListFacts.{yes_is, no_is, test}
use Rattle.group_keys.specs.Primitives.{primitives_of}
use Rattle.member_book.specs.Books.{BookState, hand, keep, open_from, put, step, step_gives}
use Rattle.member_book.specs.BooksAfter.{added, welcome_of}
use Rattle.member_book.specs.Calls as calls
use Rattle.member_book.specs.Calls.{opened, opens_to}
use Rattle.member_book.specs.Places.{id_at}
use Rattle.secret_book.specs.HeldBooks.{HeldBook, secret_by, stepped}
use Rattle.book_standing.specs.Standing.{CallsStand, HeldStands}
use Rattle.opened_parts.specs.Opening.{Opens}
use Rattle.add_ops.specs.Moves.{MovesAdd}
use Rattle.add_ops.specs.Taking.{TakesAdd, TakesAddAck, heard, joined}
use Rattle.add_ops.proofs.Forgotten.{id-at-place}

-- ---- what leaves the book of the model as it is

-- what is put at an id again
put_own : {A : Type 0} (f : Id → A) (s : Id) → put f s (f s) ≡ f
put_own f s = λ i t. each t i
  where
    each : (t : Id) → put f s (f s) t ≡ f t
    each t = elim (test (bytes_eq s t)) [
      | yes_is e ↦ rw e (ap f ((bytes_eq-Decides s t).0 e))
      | no_is e ↦ rw e refl
    ]

-- nothing is handed
pub none-handed : (s : Id) (b : BookState) → hand s None b ≡ b
none-handed s b = ap (λ (f : Id → Option Bytes). record b { ratchet = f }) (put_own b.ratchet s)

both_same : {A : Type 0} (t : Bool) (v : A) → cond t v v ≡ v
both_same true v = refl
both_same false v = refl

-- nothing is kept
pub none-kept : (i : Id) (ids : List Id) (b : BookState) → keep i ids (λ y. None) b ≡ b
none-kept i ids b = λ x. record b { kept = λ j t. at j t x }
  where
    at : (j t : Id) → (keep i ids (λ y. None) b).kept j t ≡ b.kept j t
    at j t = ap (λ (z : Option Bytes). cond (bytes_eq i j) z (b.kept j t)) (both_same (has ids t) (b.kept j t))
        ∙ both_same (bytes_eq i j) (b.kept j t)

-- a step by a word gives what the word gives out
gives-out : (K : Primitives) (word : Bytes) (ratchet : Option Bytes)
    → secret_known K (Some (Once word)) ratchet ≡ option_map (λ (r : Bytes). K.out r word) ratchet
gives-out K word None = refl
gives-out K word (Some r) = refl

-- ---- single calls

module _ {K P : Type 0} (kem : Ghosts K P) (O : Owner) (ids : List Id) (p : ℕ) (s : Id) (place : IsPlace ids p s) where
  at : id_at ids p ≡ s
  at = id-at-place ids p s place

  pub steps-stand : (input : Option Bytes) (b : HeldBook) (state : BookState) → CallsStand kem O ids p b state
      → HeldStands kem O ids (stepped (primitives_of kem) p input b) (step O.primitives s input state)
  steps-stand input b state calls =
      subst (λ (y : Id). HeldStands kem O ids (stepped (primitives_of kem) p input b) (step O.primitives y input state)) at
      (calls.steps input)

  pub steps-give : (input : Option Bytes) (b : HeldBook) (state : BookState) → CallsStand kem O ids p b state
      → secret_by (primitives_of kem) input (b.ratchet p) ≡ step_gives O.primitives s input state
  steps-give input b state calls = calls.gives input ∙ ap (λ (y : Id). step_gives O.primitives y input state) at

  pub opened-payload : (part : Option Part) (answer : Option Bytes) (state : BookState) (b : HeldBook)
      → Opens kem O ids p part answer state b → answer ≡ payload_in O.primitives O.card (state.events s) part
  opened-payload part answer state b opens = opens.payload
      ∙ ap (λ (y : Id). payload_in O.primitives O.card (state.events y) part) at

  pub opened-stands : (part : Option Part) (answer : Option Bytes) (state : BookState) (b : HeldBook)
      → Opens kem O ids p part answer state b → HeldStands kem O ids b (open_from O.primitives O.card s part state)
  opened-stands part answer state b opens =
      subst (λ (y : Id). HeldStands kem O ids b (open_from O.primitives O.card y part state)) at opens.stands

-- ---- an add

module _ {K P : Type 0} (kem : Ghosts K P) (O : Owner) (m : Message) (y : Id) (ids : List Id) (p q : ℕ)
    (place : IsPlace ids p m.sender) (target : IsPlace ids q y) (state : BookState) (b kept after : HeldBook)
    (stands : HeldStands kem O ids b state)
    (Calls : (r : ℕ) (x : HeldBook) (t : BookState) → HeldStands kem O ids x t → r < length ids → CallsStand kem O ids r x t) where
  abbrev by_welcome : HeldBook
  by_welcome = stepped (primitives_of kem) p (Some welcome_word) b

  abbrev welcome : Option Bytes
  welcome = secret_by (primitives_of kem) (Some welcome_word) (b.ratchet p)

  within : p < length ids
  within = slice_get_within ids p m.sender place

  first : CallsStand kem O ids p b state
  first = Calls p b state stands within

  -- the input that is kept
  welcome-is : welcome ≡ welcome_of O (state.ratchet m.sender)
  welcome-is = steps-give kem O ids p m.sender place (Some welcome_word) b state first
      ∙ gives-out O.primitives welcome_word (state.ratchet m.sender)

  abbrev one : BookState
  one = step O.primitives m.sender (Some welcome_word) state

  pub moves-add : (x : HeldBook) → x ≡ by_welcome → (input : Option Bytes) → input ≡ welcome → (i : Id) → i ≡ m.id
      → (Kept : HeldStands kem O ids x one → q < length ids → HeldStands kem O ids kept (keep i (id_at ids q ∷ []) (λ z. input) one))
      → after ≡ stepped (primitives_of kem) p (Some add_word) kept
      → (learned : Option Bytes) → learned ≡ secret_by (primitives_of kem) (Some add_word) (kept.ratchet p)
      → MovesAdd kem O m y ids state learned after
  moves-add x is_x input is_input i is_id Kept is learned says =
      let two : BookState = keep m.id (y ∷ []) (λ z. welcome_of O (state.ratchet m.sender)) one in
      let held_x : HeldStands kem O ids x one = subst (λ (z : HeldBook). HeldStands kem O ids z one) (sym is_x)
      (steps-stand kem O ids p m.sender place (Some welcome_word) b state first) in
      let held_two : HeldStands kem O ids kept two =
      subst (λ (v : Option Bytes). HeldStands kem O ids kept (keep m.id (y ∷ []) (λ z. v) one)) (is_input ∙ welcome-is)
      (subst (λ (j : Id). HeldStands kem O ids kept (keep j (y ∷ []) (λ z. input) one)) is_id
      (subst (λ (u : Id). HeldStands kem O ids kept (keep i (u ∷ []) (λ z. input) one)) (id-at-place ids q y target)
      (Kept held_x (slice_get_within ids q y target)))) in
      let then : CallsStand kem O ids p kept two = Calls p kept two held_two within in record {
        learned = says ∙ steps-give kem O ids p m.sender place (Some add_word) kept two then;
        stands = subst (λ (z : HeldBook). HeldStands kem O ids z (added O m y state)) (sym is)
            (steps-stand kem O ids p m.sender place (Some add_word) kept two then);
      }

-- whose place is the own one
pub own-place : (ids : List Id) (Distinct : (p q : ℕ) (x : Id) → IsPlace ids p x → IsPlace ids q x → p ≡ q)
    → (p q : ℕ) (x y : Id) → IsPlace ids p x → IsPlace ids q y → nat_eq p q ≡ bytes_eq x y
own-place ids Distinct p q x y e d = elim (test (nat_eq p q)) [
  | yes_is t ↦ t ∙ sym ((bytes_eq-Decides x y).1 (same (eqb-true p q t)))
  | no_is f ↦ elim (test (bytes_eq x y)) [
    | no_is g ↦ f ∙ sym g
    | yes_is t ↦ absurd (eqb-false p q f (Distinct p q y (subst (λ (z : Id). IsPlace ids p z) ((bytes_eq-Decides x y).0 t) e) d))
  ]
]
  where
    same : p ≡ q → x ≡ y
    same l = cc

module _ {K P : Type 0} (kem : Ghosts K P) (O : Owner) (h : History) (m : Message) (y : Id) (p : ℕ)
    (place : IsPlace (ids_named (m ∷ h)) p m.sender) where
  abbrev ids : List Id
  ids = ids_named (m ∷ h)

  pub takes-add : (part : Option Part) (own : Bool) → own ≡ bytes_eq y O.id → (state : BookState) (answer : Option Bytes) (b : HeldBook)
      → Opens kem O ids p part answer (joined kem O h m y state) b → (took : Bool) → took ≡ is_some answer → (x after : HeldBook)
      → (Handed : (t : BookState) → HeldStands kem O ids b t → p < length ids
      → HeldStands kem O ids x (hand (id_at ids p) (cond own answer None) t))
      → (learned : Option Bytes)
      → (Moves : (t : BookState) → HeldStands kem O ids x t → MovesAdd kem O m y ids t learned after)
      → TakesAdd kem O h m y part state (record { took = took; learned = learned }) after
  takes-add part own is_own state answer b opens took tells x after Handed learned Moves =
      let before : BookState = joined kem O h m y state in
      let payload : answer ≡ opens_to O m part before = opened-payload kem O ids p m.sender place part answer before b opens in
      let stands : HeldStands kem O ids b (opened O m part before) =
      opened-stands kem O ids p m.sender place part answer before b opens in
      let hears : HeldStands kem O ids x (heard kem O h m y part before) =
      subst (λ (v : Option Bytes). HeldStands kem O ids x (hand m.sender (cond (bytes_eq y O.id) v None) (opened O m part before))) payload
      (subst (λ (t : Bool). HeldStands kem O ids x (hand m.sender (cond t answer None) (opened O m part before))) is_own
      (subst (λ (z : Id). HeldStands kem O ids x (hand z (cond own answer None) (opened O m part before)))
      (id-at-place ids p m.sender place)
      (Handed (opened O m part before) stands (slice_get_within ids p m.sender place)))) in
      let moves = Moves (heard kem O h m y part before) hears in record {
        took = tells ∙ ap is_some payload;
        learned = moves.learned;
        stands = moves.stands;
      }

-- ---- the answer to an add

module _ {K P : Type 0} (kem : Ghosts K P) (O : Owner) (h : History) (m : Message) (p : ℕ)
    (place : IsPlace (ids_named h) p m.sender) where
  pub takes-add-ack : (i : Id) (part : Option Part) (state : BookState) (answer : Option Bytes) (b x after : HeldBook)
      → Opens kem O (ids_named h) p part answer state b
      → (Handed : (t : BookState) → HeldStands kem O (ids_named h) b t → p < length (ids_named h)
      → HeldStands kem O (ids_named h) x (hand (id_at (ids_named h) p) answer t))
      → (Calls : (t : BookState) → HeldStands kem O (ids_named h) x t → CallsStand kem O (ids_named h) p x t)
      → after ≡ stepped (primitives_of kem) p (Some add_word) x
      → (learned : Option Bytes) → learned ≡ secret_by (primitives_of kem) (Some add_word) (x.ratchet p)
      → TakesAddAck kem O h m i part state learned after
  takes-add-ack i part state answer b x after opens Handed Calls is learned says =
      let payload : answer ≡ opens_to O m part state = opened-payload kem O (ids_named h) p m.sender place part answer state b opens in
      let stands : HeldStands kem O (ids_named h) b (opened O m part state) =
      opened-stands kem O (ids_named h) p m.sender place part answer state b opens in
      let seen : BookState = hand m.sender (opens_to O m part state) (opened O m part state) in
      let hears : HeldStands kem O (ids_named h) x seen =
      subst (λ (v : Option Bytes). HeldStands kem O (ids_named h) x (hand m.sender v (opened O m part state))) payload
      (subst (λ (z : Id). HeldStands kem O (ids_named h) x (hand z answer (opened O m part state)))
      (id-at-place (ids_named h) p m.sender place)
      (Handed (opened O m part state) stands (slice_get_within (ids_named h) p m.sender place))) in record {
        learned = says ∙ steps-give kem O (ids_named h) p m.sender place (Some add_word) x seen (Calls seen hears);
        stands = subst (λ (z : HeldBook). HeldStands kem O (ids_named h) z (calls.take_add_ack O m part state)) (sym is)
            (steps-stand kem O (ids_named h) p m.sender place (Some add_word) x seen (Calls seen hears));
      }

-- the answer names nobody
pub answer-names : (h : History) (m : Message) (i : Id) → m.kind ≡ AddAck i → ids_named (m ∷ h) ≡ ids_named h
answer-names h m i kind = ap (λ (k : Kind). joined_ids (ids_named h) (named_by k)) kind
