-- The oldest messages of a history, and those of them that are marked: what an upward pass has come to.
use Rattle.std.proofs.Common.{◌≡◌, ℕ, ◌+◌, ◌<◌, ◌≤◌, Bool, true, false, cond, inl, inr, List, [], ◌∷◌, length, refl, sym, ◌∙◌, ap, subst, arith}
use Rattle.std.specs.Prelude.{nat_lt}
use Rattle.std.proofs.lemmas.Bool.Decides.{eqb_tells}
use Rattle.std.specs.Prelude.{reverse}
use Rattle.std.proofs.lemmas.List.{length-map, length-reverse}
use Rattle.causal_history.specs.Rows.{Row, row_message, history_of}
use Rattle.group_model.specs.Sets.{In, there}
use Rattle.group_model.specs.Messages.{Message, History}
use Rattle.group_model.specs.Marks.{HasNumber, marked}
use Rattle.group_model.proofs.ListFacts.{yes_is, no_is, test, In-cases, In-head}
use Rattle.group_model.proofs.Numbers.{number-in, number-below, number-one}

-- the n oldest messages
abbrev pub oldest : History → ℕ → History
oldest [] n = []
oldest (m ∷ older) n = cond (nat_lt (length older) n) (m ∷ older) (oldest older n)

lt-is : (a b : ℕ) → a < b → nat_lt a b ≡ true
lt-is a b l = grind arith

lt-not : (a b : ℕ) → b ≤ a → nat_lt a b ≡ false
lt-not a b l = grind arith

pub oldest-all : (h : History) (n : ℕ) → length h ≤ n → oldest h n ≡ h
oldest-all [] n l = refl
oldest-all (m ∷ older) n l = rw (lt-is (length older) n (omega arith)) refl

pub oldest-none : (h : History) → oldest h 0 ≡ []
oldest-none [] = refl
oldest-none (m ∷ older) = rw (lt-not (length older) 0 (omega arith)) (oldest-none older)

pub oldest-more : (h : History) (n : ℕ) (m : Message) → HasNumber h n m → oldest h (n + 1) ≡ m ∷ oldest h n
oldest-more [] n m r = absurd r
oldest-more (l ∷ older) n m (inl e) =
    rw (lt-is (length older) (n + 1) (let q = e.0 in omega arith))
    (rw (lt-not (length older) n (let q = e.0 in omega arith))
    (rw (oldest-all older n (let q = e.0 in omega arith)) (ap (λ (z : Message). z ∷ older) (sym e.1))))
oldest-more (l ∷ older) n m (inr r) = let b = number-below older n m r in
    rw (lt-not (length older) (n + 1) (omega arith))
    (rw (lt-not (length older) n (omega arith)) (oldest-more older n m r))

pub length-oldest : (h : History) (n : ℕ) (m : Message) → HasNumber h n m → length (oldest h n) ≡ n
length-oldest [] n m r = absurd r
length-oldest (l ∷ older) n m (inl e) =
    rw (lt-not (length older) n (let q = e.0 in omega arith))
    (rw (oldest-all older n (let q = e.0 in omega arith)) (sym e.0))
length-oldest (l ∷ older) n m (inr r) = let b = number-below older n m r in
    rw (lt-not (length older) n (omega arith)) (length-oldest older n m r)

-- a message with a lower number is among them
pub oldest-in : (h : History) (n i : ℕ) (m : Message) → HasNumber h i m → i < n → In m (oldest h n)
oldest-in [] n i m r l = absurd r
oldest-in (k ∷ older) n i m r l = elim (test (nat_lt (length older) n)) [
  | yes_is e ↦ rw e (number-in (k ∷ older) i m r)
  | no_is e ↦ rw e (elim r [
    | inl d ↦ absurd (let q = d.0 in let t = lt-is (length older) n (omega arith) in cc)
    | inr q ↦ oldest-in older n i m q l
  ])
]

-- the marked ones of the n oldest
abbrev pub so_far : (marks : ℕ → Bool) → History → ℕ → History
so_far marks h n = marked marks (oldest h n)

pub so_far-none : (marks : ℕ → Bool) (h : History) → so_far marks h 0 ≡ []
so_far-none marks h = rw (oldest-none h) refl

pub so_far-all : (marks : ℕ → Bool) (h : History) (n : ℕ) → length h ≤ n → so_far marks h n ≡ marked marks h
so_far-all marks h n l = rw (oldest-all h n l) refl

pub so_far-taken : (marks : ℕ → Bool) (h : History) (n : ℕ) (m : Message) → HasNumber h n m → marks n ≡ true
    → so_far marks h (n + 1) ≡ m ∷ so_far marks h n
so_far-taken marks h n m r t = rw (oldest-more h n m r) (rw (length-oldest h n m r) (rw t refl))

pub so_far-left : (marks : ℕ → Bool) (h : History) (n : ℕ) (m : Message) → HasNumber h n m → marks n ≡ false
    → so_far marks h (n + 1) ≡ so_far marks h n
so_far-left marks h n m r t = rw (oldest-more h n m r) (rw (length-oldest h n m r) (rw t refl))

-- ---- marked messages

-- the message has a marked number
pub record IsMarked (h : History) (marks : ℕ → Bool) (m : Message) : Type 0 where
  pub number : ℕ
  pub is_row : HasNumber h number m
  pub marked : marks number ≡ true

pub marked-number : (h : History) (marks : ℕ → Bool) {m : Message} → In m (marked marks h) → IsMarked h marks m
marked-number [] marks i = elim i [ ]
marked-number (n ∷ older) marks {m} i = elim (test (marks (length older))) [
  | yes_is e ↦ elim (In-cases (rw e at i)) [
    | inl d ↦ record { number = length older; is_row = inl (refl, d); marked = e }
    | inr j ↦ let k = marked-number older marks j in record { number = k.number; is_row = inr k.is_row; marked = k.marked }
  ]
  | no_is e ↦ let k = marked-number older marks (rw e at i) in record { number = k.number; is_row = inr k.is_row; marked = k.marked }
]

pub number-marked : (h : History) (marks : ℕ → Bool) (i : ℕ) (m : Message) → HasNumber h i m → marks i ≡ true → In m (marked marks h)
number-marked [] marks i m r t = absurd r
number-marked (n ∷ older) marks i m (inl e) t = rw (ap marks (sym e.0) ∙ t) (In-head (marked marks older) e.1)
number-marked (n ∷ older) marks i m (inr r) t = elim (test (marks (length older))) [
  | yes_is e ↦ rw e (there (number-marked older marks i m r t))
  | no_is e ↦ rw e (number-marked older marks i m r t)
]

pub marked-within : (h : History) (marks : ℕ → Bool) {m : Message} → In m (marked marks h) → In m h
marked-within h marks {m} i = let k = marked-number h marks i in number-in h k.number m k.is_row

-- ---- rows of the code

pub rows-length : (rows : List Row) → length (history_of rows) ≡ length rows
unfolding history_of
rows-length rows = length-map (reverse rows) row_message ∙ length-reverse rows

pub rows-none : (rows : List Row) → length rows ≡ 0 → history_of rows ≡ []
rows-none rows e = nothing (history_of rows) (rows-length rows ∙ e)
  where
    nothing : (h : History) → length h ≡ 0 → h ≡ []
    nothing [] d = refl
    nothing (m ∷ h) d = absurd (omega arith)

-- ---- messages by their numbers

-- each number below the length is a message's
pub record IsThere (h : History) (i : ℕ) : Type 0 where
  pub by : Message
  pub is_row : HasNumber h i by

pub message-at : (h : History) (i : ℕ) → i < length h → IsThere h i
message-at [] i l = absurd (omega arith)
message-at (m ∷ older) i l = elim (eqb_tells i (length older)) [
  | inl e ↦ record { by = m; is_row = inl (e.1, refl) }
  | inr e ↦ let r = message-at older i (omega arith) in record { by = r.by; is_row = inr r.is_row }
]

-- what holds of the message with a number
pub at-number : (h : History) (i : ℕ) (m n : Message) → HasNumber h i m → HasNumber h i n → (P : Message → Type 0) → P m → P n
at-number h i m n r s P p = subst P (number-one h i m n r s) p
