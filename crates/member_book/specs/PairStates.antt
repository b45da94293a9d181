-- The state of a pairing: what one side of a pair keeps of its events. docs/GROUP.md, "The book of a member".
use Rattle.std.specs.Prelude.{◌≡◌, ℕ, ◌+◌, ◌-◌, ◌<◌, Bool, true, false, cond, List, [], ◌∷◌, ◌++◌, length, get_or}
use Rattle.std.specs.Prelude.{drop, Option, Some, None, nat_lt, nat_eq}
use Rattle.group_model.specs.Sets.{Bytes}
use Rattle.group_model.specs.Primitives.{KeyPair, Content, Primitives}
use Rattle.group_model.specs.Pairing.{Part, Draws, PairEvent, Target, target, sends, own_key, dropped, last_opened}
use Rattle.group_model.specs.Pairing.{opened_by, sealed_part}

-- a secret key that an opened part brought, and that part's number
pub record Brought : Type 0 where
  pub number : ℕ
  pub secret : Bytes

-- The key that the next part is sealed to, the own secret keys that are not dropped, what the last opened part
-- brought, and how many parts were sent
pub record PairState : Type 0 where
  pub target : Target
  -- own keys below this number are dropped
  pub below : ℕ
  -- the others, in the order of their numbers
  pub own : List Bytes
  pub last : Option Brought
  pub sends : ℕ

-- before anything was sent or opened
unfoldable pub at_start : (secret theirs : Bytes) → PairState
at_start secret theirs = record {
  target = record { made_by_sender = false; number = 0; public = theirs };
  below = 0;
  own = secret ∷ [];
  last = None;
  sends = 0;
}

-- the state after a send with these draws
abbrev pub after_send : PairState → Draws → PairState
after_send k d = record {
  target = record { made_by_sender = true; number = k.sends + 1; public = d.other.public };
  below = k.below;
  own = k.own ++ d.own.secret ∷ [];
  last = k.last;
  sends = k.sends + 1;
}

-- how many own keys an opened part drops
abbrev pub drops : Bool → ℕ → ℕ → ℕ
drops true number below = 0
drops false number below = number + 1 - below

-- the state after a part of this origin and number opened to the content
abbrev pub after_open : PairState → Bool → ℕ → Content → PairState
after_open k made_by_sender number content = record {
  target = record { made_by_sender = false; number = content.number; public = content.public };
  below = k.below + drops made_by_sender number k.below;
  own = drop (drops made_by_sender number k.below) k.own;
  last = Some (record { number = content.number; secret = content.secret });
  sends = k.sends;
}

-- the key that the last opened part brought, where that part has the number
abbrev pub brought_if : Option Brought → ℕ → Option Bytes
brought_if None n = None
brought_if (Some b) n = cond (nat_eq b.number n) (Some b.secret) None

-- the own key of a number
abbrev pub own_at : (below : ℕ) → List Bytes → ℕ → Option Bytes
own_at below own n = cond (nat_lt n below) None
    (cond (nat_lt (n - below) (length own)) (Some (get_or own (n - below) [])) None)

-- the kept key of an origin and a number
abbrev pub kept_key : PairState → Bool → ℕ → Option Bytes
kept_key k true n = brought_if k.last n
kept_key k false n = own_at k.below k.own n

-- what an opened content brings
abbrev pub brought : Option Content → Option Brought
brought None = None
brought (Some c) = Some (record { number = c.number; secret = c.secret })

-- The state stands for these events, newest first, of a side with this pair on its card, towards who has that public
-- key. Own keys from `below` on are those that were made and not dropped
pub record PairStands (card : KeyPair) (theirs : Bytes) (es : List PairEvent) (k : PairState) : Type 0 where
  pub target : k.target ≡ target theirs es
  pub below : k.below ≡ dropped es
  pub last : k.last ≡ brought (last_opened es)
  pub sends : k.sends ≡ sends es
  pub count : k.below + length k.own ≡ k.sends + 1
  pub own : (j : ℕ) → j < length k.own → own_key card es (k.below + j) ≡ Some (get_or k.own j [])

-- the content of the next part
abbrev pub next_content : PairState → Draws → (payload : Bytes) → Content
next_content k d payload = record {
  payload = payload;
  secret = d.other.secret;
  number = k.sends + 1;
  public = d.own.public;
}

module _ (K : Primitives) where
  -- the next part
  abbrev pub next_part : PairState → Draws → (payload : Bytes) → Option Part
  next_part k d payload =
      sealed_part K k.target (K.encapsulate k.target.public d.encapsulation) (K.write (next_content k d payload))

  -- what a part opens to
  abbrev pub opens_to : PairState → Part → Option Content
  opens_to k part = opened_by K (kept_key k part.made_by_sender part.number) part
