-- Counts of messages, and lists of heads as predecessors.
use Rattle.std.proofs.Common.{◌≡◌, ℕ, ◌+◌, ◌≤◌, ◌<◌, Bool, true, false, cond, List, [], ◌∷◌, length, refl, ap, arith}
use Rattle.std.proofs.Common.{Some, None}
use Rattle.std.specs.Prelude.{bytes_eq}
use Rattle.std.specs.Ordering.{is_lt}
use Rattle.std.proofs.lemmas.Bool.{and_from}
use Rattle.group_fields.specs.Fields.{is_above}
use Rattle.group_fields.specs.Headers.{AreCounted}
use Rattle.group_fields.specs.LayoutWrites.{ascends}
use Rattle.group_fields.specs.declared.ids.Digest.{Digest}
use Rattle.group_model.specs.Sets.{Id, IsAscending}
use Rattle.group_model.specs.Messages.{History, AreHeads}
use Rattle.group_model.specs.Validity.{count_of}
use Rattle.group_messages.specs.Messages.{ids_of}
use Rattle.group_messages.proofs.HeaderFacts.{length-ids_of}

one-more : (b : Bool) (n k : ℕ) → n ≤ k → cond b (n + 1) n ≤ k + 1
one-more true n k few = omega arith
one-more false n k few = omega arith

pub count-few : (s : Id) (h : History) → count_of s h ≤ length h
count-few s [] = omega arith
count-few s (m ∷ h) =
    let few = count-few s h in
    let more = one-more (bytes_eq m.sender s) (count_of s h) (length h) few in
    omega arith

behind : (last : Digest) (ids : List Digest) → IsAscending (ids_of (last ∷ ids)) → ascends (Some last) ids ≡ true
behind last [] g = refl
behind last (i ∷ ids) g =
    and_from (is_above (Some last) i.0) (ascends (Some i) ids) (ap is_lt g.0) (behind i ids g.1)

pub ascending-ascends : (ids : List Digest) → IsAscending (ids_of ids) → ascends None ids ≡ true
ascending-ascends [] g = refl
ascending-ascends (i ∷ ids) g = behind i ids g

-- few heads are predecessors that a header may have
pub heads-counted : (h : History) (ids : List Digest) → AreHeads h (ids_of ids) → length ids ≤ 32 → AreCounted 0 32 ids
heads-counted h ids heads few =
    record { enough = omega arith; few = few; ascending = ascending-ascends ids heads.ascending }

-- the heads are one list, so none is short where one is long
pub heads-many : (h : History) (ids : List Digest)
    → ((a b : List Id) → AreHeads h a → AreHeads h b → a ≡ b) → AreHeads h (ids_of ids) → 32 < length ids
    → (others : List Id) → AreHeads h others → 32 < length others
heads-many h ids one heads many others are =
    let same = ap length (one (ids_of ids) others heads are) in
    let size = length-ids_of ids in
    omega arith
