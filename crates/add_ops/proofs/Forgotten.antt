-- Forgetting the senders of rows one by one is what the model does with them.
use Rattle.std.proofs.Common.{◌≡◌, ◌∙◌, ℕ, ◌+◌, ◌<◌, Bool, true, false, cond, List, [], ◌∷◌, ◌++◌, ◌≤◌, arith, length, length-append, None, refl, ap, sym, subst, take, slice_get, Some}
use Rattle.std.specs.Prelude.{bytes_eq}
use Rattle.std.proofs.lemmas.Option.{get_or_from_slice_get, slice_get_within}
use Rattle.kem_trait.specs.declared.kem.Kem.{Ghosts}
use Rattle.group_model.specs.Sets.{Id, In, here, has}
use Rattle.group_model.specs.Membership.{ids_named, named_by, with_id}
use Rattle.group_model.specs.Membership.{joined as joined_ids}
use Rattle.group_model.specs.Marks.{IsPlace}
use Rattle.group_model.specs.Messages.{Add, Kind, Message, History}
use Rattle.group_model.proofs.ListFacts.{yes_is, no_is, test, has-In, In-right}
use Rattle.group_model.specs.Settings.{Owner}
use Rattle.group_keys.specs.Primitives.{primitives_of}
use Rattle.causal_history.specs.Rows.{Row, history_of, row_message}
use Rattle.causal_history.proofs.ListMore.{take-next}
use Rattle.causal_history.proofs.RowFacts.{history-push}
use Rattle.member_book.specs.Books.{BookState, step, welcomed}
use Rattle.member_book.specs.Places.{id_at}
use Rattle.secret_book.specs.HeldBooks.{BookTable, HeldBook, held, stepped}
use Rattle.book_standing.specs.Standing.{CallsStand, HeldStands}
use Rattle.add_ops.specs.Moves.{SendersForgotten}
use Rattle.add_ops.specs.Taking.{joined}

pub id-at-place : (ids : List Id) (p : ℕ) (x : Id) → IsPlace ids p x → id_at ids p ≡ x
id-at-place ids p x e = get_or_from_slice_get ids p x [] e

-- places are counted
pub same_places : (a b : BookTable) → (held a).met ≡ (held b).met → length a.places ≡ length b.places
unfolding held
same_places a b e = e

module _ {K P : Type 0} (kem : Ghosts K P) (ids : List Id) where
  pub none-forgotten : (b : BookTable) → SendersForgotten kem ids [] b b
  none-forgotten b = record { stands = λ O others state have h. h; pairings = refl; places = refl }

  pub one-forgotten : (m : Message) (p : ℕ) → IsPlace ids p m.sender → (before after : BookTable)
      → held after ≡ stepped (primitives_of kem) p None (held before)
      → ((O : Owner) (others : List Id) (q : ℕ) (x : HeldBook) (state : BookState) → HeldStands kem O others x state
      → q < length others → CallsStand kem O others q x state)
      → SendersForgotten kem ids (m ∷ []) before after
  one-forgotten m p place before after is Calls = record {
    stands = λ O others state have h.
        let at = have p m.sender place in
        subst (λ (x : HeldBook). HeldStands kem O others x (step O.primitives m.sender None state)) (sym is)
        (subst (λ (y : Id). HeldStands kem O others (stepped (primitives_of kem) p None (held before)) (step O.primitives y None state))
        (id-at-place others p m.sender at)
        ((Calls O others p (held before) state h (slice_get_within others p m.sender at)).steps None));
    pairings = ap (λ (x : HeldBook). x.pairing) is;
    places = same_places after before (ap (λ (x : HeldBook). x.met) is);
  }

  pub more-forgotten : (m : Message) (older : History) (before now after : BookTable) → SendersForgotten kem ids older before now
      → SendersForgotten kem ids (m ∷ []) now after → SendersForgotten kem ids (m ∷ older) before after
  more-forgotten m older before now after k j = record {
    stands = λ O others state have h. j.stands O others (welcomed O.primitives older state) have (k.stands O others state have h);
    pairings = j.pairings ∙ k.pairings;
    places = j.places ∙ k.places;
  }

  -- one row more
  pub row-forgotten : (rows : List Row) (i : ℕ) (row : Row) → slice_get rows i ≡ Some row → (before now after : BookTable)
      → SendersForgotten kem ids (history_of (take i rows)) before now
      → SendersForgotten kem ids (row_message row ∷ []) now after
      → SendersForgotten kem ids (history_of (take (i + 1) rows)) before after
  row-forgotten rows i row at before now after k j =
      subst (λ (h : History). SendersForgotten kem ids h before after)
      (sym (ap history_of (take-next rows i row at) ∙ history-push (take i rows) row))
      (more-forgotten (row_message row) (history_of (take i rows)) before now after k j)

-- who is added by its place
pub joined-where : {K P : Type 0} (kem : Ghosts K P) (O : Owner) (h : History) (m : Message) (y : Id) (own : Bool) (state : BookState)
    → own ≡ bytes_eq y O.id → welcomed O.primitives (cond own h []) state ≡ joined kem O h m y state
joined-where kem O h m y own state e =
    subst (λ (t : Bool). welcomed O.primitives (cond own h []) state ≡ cond t (welcomed O.primitives h state) state) e (of own)
  where
    of : (t : Bool) → welcomed O.primitives (cond t h []) state ≡ cond t (welcomed O.primitives h state) state
    of true = refl
    of false = refl

one-longer : (ids : List Id) (i : Id) (t : Bool) → length ids ≤ length (cond t ids (ids ++ i ∷ []))
one-longer ids i true = omega arith
one-longer ids i false = let e = length-append ids (i ∷ []) in omega (arith, e)

-- no id is lost
pub longer : (ids more : List Id) → length ids ≤ length (joined_ids ids more)
longer ids [] = omega arith
longer ids (i ∷ more) = let l = longer (with_id ids i) more in let k = one-longer ids i (has ids i) in omega (arith, k, l)

-- who is added is named
pub added-in : (h : History) (m : Message) (y : Id) → Add y ≡ m.kind → In y (ids_named (m ∷ h))
added-in h m y e = subst (λ (k : Kind). In y (joined_ids (ids_named h) (named_by k))) e (elim (test (has (ids_named h) y)) [
  | yes_is t ↦ rw t (has-In (ids_named h) y t)
  | no_is f ↦ rw f (In-right (ids_named h) here)
])
