-- One more member that is met.
use Rattle.std.proofs.Common.{◌≡◌, ◌≢◌, ◌⊎◌, inl, inr, ℕ, zero, suc, ◌<◌, ◌+◌, Bool, cond, nat_eq, List, [], ◌∷◌, ◌++◌, length, Option, Some, None, refl, sym, ◌∙◌, ap, subst, arith, option_map}
use Rattle.std.specs.Prelude.{IsSome}
use Rattle.std.proofs.lemmas.Option.{slice_get_within}
use Rattle.std.proofs.lemmas.Bool.{eq-eqb, ne_eqb}
use Rattle.kem_trait.specs.declared.kem.Kem.{Ghosts}
use Rattle.group_model.specs.Sets.{Bytes, Id, In}
use Rattle.group_model.specs.Marks.{IsPlace}
use Rattle.group_model.specs.Settings.{Owner}
use Rattle.group_model.proofs.Places.{place-in}
use Rattle.member_book.specs.Books.{BookState}
use Rattle.member_book.specs.PairStates.{PairState, at_start}
use Rattle.secret_book.specs.HeldBooks.{BookTable, HeldBook, held, met_with}
use Rattle.book_standing.specs.Standing.{HeldStands, MeetStands, OwnStands}
use Rattle.met_members.specs.Meeting.{AreMet}

-- a place of a list with one more id
place-more : (ids : List Id) (x : Id) (p : ℕ) (y : Id) → IsPlace (ids ++ x ∷ []) p y
    → IsPlace ids p y ⊎ ((p ≡ length ids) × (y ≡ x))
place-more [] x zero y e = inr (refl, cc)
place-more [] x (suc p) y e = absurd cc
place-more (i ∷ ids) x zero y e = inl e
place-more (i ∷ ids) x (suc p) y e = elim (place-more ids x p y e) [
  | inl a ↦ inl a
  | inr b ↦ inr (ap suc b.0, b.1)
]

length-more : (ids : List Id) (x : Id) → length (ids ++ x ∷ []) ≡ length ids + 1
length-more [] x = refl
length-more (i ∷ ids) x = let more = length-more ids x in omega (arith, more)

met-count : (b : BookTable) → (held b).met ≡ length b.places
unfolding held
met-count b = refl

module _ (ids : List Id) (me x : Id) (old new : BookTable) (public : Option Bytes) (is : held new ≡ met_with public (held old))
    (met : AreMet ids me old) where
  -- the number of places that were met
  abbrev n : ℕ
  n = (held old).met

  n-is : n ≡ length ids
  n-is = met-count old ∙ met.count

  pairing-at : (p : ℕ) → (held new).pairing p ≡ cond (nat_eq n p) (option_map (at_start (held old).secret) public) ((held old).pairing p)
  pairing-at p = ap (λ (b : HeldBook). b.pairing p) is

  before-stays : (p : ℕ) (y : Id) → IsPlace ids p y → (held new).pairing p ≡ (held old).pairing p
  before-stays p y at =
      let l : p < length ids = slice_get_within ids p y at in
      let apart : nat_eq n p ≡ Bool.false = ne_eqb n p (λ e. (let m : n ≡ length ids = n-is in omega (arith, l, m, e))) in
      pairing-at p ∙ ap (λ (t : Bool). cond t (option_map (at_start (held old).secret) public) ((held old).pairing p)) apart

  last-is : (held new).pairing (length ids) ≡ option_map (at_start (held old).secret) public
  last-is = subst (λ (k : ℕ). (held new).pairing k ≡ option_map (at_start (held old).secret) public) n-is
      (pairing-at n ∙ ap (λ (t : Bool). cond t (option_map (at_start (held old).secret) public) ((held old).pairing n)) (eq-eqb n n refl))

  pub one-met : (x ≢ me → IsSome (option_map (at_start (held old).secret) public)) → AreMet (ids ++ x ∷ []) me new
  one-met paired = record {
    count = sym (met-count new) ∙ ap (λ (b : HeldBook). b.met) is ∙ ap (λ (k : ℕ). k + 1) n-is ∙ sym (length-more ids x);
    others = λ p y at other. elim (place-more ids x p y at) [
      | inl a ↦ subst (λ (o : Option PairState). IsSome o) (sym (before-stays p y a)) (met.others p y a other)
      | inr b ↦ (let other-x : x ≢ me = subst (λ (z : Id). z ≢ me) b.1 other in
          subst (λ (k : ℕ). IsSome ((held new).pairing k)) (sym b.0)
          (subst (λ (o : Option PairState). IsSome o) (sym last-is) (paired other-x)))
    ];
  }

-- each place that was met is another's than the own, where the own was not met
pub all-paired : (ids : List Id) (me : Id) (b : BookTable) → AreMet ids me b → (In me ids → ⊥) → (q : ℕ) → q < length b.places
    → IsSome ((held b).pairing q)
all-paired ids me b met fresh q l =
    let y = get-at ids q (subst (λ (k : ℕ). q < k) met.count l) in
    met.others q y.0 y.1 (λ e. fresh (subst (λ (z : Id). In z ids) e (place-in ids q y.0 y.1)))
  where
    get-at : (ids : List Id) (q : ℕ) → q < length ids → (y : Id) × IsPlace ids q y
    get-at [] q l = absurd (omega (arith, l))
    get-at (i ∷ ids) zero l = (i, refl)
    get-at (i ∷ ids) (suc q) l = get-at ids q (omega (arith, l))

module _ {K P : Type 0} (kem : Ghosts K P) where
  -- one more was met by the key on its card
  pub met-other : (O : Owner) → MeetStands kem O → (ids : List Id) (x : Id) (key : Bytes) (old new : BookTable) (state : BookState)
      → held new ≡ met_with (Some key) (held old) → (In x ids → ⊥) → O.public_key x ≡ key
      → HeldStands kem O ids (held old) state → HeldStands kem O (ids ++ x ∷ []) (held new) state
  met-other O meets ids x key old new state is fresh says h =
      subst (λ (b : HeldBook). HeldStands kem O (ids ++ x ∷ []) b state)
      (ap (λ (k : Bytes). met_with (Some k) (held old)) says ∙ sym is) (meets ids x (held old) state h fresh)

  -- or the own place
  pub met-own : (O : Owner) → OwnStands kem O → (ids : List Id) (x : Id) (old new : BookTable) (state : BookState)
      → held new ≡ met_with None (held old) → (In x ids → ⊥) → O.id ≡ x
      → HeldStands kem O ids (held old) state → HeldStands kem O (ids ++ x ∷ []) (held new) state
  met-own O own ids x old new state is fresh me h =
      subst (λ (b : HeldBook). HeldStands kem O (ids ++ x ∷ []) b state) (sym is)
      (subst (λ (z : Id). HeldStands kem O (ids ++ z ∷ []) (met_with None (held old)) state) me
      (own ids (held old) state h (subst (λ (z : Id). In z ids → ⊥) (sym me) fresh)))
