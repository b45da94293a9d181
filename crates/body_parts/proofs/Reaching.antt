-- Where parts can be sent.
use Rattle.std.proofs.Common.{◌≡◌, ℕ, ◌<◌, ◌-◌, ◌^◌, Bool, true, List, length, Option, Some, None, refl, subst, arith, option_map}
use Rattle.std.specs.Prelude.{All, IsSome, IfSome}
use Rattle.group_model.specs.Sets.{Id, In, IsDistinct}
use Rattle.group_model.specs.Marks.{IsPlace}
use Rattle.group_model.proofs.ListFacts.{Contains-from_In}
use Rattle.group_model.proofs.Places.{place-distinct}
use Rattle.member_book.specs.PairStates.{PairState}
use Rattle.two_party.specs.Drawn.{Drawn, left_for}
use Rattle.secret_book.specs.HeldBooks.{BookTable, HeldBook, held}
use Rattle.body_parts.specs.declared.addressing.Receiver.{Receiver}
use Rattle.body_parts.specs.Receivers.{AreReceivers, ids_to}
use Rattle.body_parts.specs.Sending.{CanReach, CanSend}
use Rattle.body_parts.proofs.Gathered.{whose}

pub reached : (b : BookTable) (p n : ℕ) → p < length b.places → Some n ≡ option_map (λ (k : PairState). k.sends) ((held b).pairing p)
    → n < 2 ^ 32 - 1 → CanReach (held b) p
unfolding held
reached b p n low e few = record { met = low; other = some ((held b).pairing p) e; few = below ((held b).pairing p) e }
  where
    some : (o : Option PairState) → Some n ≡ option_map (λ (k : PairState). k.sends) o → IsSome o
    some None e = absurd (cc)
    some (Some k) e = refl

    below : (o : Option PairState) → Some n ≡ option_map (λ (k : PairState). k.sends) o → IfSome o (λ k. k.sends < 2 ^ 32 - 1)
    below None e = tt
    below (Some k) e = let same : n ≡ k.sends = cc in omega (arith, same, few)

pub not_used_up : (b : HeldBook) (p n : ℕ) → Some n ≡ option_map (λ (k : PairState). k.sends) (b.pairing p) → CanReach b p → n < 2 ^ 32 - 1
not_used_up b p n e r = below (b.pairing p) e r.few
  where
    below : (o : Option PairState) → Some n ≡ option_map (λ (k : PairState). k.sends) o → IfSome o (λ k. k.sends < 2 ^ 32 - 1) → n < 2 ^ 32 - 1
    below None e f = absurd (cc)
    below (Some k) e f = let same : n ≡ k.sends = cc in omega (arith, same, f)

-- where each receiver can be reached, and draws are left for each, parts can be sent to each place of the crowd
pub each_place : (ids : List Id) (bits : ℕ → Bool) (to : List Receiver) (b : HeldBook) (drawn : List Drawn) → IsDistinct ids
    → AreReceivers ids bits to → All (λ (r : Receiver). CanReach b r.place) to → ((id : Id) → In id (ids_to to) → IsSome (left_for drawn id))
    → (p : ℕ) (id : Id) → IsPlace ids p id → bits p ≡ true → CanSend b drawn p id
each_place ids bits to b drawn distinct r reach left p id at bit =
    let i = r.all p id at bit in
    let w = whose to id i in
    let placed : IsPlace ids w.0.place id = subst (λ (z : Id). IsPlace ids w.0.place z) w.2 (r.placed w.0 w.1) in
    let same : w.0.place ≡ p = place-distinct ids distinct w.0.place p id placed at in
    let k = Contains-from_In w.1 in
    record {
      reach = subst (CanReach b) same (subst (λ (q : Receiver). CanReach b q.place) k.2 (reach k.0 w.0 k.1));
      draw = left id i;
    }
