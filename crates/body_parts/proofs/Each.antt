-- Parts for a list of receivers, the first and then the others.
use Rattle.std.proofs.Common.{◌≡◌, ◌≢◌, ℕ, ◌-◌, ◌<◌, ◌^◌, true, List, [], ◌∷◌, length, get_or, take, drop, Option, Some, sym, ◌∙◌, ap, subst, arith, cond, option_map}
use Rattle.std.specs.Prelude.{Result, Ok, Err, IfOk, OnOk, IfSome}
use Rattle.std.specs.Option.{option_and_then}
use Rattle.std.proofs.lemmas.Bool.{and_parts, ne_eqb}
use Rattle.std.proofs.lemmas.List.{take_all}
use Rattle.std.proofs.lemmas.Result.{on_ok_weaker}
use Rattle.kem_trait.specs.declared.kem.Kem.{Ghosts}
use Rattle.group_fields.specs.Fields.{is_above}
use Rattle.group_fields.specs.LayoutWrites.{Appends, ascends}
use Rattle.group_fields.specs.Layouts.{next_id}
use Rattle.group_fields.specs.declared.ids.Digest.{Digest}
use Rattle.wire_codec.specs.Packets.{AddressedPart, part, parts_above}
use Rattle.group_model.specs.Sets.{Bytes, Id, In, here, there, IsAscending}
use Rattle.group_model.specs.Pairing.{Draws, Part, Target, sealed_part}
use Rattle.group_model.specs.Primitives.{Content}
use Rattle.group_model.proofs.Ascending.{ascending-rest}
use Rattle.group_parts.specs.Parts.{IsSized, part_bytes}
use Rattle.group_keys.specs.Primitives.{primitives_of}
use Rattle.member_book.specs.PairStates.{PairState, after_send, next_content, next_part}
use Rattle.two_party.specs.Drawn.{Drawn, after_take, left_for}
use Rattle.secret_book.specs.HeldBooks.{HeldBook, part_from, sealed_at}
use Rattle.body_parts.specs.declared.addressing.Receiver.{Receiver}
use Rattle.body_parts.specs.Receivers.{ArePlaced, digests_to, id_to, ids_to}
use Rattle.body_parts.specs.Sending.{AreMadeFor, CanSendAll, IsSealedFor}
use Rattle.body_parts.proofs.Sent.{can_still, given_by, mapped, more_made, none_made}
use Rattle.body_parts.proofs.Written.{more_appended, none_appended, one_appended}

-- all receivers of a slice but the first
abbrev pub rest_of : List Receiver → List Receiver
rest_of to = take (length to - 1) (drop 1 to)

rest_is : (r : Receiver) (others : List Receiver) → others ≡ rest_of (r ∷ others)
rest_is r others = sym (take_all (length (r ∷ others) - 1) others (omega arith))

pub first_in : (to : List Receiver) (none : Receiver) → 0 < length to → In (get_or to 0 none) to
first_in [] none l = absurd (omega (arith, l))
first_in (r ∷ others) none l = here

-- the others can be sent to, once the first was
pub rest_placed : (to : List Receiver) → ((ids : List Id) × ArePlaced ids to) → (ids : List Id) × ArePlaced ids (rest_of to)
rest_placed [] p = (p.0, p.1)
rest_placed (r ∷ others) p = (p.0, subst (ArePlaced p.0) (rest_is r others) (λ q i. p.1 q (there i)))

pub rest_ascends : (to : List Receiver) → IsAscending (ids_to to) → IsAscending (ids_to (rest_of to))
rest_ascends [] up = tt
rest_ascends (r ∷ others) up =
    subst (λ (l : List Receiver). IsAscending (ids_to l)) (rest_is r others) (ascending-rest (id_to r) (ids_to others) up)

pub rest_can : (to : List Receiver) (none : Receiver) → 0 < length to → ((ids : List Id) × ArePlaced ids to) → IsAscending (ids_to to)
    → (before after : HeldBook) (drawn left : List Drawn) → after.met ≡ before.met
    → ((p : ℕ) → p ≢ (get_or to 0 none).place → after.pairing p ≡ before.pairing p) → left ≡ after_take drawn (id_to (get_or to 0 none))
    → CanSendAll before drawn to → CanSendAll after left (rest_of to)
rest_can [] none l p up before after drawn left met same taken can = absurd (omega (arith, l))
rest_can (r ∷ others) none l p up before after drawn left met same taken can =
    subst (CanSendAll after left) (rest_is r others) (can_still p.0 r others p.1 up before after drawn left met same taken can)

module _ {K P : Type 0} (kem : Ghosts K P) where
  -- what is appended for the receivers
  abbrev pub AreAppended : List Receiver → (payload : Bytes) → List Drawn → (before after : HeldBook) → (old new : List ℕ) → Type 0
  AreAppended to payload drawn before after old new = (made : List AddressedPart)
      × ((last : Option Digest) → ascends last (digests_to to) ≡ true → Appends (parts_above kem.SET (length to) last) made old new)
      × AreMadeFor kem to payload drawn before after made

  pub none_for : (to : List Receiver) (payload : Bytes) (drawn : List Drawn) (b : HeldBook) (bytes : List ℕ) → length to < 1
      → AreAppended to payload drawn b b bytes bytes
  none_for [] payload drawn b bytes l = ([], λ last up. none_appended kem.SET last bytes, none_made kem payload drawn b)
  none_for (r ∷ others) payload drawn b bytes l = absurd (omega (arith, l))

  each_more : (r : Receiver) (others : List Receiver) (payload : Bytes) (drawn left : List Drawn) (before mid after : HeldBook) (old m1 m2 new : List ℕ)
      → ((ids : List Id) × ArePlaced ids (r ∷ others)) → IsAscending (ids_to (r ∷ others))
      → ((last : Option Digest) → is_above last r.member.0.0 ≡ true → Appends (next_id last) r.member.0 old m1)
      → ((bytes : Bytes) × Appends (part kem.SET) bytes m1 m2 × AreMadeFor kem (r ∷ []) payload drawn before mid (record { to = r.member; bytes = bytes } ∷ []))
      → left ≡ after_take drawn (id_to r) → AreAppended others payload left mid after m2 new
      → AreAppended (r ∷ others) payload drawn before after old new
  each_more r others payload drawn left before mid after old m1 m2 new p up id one taken rest = (
    record { to = r.member; bytes = one.0 } ∷ rest.0,
    λ last above.
        let both = and_parts (is_above last r.member.0.0) (ascends (Some r.member.0) (digests_to others)) above in
        more_appended kem.SET (length others) last (record { to = r.member; bytes = one.0 }) rest.0 old m2 new
        (one_appended kem.SET last r.member one.0 old m1 m2 (id last both.0) one.1) (rest.1 (Some r.member.0) both.1),
    more_made kem p.0 r others payload drawn left before mid after (record { to = r.member; bytes = one.0 }) rest.0 p.1 up taken one.2 rest.2,
  )

  pub each_for : {E : Type 0} (to : List Receiver) (none : Receiver) (payload : Bytes) (drawn left : List Drawn) (before mid after : HeldBook)
      (old m1 m2 new : List ℕ) (result : Result (Unit {0}) E) → 0 < length to → ((ids : List Id) × ArePlaced ids to) → IsAscending (ids_to to)
      → ((last : Option Digest) → is_above last (get_or to 0 none).member.0.0 ≡ true → Appends (next_id last) (get_or to 0 none).member.0 old m1)
      → ((bytes : Bytes) × Appends (part kem.SET) bytes m1 m2
      × AreMadeFor kem (get_or to 0 none ∷ []) payload drawn before mid (record { to = (get_or to 0 none).member; bytes = bytes } ∷ []))
      → left ≡ after_take drawn (id_to (get_or to 0 none)) → OnOk result (AreAppended (rest_of to) payload left mid after m2 new)
      → OnOk result (AreAppended to payload drawn before after old new)
  each_for [] none payload drawn left before mid after old m1 m2 new result l p up id one taken rest = absurd (omega (arith, l))
  each_for (r ∷ others) none payload drawn left before mid after old m1 m2 new result l p up id one taken rest =
      on_ok_weaker result
      (λ more. each_more r others payload drawn left before mid after old m1 m2 new p up id one taken
      (subst (λ (z : List Receiver). AreAppended z payload left mid after m2 new) (sym (rest_is r others)) more))
      rest

  -- ---- one part

  pub sealed_for : {E : Type 0} → ((to : Target) (content : Content) (seed : Bytes) (q : Part) → to.number < 2 ^ 32
      → sealed_part (primitives_of kem) to ((primitives_of kem).encapsulate to.public seed) ((primitives_of kem).write content) ≡ Some q
      → IsSized kem q) → (r : Receiver) (payload : Bytes) (drawn : List Drawn) (before after : HeldBook) (draw : Draws) (result : Result Bytes E)
      → left_for drawn (id_to r) ≡ Some draw
      → IfOk result (λ bytes. option_and_then (part_from kem draw payload) (before.pairing r.place) ≡ Some bytes)
      → OnOk result (after ≡ sealed_at r.place draw before)
      → IfOk result (λ bytes. IfSome (before.pairing r.place) (λ k. k.target.number < 2 ^ 32))
      → IfOk result (IsSealedFor kem r payload drawn before after)
  sealed_for Sizes r payload drawn before after draw (Err e) left is sent number = tt
  sealed_for Sizes r payload drawn before after draw (Ok bytes) left is sent number =
      let k = given_by (part_from kem draw payload) (before.pairing r.place) bytes is in
      let q = mapped (part_bytes kem) (next_part (primitives_of kem) k.0 draw payload) bytes k.2 in
      let small : k.0.target.number < 2 ^ 32 = subst (λ (o : Option PairState). IfSome o (λ s. s.target.number < 2 ^ 32)) k.1 number in
      record {
        draw = draw;
        left = left;
        part = q.0;
        next = ap (option_and_then (λ (s : PairState). next_part (primitives_of kem) s draw payload)) k.1 ∙ q.1;
        sized = Sizes k.0.target (next_content k.0 draw payload) draw.encapsulation q.0 small q.1;
        are = q.2;
        held = sent;
      }

  pub others_stay : (r : Receiver) (payload : Bytes) (drawn : List Drawn) (before after : HeldBook) (bytes : Bytes)
      → IsSealedFor kem r payload drawn before after bytes → (p : ℕ) → p ≢ r.place → after.pairing p ≡ before.pairing p
  others_stay r payload drawn before after bytes m p apart =
      ap (λ (b : HeldBook). b.pairing p) m.held
      ∙ ap (λ t. cond t (option_map (λ k. after_send k m.draw) (before.pairing r.place)) (before.pairing p)) (ne_eqb r.place p (λ e. apart (sym e)))
