-- Parts one behind the other in a body.
use Rattle.std.proofs.Common.{◌≡◌, ℕ, suc, ◌≤◌, nat_le, true, List, [], ◌∷◌, ◌++◌, length, Option, Some, None, refl, sym, ◌∙◌, ap, subst, arith}
use Rattle.std.specs.Int.{w8}
use Rattle.std.proofs.lemmas.Bool.{and_from, le-leb}
use Rattle.std.proofs.lemmas.List.{append-nil}
use Rattle.group_fields.specs.Fields.{is_above, is_between}
use Rattle.group_fields.specs.LayoutWrites.{Appends, ascends}
use Rattle.group_fields.specs.Layouts.{Spells, behind, first_and_others, next_id, number}
use Rattle.group_fields.specs.declared.ids.Digest.{Digest}
use Rattle.group_fields.specs.declared.ids.MemberId.{MemberId}
use Rattle.group_fields.proofs.WriteSteps.{behind_appended, counted_appended, shaped_appended}
use Rattle.group_model.specs.Sets.{IsAscending}
use Rattle.group_model.proofs.Verdicts.{says-below}
use Rattle.wire_codec.specs.Packets.{AddressedPart, addressed, part, parts, parts_above, parts_body}
use Rattle.body_parts.specs.declared.addressing.Receiver.{Receiver}
use Rattle.body_parts.specs.Receivers.{digests_to, ids_to}

-- the order of ids as writers ask for it
pub ascends_from : (to : List Receiver) → IsAscending (ids_to to) → ascends None (digests_to to) ≡ true
ascends_from [] up = refl
ascends_from (r ∷ others) up = behind_first r others up
  where
    behind_first : (r : Receiver) (others : List Receiver) → IsAscending (ids_to (r ∷ others)) → ascends (Some r.member.0) (digests_to others) ≡ true
    behind_first r [] up = refl
    behind_first r (q ∷ others) up = and_from (is_above (Some r.member.0) q.member.0.0) (ascends (Some q.member.0) (digests_to others))
        ((says-below r.member.0.0 q.member.0.0).told up.0) (behind_first q others up.1)

-- an id and its part
pub one_appended : (set : ℕ) (last : Option Digest) (member : MemberId) (bytes old mid new : List ℕ) → Appends (next_id last) member.0 old mid
    → Appends (part set) bytes mid new → Appends (addressed set last) (record { to = member; bytes = bytes }) old new
unfolding addressed
one_appended set last member bytes old mid new one two =
    let both : Appends (behind (next_id last) (λ id. part set)) (member.0, bytes) old new =
    behind_appended (next_id last) (λ id. part set) member.0 bytes old mid new one two in
    record { back = both.back; whole = both.whole; spelled = ((member.0, bytes), both.spelled, refl, refl) }

pub none_appended : (set : ℕ) (last : Option Digest) (bytes : List ℕ) → Appends (parts_above set 0 last) [] bytes bytes
unfolding parts_above
none_appended set last bytes = record { back = []; whole = sym (append-nil bytes); spelled = (refl, refl) }

pub more_appended : (set n : ℕ) (last : Option Digest) (one : AddressedPart) (rest : List AddressedPart) (old mid new : List ℕ)
    → Appends (addressed set last) one old mid → Appends (parts_above set n (Some one.to.0)) rest mid new
    → Appends (parts_above set (suc n) last) (one ∷ rest) old new
unfolding parts_above
more_appended set n last one rest old mid new first others =
    shaped_appended (behind (addressed set last) (λ part. parts_above set n (Some part.to.0))) first_and_others (one, rest) old new
    (behind_appended (addressed set last) (λ part. parts_above set n (Some part.to.0)) one rest old mid new first others) refl

-- a count, and so many parts
pub parts_appended : (set n : ℕ) (made : List AddressedPart) (old mid new : List ℕ) → n ≡ length made
    → ((least greatest : ℕ) → is_between least greatest n ≡ true → Appends (number w8 least greatest) n old mid)
    → Appends (parts_above set n None) made mid new → (greatest : ℕ) → n ≤ greatest → Appends (parts set greatest) made old new
parts_appended set n made old mid new long count rest greatest few =
    counted_appended (number w8 0 greatest) (λ m. parts_above set m None) made old mid new
    (subst (λ (m : ℕ). Appends (number w8 0 greatest) m old mid) long (count 0 greatest
    (and_from (nat_le 0 n) (nat_le n greatest) (le-leb 0 n (omega arith)) (le-leb n greatest few))))
    (subst (λ (m : ℕ). Appends (parts_above set m None) made mid new) long rest)

-- a body of parts alone
pub body_spelled : (set greatest : ℕ) (made : List AddressedPart) (old new bytes : List ℕ) → Appends (parts set greatest) made old new → old ≡ []
    → bytes ≡ new → Spells (parts_body set greatest) bytes (record { cards = []; parts = made; history = None; text = None })
unfolding parts_body
body_spelled set greatest made old new bytes a none is =
    let whole : bytes ≡ a.back = is ∙ a.whole ∙ ap (λ (l : List ℕ). l ++ a.back) none in
    (made, subst (λ (l : List ℕ). Spells (parts set greatest) l made) (sym whole) a.spelled, refl, refl)
