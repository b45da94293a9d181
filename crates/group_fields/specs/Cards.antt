-- Cards: their format, and which cards have a spelling.
use Rattle.std.proofs.Common.{◌≡◌, ℕ, IsTrue, ◌||◌, ◌&&◌, ◌==◌, if◌then◌else◌, List, [], ◌∷◌, length, take, drop}
use Rattle.std.proofs.Common.{Some, refl}
use Rattle.std.specs.Int.{w8, w32, from_be_bytes}
use Rattle.sha2.specs.Sha256.{sha256}
use Rattle.group_fields.specs.Layouts as layouts
use Rattle.group_fields.specs.Layouts.{Layout, shaped, verbatim, renamed, bytes_of, digest, known, number, written}
use Rattle.group_fields.specs.Layouts.{◌>>=◌}
use Rattle.group_fields.specs.declared.card.Card.{Card}
use Rattle.group_fields.specs.declared.fault.FieldFault.{FieldFault}

-- the bytes of a public key of a set
abbrev pub key_size : ℕ → ℕ
key_size set = if set == 1 then 1158 else 33

-- the least of the types that the LMS public key of a set may have; the greatest is 6
abbrev pub least_lms_type : ℕ → ℕ
least_lms_type set = if set == 1 then 6 else 5

-- the LMS public key of a set (RFC 8554, section 5.3): its type, its one-time type, I and T[1]
unfoldable pub lms_public : ℕ → Layout (List ℕ)
lms_public set = verbatim (do
  lms_type ← number w32 (least_lms_type set) 6
  one_time_type ← known (0 ∷ 0 ∷ 0 ∷ 3 ∷ [])
  identifier ← bytes_of 16
  bytes_of 32)

-- a card of one of the sets from the least to the greatest: tag, version, set, LMS public key, inviter, public key
unfoldable pub card_of_sets : ℕ → ℕ → Layout Card
card_of_sets least greatest = shaped (do
  tag ← known (0x43 ∷ [])
  version ← known (1 ∷ [])
  set ← number w8 least greatest
  lms_public ← lms_public set
  inviter ← digest
  bytes_of (key_size set))
    (renamed
    (λ (tag, (version, (set, (lms_public, (inviter, kem_public))))).
    record { set = set; lms_public = lms_public; inviter = record { 0 = inviter }; kem_public = kem_public })
    (λ card. Some (tt, (tt, (card.set, (card.lms_public, (card.inviter.0, card.kem_public))))))
    (λ fields. refl))

-- a card of either set
abbrev pub card : Layout Card
card = card_of_sets 1 2

-- Bytes spell a card.
abbrev pub Spells : Card → List ℕ → Type 0
Spells value bytes = layouts.Spells card bytes value

-- The least fault of bytes as a card.
abbrev pub IsCardFault : List ℕ → FieldFault → Type 0
IsCardFault bytes fault = layouts.IsLeastFault card bytes fault

-- the spelling of a card
unfoldable pub spelling : Card → List ℕ
spelling value = written card value

-- a card's id: the digest of its bytes
unfoldable pub card_id : Card → List ℕ
card_id value = sha256 (spelling value)

-- the types of the LMS public key and of its one-time keys, as the key begins with them
abbrev pub lms_type : Card → ℕ
lms_type value = from_be_bytes w32 (take 4 value.lms_public)

abbrev pub one_time_type : Card → ℕ
one_time_type value = from_be_bytes w32 (take 4 (drop 4 value.lms_public))

-- the cards that have a spelling: height 10 with set 1, height 5 or 10 with set 2
pub record HasSpelling (value : Card) : Type 0 where
  pub set : IsTrue ((value.set == 1) || (value.set == 2))
  pub lms_type : IsTrue ((lms_type value == 6) || ((value.set == 2) && (lms_type value == 5)))
  pub one_time_type : one_time_type value ≡ 3
  pub kem_public : length value.kem_public ≡ key_size value.set
