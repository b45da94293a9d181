-- The steps that a journal stands for. So far there is one: `init`, which makes the member.
use Rattle.std.proofs.Common.{refl}
use Rattle.std.specs.Prelude.{ℕ, Bool, if◌then◌else◌, List, [], ◌∷◌, replicate, Option, Some, None, Result, Ok, Err, is_some}
use Rattle.group_fields.specs.LayoutReads.{read_whole}
use Rattle.group_fields.specs.Layouts.{Layout, bytes_of, digest, known, renamed, shaped, ◌>>=◌}
use Rattle.group_fields.specs.declared.fault.FieldFault.{FieldFault}
use Rattle.group_fields.specs.declared.ids.MemberId.{MemberId}
use Rattle.kem_trait.specs.declared.kem.Kem.{Ghosts as KemGhosts}
use Rattle.member_identity.specs.Identity.{Origin, secret_from}
use Rattle.member_journal.specs.Format.{Entry, journal_of}

-- the inviter's id and the 32 random bytes of an `init`
abbrev pub Step : Type 0
Step = Origin

-- the height of the signing tree of each member of this program
abbrev pub tree_height : ℕ
tree_height = 10

-- 32 zero bytes stand for nobody
abbrev pub inviter_of : Option MemberId → List ℕ
inviter_of None = replicate 32 0
inviter_of (Some id) = id.0.0

-- the record of an `init` of a member whose keys are of a set
unfoldable pub init_record : ℕ → Layout Step
init_record set = shaped (do
  kind ← known (1 ∷ [])
  keys ← known (set ∷ [])
  height ← known (tree_height ∷ [])
  inviter ← digest
  bytes_of 32)
    (renamed
    (λ (kind, (keys, (height, (inviter, random)))). record { inviter = inviter.0; random = random })
    (λ step. Some (tt, (tt, (tt, (record { 0 = step.inviter }, step.random)))))
    (λ fields. refl))

-- The first record makes the member, and no second one is known yet: the steps by the member that the first one makes,
-- by its place and by the records behind it. Otherwise the bytes are no journal at the place of the length field of the
-- record.
abbrev pub steps_behind : Option Step → ℕ → List Entry → Result (List Step) ℕ
steps_behind None place rest = Err place
steps_behind (Some step) place [] = Ok (step ∷ [])
steps_behind (Some step) place (second ∷ rest) = Err second.place

module _ {K P : Type 0} (kem : KemGhosts K P) where
  -- the words of the random bytes give a usable key
  abbrev pub has_key : List ℕ → Bool
  has_key random = is_some (secret_from kem random)

  -- the step with a usable key, where one was read
  abbrev pub with_key : Result Step FieldFault → Option Step
  with_key (Ok step) = if has_key step.random then Some step else None
  with_key (Err fault) = None

  -- the member that a record makes: the record is that of an `init` with a usable key
  abbrev pub member_of : List ℕ → Option Step
  member_of bytes = with_key (read_whole (init_record kem.SET) 0 bytes)

  abbrev pub steps_in : List Entry → Result (List Step) ℕ
  steps_in [] = Ok []
  steps_in (first ∷ rest) = steps_behind (member_of first.bytes) first.place rest

  abbrev pub steps_among : Result (List Entry) ℕ → Result (List Step) ℕ
  steps_among (Ok entries) = steps_in entries
  steps_among (Err place) = Err place

  -- the steps of journal bytes, or the place where they are no journal
  abbrev pub steps_of : List ℕ → Result (List Step) ℕ
  steps_of bytes = steps_among (journal_of bytes)
