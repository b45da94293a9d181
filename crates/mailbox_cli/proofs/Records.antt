-- The record of an `init`, and the steps that records stand for.
use Rattle.std.proofs.Common.{◌≡◌, ℕ, ◌≤◌, Bool, true, false, is_some, if◌then◌else◌, List, [], ◌∷◌, length, map, slice_get, Option, Some, None, Result, Ok, Err, refl, sym, ◌∙◌, ap, arith, length-append}
use Rattle.std.specs.Option.{option_to_list}
use Rattle.group_fields.specs.LayoutReads.{read_whole}
use Rattle.group_fields.specs.LayoutWrites.{Appends}
use Rattle.group_fields.specs.Layouts.{Spells, bytes_of, digest, known}
use Rattle.group_fields.specs.declared.fault.FieldFault.{FieldFault}
use Rattle.group_fields.specs.declared.ids.Digest.{Digest}
use Rattle.group_fields.proofs.LayoutLaws.{whole_read}
use Rattle.group_fields.proofs.WriteSteps.{behind_appended, shaped_appended}
use Rattle.kem_trait.specs.declared.kem.Kem.{Ghosts as KemGhosts}
use Rattle.member_journal.specs.Format.{Entry, journal_of}
use Rattle.mailbox_cli.specs.Steps.{Step, has_key, init_record, member_of, steps_among, steps_behind, steps_in, steps_of, tree_height, with_key}

pub none_of_length : {A : Type 0} (xs : List A) → length xs ≡ 0 → xs ≡ []
none_of_length [] is = refl
none_of_length (x ∷ xs) is = absurd (omega (arith, is))

-- the fields of the record of an `init`, one behind the other
pub init_appended : (set : ℕ) (step : Step) (start with_kind with_set with_height with_inviter whole : List ℕ)
    → Appends (known (1 ∷ [])) tt start with_kind → Appends (known (set ∷ [])) tt with_kind with_set
    → Appends (known (tree_height ∷ [])) tt with_set with_height → Appends digest (record { 0 = step.inviter }) with_height with_inviter
    → Appends (bytes_of 32) step.random with_inviter whole → Appends (init_record set) step start whole
unfolding init_record
init_appended set step start with_kind with_set with_height with_inviter whole kind keys height inviter random =
    let id : Digest = record { 0 = step.inviter } in
    shaped_appended _ _ (tt, (tt, (tt, (id, step.random)))) start whole
    (behind_appended _ _ tt _ start with_kind whole kind
    (behind_appended _ _ tt _ with_kind with_set whole keys
    (behind_appended _ _ tt _ with_set with_height whole height
    (behind_appended _ _ id step.random with_height with_inviter whole inviter random)))) refl

-- its size
pub init_size : (set : ℕ) (bytes : List ℕ) (step : Step) → Spells (init_record set) bytes step → length bytes ≡ 67
unfolding init_record known digest bytes_of
init_size set bytes step (fields, (f1, b1, e1, (kind, k), (f2, b2, e2, (keys, s), (f3, b3, e3, (height, h), (f4, b4, e4, (inviter, i), (random, r))))), fits, is) =
    omega (
      arith,
      ap length e1,
      length-append f1 b1,
      kind.size,
      ap length e2,
      length-append f2 b2,
      keys.size,
      ap length e3,
      length-append f3 b3,
      height.size,
      ap length e4,
      length-append f4 b4,
      inviter.size,
      random.size,
    )

module _ {K P : Type 0} (kem : KemGhosts K P) where
  -- the member of a record that was read
  pub member_of-read : (set : ℕ) (bytes : List ℕ) (read : Result Step FieldFault) → set ≡ kem.SET → read_whole (init_record set) 0 bytes ≡ read
      → member_of kem bytes ≡ with_key kem read
  member_of-read set bytes read same is =
      ap (λ (n : ℕ). with_key kem (read_whole (init_record n) 0 bytes)) (sym same) ∙ ap (with_key kem) is

  -- what spells a step with a usable key makes its member
  pub member_of-spelled : (bytes : List ℕ) (step : Step) → Spells (init_record kem.SET) bytes step → has_key kem step.random ≡ true
      → member_of kem bytes ≡ Some step
  member_of-spelled bytes step spelled usable =
      member_of-read kem.SET bytes (Ok step) refl (whole_read (init_record kem.SET) bytes step spelled)
      ∙ ap (λ (b : Bool). if b then Some step else None) usable

  -- the first record makes no member
  pub first_other : (bytes first : List ℕ) (entries : List Entry) (place : ℕ) → journal_of bytes ≡ Ok entries → slice_get (map (λ entry. entry.bytes) entries) 0 ≡ Some first
      → slice_get (map (λ entry. entry.place) entries) 0 ≡ Some place → member_of kem first ≡ None → steps_of kem bytes ≡ Err place
  first_other bytes first entries place is there at other = ap (steps_among kem) is ∙ in_all entries there at
    where
      in_all : (entries : List Entry) → slice_get (map (λ entry. entry.bytes) entries) 0 ≡ Some first → slice_get (map (λ entry. entry.place) entries) 0 ≡ Some place → steps_in kem entries ≡ Err place
      in_all [] there at = cc
      in_all (entry ∷ rest) there at =
          let same : entry.bytes ≡ first = cc in
          let here : entry.place ≡ place = cc in
          ap (λ (m : Option Step). steps_behind m entry.place rest) (ap (member_of kem) same ∙ other) ∙ ap Err here

  -- a second record
  pub second_there : (bytes first : List ℕ) (step : Step) (entries : List Entry) (place : ℕ) → journal_of bytes ≡ Ok entries → slice_get (map (λ entry. entry.bytes) entries) 0 ≡ Some first
      → slice_get (map (λ entry. entry.place) entries) 1 ≡ Some place → member_of kem first ≡ Some step → steps_of kem bytes ≡ Err place
  second_there bytes first step entries place is there at makes = ap (steps_among kem) is ∙ in_all entries there at
    where
      in_all : (entries : List Entry) → slice_get (map (λ entry. entry.bytes) entries) 0 ≡ Some first → slice_get (map (λ entry. entry.place) entries) 1 ≡ Some place → steps_in kem entries ≡ Err place
      in_all [] there at = cc
      in_all (entry ∷ []) there at = cc
      in_all (entry ∷ next ∷ rest) there at =
          let same : entry.bytes ≡ first = cc in
          let here : next.place ≡ place = cc in
          ap (λ (m : Option Step). steps_behind m entry.place (next ∷ rest)) (ap (member_of kem) same ∙ makes) ∙ ap Err here

  -- one record, which makes the member
  pub only_member : (bytes first : List ℕ) (step : Step) (entries : List Entry) → journal_of bytes ≡ Ok entries → slice_get (map (λ entry. entry.bytes) entries) 0 ≡ Some first
      → length entries ≤ 1 → member_of kem first ≡ Some step → steps_of kem bytes ≡ Ok (step ∷ [])
  only_member bytes first step entries is there few makes = ap (steps_among kem) is ∙ in_all entries there few
    where
      in_all : (entries : List Entry) → slice_get (map (λ entry. entry.bytes) entries) 0 ≡ Some first → length entries ≤ 1 → steps_in kem entries ≡ Ok (step ∷ [])
      in_all [] there few = cc
      in_all (entry ∷ []) there few =
          let same : entry.bytes ≡ first = cc in
          ap (λ (m : Option Step). steps_behind m entry.place []) (ap (member_of kem) same ∙ makes)
      in_all (entry ∷ next ∷ rest) there few = absurd (omega (arith, few))

  -- whether there is a member decides between no step and one
  pub one_step : (bytes : List ℕ) (member : Option Step) → steps_of kem bytes ≡ Ok (option_to_list member) → is_some member ≡ true → (step : Step) × (steps_of kem bytes ≡ Ok (step ∷ []))
  one_step bytes None is some = cc
  one_step bytes (Some step) is some = (step, is)

  pub no_step : (bytes : List ℕ) (member : Option Step) → steps_of kem bytes ≡ Ok (option_to_list member) → is_some member ≡ false → steps_of kem bytes ≡ Ok []
  no_step bytes None is none = is
  no_step bytes (Some step) is none = cc
