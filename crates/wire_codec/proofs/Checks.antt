-- A part that is asked for more once it has no fault inside.
use Rattle.std.proofs.Common.{◌≡◌, ℕ, Bool, true, false, refl, ap, sym}
use Rattle.std.specs.Prelude.{Ok, Err}
use Rattle.group_fields.specs.LayoutReads.{Takes, read}
use Rattle.group_fields.specs.Layouts.{Layout, checked}
use Rattle.group_fields.specs.Reading.{Reading}
use Rattle.group_fields.specs.declared.fault.FieldFault.{FieldFault}
use Rattle.group_fields.specs.declared.fault.FieldFault.TheVariants.{Range}

module _ {T A : Type 0} (view : T → A) (part : Layout A) (ok : A → Bool) {old new : Reading} where
  pub checked_fault : {fault : FieldFault} → Takes view part old new (Err fault) → Takes view (checked part ok) old new (Err fault)
  unfolding read
  checked_fault one = record { gives = rw one.gives refl; same = one.same; within = one.within }

  pub checked_value : (v : T) → Takes view part old new (Ok v) → ok (view v) ≡ true → Takes view (checked part ok) old new (Ok v)
  unfolding read
  checked_value v one is = record { gives = rw (one.gives, is) refl; same = one.same; within = one.within }

  pub checked_refused : (v : T) (place : ℕ) → Takes view part old new (Ok v) → ok (view v) ≡ false → place ≡ old.place
      → Takes view (checked part ok) old new (Err (Range place))
  unfolding read
  checked_refused v place one is at =
      record { gives = rw (one.gives, is) (ap (λ (p : ℕ). Err (Range p)) (sym at)); same = one.same; within = one.within }
