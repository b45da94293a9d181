-- What a reader may say of the byte string that it read, from what it read of its layout and of the end.
use Rattle.std.proofs.Common.{◌≡◌, ℕ, ◌-◌, ◌≤◌, List, [], ◌∷◌, length, take, drop, refl, ap, sym, subst, ◌∙◌}
use Rattle.std.specs.Prelude.{Result, Ok, Err, IfOk, IfErr}
use Rattle.group_fields.specs.Layouts.{IsLeastFault, Layout, Spells}
use Rattle.group_fields.specs.LayoutReads.{Found, before, ended, found, left, on_ok, read, read_whole, whole_seen}
use Rattle.group_fields.specs.Reading.{Reading}
use Rattle.group_fields.specs.declared.fault.FieldFault.{FieldFault}
use Rattle.group_fields.proofs.LayoutLaws.{IsPlain, before_is, exact_whole, found_is, least, whole_found, whole_read}
use Rattle.group_fields.proofs.ReadSteps.{never_back, since_is}

whole_of : {A : Type 0} (l : Layout A) (bytes : List ℕ) (x : Found A) (r : Result (Unit {0}) FieldFault) → read l 0 bytes ≡ Ok x
    → r ≡ ended tt x.place x.rest → read_whole l 0 bytes ≡ on_ok r (λ u. Ok x.value)
unfolding read_whole
whole_of l bytes x r e is = rw e (by_rest x.value x.place x.rest r is)
  where
    by_rest : {A : Type 0} (a : A) (place : ℕ) (rest : List ℕ) (r : Result (Unit {0}) FieldFault) → r ≡ ended tt place rest
        → ended a place rest ≡ on_ok r (λ u. Ok a)
    by_rest a place [] r is = rw is refl
    by_rest a place (b ∷ rest) r is = rw is refl

whole_fault : {A : Type 0} (l : Layout A) (bytes : List ℕ) (fault : FieldFault) → read l 0 bytes ≡ Err fault → read_whole l 0 bytes ≡ Err fault
unfolding read_whole
whole_fault l bytes fault e = rw e refl

pub whole_end : {A : Type 0} (l : Layout A) (bytes : List ℕ) (old new : Reading) (a : A) (r : Result (Unit {0}) FieldFault)
    → old ≡ record { whole = bytes; place = 0 } → read l old.place (left old) ≡ Ok (found a new.place (left new))
    → r ≡ ended tt new.place (left new) → read_whole l 0 bytes ≡ on_ok r (λ u. Ok a)
whole_end l bytes old new a r start e is =
    whole_of l bytes (found a new.place (left new)) r
    (subst (λ (o : Reading). read l o.place (left o) ≡ Ok (found a new.place (left new))) start e) is

pub whole_stop : {A : Type 0} (l : Layout A) (bytes : List ℕ) (old : Reading) (fault : FieldFault)
    → old ≡ record { whole = bytes; place = 0 } → read l old.place (left old) ≡ Err fault → read_whole l 0 bytes ≡ Err fault
whole_stop l bytes old fault start e =
    whole_fault l bytes fault (subst (λ (o : Reading). read l o.place (left o) ≡ Err fault) start e)

-- ---- what the answer of a reader of whole byte strings says of what they spell

module _ {A : Type 0} (l : Layout A) (bytes : List ℕ) where
  pub whole_found_is : (r : Result A FieldFault) → read_whole l 0 bytes ≡ whole_seen (λ a. a) r → IfOk r (λ a. Spells l bytes a)
  whole_found_is (Ok a) is = whole_found l bytes a is
  whole_found_is (Err fault) is = tt

  pub whole_only_is : (r : Result A FieldFault) → read_whole l 0 bytes ≡ whole_seen (λ a. a) r → (a : A) → Spells l bytes a → r ≡ Ok a
  whole_only_is (Ok b) is a spelled = let read = whole_read l bytes a spelled in cc
  whole_only_is (Err fault) is a spelled = absurd (let read = whole_read l bytes a spelled in cc)

  pub whole_fault_is : (r : Result A FieldFault) → read_whole l 0 bytes ≡ whole_seen (λ a. a) r → IfErr r (λ fault. IsLeastFault l bytes fault)
  whole_fault_is (Ok a) is = tt
  whole_fault_is (Err fault) is = least l bytes fault is

  pub whole_least_is : (r : Result A FieldFault) → IsPlain l → read_whole l 0 bytes ≡ whole_seen (λ a. a) r
      → (fault : FieldFault) → IsLeastFault l bytes fault → r ≡ Err fault
  whole_least_is (Ok a) plain is fault first = absurd (let stop = exact_whole l bytes fault plain first.refused in cc)
  whole_least_is (Err other) plain is fault first = let stop = exact_whole l bytes fault plain first.refused in cc

-- ---- the bytes that a reader took from a place on

pub taken_spelled : {A : Type 0} (l : Layout A) (from : ℕ) (old new : Reading) (a : A) → from ≡ old.place
    → read l old.place (left old) ≡ Ok (found a new.place (left new)) → new.whole ≡ old.whole → new.place ≤ length new.whole
    → Spells l (take (new.place - from) (drop from new.whole)) a
taken_spelled l from old new a at e same within =
    let is = found_is l old.place (left old) (found a new.place (left new)) e in
    let bytes : take (new.place - from) (drop from new.whole) ≡ is.front =
    since_is from old new at (never_back l old.place (left old) new.place (left new) a e) within same
    ∙ ap (before (left new)) is.whole ∙ before_is is.front (left new) in
    subst (λ (b : List ℕ). Spells l b a) (sym bytes) is.spelled
