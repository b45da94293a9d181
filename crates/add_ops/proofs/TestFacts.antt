-- What the tests find out about an add or its answer, and about a book.
use Rattle.std.proofs.Common.{◌≡◌, ◌∙◌, ◌∷◌, ◌+◌, [], length, Option, Some, None, option_map, refl, sym, ap}
use Rattle.std.specs.Prelude.{IsSome}
use Rattle.std.proofs.lemmas.List.{length-append}
use Rattle.group_model.specs.Messages.{Add, Message, History, Kind}
use Rattle.group_model.specs.Membership.{ids_named, joined, named_by}
use Rattle.group_model.specs.Sets.{Id, In}
use Rattle.group_model.proofs.Rows.{with_id-new}

pub some-mapped : {A B : Type 0} (f : A → B) (o : Option A) (y : B) → option_map f o ≡ Some y → IsSome o
some-mapped f None y e = absurd (cc)
some-mapped f (Some x) y e = refl

-- who is added has the place behind all others
pub more-by-add : (h : History) (m : Message) (y : Id) → Add y ≡ m.kind → (In y (ids_named h) → ⊥)
    → length (ids_named (m ∷ h)) ≡ length (ids_named h) + 1
more-by-add h m y is new =
    ap (λ (k : Kind). length (joined (ids_named h) (named_by k))) (sym is)
    ∙ ap length (with_id-new (ids_named h) y new)
    ∙ length-append (ids_named h) (y ∷ [])
