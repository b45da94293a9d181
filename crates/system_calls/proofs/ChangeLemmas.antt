-- What one change more makes of the paths.
use Rattle.std.proofs.Common.{◌≡◌, ◌≢◌, ℕ, Bool, true, false, List, [], ◌∷◌, ◌++◌, Option, refl, sym, bytes_eq, inl, inr, if◌then◌else◌}
use Rattle.std.specs.Option.{option_map}
use Rattle.system_calls.specs.Stored.{named, MayName}
use Rattle.std.proofs.lemmas.Bool.{false_from_ne_true}
use Rattle.std.proofs.lemmas.Slice.Eq.{bytes_eq-Decides}
use Rattle.system_calls.specs.declared.stored.StoredFile.{StoredFile}
use Rattle.system_calls.specs.declared.changes.Change.{Change}
use Rattle.system_calls.specs.MemFiles.{changed, all_changed}

pub all_changed-push : (path : List ℕ) (stored : Option StoredFile) (changes : List Change) (change : Change)
    → all_changed path stored (changes ++ change ∷ []) ≡ changed path (all_changed path stored changes) change
all_changed-push path stored [] change = refl
all_changed-push path stored (first ∷ changes) change = all_changed-push path (changed path stored first) changes change

-- a path is itself, and no other
pub same_path : (path : List ℕ) → bytes_eq path path ≡ true
same_path path = (bytes_eq-Decides path path).1 refl

pub other_path : (path other : List ℕ) → other ≢ path → bytes_eq path other ≡ false
other_path path other differ = false_from_ne_true (bytes_eq path other) (λ e. differ (sym ((bytes_eq-Decides path other).0 e)))

-- a name is synced, or it stays as it was
pub may_name : (here : Bool) (old new : Option StoredFile) → new ≡ (if here then option_map named old else old) → MayName old new
may_name true old new e = inr e
may_name false old new e = inl e
