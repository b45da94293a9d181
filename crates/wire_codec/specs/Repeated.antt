-- Items of one layout, one behind the other, and lists whose items depend on those before them.
use Rattle.std.specs.Prelude.{ℕ, zero, suc, List, [], Result, Ok, Err}
use Rattle.group_fields.specs.LayoutReads.{Found, read}
use Rattle.group_fields.specs.Layouts.{Layout, Spells, value, behind, shaped, first_and_others}
use Rattle.group_fields.specs.declared.fault.FieldFault.{FieldFault}

-- a first item, and the others behind it
abbrev pub first_then : {A : Type 0} → Layout A → (A → Layout (List A)) → Layout (List A)
first_then first others = shaped (behind first others) first_and_others

-- so many items
unfoldable pub repeated : {A : Type 0} → ℕ → Layout A → Layout (List A)
repeated zero item = value []
repeated (suc count) item = first_then item (λ first. repeated count item)

-- the list that was read; none where nothing was
abbrev pub listed : {A : Type 0} → Result (Found (List A)) FieldFault → List A
listed (Ok x) = x.value
listed (Err fault) = []

-- the first so many items of a byte string that spells them
abbrev pub items_in : {A : Type 0} → Layout A → ℕ → List ℕ → List A
items_in item count bytes = listed (read (repeated count item) 0 bytes)

-- A byte string spells so many items, and no more.
abbrev pub SpellsItems : {A : Type 0} → Layout A → ℕ → List ℕ → Type 0
SpellsItems item count bytes = Spells (repeated count item) bytes (items_in item count bytes)
