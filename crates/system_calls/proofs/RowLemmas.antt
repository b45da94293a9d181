-- The listing of a folder in memory grows by one change after another.
use Rattle.std.proofs.Common.{◌≡◌, ◌∙◌, ◌+◌, ◌<◌, ◌⊎◌, inl, inr, ⊎_elim, ℕ, Bool, true, false, Option, Some, None, List, [], ◌∷◌, length, take, get_or, refl, sym, ap, subst, String, string_bytes, IsTrue, IsSome, if◌then◌else◌, bytes_eq}
use Rattle.std.specs.BTreeMap.{BTreeMap, get_by_text}
use Rattle.std.specs.Cmp.Lexicographic.{slice_cmp}
use Rattle.std.specs.Map.{lookup}
use Rattle.std.specs.Ordering.{is_eq, nat_cmp}
use Rattle.std.specs.Option.{option_map}
use Rattle.std.proofs.lemmas.Bool.{or_cases, or_parts}
use Rattle.std.proofs.lemmas.List.{append_cancel_left}
use Rattle.std.proofs.lemmas.List.Folds.{list_any_more}
use Rattle.std.proofs.lemmas.Slice.Eq.{bytes_eq-Decides}
use Rattle.system_calls.specs.Stored.{is_name, path_in, entry_of, named}
use Rattle.system_calls.specs.MemFiles.{changed, all_changed, filled_by}
use Rattle.system_calls.specs.Rows.{row_at, is_path, is_filled, Enters, RowsSoFar}
use Rattle.system_calls.specs.declared.stored.StoredFile.{StoredFile}
use Rattle.system_calls.specs.declared.stored.FolderEntry.{FolderEntry}
use Rattle.system_calls.specs.declared.changes.Change.{Change}
use Rattle.system_calls.specs.declared.changes.Change.TheVariants.{Put, Gone, Moved, Named}

either_none : (here : Bool) (stored : Option StoredFile) → stored ≡ None → (if here then None else stored) ≡ None
either_none true stored none = refl
either_none false stored none = none

names_none : (here : Bool) (stored : Option StoredFile) → stored ≡ None → (if here then option_map named stored else stored) ≡ None
names_none true stored none = ap (option_map named) none
names_none false stored none = none

-- a change that puts nothing under a path leaves nothing there
leaves_none : (path : List ℕ) (change : Change) (stored : Option StoredFile) → is_path path (filled_by change) ≡ false → stored ≡ None
    → changed path stored change ≡ None
leaves_none path (Put other file) stored elsewhere none = rw elsewhere none
leaves_none path (Gone other) stored elsewhere none = either_none (bytes_eq other path) stored none
leaves_none path (Moved from to file) stored elsewhere none = rw elsewhere (either_none (bytes_eq from path) stored none)
leaves_none path (Named other) stored elsewhere none = names_none (bytes_eq other path) stored none

unfilled : (path : List ℕ) (changes : List Change) (stored : Option StoredFile) → is_filled path changes ≡ false → stored ≡ None
    → all_changed path stored changes ≡ None
unfilled path [] stored elsewhere none = none
unfilled path (change ∷ changes) stored elsewhere none =
    let parts = or_parts (is_path path (filled_by change)) (is_filled path changes) elsewhere in
    unfilled path changes (changed path stored change) parts.1 (leaves_none path change stored parts.0 none)

same_name : (folder name other : List ℕ) → path_in folder name ≡ path_in folder other → name ≡ other
same_name folder name other same =
    let tails : 47 ∷ name ≡ 47 ∷ other = append_cancel_left folder (47 ∷ name) (47 ∷ other) same in
    cc

module _ {Y : Type 0} (changes : List Change) (folder : List ℕ) where
  -- one row is set
  pub enters : (path name : List ℕ) (entry : FolderEntry) (old new : BTreeMap (String Y) FolderEntry) → IsTrue (is_name name)
      → path ≡ path_in folder name → row_at changes folder name ≡ Some entry
      → ((other : List ℕ) → get_by_text new other ≡ (if bytes_eq name other then Some entry else get_by_text old other))
      → Enters changes folder path old new
  enters path name entry old new is at row updated = record {
    here = λ other may here there. set other (same_name folder name other (sym at ∙ here));
    elsewhere = λ other. by_test other (bytes_eq name other) refl;
  }
    where
      set : (other : List ℕ) → name ≡ other → get_by_text new other ≡ row_at changes folder other
      set other same =
          let test : bytes_eq name other ≡ true = (bytes_eq-Decides name other).1 same in
          updated other ∙ ap (λ here. if here then Some entry else get_by_text old other) test ∙ sym row ∙ ap (row_at changes folder) same

      by_test : (other : List ℕ) (here : Bool) → bytes_eq name other ≡ here
          → (get_by_text new other ≡ get_by_text old other) ⊎ (IsTrue (is_name other) × (get_by_text new other ≡ row_at changes folder other))
      by_test other true test =
          let same : name ≡ other = (bytes_eq-Decides name other).0 test in
          inr (subst (λ n. IsTrue (is_name n)) same is, set other same)
      by_test other false test = inl (updated other ∙ ap (λ here. if here then Some entry else get_by_text old other) test)

  pub rows-none : (rows : BTreeMap (String Y) FolderEntry) → rows.entries ≡ [] → RowsSoFar changes [] folder rows
  rows-none rows none = record {
    sound = λ name. inl (ap (lookup (λ key. is_eq (slice_cmp nat_cmp name (string_bytes key)))) none);
    whole = λ name is filled. cc;
  }

  -- a change that fills no path
  pub rows-kept : (first next : List Change) (rows : BTreeMap (String Y) FolderEntry) → RowsSoFar changes first folder rows
      → ((path : List ℕ) → IsTrue (is_filled path next) → IsTrue (is_filled path first)) → RowsSoFar changes next folder rows
  rows-kept first next rows so_far fewer = record {
    sound = so_far.sound;
    whole = λ name is filled. so_far.whole name is (fewer (path_in folder name) filled);
  }

  -- a change that fills one path
  pub rows-more : (first next : List Change) (path : List ℕ) (old new : BTreeMap (String Y) FolderEntry) → RowsSoFar changes first folder old
      → Enters changes folder path old new
      → ((other : List ℕ) → IsTrue (is_filled other next) → IsTrue (is_filled other first) ⊎ (path ≡ other))
      → RowsSoFar changes next folder new
  rows-more first next path old new so_far enters split = record {
    sound = λ name. ⊎_elim
        (λ same. ⊎_elim (λ none. inl (same ∙ none)) (λ there. inr (there.0, same ∙ there.1)) (so_far.sound name))
        (λ row. inr row)
        (enters.elsewhere name);
    whole = λ name is filled. ⊎_elim
        (λ before. ⊎_elim (λ same. same ∙ so_far.whole name is before) (λ row. row.1) (enters.elsewhere name))
        (λ here. now name is here (row_at changes folder name) refl)
        (split (path_in folder name) filled);
  }
    where
      now : (name : List ℕ) → IsTrue (is_name name) → path ≡ path_in folder name → (row : Option FolderEntry) → row_at changes folder name ≡ row
          → get_by_text new name ≡ row_at changes folder name
      now name is here (Some entry) there = enters.here name is here (subst IsSome (sym there) refl)
      now name is here None there = ⊎_elim
          (λ same. ⊎_elim (λ none. same ∙ none ∙ sym there) (λ row. same ∙ row.1) (so_far.sound name))
          (λ row. row.1)
          (enters.elsewhere name)

  -- after all changes
  pub rows-all : (rows : BTreeMap (String Y) FolderEntry) → RowsSoFar changes changes folder rows
      → (name : List ℕ) → get_by_text rows name ≡ (if is_name name then row_at changes folder name else None)
  rows-all rows so_far name = by_name (is_name name) refl
    where
      by_path : (filled : Bool) → is_filled (path_in folder name) changes ≡ filled → IsTrue (is_name name) → get_by_text rows name ≡ row_at changes folder name
      by_path true there is = so_far.whole name is there
      by_path false nowhere is =
          let none : row_at changes folder name ≡ None = ap (option_map entry_of) (unfilled (path_in folder name) changes None nowhere refl) in
          ⊎_elim (λ absent. absent ∙ sym none) (λ row. row.1) (so_far.sound name)

      by_name : (is : Bool) → is_name name ≡ is → get_by_text rows name ≡ (if is_name name then row_at changes folder name else None)
      by_name true is = rw is (by_path (is_filled (path_in folder name) changes) refl is)
      by_name false not = rw not (⊎_elim (λ absent. absent) (λ row. cc) (so_far.sound name))

-- the next change fills its path, or none
pub filled_next : (changes : List Change) (i : ℕ) (change : Change) (path : List ℕ) → i < length changes → get_or changes i change ≡ change
    → filled_by change ≡ Some path → (other : List ℕ) → IsTrue (is_filled other (take (i + 1) changes))
    → IsTrue (is_filled other (take i changes)) ⊎ (path ≡ other)
filled_next changes i change path within is fills other filled =
    let test : Change → Bool = λ c. is_path other (filled_by c) in
    ⊎_elim (λ before. inl before)
    (λ now. inr ((bytes_eq-Decides path other).0 (sym (ap (is_path other) fills) ∙ sym (ap test is) ∙ now)))
    (or_cases (is_filled other (take i changes)) (test (get_or changes i change)) (sym (list_any_more test changes i change within) ∙ filled))

pub unfilled_next : (changes : List Change) (i : ℕ) (change : Change) → i < length changes → get_or changes i change ≡ change
    → filled_by change ≡ None → (other : List ℕ) → IsTrue (is_filled other (take (i + 1) changes)) → IsTrue (is_filled other (take i changes))
unfilled_next changes i change within is fills other filled =
    let test : Change → Bool = λ c. is_path other (filled_by c) in
    ⊎_elim (λ before. before)
    (λ now. let never : false ≡ true = sym (ap (is_path other) fills) ∙ sym (ap test is) ∙ now in cc)
    (or_cases (is_filled other (take i changes)) (test (get_or changes i change)) (sym (list_any_more test changes i change within) ∙ filled))
