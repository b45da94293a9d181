-- What the listing of a real mail folder shows.
use Rattle.std.proofs.Common.{◌≡◌, ◌∙◌, ◌&&◌, ◌∷◌, [], ℕ, List, Bool, true, false, not, nat_eq, Option, Some, None, cond, map, refl, sym, ap, subst, String, string_bytes, bytes_eq}
use Rattle.std.specs.declared.cmp.Ordering.{Ordering}
use Rattle.std.specs.declared.cmp.Ordering.TheVariants.{Less, Equal, Greater}
use Rattle.std.specs.Ordering.{nat_cmp, is_eq}
use Rattle.std.specs.Cmp.Lexicographic.{slice_cmp}
use Rattle.std.specs.String.{string_cmp}
use Rattle.std.specs.List.{AllByRecursion, starts_with}
use Rattle.std.specs.List.Sorted.{IsStrictlySortedBy}
use Rattle.std.specs.Map.{keys_of, lookup}
use Rattle.std.specs.BTreeMap.{is_at}
use Rattle.std.specs.Option.{option_and_then, option_map}
use Rattle.std.proofs.lemmas.Slice.Eq.{bytes_eq-Decides}
use Rattle.std.proofs.lemmas.Map.Text.{is_eq-slice_cmp}
use Rattle.std.proofs.lemmas.Map.Lookups.{exact_bytes}
use Rattle.system_calls.specs.Stored.{entry_of}
use Rattle.system_calls.specs.declared.stored.StoredFile.{StoredFile}
use Rattle.system_calls.specs.declared.stored.FolderEntry.{FolderEntry}
use Rattle.mail_trait.specs.FileName.{temporary}
use Rattle.mail_trait.specs.Folder.{rows_shown, length_in, plain_length}

-- whether a name is temporary
abbrev is_hidden : List ℕ → Bool
is_hidden name = starts_with nat_eq name temporary

abbrev pub entry_length : FolderEntry → Option ℕ
entry_length entry = cond entry.is_plain (Some entry.length) None

-- what is shown of a name, by what the calls list under it
abbrev pub shown_of : List ℕ → Option FolderEntry → Option ℕ
shown_of name found = cond (not (starts_with nat_eq name temporary)) (option_and_then entry_length found) None

differs : (name key : List ℕ) (r : Ordering) → slice_cmp nat_cmp name key ≡ r → is_eq r ≡ false → bytes_eq name key ≡ false
differs name key r is apart = sym (is_eq-slice_cmp name key) ∙ ap is_eq is ∙ apart

-- a name before all keys is not shown
absent : {Y : Type 0} (es : List (String Y × FolderEntry)) (name : List ℕ) →
    AllByRecursion (λ y. slice_cmp nat_cmp name (string_bytes y) ≡ Less) (keys_of es) → length_in (rows_shown es) name ≡ None
absent [] name all = refl
absent (e ∷ es) name all =
    at (absent es name all.1) (differs name (string_bytes e.0) Less all.0 refl) (e.1.is_plain && not (is_hidden (string_bytes e.0))) refl
  where
    at : length_in (rows_shown es) name ≡ None → bytes_eq name (string_bytes e.0) ≡ false →
        (b : Bool) → (e.1.is_plain && not (is_hidden (string_bytes e.0))) ≡ b → length_in (rows_shown (e ∷ es)) name ≡ None
    at rest apart true is = rw (is, apart) rest
    at rest apart false is = rw is rest

-- the first key
here : {Y : Type 0} (e : String Y × FolderEntry) (es : List (String Y × FolderEntry)) →
    AllByRecursion (λ y. string_cmp e.0 y ≡ Less) (keys_of es) →
    length_in (rows_shown (e ∷ es)) (string_bytes e.0) ≡ shown_of (string_bytes e.0) (Some e.1)
here e es all =
    at (absent es (string_bytes e.0) all) ((bytes_eq-Decides (string_bytes e.0) (string_bytes e.0)).1 refl)
    e.1.is_plain refl (is_hidden (string_bytes e.0)) refl
  where
    at : length_in (rows_shown es) (string_bytes e.0) ≡ None → bytes_eq (string_bytes e.0) (string_bytes e.0) ≡ true →
        (p : Bool) → e.1.is_plain ≡ p → (h : Bool) → is_hidden (string_bytes e.0) ≡ h →
        length_in (rows_shown (e ∷ es)) (string_bytes e.0) ≡ shown_of (string_bytes e.0) (Some e.1)
    at rest same true plain true hidden = rw (plain, hidden) rest
    at rest same true plain false hidden = rw (plain, hidden, same) refl
    at rest same false plain true hidden = rw (plain, hidden) rest
    at rest same false plain false hidden = rw (plain, hidden) rest

-- the rows show a name as the calls list it
pub length-rows_shown : {Y : Type 0} (es : List (String Y × FolderEntry)) → IsStrictlySortedBy string_cmp (keys_of es) → (name : List ℕ) →
    length_in (rows_shown es) name ≡ shown_of name (lookup (is_at (λ k. slice_cmp nat_cmp name (string_bytes k))) es)
unfolding IsStrictlySortedBy
length-rows_shown [] sorted name = at (is_hidden name) refl
  where
    at : (h : Bool) → is_hidden name ≡ h → None ≡ shown_of name None
    at true is = rw is refl
    at false is = rw is refl
length-rows_shown (e ∷ es) sorted name = at (length-rows_shown es sorted.1 name) (slice_cmp nat_cmp name (string_bytes e.0)) refl
  where
    found : Option FolderEntry
    found = lookup (is_at (λ k. slice_cmp nat_cmp name (string_bytes k))) es

    past : length_in (rows_shown es) name ≡ shown_of name (lookup (is_at (λ k. slice_cmp nat_cmp name (string_bytes k))) es) →
        bytes_eq name (string_bytes e.0) ≡ false → (b : Bool) → (e.1.is_plain && not (is_hidden (string_bytes e.0))) ≡ b →
        length_in (rows_shown (e ∷ es)) name ≡ shown_of name (lookup (is_at (λ k. slice_cmp nat_cmp name (string_bytes k))) es)
    past rest apart true is = rw (is, apart) rest
    past rest apart false is = rw is rest

    at : length_in (rows_shown es) name ≡ shown_of name (lookup (is_at (λ k. slice_cmp nat_cmp name (string_bytes k))) es) →
        (r : Ordering) → slice_cmp nat_cmp name (string_bytes e.0) ≡ r →
        length_in (rows_shown (e ∷ es)) name ≡ shown_of name (lookup (is_at (λ k. slice_cmp nat_cmp name (string_bytes k))) (e ∷ es))
    at rest Less is = rw is (past rest (differs name (string_bytes e.0) Less is refl) _ refl)
    at rest Greater is = rw is (past rest (differs name (string_bytes e.0) Greater is refl) _ refl)
    at rest Equal is =
        let same : string_bytes e.0 ≡ name = sym (exact_bytes name (string_bytes e.0) is) in
        rw is (subst (λ (n : List ℕ). length_in (rows_shown (e ∷ es)) n ≡ shown_of n (Some e.1)) same (here e es sorted.0))

below_rows : {Y : Type 0} (key : List ℕ) (es : List (String Y × FolderEntry)) →
    AllByRecursion (λ y. slice_cmp nat_cmp key (string_bytes y) ≡ Less) (keys_of es) →
    AllByRecursion (λ y. slice_cmp nat_cmp key y ≡ Less) (map (λ row. row.name) (rows_shown es))
below_rows key [] all = tt
below_rows key (e ∷ es) all = at (below_rows key es all.1) (e.1.is_plain && not (is_hidden (string_bytes e.0))) refl
  where
    at : AllByRecursion (λ y. slice_cmp nat_cmp key y ≡ Less) (map (λ row. row.name) (rows_shown es)) →
        (b : Bool) → (e.1.is_plain && not (is_hidden (string_bytes e.0))) ≡ b →
        AllByRecursion (λ y. slice_cmp nat_cmp key y ≡ Less) (map (λ row. row.name) (rows_shown (e ∷ es)))
    at rest true is = rw is (all.0, rest)
    at rest false is = rw is rest

-- the rows are in the order of their names
pub sorted-rows_shown : {Y : Type 0} (es : List (String Y × FolderEntry)) → IsStrictlySortedBy string_cmp (keys_of es) →
    IsStrictlySortedBy (slice_cmp nat_cmp) (map (λ row. row.name) (rows_shown es))
unfolding IsStrictlySortedBy
sorted-rows_shown [] sorted = tt
sorted-rows_shown (e ∷ es) sorted =
    at (sorted-rows_shown es sorted.1) (below_rows (string_bytes e.0) es sorted.0) (e.1.is_plain && not (is_hidden (string_bytes e.0))) refl
  where
    at : IsStrictlySortedBy (slice_cmp nat_cmp) (map (λ row. row.name) (rows_shown es)) →
        AllByRecursion (λ y. slice_cmp nat_cmp (string_bytes e.0) y ≡ Less) (map (λ row. row.name) (rows_shown es)) →
        (b : Bool) → (e.1.is_plain && not (is_hidden (string_bytes e.0))) ≡ b →
        IsStrictlySortedBy (slice_cmp nat_cmp) (map (λ row. row.name) (rows_shown (e ∷ es)))
    at rest below true is = rw is (below, rest)
    at rest below false is = rw is rest

-- what is shown by the calls' listing is what the files have
pub shown-listed : (b h : Bool) (stored : Option StoredFile) →
    cond (not h) (option_and_then entry_length (cond b (option_map entry_of stored) None)) None
    ≡ cond (b && not h) (option_and_then plain_length stored) None
shown-listed false false stored = refl
shown-listed false true stored = refl
shown-listed true true stored = refl
shown-listed true false None = refl
shown-listed true false (Some file) = refl
