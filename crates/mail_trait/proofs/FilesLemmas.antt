-- The finite map of a folder in memory, by the entries of its tree.
use Rattle.std.proofs.Common.{◌≡◌, ◌≢◌, ◌∙◌, ℕ, List, [], ◌∷◌, Some, Bool, true, false, cond, length, map, refl, sym, ap, arith, String, Vec, string_bytes, take, min}
use Rattle.std.specs.declared.cmp.Ordering.{Ordering}
use Rattle.std.specs.declared.cmp.Ordering.TheVariants.{Less, Equal, Greater}
use Rattle.std.specs.Ordering.{nat_cmp, is_eq, eq_by_cmp}
use Rattle.std.specs.Cmp.Lexicographic.{slice_cmp, nat_list_cmp_total}
use Rattle.std.specs.String.{string_cmp}
use Rattle.std.specs.List.{AllByRecursion}
use Rattle.std.specs.List.Sorted.{IsStrictlySortedBy}
use Rattle.std.specs.Map.{keys_of, lookup}
use Rattle.std.specs.BTreeMap.{BTreeMap, IsOrdered, insert_entry, is_at, get_by}
use Rattle.std.specs.Option.{option_map}
use Rattle.std.specs.FinMap.{entries, empty, insert, get, find, put, from_entries, entries-insert, len-empty, len-entries, same_entries_map, get-from_entries, get-insert}
use Rattle.std.proofs.lemmas.List.{take_min}
use Rattle.std.proofs.lemmas.Map.Lookups.{exact_bytes}
use Rattle.mail_trait.specs.Files.{named, files_of}
use Rattle.mail_trait.specs.Post.{Files, SameElsewhere}

no_length : {A : Type 0} (es : List A) → length es ≡ 0 → es ≡ []
no_length [] e = refl
no_length (x ∷ es) e = absurd (omega arith)

no_entries : entries (empty {X = List ℕ} {R = slice_cmp nat_cmp}) ≡ []
no_entries = no_length _ (sym (len-entries empty) ∙ len-empty (slice_cmp nat_cmp) (List ℕ))

-- an entry before all others is put in front
put-front : {Y Z : Type 0} (k : String Y) (v : List ℕ) (es : List (String Y × Vec ℕ Z)) →
    AllByRecursion (λ y. string_cmp k y ≡ Less) (keys_of es) →
    put (slice_cmp nat_cmp) (string_bytes k) v (map named es) ≡ (string_bytes k, v) ∷ map named es
put-front k v [] all = refl
put-front k v (e ∷ es) all = rw all.0 refl

entries-named : {Y Z : Type 0} (es : List (String Y × Vec ℕ Z)) → IsStrictlySortedBy string_cmp (keys_of es) →
    entries (from_entries {R = slice_cmp nat_cmp} (map named es)) ≡ map named es
unfolding IsStrictlySortedBy
entries-named [] sorted = no_entries
entries-named (e ∷ es) sorted =
    entries-insert nat_list_cmp_total (from_entries (map named es)) (string_bytes e.0) e.1.items
    ∙ ap (put (slice_cmp nat_cmp) (string_bytes e.0) e.1.items) (entries-named es sorted.1)
    ∙ put-front e.0 e.1.items es sorted.0

-- the map of a tree has the tree's entries
pub entries-files : {Y Z : Type 0} (m : BTreeMap (String Y) (Vec ℕ Z)) → IsOrdered string_cmp m → entries (files_of m) ≡ map named m.entries
entries-files m sorted = entries-named m.entries sorted

named-insert : {Y Z : Type 0} (es : List (String Y × Vec ℕ Z)) (k : String Y) (v : Vec ℕ Z) →
    map named (insert_entry string_cmp es k v) ≡ put (slice_cmp nat_cmp) (string_bytes k) v.items (map named es)
named-insert [] k v = refl
named-insert (e ∷ es) k v = at (named-insert es k v) (string_cmp k e.0) refl
  where
    at : map named (insert_entry string_cmp es k v) ≡ put (slice_cmp nat_cmp) (string_bytes k) v.items (map named es) →
        (r : Ordering) → string_cmp k e.0 ≡ r →
        map named (insert_entry string_cmp (e ∷ es) k v) ≡ put (slice_cmp nat_cmp) (string_bytes k) v.items (map named (e ∷ es))
    at rest Less is = rw is refl
    at rest Equal is = rw is refl
    at rest Greater is = rw is (ap (λ l. named e ∷ l) rest)

-- to insert into the tree is to insert into the map
pub files-insert : {Y Z : Type 0} (m n : BTreeMap (String Y) (Vec ℕ Z)) (k : String Y) (v : Vec ℕ Z) →
    IsOrdered string_cmp m → IsOrdered string_cmp n → n.entries ≡ insert_entry string_cmp m.entries k v →
    files_of n ≡ insert (files_of m) (string_bytes k) v.items
files-insert m n k v was is changed = same_entries_map _ _
    (entries-files n is
    ∙ ap (map named) changed
    ∙ named-insert m.entries k v
    ∙ ap (put (slice_cmp nat_cmp) (string_bytes k) v.items) (sym (entries-files m was))
    ∙ sym (entries-insert nat_list_cmp_total (files_of m) (string_bytes k) v.items))

find-named : {Y Z : Type 0} (es : List (String Y × Vec ℕ Z)) (q : List ℕ) →
    find (slice_cmp nat_cmp) q (map named es) ≡ option_map (λ v. v.items) (lookup (is_at (λ k. slice_cmp nat_cmp q (string_bytes k))) es)
find-named [] q = refl
find-named (e ∷ es) q = at (find-named es q) (is_eq (slice_cmp nat_cmp q (string_bytes e.0))) refl
  where
    at : find (slice_cmp nat_cmp) q (map named es) ≡ option_map (λ v. v.items) (lookup (is_at (λ k. slice_cmp nat_cmp q (string_bytes k))) es) →
        (b : Bool) → is_eq (slice_cmp nat_cmp q (string_bytes e.0)) ≡ b →
        find (slice_cmp nat_cmp) q (map named (e ∷ es)) ≡ option_map (λ v. v.items) (lookup (is_at (λ k. slice_cmp nat_cmp q (string_bytes k))) (e ∷ es))
    at rest true is = rw is refl
    at rest false is = rw is rest

-- what the map has at a name is what the tree has there
pub get-files : {Y Z : Type 0} (m : BTreeMap (String Y) (Vec ℕ Z)) (q : List ℕ) →
    get (files_of m) q ≡ option_map (λ v. v.items) (get_by (λ k. slice_cmp nat_cmp q (string_bytes k)) m)
get-files m q = get-from_entries nat_list_cmp_total (map named m.entries) q ∙ find-named m.entries q

apart : (x y : List ℕ) → x ≢ y → eq_by_cmp (slice_cmp nat_cmp) x y ≡ false
apart x y differ = at (slice_cmp nat_cmp x y) refl
  where
    at : (r : Ordering) → slice_cmp nat_cmp x y ≡ r → is_eq r ≡ false
    at Less is = refl
    at Equal is = absurd (differ (exact_bytes x y is))
    at Greater is = refl

-- an insertion leaves each other name
pub get-insert_other : (files : Files) (name bytes : List ℕ) → SameElsewhere name files (insert files name bytes)
get-insert_other files name bytes other differ =
    get-insert nat_list_cmp_total files name bytes other ∙ ap (λ b. cond b (Some bytes) (get files other)) (apart other name differ)

-- the first bytes of a file, up to its end
pub first-bytes : (n len limit : ℕ) (bytes : List ℕ) → n ≡ min len limit → len ≡ length bytes → take n bytes ≡ take limit bytes
first-bytes n len limit bytes end whole =
    let e : n ≡ min limit (length bytes) = omega arith in
    ap (λ k. take k bytes) e ∙ take_min limit bytes
