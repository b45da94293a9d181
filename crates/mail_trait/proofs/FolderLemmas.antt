-- Paths of a mail folder, and what its listing shows.
use Rattle.std.proofs.Common.{◌≡◌, ◌∙◌, inl, inr, Option, IsSomeAnd, Result, Ok, Err, OnErr, subst, ◌&&◌, ◌∷◌, ◌++◌, ℕ, List, Bool, true, false, not, nat_eq, length, refl, sym, ap, bytes_eq, append_assoc}
use Rattle.std.specs.List.{starts_with}
use Rattle.std.proofs.lemmas.List.{append_cancel_left, take_at}
use Rattle.std.proofs.lemmas.Slice.Eq.{bytes_eq-Decides}
use Rattle.system_calls.specs.Stored.{Paths, path_in}
use Rattle.system_calls.specs.declared.stored.StoredFile.{StoredFile}
use Rattle.mail_trait.specs.FileName.{is_file_name, temporary}
use Rattle.mail_trait.specs.Folder.{IsTemporary, KeepsOrHas}

-- a list begins with its front
pub starts-front : (front rest : List ℕ) → starts_with nat_eq (front ++ rest) front ≡ true
starts-front front rest = ap (bytes_eq front) (take_at front rest (length front) refl) ∙ (bytes_eq-Decides front front).1 refl

not_both : (a s c d : Bool) → (((a && not s) && c) && d) ≡ true → s ≡ true → ⊥
not_both true true c d is begins = cc
not_both false s c d is begins = cc
not_both true false c d is begins = cc

-- no name that a file can have makes a temporary path
pub named_apart : (folder name path other : List ℕ) → is_file_name name ≡ true → path ≡ path_in folder name → IsTemporary folder other →
    other ≡ path → ⊥
named_apart folder name path other named is (rest, temp) same =
    let paths : path_in folder name ≡ path_in folder (temporary ++ rest) = sym is ∙ sym same ∙ temp in
    let tails : 47 ∷ name ≡ 47 ∷ (temporary ++ rest) = append_cancel_left folder _ _ paths in
    let front : name ≡ temporary ++ rest = cc in
    let begins : starts_with nat_eq name temporary ≡ true = ap (λ l. starts_with nat_eq l temporary) front ∙ starts-front temporary rest in
    not_both _ _ _ _ named begins

-- the temporary path of some digits
pub temporary_path : (folder path digits whole : List ℕ) → path ≡ path_in folder temporary → whole ≡ path ++ digits → IsTemporary folder whole
temporary_path folder path digits whole is end =
    (digits, end ∙ ap (λ l. l ++ digits) is ∙ append_assoc folder (47 ∷ temporary) digits)

-- what holds anyway holds after an error
pub on_any_err : {T E : Type 0} (result : Result T E) (P : Type 0) → P → OnErr result P
on_any_err (Ok value) P holds = tt
on_any_err (Err error) P holds = holds

pub on_err : {T E : Type 0} (result : Result T E) (P Q : Type 0) → (P → Q) → OnErr result P → OnErr result Q
on_err (Ok value) P Q follows holds = tt
on_err (Err error) P Q follows holds = follows holds

-- the path at the ends of a row of calls is as within it
pub keeps_or_has : (path bytes : List ℕ) (old before after new : Paths) → before path ≡ old path → new path ≡ after path →
    KeepsOrHas path bytes before after → KeepsOrHas path bytes old new
keeps_or_has path bytes old before after new first last (inl kept) = inl (last ∙ kept ∙ first)
keeps_or_has path bytes old before after new first last (inr has) =
    inr (subst (λ (o : Option StoredFile). IsSomeAnd o (λ file. file.bytes ≡ bytes)) (sym last) has)
