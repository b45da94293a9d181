use Rattle.std.proofs.Common.{◌≡◌, ◌∙◌, inl, List, ℕ, true, OnErr, refl, sym, subst}
use Rattle.system_calls.specs.Stored.{path_in}
use Rattle.mail_trait.specs.FileName.{is_file_name}
use Rattle.mail_trait.specs.Folder.{IsTemporary, KeepsOrHas}
use Rattle.mail_trait.proofs.FolderLemmas.{named_apart, on_any_err, on_err, keeps_or_has}
use Rattle.mail_trait.proofs.folder.put_file.Goals as goal

pub returns-in_err-temporary-clause-failed : goal.returns-in_err-temporary-clause-failed
returns-in_err-temporary-clause-failed g c = λ told.
    let folder = c.args.folder.now in
    let name = c.args.name.now in
    let named : is_file_name name ≡ true = cc in
    on_any_err _ _
    (inl (c.make_temporary.ensures.others told (path_in folder name) (λ temporary. named_apart folder name _ _ named refl temporary refl)))

pub place-placed-requires-clause-apart : goal.place-placed-requires-clause-apart
place-placed-requires-clause-apart g c = λ same.
    let folder = c.args.folder.now in
    let name = c.args.name.now in
    let named : is_file_name name ≡ true = cc in
    named_apart folder name _ _ named (c.as_str-2.ensures.value ∙ c.in_ok-path.ensures)
    (subst (IsTemporary folder) (sym c.as_str.ensures.value) c.in_ok-temporary.ensures.temporary) same

pub returns-then-is_err-clause-failed : goal.returns-then-is_err-clause-failed
returns-then-is_err-clause-failed g c = λ told.
    let folder = c.args.folder.now in
    let name = c.args.name.now in
    let bytes = c.args.bytes.now in
    let files = g.C.FileCalls.file_at in
    let named : is_file_name name ≡ true = cc in
    let path = c.as_str-2.result.now in
    let is : path ≡ path_in folder name = c.as_str-2.ensures.value ∙ c.in_ok-path.ensures in
    let removed : IsTemporary folder c.as_str-then-is_err.result.now =
    subst (IsTemporary folder) (sym c.as_str-then-is_err.ensures.value) c.in_ok-temporary.ensures.temporary in
    let made : files c.make_temporary.new.calls path ≡ files c.args.calls.now path =
    c.make_temporary.ensures.others told path (λ temporary. named_apart folder name path path named is temporary refl) in
    let kept : files c.remove.new.self path ≡ files c.place-placed.new.calls path =
    c.remove.ensures.others told path (λ e. named_apart folder name path _ named is removed (sym e)) in
    subst (λ (p : List ℕ). OnErr c.place-placed.result (KeepsOrHas p bytes (files c.args.calls.now) (files c.remove.new.self))) is
    (on_err _ _ _ (keeps_or_has path bytes (files c.args.calls.now) (files c.make_temporary.new.calls) (files c.place-placed.new.calls) (files c.remove.new.self) made kept) (c.place-placed.ensures.failed told))
