use Rattle.std.proofs.Common.{◌≡◌, ◌∙◌, None, Some, ap, sym}
use Rattle.std.specs.Option.{option_map}
use Rattle.system_calls.specs.Stored.{entry_of}
use Rattle.system_calls.specs.MemFiles.{all_changed}
use Rattle.system_calls.specs.Rows.{row_at}
use Rattle.system_calls.specs.declared.stored.FolderEntry.{FolderEntry}
use Rattle.system_calls.proofs.RowLemmas.{enters}
use Rattle.system_calls.proofs.listing.enter.Goals as goal

pub returns : goal.returns
returns c =
    let changes = c.args.changes.now in
    let found = c.in-Some.ensures in
    let entry : FolderEntry = record { is_plain = c.in-Some-look.file.now.is_plain; length = c.len.result } in
    let row : row_at c.args.changes.now c.args.folder.now c.in-Some.name.now ≡ Some (record { is_plain = c.in-Some-look.file.now.is_plain; length = c.len.result }) =
    ap (λ path. option_map entry_of (all_changed path None c.args.changes.now)) (sym found.1)
    ∙ ap (option_map entry_of) (sym c.in-Some-look.ensures)
    ∙ ap (λ n. let e : FolderEntry = record { is_plain = c.in-Some-look.file.now.is_plain; length = n } in Some e) (sym c.len.ensures) in
    enters c.args.changes.now c.args.folder.now c.args.path.now c.in-Some.name.now entry c.args.rows.now c.set_row.new.rows found.0 found.1 row c.in_ok-set_row.ensures
