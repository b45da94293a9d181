use Rattle.std.proofs.Common.{◌∙◌, nat_eq, sym, ap, subst}
use Rattle.std.specs.List.{starts_with}
use Rattle.system_calls.specs.Stored.{is_name, path_in}
use Rattle.mail_trait.specs.FileName.{temporary}
use Rattle.mail_trait.specs.Folder.{Lists}
use Rattle.mail_trait.proofs.ListingLemmas.{shown_of, length-rows_shown, sorted-rows_shown, shown-listed}
use Rattle.mail_trait.proofs.folder_list.list_files.Goals as goal

pub returns-clause-rows : goal.returns-clause-rows
returns-clause-rows g c = λ told.
    let folder = c.args.folder.now in
    let files = g.C.FileCalls.file_at c.args.calls.now in
    let names = c.in_ok-names.names.entries in
    let sorted = c.in_ok-shown_rows.ensures.ordered in
    subst (Lists folder files) (sym c.in_ok-shown_rows.ensures.rows) (record {
      ordered = sorted-rows_shown names sorted;
      shown = λ name.
          length-rows_shown names sorted name
          ∙ ap (shown_of name) (c.in_ok-names.ensures.rows told name)
          ∙ shown-listed (is_name name) (starts_with nat_eq name temporary) (files (path_in folder name));
    })
