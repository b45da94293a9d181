use Rattle.std.proofs.Common.{◌∙◌, ap}
use Rattle.std.specs.FinMap.{insert, get}
use Rattle.mail_trait.specs.Files.{files_of}
use Rattle.mail_trait.proofs.FilesLemmas.{files-insert, get-insert_other}
use Rattle.mail_trait.proofs.mem_files.store.Goals as goal

pub returns-clause-put : goal.returns-clause-put
returns-clause-put c =
    let done = c.in_ok-insert.ensures in
    files-insert c.args.files.now c.insert.new.self _ _ done.was_ordered done.ordered done.entries
    ∙ ap (λ name. insert (files_of c.args.files.now) name c.in_ok-bytes.bytes.items) c.in_ok-name.ensures.ok
    ∙ ap (insert (files_of c.args.files.now) c.args.name.now) (c.in_ok-bytes.ensures.items_if_clones_equal (λ x y e. e))

pub returns-clause-others : goal.returns-clause-others
returns-clause-others c = λ other differ.
    ap (λ files. get files other) (returns-clause-put c) ∙ get-insert_other (files_of c.args.files.now) c.args.name.now c.args.bytes.now other differ
