use Rattle.std.proofs.Common.{◌∙◌, sym, ap, map, ◌++◌}
use Rattle.std.proofs.lemmas.List.{append-nil}
use Rattle.mail_trait.specs.Files.{named}
use Rattle.mail_trait.specs.Post.{row_of}
use Rattle.mail_trait.proofs.FilesLemmas.{entries-files}
use Rattle.mail_trait.proofs.mem_files.rows.Goals as goal

pub returns : goal.returns
returns c =
    c.from.ensures
    ∙ sym (append-nil c.loop-name.rows.items)
    ∙ ap (λ left. c.loop-name.rows.items ++ map row_of (map named left)) (sym c.in-None.ensures.steps.0)
    ∙ c.loop-name.invariant
    ∙ ap (map row_of) (sym (entries-files c.args.files.now c.into_iter-name-iterator.ensures.into_iter_gives.5))
