use Rattle.std.proofs.Common.{◌∙◌, take, sym, ap, Some}
use Rattle.std.specs.Option.{option_map}
use Rattle.mail_trait.proofs.FilesLemmas.{get-files, first-bytes}
use Rattle.mail_trait.proofs.mem_files.read_file.Goals as goal

pub returns-in-None-clause-bytes : goal.returns-in-None-clause-bytes
returns-in-None-clause-bytes c =
    sym (ap (option_map (take c.args.limit))
    (get-files c.args.files.now c.args.name.now ∙ ap (option_map (λ v. v.items)) (sym c.in-None.ensures.value)))

pub returns-in_ok-copy_of-in-Some-clause-bytes : goal.returns-in_ok-copy_of-in-Some-clause-bytes
returns-in_ok-copy_of-in-Some-clause-bytes c =
    let there = get-files c.args.files.now c.args.name.now ∙ ap (option_map (λ v. v.items)) (sym c.in-Some.ensures.value) in
    let first = first-bytes _ _ _ c.deref.result.now c.min-end.ensures (c.len.ensures ∙ sym c.deref.ensures.len) in
    ap Some (c.in_ok-copy_of-in-Some.ensures ∙ first ∙ ap (take c.args.limit) c.deref.ensures.value)
    ∙ sym (ap (option_map (take c.args.limit)) there)
