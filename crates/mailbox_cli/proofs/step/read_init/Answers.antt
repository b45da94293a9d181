use Rattle.std.proofs.lemmas.Result.{err_from_is_err_and}
use Rattle.group_fields.proofs.WholeReads.{whole_end}
use Rattle.mailbox_cli.specs.StepViews.{step_of}
use Rattle.mailbox_cli.specs.Steps.{init_record}
use Rattle.mailbox_cli.proofs.step.read_init.Goals as goal

pub returns-in_err-end : goal.returns-in_err-end
returns-in_err-end c =
    let p = err_from_is_err_and c.from_residual-in_err-end.result c.from_residual-in_err-end.ensures.1 in
    rw (p.1, p.2) (whole_end (init_record c.args.set) c.args.bytes.now c.new-cursor.result c.take_init.new.cursor (step_of c.in_ok-init.init) _
    c.new-cursor.ensures c.in_ok-init.ensures.takes.gives c.in_err-end.ensures)

pub returns : goal.returns
returns c =
    whole_end (init_record c.args.set) c.args.bytes.now c.new-cursor.result c.take_init.new.cursor (step_of c.in_ok-init.init) _
    c.new-cursor.ensures c.in_ok-init.ensures.takes.gives c.in_ok-end.ensures
