use Rattle.mailbox_cli.specs.Call.{Devices, Moment, call_of, devices, moment}
use Rattle.mailbox_cli.proofs.Written.{complete_of}
use Rattle.mailbox_cli.proofs.run.run.Goals as goal

pub returns-clause-complete : goal.returns-clause-complete
returns-clause-complete g c =
    let on : Devices _ _ _ _ = devices g.D.Disk g.P.Post g.E.Entropy g.S.Sink in
    let before : Moment _ _ _ _ = moment c.args.disk c.args.post.now c.args.entropy.now c.args.out.now in
    let after : Moment _ _ _ _ = moment c.run_with.result.0 c.run_with.new.post c.run_with.new.entropy c.run_with.new.out in
    complete_of _ on (call_of c.args.words.now before after c.run_with.result.1) c.run_with.ensures.carries c.run_with.ensures.causes
