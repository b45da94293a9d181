use Rattle.mailbox_cli.specs.Call.{Devices, devices}
use Rattle.mailbox_cli.proofs.Written.{done_lasts, line_lasts}
use Rattle.mailbox_cli.proofs.laws.acknowledged_steps_last.Goals as goal

pub returns-clause-line : goal.returns-clause-line
returns-clause-line g c told told' call carries front image was line here =
    let on : Devices _ _ _ _ = devices g.D.Disk g.P.Post g.E.Entropy g.S.Sink in
    line_lasts g.K.Kem on call carries front line told told' was image here

pub returns-clause-status : goal.returns-clause-status
returns-clause-status g c told call carries image zero was here =
    let on : Devices _ _ _ _ = devices g.D.Disk g.P.Post g.E.Entropy g.S.Sink in
    done_lasts g.K.Kem on call carries told zero was image here
